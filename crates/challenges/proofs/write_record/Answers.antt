-- Each challenge goes behind what is written already, up to the record's end.
use mathlib.Core.Path.{◌≡◌, sym, ap, ◌∙◌}
use mathlib.Core.List.{List, ◌++◌}
use Prim.Native.Nat.{ℕ, ◌+◌, ◌≤◌}
use native.Mathlib.Omega.{arith}
use lib.ListN.{length, take, length-append}
use lib.Seq.{sets, sets-eq, take_at, take_all, length-take-le}
use Rattle.field.specs.Element.{words_of}
use Rattle.field.specs.declared.XFieldElement.{XFieldElement}
use Rattle.air.specs.ChallengeId.{RECORD-WORDS, SAMPLED-WORDS}
use Rattle.challenges.proofs.write_record.Goals as goal

-- an element at i, behind the words before
behind : (i : ℕ) (e : XFieldElement) (l l' before : List ℕ) → i + 3 ≤ length l → l' ≡ sets l i (words_of e) → take i l ≡ before
    → take (i + 3) l' ≡ before ++ words_of e
behind i e l l' before room stored known =
    let end : length (take i l ++ words_of e) ≡ i + 3 = length-append (take i l) (words_of e) ∙ ap (λ n. n + 3) (length-take-le i l (omega arith)) in
    ap (take (i + 3)) (stored ∙ sets-eq (words_of e) l i room) ∙ take_at _ _ (i + 3) end ∙ ap (λ w. w ++ words_of e) known

pub returns : goal.returns
returns c =
    let known0 = ap (take SAMPLED-WORDS) c.copy.ensures ∙ take_at c.args.sampled.now _ SAMPLED-WORDS c.requires.0 in
    let known1 = behind SAMPLED-WORDS c.args.input c.copy.new.to c.put_challenge.new.lent _ (omega arith) c.put_challenge.ensures known0 in
    let known2 = behind 180 c.args.output c.put_challenge.new.lent c.put_challenge-2.new.lent _ (omega arith) c.put_challenge-2.ensures known1 in
    let known3 = behind 183 c.args.lookup c.put_challenge-2.new.lent c.put_challenge-3.new.lent _ (omega arith) c.put_challenge-3.ensures known2 in
    let known4 = behind 186 c.args.digest c.put_challenge-3.new.lent c.put_challenge-4.new.lent _ (omega arith) c.put_challenge-4.ensures known3 in
    sym (take_all RECORD-WORDS c.put_challenge-4.new.lent (omega arith)) ∙ known4
