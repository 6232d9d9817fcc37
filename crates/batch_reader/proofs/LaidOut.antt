-- A batch that is read is its commands laid out, each without a fault after those before it, and then 00; and such a batch is read.
use mathlib.Core.Path.{◌≡◌, refl, sym, ap, ◌∙◌}
use mathlib.Core.Bool.{Bool, true, false, cond, not}
use mathlib.Core.List.{List, [], ◌∷◌, ◌++◌, append_assoc, append-nil}
use Prim.Native.Nat.{ℕ, zero, suc, ◌+◌, ◌-◌, ◌≤◌, ◌<◌}
use native.Mathlib.Nat.{add-zero, not-suc-le-zero}
use native.Mathlib.Omega.{arith}
use lib.Dec.{eqb}
use lib.ListN.{length, take, drop, length-append, take-append-drop}
use lib.Seq.{take_at, drop_at, take-take, take_all, length-take-le, drop-append_seam}
use borrow.Author.Tests.{eqb-true, eqb-false, ne_eqb, not-false}
use Rattle.refusal.proofs.Answers.{or-false}
use Rattle.batch_commands.specs.declared.Seen.{Seen}
use Rattle.batch_commands.specs.Format.{END, width, words_in, key, Command, laid_out}
use Rattle.batch_commands.specs.Fault.{missing, fault}
use Rattle.batch_commands.proofs.Tables.{key_within, words_within_operand}
use Rattle.batch_commands.proofs.Laid.{laid_append}
use Rattle.batch_reader.specs.Commands.{seen_in}
use Rattle.batch_reader.specs.Reading.{Reading, read, read_from, reading}
use Rattle.batch_reader.proofs.Passing.{Passes, passing, no_fault}
use Rattle.batch_reader.proofs.Readings.{Along, of_unless}

-- whether a command passes says its operand
module _ (seen : Seen) (code : ℕ) (bytes others : List ℕ) (more : code ≡ END → ⊥) (whole : width code ≤ length others) (same : take (width code) bytes ≡ take (width code) others) where
  pub passes_alike : Passes seen code bytes → Passes seen code others
  passes_alike p =
      let k : key code bytes ≡ key code others = sym (key_within code bytes p.known) ∙ ap (key code) same ∙ key_within code others p.known in
      let w : words_in code bytes ≡ words_in code others = sym (words_within_operand code bytes p.known) ∙ ap (words_in code) same ∙ words_within_operand code others p.known in
      record {
        known = p.known;
        whole = whole;
        after_first = p.after_first;
        under = p.under;
        unmixed = p.unmixed;
        at_end = rw (ne_eqb code END more);
        in_order = rw (sym k) p.in_order;
        row_count = rw (sym same) p.row_count;
        height = rw (sym same) p.height;
        below = rw (sym w) p.below;
      }

-- the next of the commands before 00
pub record Next (before : List Command) (k : Command) : Type 0 where
  pub more : k.code ≡ END → ⊥
  pub whole : length k.operand ≡ width k.code
  pub passes : Passes (seen_in before) k.code k.operand

abbrev pub end : Command
end = record { code = END; operand = [] }

-- each is the next after those before it
abbrev pub Faultless : List Command → List Command → Type 0
Faultless before [] = Unit
Faultless before (k ∷ ks) = Next before k × Faultless (before ++ (k ∷ [])) ks

-- one step of the reader
step : (n : ℕ) (before : List Command) (k : Command) (rest : List ℕ) → Next before k → read_from (suc n) before (k.code ∷ k.operand ++ rest) ≡ read_from n (before ++ (k ∷ [])) rest
unfolding read_from
step n before k rest next =
    let t : take (width k.code) (k.operand ++ rest) ≡ k.operand = take_at k.operand rest (width k.code) next.whole in
    let all : take (width k.code) k.operand ≡ k.operand = take_all (width k.code) k.operand (omega (arith, next.whole)) in
    let p = passes_alike (seen_in before) k.code k.operand (k.operand ++ rest) next.more (omega (arith, next.whole, length-append k.operand rest)) (all ∙ sym t) next.passes in
    rw (no_fault (seen_in before) k.code (k.operand ++ rest) p, t, drop_at k.operand rest (width k.code) next.whole, ne_eqb k.code END next.more)

-- and many
pub steps : (n : ℕ) (before ks : List Command) (rest : List ℕ) → Faultless before ks → read_from (n + length ks) before (laid_out ks ++ rest) ≡ read_from n (before ++ ks) rest
unfolding laid_out
steps n before [] rest h = rw (add-zero, append-nil)
steps n before (k ∷ ks) rest h =
    let e : n + suc (length ks) ≡ suc (n + length ks) = omega arith in
    rw (e, append_assoc) (step (n + length ks) before k (laid_out ks ++ rest) h.0 ∙ steps n (before ++ (k ∷ [])) ks rest h.1 ∙ rw append_assoc)

pub faultless_parts : (before ks js : List Command) → Faultless before (ks ++ js) → Faultless before ks × Faultless (before ++ ks) js
faultless_parts before [] js h = (tt, rw append-nil h)
faultless_parts before (k ∷ ks) js h =
    let p = faultless_parts (before ++ (k ∷ [])) ks js h.1 in
    ((h.0, p.0), rw append_assoc at p.1)

few : (ks : List Command) → length ks ≤ length (laid_out ks)
unfolding laid_out
few [] = omega arith
few (k ∷ ks) = omega (arith, few ks, length-append k.operand (laid_out ks))

pub record Laid (batch : List ℕ) (ks : List Command) : Type 0 where
  pub is : batch ≡ laid_out ks ++ (END ∷ [])
  pub faultless : Faultless [] ks
  pub complete : Passes (seen_in ks) END []

-- for a first part of the commands, the reader passes the place at the end of their bytes
pub along : (batch : List ℕ) (before after : List Command) → Laid batch (before ++ after) → Along batch (length (laid_out before)) before
unfolding reading
along batch before after l =
    let rest = laid_out after ++ (END ∷ []) in
    let e : batch ≡ laid_out before ++ rest = l.is ∙ rw (laid_append before after, append_assoc) in
    let some = few before in
    let n : length batch ≡ length batch - length before + length before = omega (arith, ap length e, length-append (laid_out before) rest) in
    record {
      fuel = length batch - length before;
      enough = omega arith;
      rest = ap (λ m. read_from m [] batch) n ∙ ap (read_from (length batch - length before + length before) []) e ∙ steps (length batch - length before) [] before rest (faultless_parts [] before after l.faultless).0 ∙ ap (read_from (length batch - length before) before) (sym (rw e (drop-append_seam (laid_out before) rest)));
    }

ends : (n : ℕ) (before : List Command) → 0 < n → Passes (seen_in before) END [] → read_from n before (END ∷ []) ≡ read before
unfolding read_from
ends zero before l p = absurd (not-suc-le-zero l)
ends (suc n) before l p = rw (no_fault (seen_in before) END [] p)

pub is_read : (batch : List ℕ) (ks : List Command) → Laid batch ks → reading batch ≡ read ks
is_read batch ks l =
    let a = along batch ks [] (rw append-nil l) in
    let e : drop (length (laid_out ks)) batch ≡ END ∷ [] = rw l.is (drop-append_seam (laid_out ks) (END ∷ [])) in
    let n : length batch ≡ length (laid_out ks) + 1 = ap length l.is ∙ length-append (laid_out ks) (END ∷ []) in
    a.rest ∙ rw e (ends a.fuel ks (omega (arith, a.enough)) l.complete)

-- behind 00 nothing follows
nothing_follows : (seen : Seen) (bytes : List ℕ) → Passes seen END bytes → bytes ≡ []
nothing_follows seen [] p = refl
nothing_follows seen (b ∷ bytes) p =
    let g = or-false (missing seen.rows seen.came) (not (eqb (length (b ∷ bytes) - width END) 0)) p.at_end in
    absurd (omega (arith, eqb-true (length (b ∷ bytes) - 0) 0 (not-false (eqb (length (b ∷ bytes) - 0) 0) g.1)))

-- the commands that are read after those before, and their bytes
record Read (before : List Command) (bytes : List ℕ) (ks : List Command) : Type 0 where
  after : List Command
  parts : ks ≡ before ++ after
  is : bytes ≡ laid_out after ++ (END ∷ [])
  faultless : Faultless before after
  complete : Passes (seen_in ks) END []

read_on : (before : List Command) (code : ℕ) (bytes : List ℕ) (ks : List Command) (next : Reading) (last : Bool) → eqb code END ≡ last → Passes (seen_in before) code bytes → cond last (read before) next ≡ read ks
    → (next ≡ read ks → Read (before ++ (record { code = code; operand = take (width code) bytes } ∷ [])) (drop (width code) bytes) ks) → Read before (code ∷ bytes) ks
unfolding laid_out
read_on before code bytes ks next true q p e h =
    let z : code ≡ END = eqb-true code END q in
    let p₀ : Passes (seen_in before) END bytes = rw z at p in
    let none = nothing_follows (seen_in before) bytes p₀ in
    let same : before ≡ ks = cc in
    record { after = []; parts = sym same ∙ sym (append-nil before); is = rw (z, none); faultless = tt; complete = rw (sym same) (rw none at p₀) }
read_on before code bytes ks next false q p e h =
    let r = h e in
    let k : Command = record { code = code; operand = take (width code) bytes } in
    let more = eqb-false code END q in
    record {
      after = k ∷ r.after;
      parts = r.parts ∙ append_assoc before (k ∷ []) r.after;
      is = ap (◌∷◌ code) (sym (take-append-drop (width code) bytes) ∙ ap (◌++◌ (take (width code) bytes)) r.is ∙ sym (append_assoc (take (width code) bytes) (laid_out r.after) (END ∷ [])));
      faultless = (record { more = more; whole = length-take-le (width code) bytes p.whole; passes = passes_alike (seen_in before) code bytes (take (width code) bytes) more (omega (arith, length-take-le (width code) bytes p.whole)) (sym (take-take (width code) (width code) bytes (omega arith))) p }, r.faultless);
      complete = r.complete;
    }

reads : (n : ℕ) (before : List Command) (bytes : List ℕ) (ks : List Command) → read_from n before bytes ≡ read ks → Read before bytes ks
unfolding read_from
reads zero before bytes ks e = let z : ◌≡◌ {A = ℕ} 0 1 = cc in absurd (omega arith)
reads (suc n) before [] ks e = let z : ◌≡◌ {A = ℕ} 0 1 = cc in absurd (omega arith)
reads (suc n) before (code ∷ bytes) ks e =
    let passed = of_unless (fault (seen_in before) code bytes) _ ks e in
    read_on before code bytes ks _ (eqb code END) refl (passing (seen_in before) code bytes passed.0) passed.1 (reads n (before ++ (record { code = code; operand = take (width code) bytes } ∷ [])) (drop (width code) bytes) ks)

-- what is read is laid out so
pub laid : (batch : List ℕ) (ks : List Command) → reading batch ≡ read ks → Laid batch ks
unfolding reading
laid batch ks e =
    let r = reads (length batch) [] batch ks e in
    record { is = rw r.parts r.is; faultless = rw r.parts r.faultless; complete = r.complete }
