-- Bytes at a place: stored one by one, and behind bytes.
use mathlib.Core.Path.{◌≡◌, refl, sym, ap, ◌∙◌}
use mathlib.Core.List.{List, [], ◌∷◌, ◌++◌, append_assoc}
use Prim.Native.Nat.{ℕ, suc, ◌+◌, ◌≤◌}
use native.Mathlib.Nat.{add-suc}
use native.Mathlib.Numerals.{add-one}
use native.Mathlib.Omega.{arith}
use lib.ListN.{length, take, drop, set, length-append}
use lib.Seq.{length-take-le, take_at, drop-drop, drop-append-add, sets, sets-eq, paste-zero}
use Rattle.batch_words.specs.Pasted.{pasted}

-- bytes at at + k, at + suc k, ..
abbrev stores : List ℕ → ℕ → ℕ → List ℕ → List ℕ
stores batch at k [] = batch
stores batch at k (b ∷ bs) = stores (set batch (at + k) b) at (suc k) bs

stores_sets : (bs batch : List ℕ) (at k : ℕ) → stores batch at k bs ≡ sets batch (at + k) bs
stores_sets [] batch at k = refl
stores_sets (b ∷ bs) batch at k = stores_sets bs (set batch (at + k) b) at (suc k) ∙ rw add-suc

pub stored : (batch : List ℕ) (at b : ℕ) (bs : List ℕ) → at + suc (length bs) ≤ length batch → stores (set batch at b) at 1 bs ≡ pasted batch at (b ∷ bs)
stored batch at b bs fits = stores_sets bs (set batch at b) at 1 ∙ rw add-one (sets-eq (b ∷ bs) batch at fits)

module _ (batch : List ℕ) (at : ℕ) (bs : List ℕ) (fits : at + length bs ≤ length batch) where
  front : length (take at batch ++ bs) ≡ at + length bs
  front = omega (arith, length-append (take at batch) bs, length-take-le at batch (omega arith))

  -- bytes behind these
  pub pasted_on : (to : ℕ) (cs : List ℕ) → to ≡ at + length bs → pasted (pasted batch at bs) to cs ≡ pasted batch at (bs ++ cs)
  pasted_on to cs e =
      let head = take at batch ++ bs in
      let tail = drop (at + length bs) batch in
      let long : length head ≡ to = front ∙ sym e in
      let past : at + length bs + length cs ≡ at + length (bs ++ cs) = omega (arith, length-append bs cs) in
      let rest : drop (to + length cs) (head ++ tail) ≡ drop (at + length (bs ++ cs)) batch =
      ap (λ n. drop (n + length cs) (head ++ tail)) (sym long) ∙ drop-append-add head tail (length cs) ∙ drop-drop (length cs) (at + length bs) batch
      ∙ ap (λ n. drop n batch) past in
      ap (λ l. l ++ cs ++ drop (to + length cs) (head ++ tail)) (take_at head tail to long) ∙ ap (λ l. head ++ cs ++ l) rest ∙ rw (append_assoc (take at batch) bs cs)

-- no bytes
pub pasted_none : (batch : List ℕ) (at : ℕ) → batch ≡ pasted batch at []
pasted_none batch at = paste-zero batch at []
