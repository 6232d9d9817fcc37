-- Numbers and words by their places in a batch.
use mathlib.Core.Path.{◌≡◌, refl, ap, ◌∙◌}
use mathlib.Core.List.{List, [], ◌∷◌}
use Prim.Native.Nat.{ℕ, zero, suc, ◌+◌, ◌-◌, ◌*◌, ◌/◌, ◌≤◌, ◌<◌}
use native.Mathlib.Omega.{arith}
use lib.ListN.{length, take, drop, get_or, length-drop}
use lib.Seq.{drop-cons, drop-drop, take-add, take-take, length-take-le}
use Rattle.std.specs.Int.{from_le_bytes, w32, w64}
use Rattle.std.specs.Simd.{first_chunks}
use Rattle.std.proofs.lemmas.List.{drop-take}
use Rattle.std.proofs.lemmas.Nat.{le-div}
use Rattle.batch_words.specs.Words.{number, words}

four : (l : List ℕ) (at : ℕ) → at + 4 ≤ length l → take 4 (drop at l) ≡ get_or l at 0 ∷ get_or l (at + 1) 0 ∷ get_or l (at + 2) 0 ∷ get_or l (at + 3) 0 ∷ []
four l at h =
    let e₁ : at + 1 ≡ suc at = omega arith in
    let e₂ : at + 2 ≡ suc (suc at) = omega arith in
    let e₃ : at + 3 ≡ suc (suc (suc at)) = omega arith in
    rw (drop-cons l at 0 (omega arith), drop-cons l (suc at) 0 (omega arith), drop-cons l (suc (suc at)) 0 (omega arith), drop-cons l (suc (suc (suc at))) 0 (omega arith), e₁, e₂, e₃)

-- numbers as std reads them
pub four_bytes : (l : List ℕ) (at : ℕ) → at + 4 ≤ length l → from_le_bytes w32 (take 4 (drop at l)) ≡ number (take 4 (drop at l))
unfolding number
four_bytes l at h = rw (four l at h) (omega arith)

pub eight_bytes : (l : List ℕ) (at : ℕ) → at + 8 ≤ length l → from_le_bytes w64 (take 8 (drop at l)) ≡ number (take 8 (drop at l))
unfolding number
eight_bytes l at h = rw (take-add 4 4 (drop at l), drop-drop 4 at l, four l at (omega arith), four l (at + 4) (omega arith)) (omega arith)

first : (n k : ℕ) (l : List ℕ) → 1 ≤ k → get_or (first_chunks n k l) 0 [] ≡ take n l
first n zero l h = absurd (omega arith)
first n (suc k) l h = refl

pub chunk_there : (n : ℕ) (chunks : List (List ℕ)) (l : List ℕ) (at : ℕ) → 0 < n → at + n ≤ length l
    → let part = take (length l - at) (drop at l) in chunks ≡ first_chunks n (length part / n) part → get_or chunks 0 [] ≡ take n (drop at l)
chunk_there n chunks l at some h e =
    let part = take (length l - at) (drop at l) in
    let long : 1 * n ≤ length part = omega (arith, length-take-le (length l - at) (drop at l) (omega (arith, length-drop at l)), length-drop at l) in
    ap (λ c. get_or c 0 []) e ∙ first n (length part / n) part (le-div 1 (length part) n some long) ∙ take-take n (length l - at) (drop at l) (omega arith)

pub length-words : (n : ℕ) (l : List ℕ) → length (words n l) ≡ n
unfolding words
length-words zero l = refl
length-words (suc n) l = ap suc (length-words n (drop 8 l))

pub within_words : (n : ℕ) (l : List ℕ) (i : ℕ) → i < n → i < length (words n l)
within_words n l i h = rw length-words h

word_at : (n : ℕ) (l : List ℕ) (i : ℕ) → i < n → get_or (words n l) i 0 ≡ number (take 8 (drop (8 * i) l))
unfolding words
word_at zero l i h = omega arith
word_at (suc n) l zero h = refl
word_at (suc n) l (suc i) h =
    let e : 8 * suc i ≡ 8 + 8 * i = omega arith in
    word_at n (drop 8 l) i (omega arith) ∙ rw (drop-drop (8 * i) 8 l, e)

-- word i of those from a place on
pub word_of : (l : List ℕ) (at n i : ℕ) → i < n → get_or (words n (drop at l)) i 0 ≡ number (take 8 (drop (at + 8 * i) l))
word_of l at n i h = word_at n (drop at l) i h ∙ rw (drop-drop (8 * i) at l)

-- the words lie in the bytes that are taken
pub words_within : (n m : ℕ) (l : List ℕ) → 8 * n ≤ m → words n (take m l) ≡ words n l
unfolding words
words_within zero m l h = refl
words_within (suc n) m l h =
    let e : m ≡ 8 + (m - 8) = omega arith in
    let rest : drop 8 (take m l) ≡ take (m - 8) (drop 8 l) = ap (λ k. drop 8 (take k l)) e ∙ drop-take 8 (m - 8) l in
    rw (take-take 8 m l (omega arith), rest, words_within n (m - 8) (drop 8 l) (omega arith))
