-- Counts, contents and the height of commands that stand one after the other.
use mathlib.Core.Path.{◌≡◌, refl, sym, ◌∙◌}
use mathlib.Core.Bool.{Bool, true, false, cond}
use mathlib.Core.List.{List, [], ◌∷◌, ◌++◌, append_assoc, map}
use Prim.Native.Nat.{ℕ, zero, suc, max, ◌+◌, ◌*◌, ◌/◌, ◌≤◌, ◌<◌}
use native.Mathlib.Nat.{add_assoc, add-zero, zero-add, add-mul, not-suc-le-zero}
use native.Mathlib.Omega.{arith}
use lib.Dec.{eqb}
use lib.ListN.{length, get_or, set, length-append}
use borrow.Author.Tests.{eqb-true, eq-eqb, ne_eqb}
use Rattle.batch_words.specs.Words.{number}
use Rattle.batch_commands.specs.Format.{HEIGHT, COMMANDS, from, width, words_in, words_for, rank, key, Command}
use Rattle.batch_reader.specs.Commands.{count, counts, contents, height_of, highest_rank, last_key}
use Rattle.batch_commands.proofs.Tables.{map_at, length-words_in}

pub count-append : (code : ℕ) (ks js : List Command) → count code (ks ++ js) ≡ count code ks + count code js
unfolding count
count-append code [] js = sym (zero-add (count code js))
count-append code (k ∷ ks) js = rw (count-append code ks js, add_assoc (cond (eqb k.code code) 1 0) (count code ks) (count code js))

pub count_one : (code : ℕ) (ks : List Command) (k : Command) → count code (ks ++ (k ∷ [])) ≡ count code ks + cond (eqb k.code code) 1 0
unfolding count
count_one code ks k = count-append code ks (k ∷ []) ∙ rw add-zero

-- one more than before it
pub count_past : (code : ℕ) (before : List Command) (k : Command) (after : List Command) → k.code ≡ code → count code before < count code (before ++ k ∷ after)
unfolding count
count_past code before k after e = rw (count-append code before (k ∷ after), eq-eqb k.code code e) (omega arith)

pub contents_append : (wanted : ℕ) (ks js : List Command) → contents wanted (ks ++ js) ≡ contents wanted ks ++ contents wanted js
unfolding contents
contents_append wanted [] js = refl
contents_append wanted (k ∷ ks) js = rw (contents_append wanted ks js, append_assoc)

-- the words of each command of the wanted kind
length-for : (wanted code : ℕ) (operand : List ℕ) (same : Bool) → eqb code wanted ≡ same → length (cond same (words_in code operand) []) ≡ cond same 1 0 * (width wanted / 8)
length-for wanted code operand true e = rw (length-words_in code operand, eqb-true code wanted e) (omega arith)
length-for wanted code operand false e = omega arith

pub length-contents : (wanted : ℕ) (ks : List Command) → length (contents wanted ks) ≡ count wanted ks * (width wanted / 8)
unfolding contents count
length-contents wanted [] = omega arith
length-contents wanted (k ∷ ks) =
    length-append (words_for wanted k.code k.operand) (contents wanted ks)
    ∙ rw (length-for wanted k.code k.operand (eqb k.code wanted) refl, length-contents wanted ks, add-mul)

module _ (f g : ℕ → ℕ) where
  map-past : (a n : ℕ) → ((c : ℕ) → a ≤ c → g c ≡ f c) → map g (from a n) ≡ map f (from a n)
  map-past a zero h = refl
  map-past a (suc n) h = rw (h a (omega arith), map-past (suc a) n (λ c l. h c (omega arith)))

  -- two maps that differ at a + i alone
  map-but_one : (a n i : ℕ) → i < n → ((c : ℕ) → (a + i ≡ c → ⊥) → g c ≡ f c) → map g (from a n) ≡ set (map f (from a n)) i (g (a + i))
  map-but_one a zero i l h = absurd (not-suc-le-zero l)
  map-but_one a (suc n) zero l h = rw (add-zero, map-past (suc a) n (λ c m. h c (λ e. omega arith)))
  map-but_one a (suc n) (suc i) l h =
      let e : a + suc i ≡ suc a + i = omega arith in
      rw (h a (λ e. omega arith), e, map-but_one (suc a) n i (omega arith) (λ c m. h c (λ q. m (omega arith))))

pub counts_one : (ks : List Command) (k : Command) → k.code < COMMANDS → counts (ks ++ (k ∷ [])) ≡ set (counts ks) k.code (count k.code ks + 1)
counts_one ks k l =
    map-but_one (λ c. count c ks) (λ c. count c (ks ++ (k ∷ []))) 0 COMMANDS k.code l (λ c h. count_one c ks k ∙ rw (ne_eqb k.code c (λ e. h (zero-add k.code ∙ e)), add-zero))
    ∙ rw (zero-add, count_one k.code ks k, eq-eqb k.code k.code refl)

pub count_at : (ks : List Command) (code : ℕ) → code < COMMANDS → get_or (counts ks) code 0 ≡ count code ks
count_at ks code l = map_at (λ c. count c ks) 0 COMMANDS code l ∙ rw zero-add

pub highest_one : (ks : List Command) (k : Command) → highest_rank (ks ++ (k ∷ [])) ≡ max (highest_rank ks) (rank k.code)
unfolding highest_rank
highest_one [] k = omega arith
highest_one (j ∷ ks) k = omega (arith, highest_one ks k)

pub last_key_lem : (before : ℕ) (ks : List Command) (k : Command) → last_key before (ks ++ (k ∷ [])) ≡ key k.code k.operand
unfolding last_key
last_key_lem before [] k = refl
last_key_lem before (j ∷ ks) k = last_key_lem (key j.code j.operand) ks k

-- 0B, where none came, or another command
pub height_one : (ks : List Command) (k : Command) → (k.code ≡ HEIGHT → count HEIGHT ks ≡ 0) → height_of (ks ++ (k ∷ [])) ≡ cond (eqb k.code HEIGHT) (number k.operand) (height_of ks)
unfolding height_of count
height_one [] k h = refl
height_one (j ∷ ks) k h = by_test (eqb j.code HEIGHT) h (height_one ks k)
  where
    by_test : (same : Bool) → (k.code ≡ HEIGHT → cond same 1 0 + count HEIGHT ks ≡ 0) → ((k.code ≡ HEIGHT → count HEIGHT ks ≡ 0) → height_of (ks ++ (k ∷ [])) ≡ cond (eqb k.code HEIGHT) (number k.operand) (height_of ks))
        → cond same (number j.operand) (height_of (ks ++ (k ∷ []))) ≡ cond (eqb k.code HEIGHT) (number k.operand) (cond same (number j.operand) (height_of ks))
    by_test true once rest = rw (ne_eqb k.code HEIGHT (λ e. let z = once e in omega arith))
    by_test false once rest = rest (λ e. let z = once e in omega arith)

pub no_height : (ks : List Command) → count HEIGHT ks ≡ 0 → height_of ks ≡ 0
unfolding height_of count
no_height [] z = refl
no_height (k ∷ ks) z = by_test (eqb k.code HEIGHT) z (no_height ks)
  where
    by_test : (same : Bool) → cond same 1 0 + count HEIGHT ks ≡ 0 → (count HEIGHT ks ≡ 0 → height_of ks ≡ 0) → cond same (number k.operand) (height_of ks) ≡ 0
    by_test true z rest = absurd (omega arith)
    by_test false z rest = rest (omega arith)
