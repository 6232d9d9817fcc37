-- Bytes of numbers and words: how many they are, and that they are read again as they were written.
use mathlib.Core.Path.{◌≡◌, refl, sym, ap, ap₂, ◌∙◌}
use mathlib.Core.Bool.{true}
use mathlib.Core.List.{List, [], ◌∷◌, ◌++◌, append_assoc, append-nil}
use Prim.Native.Nat.{ℕ, zero, suc, ◌+◌, ◌*◌, ◌/◌, ◌%◌, ◌^◌, ◌<◌, ◌≤◌}
use native.Mathlib.Nat.{pow-suc, div-lt_iff_lt-mul, div-div-eq-div-mul, mod-add-div}
use native.Mathlib.Numerals.{add-one}
use native.Mathlib.Omega.{arith}
use lib.Dec.{lit<}
use Rattle.std.specs.Int.{byte_at, bytes_low_first, to_le_bytes, w32, w64}
use lib.ListN.{length, take, drop, get_or, length-append, length-drop}
use lib.Seq.{length-take-le, take-suc, take-add, get_or-drop, get_or-take}
use Rattle.field_base.specs.Words.{all_below}
use Rattle.field_base.proofs.Below.{word_below}
use Rattle.batch_words.specs.Words.{number, words, little_endian, bytes_of}
use Rattle.batch_words.specs.Pasted.{pasted}
use Rattle.batch_words.proofs.Pasting.{pasted_on}

pub length-little_endian : (n w : ℕ) → length (little_endian n w) ≡ n
unfolding little_endian
length-little_endian zero w = refl
length-little_endian (suc n) w = ap suc (length-little_endian n (w / 256))

pub length-bytes_of : (ws : List ℕ) → length (bytes_of ws) ≡ 8 * length ws
unfolding bytes_of
length-bytes_of [] = refl
length-bytes_of (w ∷ ws) = omega (arith, length-append (little_endian 8 w) (bytes_of ws), length-little_endian 8 w, length-bytes_of ws)

-- bytes as std writes them
byte_is : (i w : ℕ) → byte_at i w ≡ w / 256 ^ i % 256
byte_is zero w = omega arith
byte_is (suc i) w = refl

low_first : (i k w : ℕ) → bytes_low_first i k w ≡ little_endian k (w / 256 ^ i)
unfolding little_endian
low_first i zero w = refl
low_first i (suc k) w =
    let next : w / 256 ^ suc i ≡ w / 256 ^ i / 256 = rw (pow-suc, div-div-eq-div-mul) in
    ap₂ ◌∷◌ (byte_is i w) (low_first (suc i) k w ∙ ap (little_endian k) next)

pub four_written : (w : ℕ) → to_le_bytes w32 w ≡ little_endian 4 w
four_written w = low_first 0 4 w ∙ ap (little_endian 4) (omega arith)

pub eight_written : (w : ℕ) → to_le_bytes w64 w ≡ little_endian 8 w
eight_written w = low_first 0 8 w ∙ ap (little_endian 8) (omega arith)

-- a number that fits its bytes
pub number_little_endian : (n w : ℕ) → w < 256 ^ n → number (little_endian n w) ≡ w
unfolding number little_endian
number_little_endian zero w h = omega arith
number_little_endian (suc n) w h =
    let less : w / 256 < 256 ^ n = (div-lt_iff_lt-mul (lit< tt)).1 (rw pow-suc at h) in
    rw (number_little_endian n (w / 256) less, mod-add-div w 256)

-- bytes of a number that bytes say
pub little_endian-number : (n : ℕ) (bs : List ℕ) → length bs ≡ n → ((i : ℕ) → i < length bs → get_or bs i 0 < 256) → little_endian n (number bs) ≡ bs
unfolding number little_endian
little_endian-number zero [] e h = refl
little_endian-number zero (b ∷ bs) e h = absurd (omega arith)
little_endian-number (suc n) [] e h = absurd (omega arith)
little_endian-number (suc n) (b ∷ bs) e h =
    let small : b < 256 = h 0 (omega arith) in
    let low : (b + 256 * number bs) % 256 ≡ b = omega arith in
    let high : (b + 256 * number bs) / 256 ≡ number bs = omega arith in
    rw (low, high, little_endian-number n bs (omega arith) (λ i g. h (suc i) (omega arith)))

-- words that fit 8 bytes
pub words_bytes_of : (ws rest : List ℕ) → ((i : ℕ) → i < length ws → get_or ws i 0 < 2 ^ 64) → words (length ws) (bytes_of ws ++ rest) ≡ ws
unfolding words bytes_of
words_bytes_of [] rest h = refl
words_bytes_of (w ∷ ws) rest h = ap (λ x. x ∷ words (length ws) (bytes_of ws ++ rest)) (number_little_endian 8 w (h 0 (omega arith))) ∙ ap (◌∷◌ w) (words_bytes_of ws rest (λ i g. h (suc i) (omega arith)))

-- words below p
pub words_below_bytes_of : (ws rest : List ℕ) → all_below ws ≡ true → words (length ws) (bytes_of ws ++ rest) ≡ ws
words_below_bytes_of ws rest h = words_bytes_of ws rest (λ i g. omega (arith, word_below ws h i))

-- bytes of the words that bytes say
pub bytes_of-words : (n : ℕ) (bs : List ℕ) → 8 * n ≤ length bs → ((i : ℕ) → i < length bs → get_or bs i 0 < 256) → bytes_of (words n bs) ≡ take (8 * n) bs
unfolding words bytes_of
bytes_of-words zero bs l h = refl
bytes_of-words (suc n) bs l h =
    let eight : length (take 8 bs) ≡ 8 = length-take-le 8 bs (omega arith) in
    let e : 8 * suc n ≡ 8 + 8 * n = omega arith in
    let first = little_endian-number 8 (take 8 bs) eight (λ i g. rw (get_or-take 8 bs i 0 (omega arith)) (h i (omega arith))) in
    let rest = bytes_of-words n (drop 8 bs) (omega (arith, length-drop 8 bs)) (λ i g. rw (get_or-drop 8 bs i 0) (h (8 + i) (omega (arith, length-drop 8 bs)))) in
    ap (λ l. l ++ bytes_of (words n (drop 8 bs))) first ∙ ap (◌++◌ (take 8 bs)) rest ∙ sym (take-add 8 (8 * n) bs) ∙ ap (λ k. take k bs) (sym e)

pub bytes_of-append : (us vs : List ℕ) → bytes_of (us ++ vs) ≡ bytes_of us ++ bytes_of vs
unfolding bytes_of
bytes_of-append [] vs = refl
bytes_of-append (u ∷ us) vs = rw (bytes_of-append us vs, append_assoc)

-- one word more
pub bytes_of-next : (ws : List ℕ) (i : ℕ) → i < length ws → bytes_of (take (i + 1) ws) ≡ bytes_of (take i ws) ++ little_endian 8 (get_or ws i 0)
unfolding bytes_of
bytes_of-next ws i h = ap (λ k. bytes_of (take k ws)) (add-one i) ∙ ap bytes_of (take-suc ws i 0 h) ∙ bytes_of-append (take i ws) (get_or ws i 0 ∷ []) ∙ ap (◌++◌ (bytes_of (take i ws))) (append-nil (little_endian 8 (get_or ws i 0)))

pub length-bytes_of_take : (ws : List ℕ) (i : ℕ) → i ≤ length ws → length (bytes_of (take i ws)) ≡ 8 * i
length-bytes_of_take ws i h = length-bytes_of (take i ws) ∙ rw (length-take-le i ws h)

-- a word behind the words so far
pub word_on : (batch : List ℕ) (at : ℕ) (ws : List ℕ) (i : ℕ) → i < length ws → at + 8 * length ws ≤ length batch
    → pasted (pasted batch at (bytes_of (take i ws))) (at + 8 * i) (little_endian 8 (get_or ws i 0)) ≡ pasted batch at (bytes_of (take (i + 1) ws))
word_on batch at ws i h fits =
    let long = length-bytes_of_take ws i (omega arith) in
    pasted_on batch at (bytes_of (take i ws)) (omega (arith, long)) (at + 8 * i) (little_endian 8 (get_or ws i 0)) (omega (arith, long)) ∙ ap (pasted batch at) (sym (bytes_of-next ws i h))
