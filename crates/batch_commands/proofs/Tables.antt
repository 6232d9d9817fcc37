-- What holds of each command, by a table that is computed.
use mathlib.Core.Path.{◌≡◌, refl, sym, ap, ◌∙◌}
use mathlib.Core.Bool.{Bool, true, false, cond, not, ◌&&◌, ◌||◌}
use mathlib.Core.List.{List, [], ◌∷◌, map}
use Prim.Native.Nat.{ℕ, zero, suc, ◌+◌, ◌-◌, ◌*◌, ◌/◌, ◌≤◌, ◌<◌}
use native.Mathlib.Nat.{add-zero, zero-add, not-suc-le-zero}
use native.Mathlib.Omega.{arith}
use lib.Dec.{eqb, leb, ltb, lit<}
use lib.ListN.{length, take, drop, get_or}
use lib.Seq.{take-take}
use borrow.Author.Tests.{eqb-true, eqb-false, ne_eqb, leb-true, leb-false, ltb-true}
use Rattle.batch_words.specs.Words.{words}
use Rattle.std.proofs.lemmas.List.{drop-take}
use Rattle.batch_words.proofs.Bytes.{words_within, length-words}
use Rattle.field_base.proofs.Below.{and-true}
use Rattle.refusal.proofs.Answers.{or-false}
use Rattle.field_montgomery.specs.declared.Form.{Form}
use Rattle.field_montgomery.specs.declared.Form.TheVariants.{Plain, Montgomery}
use Rattle.batch_commands.specs.Format.{ROW, MONTGOMERY-ROW, Line, lines, is_in, COMMANDS, from, known, said, width, words_at, word_count, words_in, limit, key_width, rank, key}
use Rattle.batch_commands.specs.Form.{row_command, OfForm}
use Rattle.batch_commands.specs.declared.Code.{Code}
use Rattle.batch_commands.specs.declared.Code.TheVariants.{End, TraceRows, Row, OpStack, Ram, JumpStack, Sampled, Digest, Input, Output, MontgomeryRow, Height}
use Rattle.batch_commands.specs.Code.{byte_of}

pub map_at : (f : ℕ → ℕ) (a n i : ℕ) → i < n → get_or (map f (from a n)) i 0 ≡ f (a + i)
map_at f a zero i l = absurd (not-suc-le-zero l)
map_at f a (suc n) zero l = ap f (sym (add-zero a))
map_at f a (suc n) (suc i) l =
    let e : suc a + i ≡ a + suc i = omega arith in
    map_at f (suc a) n i (omega arith) ∙ ap f e

-- P of each of n numbers from a on
abbrev pub Each : (ℕ → Type 0) → ℕ → ℕ → Type 0
Each P a zero = Unit
Each P a (suc n) = P a × Each P (suc a) n

pub each_at : (P : ℕ → Type 0) (a n i : ℕ) → Each P a n → i < n → P (a + i)
each_at P a zero i h l = absurd (not-suc-le-zero l)
each_at P a (suc n) zero h l = rw (add-zero a) h.0
each_at P a (suc n) (suc i) h l =
    let e : a + suc i ≡ suc a + i = omega arith in
    rw e (each_at P (suc a) n i h.1 (omega arith))

pub of_each : (P : ℕ → Type 0) → Each P 0 COMMANDS → (code : ℕ) → code < COMMANDS → P code
of_each P h code l = rw (zero-add code) at (each_at P 0 COMMANDS code h l)

-- a test of each command, computed
abbrev tested : (ℕ → Bool) → ℕ → ℕ → Bool
tested test a zero = true
tested test a (suc n) = test a && tested test (suc a) n

each_tested : (test : ℕ → Bool) (a n : ℕ) → tested test a n ≡ true → Each (λ code. test code ≡ true) a n
each_tested test a zero e = tt
each_tested test a (suc n) e = let h = and-true (test a) (tested test (suc a) n) e in (h.0, each_tested test (suc a) n h.1)

pub of_test : (test : ℕ → Bool) → tested test 0 COMMANDS ≡ true → (code : ℕ) → code < COMMANDS → test code ≡ true
of_test test e = of_each (λ code. test code ≡ true) (each_tested test 0 COMMANDS e)

-- the commands are the bytes below
abbrev all_below : List Line → Bool
all_below [] = true
all_below (line ∷ others) = ltb line.byte COMMANDS && all_below others

not_in : (code : ℕ) (others : List Line) → COMMANDS ≤ code → all_below others ≡ true → is_in code others ≡ false
not_in code [] l e = refl
not_in code (line ∷ others) l e =
    let h = and-true (ltb line.byte COMMANDS) (all_below others) e in
    let b = ltb-true line.byte COMMANDS h.0 in
    rw (ne_eqb code line.byte (λ q. omega arith), not_in code others l h.1)

unknown_by : (code : ℕ) (past : Bool) → leb COMMANDS code ≡ past → not (known code) ≡ past
unknown_by code true e = ap not (not_in code lines (leb-true COMMANDS code e) refl)
unknown_by code false e = ap not (of_test known refl code (leb-false COMMANDS code e))

pub unknown : (code : ℕ) → not (known code) ≡ leb COMMANDS code
unknown code = unknown_by code (leb COMMANDS code) refl

-- the command at a rank; of the rows' two, 02
abbrev at_rank : ℕ → ℕ
at_rank r = get_or (1 ∷ 11 ∷ 7 ∷ 8 ∷ 9 ∷ 6 ∷ 2 ∷ 3 ∷ 4 ∷ 5 ∷ 0 ∷ []) r 0

abbrev first_of : ℕ → ℕ
first_of code = cond (eqb code MONTGOMERY-ROW) ROW code

at_rank_lem : (code : ℕ) → code < COMMANDS → at_rank (rank code) ≡ first_of code
at_rank_lem code l = eqb-true (at_rank (rank code)) (first_of code) (of_test (λ c. eqb (at_rank (rank c)) (first_of c)) refl code l)

first_injective : (form : Form) (a b : ℕ) (montgomery-a montgomery-b : Bool) → eqb a MONTGOMERY-ROW ≡ montgomery-a → eqb b MONTGOMERY-ROW ≡ montgomery-b → OfForm form a → OfForm form b
    → cond montgomery-a ROW a ≡ cond montgomery-b ROW b → a ≡ b
first_injective form a b true true e q f g h = eqb-true a MONTGOMERY-ROW e ∙ sym (eqb-true b MONTGOMERY-ROW q)
first_injective form a b false false e q f g h = h
first_injective Plain a b true false e q f g h = absurd (f (eqb-true a MONTGOMERY-ROW e))
first_injective Montgomery a b true false e q f g h = absurd (g (sym h))
first_injective Plain a b false true e q f g h = absurd (g (eqb-true b MONTGOMERY-ROW q))
first_injective Montgomery a b false true e q f g h = absurd (f h)

-- no two commands of a form have one rank
pub rank_injective : (form : Form) (a b : ℕ) → a < COMMANDS → b < COMMANDS → OfForm form a → OfForm form b → rank a ≡ rank b → a ≡ b
rank_injective form a b l m f g e = first_injective form a b (eqb a MONTGOMERY-ROW) (eqb b MONTGOMERY-ROW) refl refl f g (sym (at_rank_lem a l) ∙ ap at_rank e ∙ at_rank_lem b m)

-- what is no row is of any form
pub of_any : (form : Form) (code : ℕ) → (eqb code ROW || eqb code MONTGOMERY-ROW) ≡ false → OfForm form code
of_any Plain code e = eqb-false code MONTGOMERY-ROW (or-false (eqb code ROW) (eqb code MONTGOMERY-ROW) e).1
of_any Montgomery code e = eqb-false code ROW (or-false (eqb code ROW) (eqb code MONTGOMERY-ROW) e).0

-- a row in either form
pub row_known : (form : Form) → row_command form < COMMANDS
row_known Plain = lit< tt
row_known Montgomery = lit< tt

pub row_of : (form : Form) → OfForm form (row_command form)
row_of Plain e = omega arith
row_of Montgomery e = omega arith

pub row_width : (form : Form) → width (row_command form) ≡ width ROW
row_width Plain = refl
row_width Montgomery = refl

pub row_limit : (rows : ℕ) (form : Form) → limit rows (row_command form) ≡ rows
row_limit rows Plain = refl
row_limit rows Montgomery = refl

pub row_rank : (form : Form) → rank (row_command form) ≡ rank ROW
row_rank Plain = refl
row_rank Montgomery = refl

-- the key lies in the operand
pub key_within : (code : ℕ) (bytes : List ℕ) → code < COMMANDS → key code (take (width code) bytes) ≡ key code bytes
unfolding key
key_within code bytes l = rw (take-take (key_width code) (width code) bytes (leb-true (key_width code) (width code) (of_test (λ c. leb (key_width c) (width c)) refl code l)))

-- and so do the words
pub words_within_operand : (code : ℕ) (bytes : List ℕ) → code < COMMANDS → words_in code (take (width code) bytes) ≡ words_in code bytes
words_within_operand code bytes l =
    let fits = leb-true (words_at code + 8 * word_count code) (width code) (of_test (λ c. leb (words_at c + 8 * word_count c) (width c)) refl code l) in
    let e : width code ≡ words_at code + (width code - words_at code) = omega arith in
    let rest : drop (words_at code) (take (width code) bytes) ≡ take (width code - words_at code) (drop (words_at code) bytes) = ap (λ n. drop (words_at code) (take n bytes)) e ∙ drop-take (words_at code) (width code - words_at code) bytes in
    ap (words (word_count code)) rest ∙ words_within (word_count code) (width code - words_at code) (drop (words_at code) bytes) (omega arith)

unsaid : (column : Line → ℕ) (code : ℕ) (others : List Line) → is_in code others ≡ false → said column code others ≡ 0
unsaid column code [] e = refl
unsaid column code (line ∷ others) e = let h = or-false (eqb code line.byte) (is_in code others) e in rw h.0 (unsaid column code others h.1)

-- an operand that has words has nothing else
words_by : (code : ℕ) (past : Bool) → leb COMMANDS code ≡ past → (words_at code ≡ 0) × (word_count code ≡ width code / 8)
words_by code true e =
    let none = not_in code lines (leb-true COMMANDS code e) refl in
    let w : width code ≡ 0 = unsaid (λ line. line.width) code lines none in
    (unsaid (λ line. line.words_at) code lines none, unsaid (λ line. line.words) code lines none ∙ sym (ap (λ n. n / 8) w))
words_by code false e =
    let h = and-true (eqb (words_at code) 0) (eqb (word_count code) (width code / 8)) (of_test (λ c. eqb (words_at c) 0 && eqb (word_count c) (width c / 8)) refl code (leb-false COMMANDS code e)) in
    (eqb-true (words_at code) 0 h.0, eqb-true (word_count code) (width code / 8) h.1)

pub all_words : (code : ℕ) (bytes : List ℕ) → words_in code bytes ≡ words (width code / 8) bytes
all_words code bytes =
    let h = words_by code (leb COMMANDS code) refl in
    ap (λ n. words n (drop (words_at code) bytes)) h.1 ∙ ap (λ n. words (width code / 8) (drop n bytes)) h.0

pub length-words_in : (code : ℕ) (bytes : List ℕ) → length (words_in code bytes) ≡ width code / 8
length-words_in code bytes = ap length (all_words code bytes) ∙ length-words (width code / 8) bytes

-- each command of the code
pub byte_known : (code : Code) → byte_of code < COMMANDS
byte_known End = lit< tt
byte_known TraceRows = lit< tt
byte_known Row = lit< tt
byte_known OpStack = lit< tt
byte_known Ram = lit< tt
byte_known JumpStack = lit< tt
byte_known Sampled = lit< tt
byte_known Digest = lit< tt
byte_known Input = lit< tt
byte_known Output = lit< tt
byte_known MontgomeryRow = lit< tt
byte_known Height = lit< tt
