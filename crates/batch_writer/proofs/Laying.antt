-- Commands laid out: how long they are, and one more.
use mathlib.Core.Path.{◌≡◌, refl, ap, ◌∙◌}
use mathlib.Core.Bool.{Bool, true, false, cond}
use mathlib.Core.List.{List, [], ◌∷◌, ◌++◌}
use Prim.Native.Nat.{ℕ, zero, suc, ◌+◌, ◌*◌, ◌/◌, ◌%◌, ◌≤◌}
use native.Mathlib.Nat.{suc-mul, zero-mul}
use native.Mathlib.Omega.{arith}
use lib.Dec.{eqb}
use lib.ListN.{length, take, drop, length-append, length-drop}
use Rattle.batch_words.specs.Words.{little_endian, bytes_of}
use Rattle.batch_words.proofs.Writing.{length-bytes_of_take}
use Rattle.field_montgomery.specs.Form.{in_form}
use Rattle.field_montgomery.proofs.Many.{length-in_form}
use Rattle.field_montgomery.specs.declared.Form.{Form}
use Rattle.batch_commands.specs.Format.{ROW, HEIGHT, width, laid_out}
use Rattle.batch_commands.specs.Form.{row_command}
use Rattle.batch_commands.proofs.Tables.{row_width}
use Rattle.batch_lengths.specs.Lengths.{height_length}
use Rattle.batch_writer.specs.Layout.{commands_of_height, commands_with}

pub laid_next : (n code : ℕ) (ws : List ℕ) → laid_out (commands_with (suc n) code ws) ≡ (code ∷ bytes_of (take (width code / 8) ws)) ++ laid_out (commands_with n code (drop (width code / 8) ws))
unfolding laid_out commands_with
laid_next n code ws = refl

pub laid_none : (code : ℕ) (ws : List ℕ) → laid_out (commands_with 0 code ws) ≡ []
unfolding laid_out commands_with
laid_none code ws = refl

-- of a kind whose operands are words
pub length-laid : (n code : ℕ) (ws : List ℕ) → width code % 8 ≡ 0 → n * (width code / 8) ≤ length ws → length (laid_out (commands_with n code ws)) ≡ n * (1 + width code)
length-laid zero code ws whole enough = ap length (laid_none code ws) ∙ omega (arith, zero-mul (1 + width code))
length-laid (suc n) code ws whole enough =
    let k = width code / 8 in
    let more : suc n * k ≡ n * k + k = suc-mul n k in
    let rest = length-laid n code (drop k ws) whole (omega (arith, length-drop k ws)) in
    ap length (laid_next n code ws)
    ∙ omega (arith, length-append (code ∷ bytes_of (take k ws)) (laid_out (commands_with n code (drop k ws))), length-bytes_of_take ws k (omega arith), rest, suc-mul n (1 + width code))

-- 0B
abbrev pub height_bytes : ℕ → List ℕ
height_bytes k = cond (eqb k 0) [] (HEIGHT ∷ little_endian 1 k)

pub laid_height : (k : ℕ) → laid_out (commands_of_height k) ≡ height_bytes k
unfolding laid_out commands_of_height little_endian
laid_height k = by_test (eqb k 0)
  where
    by_test : (none : Bool) → laid_out (cond none [] (record { code = HEIGHT; operand = little_endian 1 k } ∷ [])) ≡ cond none [] (HEIGHT ∷ little_endian 1 k)
    by_test true = refl
    by_test false = refl

pub length-height : (k : ℕ) → length (laid_out (commands_of_height k)) ≡ height_length k
unfolding little_endian
length-height k = ap length (laid_height k) ∙ by_test (eqb k 0)
  where
    by_test : (none : Bool) → length (cond none [] (HEIGHT ∷ little_endian 1 k)) ≡ cond none 0 2
    by_test true = refl
    by_test false = refl

-- rows in either form
pub length-laid_rows : (form : Form) (n : ℕ) (ws : List ℕ) → n * (width ROW / 8) ≤ length ws → length (laid_out (commands_with n (row_command form) (in_form form ws))) ≡ n * (1 + width ROW)
length-laid_rows form n ws enough =
    rw (row_width form) at (length-laid n (row_command form) (in_form form ws) (rw (row_width form)) (rw (row_width form, length-in_form form ws) enough))
