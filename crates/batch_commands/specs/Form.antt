-- Document 02, Three: "A batch uses 02 or 0A throughout"; the words of 0A are in Montgomery form.
use Rattle.std.specs.Prelude.{◌≡◌, ℕ}
use Rattle.field_montgomery.specs.declared.Form.{Form}
use Rattle.field_montgomery.specs.declared.Form.TheVariants.{Plain, Montgomery}
use Rattle.batch_commands.specs.Format.{ROW, MONTGOMERY-ROW}

-- the command of a row
abbrev pub row_command : Form → ℕ
row_command Plain = ROW
row_command Montgomery = MONTGOMERY-ROW

abbrev pub other_form : Form → Form
other_form Plain = Montgomery
other_form Montgomery = Plain

-- a command of a batch whose rows have the form: any but the other form's row
abbrev pub OfForm : Form → ℕ → Type 0
OfForm form code = code ≡ row_command (other_form form) → ⊥
