-- "Two houses packing the same run": contents that differ in the order of their difference lists alone are written as the same bytes, or refused alike.
use Rattle.std.specs.Prelude.{◌≡◌, List, ℕ}
use Rattle.field_montgomery.specs.declared.Form.{Form}
use Rattle.batch_writer.specs.Contents.{contents_of}
use Rattle.batch_writer.specs.Write.{write_answer, write_batch}
use Rattle.terms_batches.specs.Written.{SameBag}

abbrev pub SameBytes : Type 0
SameBytes =
    (form : Form) (trace op-stack₁ op-stack₂ ram₁ ram₂ jump-stack₁ jump-stack₂ sampled digest input output : List ℕ) (k : ℕ)
    → SameBag op-stack₁ op-stack₂ → SameBag ram₁ ram₂ → SameBag jump-stack₁ jump-stack₂
    → let one = contents_of trace op-stack₁ ram₁ jump-stack₁ sampled digest input output k in
    let other = contents_of trace op-stack₂ ram₂ jump-stack₂ sampled digest input output k in
    ((length : ℕ) → write_answer form one length ≡ write_answer form other length) × ((batch : List ℕ) → write_batch form one batch ≡ write_batch form other batch)
