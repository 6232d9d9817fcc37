-- Write at the ABI: the form of the rows is told by a word, 0 for 02 and any other for 0A.
use Rattle.std.specs.Prelude.{cond, ℕ, eqb}
use Rattle.field_montgomery.specs.declared.Form.{Form}
use Rattle.field_montgomery.specs.declared.Form.TheVariants.{Plain, Montgomery}

abbrev pub told_form : ℕ → Form
told_form word = cond (eqb word 0) Plain Montgomery
