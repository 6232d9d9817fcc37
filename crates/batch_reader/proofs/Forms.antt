-- The rows of a batch that is read have one form.
use mathlib.Core.Path.{◌≡◌, refl, sym, ◌∙◌}
use mathlib.Core.Bool.{Bool, true, false, cond, ◌&&◌}
use mathlib.Core.Logic.{◌⊎◌, inl, inr}
use mathlib.Core.List.{List, [], ◌∷◌, ◌++◌}
use Prim.Native.Nat.{ℕ, ◌+◌, ◌<◌}
use native.Mathlib.Omega.{arith}
use lib.Dec.{eqb}
use lib.ListN.{take}
use borrow.Author.Tests.{eqb-true, eqb-false, eq-eqb, ne_eqb, not-false}
use Rattle.field_montgomery.specs.declared.Form.{Form}
use Rattle.field_montgomery.specs.declared.Form.TheVariants.{Plain, Montgomery}
use Rattle.batch_commands.specs.Format.{ROW, MONTGOMERY-ROW, width, Command}
use Rattle.batch_commands.specs.Form.{row_command, other_form, OfForm}
use Rattle.batch_commands.specs.Fault.{rows_in, mixed}
use Rattle.batch_commands.proofs.Tables.{row_known}
use Rattle.batch_reader.specs.Commands.{count, counts, form_of, seen_in}
use Rattle.batch_reader.specs.Reading.{read, reading}
use Rattle.batch_reader.proofs.Commands.{count_one, count_at}
use Rattle.batch_reader.proofs.Ordered.{Every}
use Rattle.batch_reader.proofs.Passing.{Passes, passing}
use Rattle.batch_reader.proofs.Readings.{at_start, kept}

-- none in one of the forms
abbrev Unmixed : List Command → Type 0
Unmixed ks = (count MONTGOMERY-ROW ks ≡ 0) ⊎ (count ROW ks ≡ 0)

module _ (before : List Command) (code : ℕ) (bytes : List ℕ) (p : Passes (seen_in before) code bytes) where
  abbrev all : List Command
  all = before ++ (record { code = code; operand = take (width code) bytes } ∷ [])

  no_more : (c : ℕ) → count c before ≡ 0 → (code ≡ c → ⊥) → count c all ≡ 0
  no_more c z n = count_one c before _ ∙ rw (z, ne_eqb code c n)

  keep_by : (row montgomery : Bool) → eqb code ROW ≡ row → eqb code MONTGOMERY-ROW ≡ montgomery → Unmixed before → Unmixed all
  keep_by true m e q u =
      let is = eqb-true code ROW e in
      inl (no_more MONTGOMERY-ROW (eqb-true (count MONTGOMERY-ROW before) 0 (not-false _ (rw is at p.unmixed))) (λ z. omega arith))
  keep_by false true e q u =
      let is = eqb-true code MONTGOMERY-ROW q in
      inr (no_more ROW (eqb-true (count ROW before) 0 (not-false _ (rw is at p.unmixed))) (λ z. omega arith))
  keep_by false false e q (inl z) = inl (no_more MONTGOMERY-ROW z (eqb-false code MONTGOMERY-ROW q))
  keep_by false false e q (inr z) = inr (no_more ROW z (eqb-false code ROW e))

unmixed : (batch : List ℕ) (ks : List Command) → reading batch ≡ read ks → Unmixed ks
unfolding count
unmixed batch ks e =
    let a = at_start batch in
    kept Unmixed (λ before code bytes d. keep_by before code bytes (passing (seen_in before) code bytes d) (eqb code ROW) (eqb code MONTGOMERY-ROW) refl refl) a.fuel [] batch ks (inl refl) (sym a.rest ∙ e)

one_by : (ks : List Command) (none : Bool) → eqb (count MONTGOMERY-ROW ks) 0 ≡ none → Unmixed ks → count (row_command (other_form (cond none Plain Montgomery))) ks ≡ 0
one_by ks true e u = eqb-true (count MONTGOMERY-ROW ks) 0 e
one_by ks false e (inl z) = absurd (eqb-false (count MONTGOMERY-ROW ks) 0 e z)
one_by ks false e (inr z) = z

pub one_form : (batch : List ℕ) (ks : List Command) → reading batch ≡ read ks → count (row_command (other_form (form_of ks))) ks ≡ 0
one_form batch ks e = one_by ks (eqb (count MONTGOMERY-ROW ks) 0) refl (unmixed batch ks e)

-- and rows of one form are no mixture
pub no_mixture : (form : Form) (before : List Command) (code : ℕ) → count (row_command (other_form form)) before ≡ 0 → OfForm form code → mixed (counts before) code ≡ false
no_mixture Plain before code z n = rw (eq-eqb (count MONTGOMERY-ROW before) 0 z, ne_eqb code MONTGOMERY-ROW n) (false_either (eqb code ROW))
  where
    false_either : (b : Bool) → cond b false false ≡ false
    false_either true = refl
    false_either false = refl
no_mixture Montgomery before code z n = rw (ne_eqb code ROW n, eq-eqb (count ROW before) 0 z) (and-false (eqb code MONTGOMERY-ROW))
  where
    and-false : (b : Bool) → (b && false) ≡ false
    and-false true = refl
    and-false false = refl

pub form_is : (form : Form) (ks : List Command) → 0 < count (row_command form) ks → count (row_command (other_form form)) ks ≡ 0 → form_of ks ≡ form
form_is Plain ks some none = rw (eq-eqb (count MONTGOMERY-ROW ks) 0 none)
form_is Montgomery ks some none = rw (ne_eqb (count MONTGOMERY-ROW ks) 0 (λ z. omega arith))

none_by : (code : ℕ) (k : Command) (n : ℕ) (same : Bool) → eqb k.code code ≡ same → cond same 1 0 + n ≡ 0 → (k.code ≡ code → ⊥) × (n ≡ 0)
none_by code k n true e z = absurd (omega arith)
none_by code k n false e z = (eqb-false k.code code e, omega arith)

pub none_there : (code : ℕ) (ks : List Command) → count code ks ≡ 0 → Every (λ k. k.code ≡ code → ⊥) ks
unfolding count
none_there code [] z = tt
none_there code (k ∷ ks) z = let h = none_by code k (count code ks) (eqb k.code code) refl z in (h.0, none_there code ks h.1)

pub of_form : (batch : List ℕ) (ks : List Command) → reading batch ≡ read ks → Every (λ k. OfForm (form_of ks) k.code) ks
of_form batch ks e = none_there (row_command (other_form (form_of ks))) ks (one_form batch ks e)

pub rows_counted : (ks : List Command) → rows_in (counts ks) ≡ count (row_command (form_of ks)) ks
rows_counted ks = count_at ks (row_command (form_of ks)) (row_known (form_of ks))
