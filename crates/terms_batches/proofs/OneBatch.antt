-- Batches with equal contents and rows of one form are equal: each is the one that the writer lays out for its contents. And all rows of a batch have one form.
use mathlib.Core.Path.{sym, ap, ap₂, ◌∙◌}
use Rattle.batch_reader.specs.Commands.{form_of}
use Rattle.batch_reader.specs.Reading.{commands_of}
use Rattle.batch_writer.specs.Layout.{batch_of}
use Rattle.terms_batches.specs.OneBatch.{OneBatch, OneForm}
use Rattle.terms_batches.proofs.Canonical.{canonical}
use Rattle.terms_batches.proofs.Sound.{sound, rows_of}
use Rattle.terms_batches.proofs.Opened.{opening, left_in_slices}

pub one_batch : OneBatch
one_batch first second bytes others lent lent₂ counts e e₂ same form =
    let o = opening first lent counts e in
    let o₂ = opening second lent₂ counts e₂ in
    let alike = sym (left_in_slices first lent counts e) ∙ same ∙ left_in_slices second lent₂ counts e₂ in
    let forms = ap form_of (sym (ap commands_of o.is_read)) ∙ form ∙ ap form_of (ap commands_of o₂.is_read) in
    canonical first o.ks o.is_read bytes ∙ ap₂ batch_of forms alike ∙ sym (canonical second o₂.ks o₂.is_read others)

pub one_form : OneForm
one_form batch lent counts e =
    let o = opening batch lent counts e in
    let s = sound batch o.ks o.is_read in
    rw o.is_read (sym (rows_of (form_of o.ks) o.ks s) ∙ sym (ap (λ c. c.rows) o.came_is), s.one_form)
