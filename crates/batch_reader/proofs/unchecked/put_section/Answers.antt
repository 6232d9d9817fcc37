-- The commands of the kind so far have brought what the slice begins with; the first of another kind ends the section.
use mathlib.Core.Path.{◌≡◌, sym, ◌∙◌}
use Prim.Native.Nat.{◌+◌}
use native.Mathlib.Omega.{arith}
use Rattle.batch_commands.specs.Format.{width}
use Rattle.batch_commands.specs.Code.{byte_of}
use Rattle.batch_commands.proofs.Tables.{byte_known}
use Rattle.batch_reader.proofs.Sections.{begins, fits, room, goes_on, ends, not_at_end}
use Rattle.batch_reader.proofs.unchecked.put_section.Goals as goal

pub loop-place-init : goal.loop-place-init
loop-place-init c =
    let args = c.args in
    let asked = c.requires in
    begins args.batch.now (byte_of args.wanted) asked.batch_value asked.wanted_nonzero.0 (byte_known args.wanted) args.form args.slice.now args.at asked.at_value

pub bounds-batch-place : goal.bounds-batch-place
bounds-batch-place c =
    let args = c.args in
    let asked = c.requires in
    let loop = c.loop-place in
    let wanted = byte_of args.wanted in
    let known = byte_known args.wanted in
    let more = not_at_end args.batch.now wanted asked.batch_value asked.wanted_nonzero.0 known args.form args.slice.now loop.slice loop.to loop.place loop.invariant in
    omega arith

pub put_words-requires : goal.put_words-requires
put_words-requires c =
    let args = c.args in
    let asked = c.requires in
    let loop = c.loop-place in
    let wanted = byte_of args.wanted in
    let known = byte_known args.wanted in
    let here = c.loop-place-test.true ∙ c.from-byte.ensures in
    let wide = c.width-width.ensures in
    let inside = fits args.batch.now wanted asked.batch_value asked.wanted_nonzero.0 known args.form args.slice.now loop.slice loop.to loop.place loop.invariant here in
    let spare = room args.batch.now wanted asked.batch_value asked.wanted_nonzero.0 known args.form args.slice.now loop.slice loop.to loop.place loop.invariant here asked.batch_in_bounds in
    record { n_in_bounds = omega arith; n_in_bounds_2 = omega arith }

pub overflow_add-to : goal.overflow_add-to
overflow_add-to c =
    let args = c.args in
    let asked = c.requires in
    let loop = c.loop-place in
    let wanted = byte_of args.wanted in
    let known = byte_known args.wanted in
    let spare = room args.batch.now wanted asked.batch_value asked.wanted_nonzero.0 known args.form args.slice.now loop.slice loop.to loop.place loop.invariant (c.loop-place-test.true ∙ c.from-byte.ensures) asked.batch_in_bounds in
    let wide = c.width-width.ensures in
    omega arith

pub overflow_add-place : goal.overflow_add-place
overflow_add-place c =
    let args = c.args in
    let asked = c.requires in
    let loop = c.loop-place in
    let wanted = byte_of args.wanted in
    let known = byte_known args.wanted in
    let inside = fits args.batch.now wanted asked.batch_value asked.wanted_nonzero.0 known args.form args.slice.now loop.slice loop.to loop.place loop.invariant (c.loop-place-test.true ∙ c.from-byte.ensures) in
    omega arith

pub loop-place-smaller : goal.loop-place-smaller
loop-place-smaller c =
    let args = c.args in
    let asked = c.requires in
    let loop = c.loop-place in
    let wanted = byte_of args.wanted in
    let known = byte_known args.wanted in
    let inside = fits args.batch.now wanted asked.batch_value asked.wanted_nonzero.0 known args.form args.slice.now loop.slice loop.to loop.place loop.invariant (c.loop-place-test.true ∙ c.from-byte.ensures) in
    let wide = c.width-width.ensures in
    omega arith

pub loop-place-preserved : goal.loop-place-preserved
loop-place-preserved c =
    let args = c.args in
    let asked = c.requires in
    let loop = c.loop-place in
    let wanted = byte_of args.wanted in
    let known = byte_known args.wanted in
    let wide : c.width-width.result ≡ width wanted = c.width-width.ensures in
    let place : loop.place + (1 + width wanted) ≡ loop.place + 1 + width wanted = omega arith in
    rw (wide, place) (goes_on args.batch.now wanted asked.batch_value asked.wanted_nonzero.0 known args.form args.slice.now loop.slice loop.to loop.place loop.invariant (c.loop-place-test.true ∙ c.from-byte.ensures) _ c.put_words.auto.slice (rw wide at c.put_words.ensures))

pub returns : goal.returns
returns c =
    let args = c.args in
    let asked = c.requires in
    let loop = c.loop-place in
    let wanted = byte_of args.wanted in
    let known = byte_known args.wanted in
    let all = ends args.batch.now wanted asked.batch_value asked.wanted_nonzero.0 known args.form args.slice.now loop.slice loop.to loop.place loop.invariant asked.wanted_nonzero.1 (λ e. c.loop-place-test.false (e ∙ sym c.from-byte.ensures)) in
    record { value = all.0; slice_after = all.1 }
