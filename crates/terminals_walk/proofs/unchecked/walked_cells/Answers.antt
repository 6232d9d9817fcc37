-- Extended, and walked where rows are left.
use mathlib.Core.Path.{◌≡◌, sym, subst, ◌∙◌}
use mathlib.Core.List.{List}
use Prim.Native.Nat.{ℕ, ◌-◌, ◌*◌}
use native.Mathlib.Omega.{arith}
use Rattle.refusal.specs.Number.{Done}
use Rattle.field.specs.Element.{element_at}
use Rattle.table_rows.specs.Rows.{rows}
use Rattle.table_pad.specs.Pad.{padding_row}
use Rattle.column_entries.specs.AuxRow.{place_of, aux_row}
use Rattle.column_weights.specs.Ready.{ReadyTable}
use Rattle.column_steps.specs.Walk.{through}
use Rattle.terminals_extended.specs.Extended.{extended_answer, extended_cells}
use Rattle.terminals_walk.specs.Grown.{EndsInPadding, Growing}
use Rattle.terminals_walk.proofs.Walked as walk
use Rattle.terminals_walk.proofs.unchecked.walked_cells.Goals as goal

pub new-requires : goal.new-requires
new-requires c =
    let main : List ℕ = c.args.main.now in
    let height : ℕ = c.args.height in
    let challenges : List ℕ = c.args.challenges.now in
    let g : Growing main height = c.requires.growing in
    let done : extended_answer main challenges ≡ Done = sym c.in_ok-extended_cells.ensures.answer in
    subst (ReadyTable challenges) (sym c.row-last.ensures) (walk.last-ready main height g challenges (g.window c.if-rows-height.true) done)

pub walk_padding-requires : goal.walk_padding-requires
walk_padding-requires c =
    let main : List ℕ = c.args.main.now in
    let height : ℕ = c.args.height in
    let challenges : List ℕ = c.args.challenges.now in
    let g : Growing main height = c.requires.growing in
    let e : EndsInPadding main = g.window c.if-rows-height.true in
    let done : extended_answer main challenges ≡ Done = sym c.in_ok-extended_cells.ensures.answer in
    let words : c.extended_cells.new.cells ≡ extended_cells main challenges = c.in_ok-extended_cells.ensures.cells in
    let k = rows main in
    record {
      canonical_cells = walk.words-canonical main height g challenges e done words;
      first_nonzero = (g.some, omega (arith, g.within, g.short));
      divisible = rw (c.new.ensures.words, c.new.ensures.challenges, c.row-last.ensures) (walk.padding_divisible main height g challenges e done);
    }

pub returns-then-rows-height : goal.returns-then-rows-height
returns-then-rows-height c =
    let main : List ℕ = c.args.main.now in
    let height : ℕ = c.args.height in
    let challenges : List ℕ = c.args.challenges.now in
    let g : Growing main height = c.requires.growing in
    let e : EndsInPadding main = g.window c.if-rows-height.true in
    let done : extended_answer main challenges ≡ Done = sym c.in_ok-extended_cells.ensures.answer in
    let words : c.extended_cells.new.cells ≡ extended_cells main challenges = c.in_ok-extended_cells.ensures.cells in
    let k = rows main in
    record {
      answer = sym (walk.same_answer main height g challenges e ∙ done);
      cells = (rw (c.new.ensures.words, c.new.ensures.challenges) at c.walk_padding.ensures)
          ∙ (λ i. aux_row (λ column. through column challenges (padding_row (c.row-last.ensures i)) k (height - k) (element_at c.extended_cells.new.cells (place_of column * 3))))
          ∙ walk.walked main height g challenges e done words;
    }
