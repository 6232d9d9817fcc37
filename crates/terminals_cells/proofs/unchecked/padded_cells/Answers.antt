-- The rows at hand are padded, and walked on as the first rows of the padded table.
use mathlib.Core.Path.{◌≡◌, sym, ap, subst, ◌∙◌}
use mathlib.Core.List.{List}
use Prim.Native.Nat.{ℕ, ◌-◌, ◌≤◌}
use native.Mathlib.Omega.{arith}
use Rattle.refusal.specs.Number.{Done, on_done}
use Rattle.table_rows.specs.Rows.{rows}
use Rattle.table_rows.specs.Writes.{raised}
use Rattle.table_pad.specs.Pad.{pad_answer, pad_table}
use Rattle.terminals_extended.specs.Extended.{extended_answer, extended_cells}
use Rattle.terminals_walk.specs.Grown.{grown, Growing}
use Rattle.terminals_cells.specs.Terminals.{after, padded_answer, padded_cells}
use Rattle.terminals_cells.specs.Kept.{longer}
use Rattle.terminals_cells.proofs.Padded as law
use Rattle.terminals_cells.proofs.unchecked.padded_cells.Goals as goal

pub walked_cells-requires : goal.walked_cells-requires
walked_cells-requires c =
    let table : List ℕ = c.args.table.now in
    let len : ℕ = c.args.table_len in
    let height : ℕ = c.args.height in
    let done : pad_answer table len ≡ Done = sym c.in_ok-pad.ensures.answer in
    let main : List ℕ = law.main table len height c.requires.table_value c.requires.kept done in
    let more : height - rows c.pad.new.table ≡ height - rows table = omega (arith, c.pad.auto.table) in
    let main_is : main ≡ c.raise_multiplicity.new.table = sym (c.raise_multiplicity.ensures ∙ (λ i. raised (c.pad.ensures.padded i) 1 (more i))) in
    record {
      growing = subst (λ t. Growing t height) main_is (law.growing table len height c.requires.table_value c.requires.kept done);
      main_bound = subst (λ t. rows t ≤ 34) main_is (law.few table len height c.requires.table_value c.requires.kept done);
    }

pub returns : goal.returns
unfolding padded_answer padded_cells
returns c =
    let table : List ℕ = c.args.table.now in
    let len : ℕ = c.args.table_len in
    let height : ℕ = c.args.height in
    let challenges : List ℕ = c.args.challenges.now in
    let done : pad_answer table len ≡ Done = sym c.in_ok-pad.ensures.answer in
    let main : List ℕ = law.main table len height c.requires.table_value c.requires.kept done in
    let more : height - rows c.pad.new.table ≡ height - rows table = omega (arith, c.pad.auto.table) in
    let main_is : c.raise_multiplicity.new.table ≡ main = c.raise_multiplicity.ensures ∙ (λ i. raised (c.pad.ensures.padded i) 1 (more i)) in
    let all_done : pad_answer (longer height table) len ≡ Done = law.same_answer table len height c.requires.table_value c.requires.kept ∙ done in
    let whole = ap (grown height) main_is ∙ sym (law.grown_is table len height c.requires.table_value c.requires.kept done) in
    record {
      answer = c.walked_cells.ensures.answer
          ∙ ap (λ t. extended_answer t challenges) whole
          ∙ sym (ap (λ a. after a (extended_answer (pad_table (longer height table) len) challenges)) all_done);
      cells = c.walked_cells.ensures.cells ∙ ap (λ t. on_done c.walked_cells.result (extended_cells t challenges) c.args.cells.now) whole;
    }
