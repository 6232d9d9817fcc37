-- Term 2 holds: what extension writes does not name the chunk length, and has each column's cell at its place; only the tests for 0 and of work's
-- length look at the chunk length.
use mathlib.Core.Path.{ap, ◌∙◌}
use native.Mathlib.Omega.{arith}
use lib.ListN.{length}
use borrow.Author.Tests.{eq-eqb, ne_eqb}
use Rattle.column_entries.specs.Columns.{running}
use Rattle.extend_answer.specs.Answer.{extend_answer}
use Rattle.extend_answer.proofs.Accepted.{passed}
use Rattle.extend.proofs.Written.{written}
use Rattle.terms.specs.Term2.{Term2}
use Rattle.column_entries.specs.AuxRow.{cell_at}
use Rattle.terms.proofs.Cells.{cell_at_lem}

pub term2 : Term2
unfolding running extend_answer
term2 =
    record {
      cells = λ main challenges chunk aux work done c r within.
          ap (λ l. cell_at c l r) (written main challenges chunk aux work done) ∙ cell_at_lem main challenges c r within;
      every_chunk = λ main challenges chunk₁ chunk₂ aux work₁ work₂ h₁ h₂ l₁ l₂.
          rw (ne_eqb chunk₁ 0 (λ e. omega arith), ne_eqb chunk₂ 0 (λ e. omega arith), eq-eqb (length work₁) _ l₁, eq-eqb (length work₂) _ l₂);
      positive = λ main challenges chunk aux work done. (passed main challenges chunk aux work done).chunk_positive;
    }
