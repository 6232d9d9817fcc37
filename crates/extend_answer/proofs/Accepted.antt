-- Extension that ends with Done passed all of its tests.
use mathlib.Core.Path.{◌≡◌}
use mathlib.Core.Bool.{true, false, ◌&&◌}
use mathlib.Core.List.{List}
use Prim.Native.Nat.{ℕ, ◌*◌, ◌≤◌, ◌<◌}
use native.Mathlib.Omega.{arith}
use lib.Dec.{eqb}
use lib.ListN.{length}
use borrow.Author.Tests.{leb-true, eqb-true, eqb-false, not-false}
use Rattle.refusal.specs.Long.{is_long}
use Rattle.field_base.specs.Words.{all_below}
use Rattle.field_base.proofs.Below.{and-true}
use Rattle.air.specs.ChallengeId.{RECORD-WORDS}
use Rattle.table_rows.specs.Rows.{whole_rows, rows, started_chunks}
use Rattle.refusal.proofs.Answers.{or-false}
use Rattle.refusal.proofs.First.{done_exactly}
use Rattle.column_entries.specs.Denominators.{zero_denominator}
use Rattle.column_weights.specs.Ready.{ReadyTable}
use Rattle.extend_answer.specs.Answer.{right_lengths, extend_tests, extend_answer}
use Rattle.refusal.specs.Number.{Done}

pub record Lengths (main challenges aux : List ℕ) : Type 0 where
  pub whole : whole_rows main ≡ true
  pub aux_length : length aux ≡ rows main * 33
  pub challenges_length : length challenges ≡ RECORD-WORDS

pub lengths : (main challenges aux : List ℕ) → right_lengths main challenges aux ≡ true → Lengths main challenges aux
lengths main challenges aux h =
    let a = and-true (whole_rows main && eqb (length aux) (rows main * 33)) (eqb (length challenges) RECORD-WORDS) h in
    let b = and-true (whole_rows main) (eqb (length aux) (rows main * 33)) a.0 in
    record {
      whole = b.0;
      aux_length = eqb-true (length aux) (rows main * 33) b.1;
      challenges_length = eqb-true (length challenges) RECORD-WORDS a.1;
    }

pub record Accepted (main challenges : List ℕ) (chunk : ℕ) (aux work : List ℕ) : Type 0 where
  pub fitting : Lengths main challenges aux
  pub some_row : eqb (rows main) 0 ≡ false
  pub not_long : rows main ≤ 4194304
  pub chunk_positive : 0 < chunk
  pub work_length : length work ≡ started_chunks (rows main) chunk * 6
  pub main_below : all_below main ≡ true
  pub challenges_below : all_below challenges ≡ true
  pub no_zero : zero_denominator main challenges ≡ false

module _ (main challenges : List ℕ) (chunk : ℕ) (aux work : List ℕ) (done : extend_answer main challenges chunk aux work ≡ Done) where
  pub passed : Accepted main challenges chunk aux work
  unfolding extend_answer
  passed =
      let none = (done_exactly (extend_tests main challenges chunk aux work)).0 done in
      let later = none.1.1 in
      let count = or-false (eqb (rows main) 0) (is_long (rows main)) none.1.0 in
      let words = and-true (all_below main) (all_below challenges) (not-false (all_below main && all_below challenges) later.1.1.0) in
      record {
        fitting = lengths main challenges aux (not-false (right_lengths main challenges aux) none.0);
        some_row = count.0;
        not_long = leb-true (rows main) 4194304 (not-false _ count.1);
        chunk_positive = omega (arith, eqb-false chunk 0 later.0);
        work_length = eqb-true (length work) (started_chunks (rows main) chunk * 6) (not-false _ later.1.0);
        main_below = words.0;
        challenges_below = words.1;
        no_zero = later.1.1.1.0;
      }

  pub ready : ReadyTable challenges main
  ready = let a = passed in record { whole = a.fitting.challenges_length; challenges_below = a.challenges_below; main_below = a.main_below }
