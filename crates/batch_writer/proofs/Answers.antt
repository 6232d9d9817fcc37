-- The answer by its four tests, and what the lent batch holds then.
use mathlib.Core.Path.{◌≡◌, refl, sym, ap}
use mathlib.Core.Logic.{inl, inr}
use mathlib.Core.Bool.{true, false, not, ◌&&◌}
use mathlib.Core.List.{List}
use Prim.Native.Nat.{ℕ, ◌≤◌}
use lib.Dec.{leb}
use lib.ListN.{length}
use borrow.Author.Tests.{le-leb}
use Rattle.refusal.specs.Number.{Done, on_done}
use Rattle.refusal.specs.Tests.{HoldsFirst}
use Rattle.refusal.specs.declared.Refusal.{Refusal}
use Rattle.refusal.specs.declared.Refusal.TheVariants.{SliceLength, RowCount, HeightOutOfRange, WordNotBelowP}
use Rattle.refusal.proofs.First.{done_exactly, refused_exactly}
use Rattle.table_rows.specs.Rows.{rows}
use Rattle.field_montgomery.specs.declared.Form.{Form}
use Rattle.batch_writer.specs.Contents.{Contents}
use Rattle.batch_writer.specs.Layout.{batch_of}
use Rattle.batch_writer.specs.Write.{right_lengths, all_words_below, refused_height, write_tests, write_answer, write_batch}
use Rattle.std.specs.Prelude.{Err}

module _ (form : Form) (c : Contents) (n : ℕ) where
  refused : {r : Refusal} → HoldsFirst r (write_tests form c n) → Err r ≡ write_answer form c n
  unfolding write_answer
  refused {r} h = sym ((refused_exactly (write_tests form c n) r).1 h)

  pub wrong_lengths : right_lengths form c n ≡ false → Err SliceLength ≡ write_answer form c n
  wrong_lengths e = refused (inl (ap not e, refl))

  module _ (right : right_lengths form c n ≡ true) where
    pub wrong_rows : (leb 1 (rows c.trace) && leb (rows c.trace) 32) ≡ false → Err RowCount ≡ write_answer form c n
    wrong_rows e = refused (inr (ap not right, inl (ap not e, refl)))

    module _ (in_range : (leb 1 (rows c.trace) && leb (rows c.trace) 32) ≡ true) where
      pub wrong-height : refused_height (rows c.trace) c.log2_height ≡ true → Err HeightOutOfRange ≡ write_answer form c n
      wrong-height e = refused (inr (ap not right, inr (ap not in_range, inl (e, refl))))

      module _ (height : refused_height (rows c.trace) c.log2_height ≡ false) where
        pub wrong-words : all_words_below c ≡ false → Err WordNotBelowP ≡ write_answer form c n
        wrong-words e = refused (inr (ap not right, inr (ap not in_range, inr (height, inl (ap not e, refl)))))

        pub done_in_range : all_words_below c ≡ true → Done ≡ write_answer form c n
        unfolding write_answer
        done_in_range e = sym ((done_exactly (write_tests form c n)).1 (ap not right, (ap not in_range, (height, (ap not e, tt)))))

    pub all_done : 1 ≤ rows c.trace → rows c.trace ≤ 32 → refused_height (rows c.trace) c.log2_height ≡ false → all_words_below c ≡ true → Done ≡ write_answer form c n
    all_done some few height e = done_in_range (rw (le-leb 1 (rows c.trace) some, le-leb (rows c.trace) 32 few)) height e

module _ (form : Form) (c : Contents) (batch : List ℕ) where
  pub as_it_was : {r : Refusal} → Err r ≡ write_answer form c (length batch) → batch ≡ write_batch form c batch
  unfolding write_batch
  as_it_was e = ap (λ a. on_done a (batch_of form c) batch) e

  pub the_batch : Done ≡ write_answer form c (length batch) → batch_of form c ≡ write_batch form c batch
  unfolding write_batch
  the_batch e = ap (λ a. on_done a (batch_of form c) batch) e
