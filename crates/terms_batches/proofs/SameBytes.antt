-- The writer writes contents as it writes them sorted, and sorted lists of one bag are equal.
use mathlib.Core.Path.{◌≡◌, sym, ap, ◌∙◌}
use mathlib.Core.List.{List}
use Prim.Native.Nat.{ℕ}
use Rattle.field_montgomery.specs.declared.Form.{Form}
use Rattle.batch_sorted.proofs.Lengths.{length-sorted}
use Rattle.batch_writer.specs.Contents.{Contents, contents_of}
use Rattle.batch_writer.specs.Write.{write_answer, write_batch}
use Rattle.terms_batches.specs.Written.{with_sorted_lists}
use Rattle.terms_batches.specs.SameBytes.{SameBytes}
use Rattle.terms_batches.proofs.Sorted.{below_sorted, sorted_again, sorted_only}

module _ (form : Form) (c : Contents) where
  answer_sorted : (n : ℕ) → write_answer form (with_sorted_lists c) n ≡ write_answer form c n
  unfolding write_answer
  answer_sorted n = simp (length-sorted, sorted_again, below_sorted)

  written_sorted : (batch : List ℕ) → write_batch form (with_sorted_lists c) batch ≡ write_batch form c batch
  unfolding write_batch
  written_sorted batch = simp (length-sorted, sorted_again, below_sorted)

pub same_bytes : SameBytes
same_bytes form trace o₁ o₂ r₁ r₂ j₁ j₂ sampled digest input output k o r j =
    let one = contents_of trace o₁ r₁ j₁ sampled digest input output k in
    let other = contents_of trace o₂ r₂ j₂ sampled digest input output k in
    let e : with_sorted_lists one ≡ with_sorted_lists other = λ i. contents_of trace (sorted_only o₁ o₂ o i) (sorted_only r₁ r₂ r i) (sorted_only j₁ j₂ j i) sampled digest input output k in (
      λ n. sym (answer_sorted form one n) ∙ ap (λ c. write_answer form c n) e ∙ answer_sorted form other n,
      λ batch. sym (written_sorted form one batch) ∙ ap (λ c. write_batch form c batch) e ∙ written_sorted form other batch,
    )
