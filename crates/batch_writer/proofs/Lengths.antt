-- The tests of lengths, by numbers and one by one.
use mathlib.Core.Path.{◌≡◌, refl, sym, ap, ◌∙◌}
use mathlib.Core.Bool.{Bool, true, false, ◌&&◌}
use Prim.Native.Nat.{ℕ, ◌+◌, ◌/◌, ◌%◌, ◌≤◌}
use lib.Dec.{eqb, leb}
use lib.ListN.{length}
use borrow.Author.Tests.{eqb-true, leb-true, eq-eqb, le-leb}
use Rattle.field_base.proofs.Below.{and-true}
use Rattle.field_montgomery.specs.declared.Form.{Form}
use Rattle.batch_writer.specs.Contents.{Contents}
use Rattle.batch_writer.specs.Layout.{batch_of}
use Rattle.batch_lengths.specs.Lengths.{batch_length, right_numbers}
use Rattle.batch_writer.specs.Write.{right_lengths}
use Rattle.batch_writer.proofs.Parts.{length-batch_of}

and_same : (a b b' : Bool) → (a ≡ true → b ≡ b') → (a && b) ≡ (a && b')
and_same true b b' h = h refl
and_same false b b' h = refl

pub record Right (c : Contents) (batch : ℕ) : Type 0 where
  pub whole : length c.trace % 39 ≡ 0
  pub op_stack : length c.op_stack ≤ 128
  pub ram : length c.ram ≤ 128
  pub jump_stack : length c.jump_stack ≤ 128
  pub sampled : length c.sampled ≡ 177
  pub digest : length c.digest ≡ 5
  pub input : length c.input ≤ 64
  pub output : length c.output ≤ 64
  pub batch_length : batch ≡ batch_length c.log2_height (length c.trace / 39) (length c.op_stack + length c.ram + length c.jump_stack + length c.input + length c.output)

module _ (c : Contents) where
  abbrev first_seven : Bool
  first_seven =
      eqb (length c.trace % 39) 0
      && leb (length c.op_stack) 128
      && leb (length c.ram) 128
      && leb (length c.jump_stack) 128
      && eqb (length c.sampled) 177
      && eqb (length c.digest) 5
      && leb (length c.input) 64

  abbrev all_lists : Bool
  all_lists = first_seven && leb (length c.output) 64

  abbrev number : ℕ
  number = batch_length c.log2_height (length c.trace / 39) (length c.op_stack + length c.ram + length c.jump_stack + length c.input + length c.output)

  -- where the lists are as they should be
  lists : all_lists ≡ true → Right c number
  lists all =
      let t₁ = eqb (length c.trace % 39) 0 in
      let t₂ = t₁ && leb (length c.op_stack) 128 in
      let t₃ = t₂ && leb (length c.ram) 128 in
      let t₄ = t₃ && leb (length c.jump_stack) 128 in
      let t₅ = t₄ && eqb (length c.sampled) 177 in
      let t₆ = t₅ && eqb (length c.digest) 5 in
      let e₈ = and-true first_seven (leb (length c.output) 64) all in
      let e₇ = and-true t₆ (leb (length c.input) 64) e₈.0 in
      let e₆ = and-true t₅ (eqb (length c.digest) 5) e₇.0 in
      let e₅ = and-true t₄ (eqb (length c.sampled) 177) e₆.0 in
      let e₄ = and-true t₃ (leb (length c.jump_stack) 128) e₅.0 in
      let e₃ = and-true t₂ (leb (length c.ram) 128) e₄.0 in
      let e₂ = and-true t₁ (leb (length c.op_stack) 128) e₃.0 in
      record {
        whole = eqb-true (length c.trace % 39) 0 e₂.0;
        op_stack = leb-true (length c.op_stack) 128 e₂.1;
        ram = leb-true (length c.ram) 128 e₃.1;
        jump_stack = leb-true (length c.jump_stack) 128 e₄.1;
        sampled = eqb-true (length c.sampled) 177 e₅.1;
        digest = eqb-true (length c.digest) 5 e₆.1;
        input = leb-true (length c.input) 64 e₇.1;
        output = leb-true (length c.output) 64 e₈.1;
        batch_length = refl;
      }

  is_number : (form : Form) {batch : ℕ} → Right c batch → length (batch_of form c) ≡ number
  is_number form l = length-batch_of form c l.whole l.sampled l.digest

  module _ (form : Form) (batch : ℕ) where
    in_tests : right_lengths form c batch ≡ (all_lists && eqb batch (length (batch_of form c)))
    unfolding right_lengths
    in_tests = refl

    pub by_numbers : right_lengths form c batch ≡ right_numbers (length c.trace) (length c.op_stack) (length c.ram) (length c.jump_stack) (length c.sampled) (length c.digest) (length c.input) (length c.output) c.log2_height batch
    by_numbers = in_tests ∙ and_same all_lists (eqb batch (length (batch_of form c))) (eqb batch number) (λ all. ap (eqb batch) (is_number form (lists all)))

    pub right : right_lengths form c batch ≡ true → Right c batch
    right all =
        let e = and-true all_lists (eqb batch (length (batch_of form c))) (sym in_tests ∙ all) in
        let l = lists e.0 in
        rw (eqb-true batch (length (batch_of form c)) e.1 ∙ is_number form l) l

    pub all_right : Right c batch → true ≡ right_lengths form c batch
    all_right r = sym (by_numbers ∙ rw (eq-eqb _ 0 r.whole, le-leb _ 128 r.op_stack, le-leb _ 128 r.ram, le-leb _ 128 r.jump_stack, eq-eqb _ 177 r.sampled, eq-eqb _ 5 r.digest, le-leb _ 64 r.input, le-leb _ 64 r.output, eq-eqb batch number r.batch_length))
