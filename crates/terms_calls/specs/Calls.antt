-- Term 1 over calls of the functions of `tealbobbin`, which `tealbobbin_c` exports: what a caller learns from a function's own contract.
use Rattle.std.specs.Prelude.{◌≡◌, List, [], ◌∷◌, ℕ, length}
use Rattle.std.specs.Borrow.{Bor, MutBor}
use denote.Triple.Clauses.{at_exit}
use Rattle.refusal.specs.Number.{answer_number_of}
use Rattle.field_base.specs.Answers.{base_add, base_sub, base_mul, base_inverse}
use Rattle.field_montgomery.specs.Answers.{to_answer, from_answer, montgomery_add, montgomery_mul, montgomery_inverted}
use Rattle.field.specs.Answers.{element_add, element_sub, element_mul, element_scale, element_inverse}
use Rattle.isa_decoding.specs.Answer.{decode_answer}
use Rattle.challenges.specs.Derived.{challenges_answer, challenges_record}
use Rattle.scan_steps.specs.Scan.{scanned_maps, scanned_products, scanned_sums}
use Rattle.running_arguments.specs.Answers.{scan_answer, scan_words}
use Rattle.table_fill.specs.Fill.{fill_answer, fill_table}
use Rattle.table_pad.specs.Pad.{pad_answer, pad_table}
use Rattle.extend_answer.specs.Answer.{extend_answer}
use Rattle.extend_answer.specs.Strict.{strict_answer}
use Rattle.extend.specs.Extend.{extend_aux, extend_work, strict_aux, strict_work}
use Rattle.check_columns.specs.Check.{check_answer}
use Rattle.batch_writer.specs.Contents.{contents_of}
use Rattle.batch_writer.specs.Write.{write_answer, write_batch}
use Rattle.tealbobbin_answers.specs.Field.{base_number_into, base_into, unary_number, unary_out, binary_number, binary_out}
use Rattle.tealbobbin_answers.specs.Decode.{decode_number_into, decode_into}
use Rattle.tealbobbin_answers.specs.Check.{check_number_into, check_into}
use Rattle.tealbobbin_answers.specs.Open.{Slices, slices, open_into, slices_after}
use Rattle.tealbobbin_answers.specs.Write.{told_form}
use Rattle.terminals_batch.specs.Into.{terminals_into, cells_into}
use Rattle.terms.specs.Term1.{Answers}
use Rattle.tealbobbin.specs.contracts as contracts
use Rattle.tealbobbin.proofs as abi

-- an argument of an exported function, a word, a slice, or a slice that the function may write; and what a caller hands over
pub data Argument : Type 0 where
  word : Argument
  slice : Argument
  mut : Argument

abbrev pub Lent : List Argument → Type 0
Lent [] = Unit {0}
Lent (word ∷ rest) = ℕ × Lent rest
Lent (slice ∷ rest) = Bor (List ℕ) × Lent rest
Lent (mut ∷ rest) = MutBor (List ℕ) × Lent rest

-- what each slice that may be written holds at the end, and such contents as a list gives them
abbrev pub Last : List Argument → Type 0
Last [] = Unit {0}
Last (word ∷ rest) = Unit {0} × Last rest
Last (slice ∷ rest) = Unit {0} × Last rest
Last (mut ∷ rest) = List ℕ × Last rest

abbrev pub placed : (arguments : List Argument) → List (List ℕ) → Last arguments
placed [] lists = tt
placed (word ∷ rest) lists = (tt, placed rest lists)
placed (slice ∷ rest) lists = (tt, placed rest lists)
placed (mut ∷ rest) [] = ([], placed rest [])
placed (mut ∷ rest) (list ∷ lists) = (list, placed rest lists)

-- a function of the words and of what the slices hold, and its value at what is lent
abbrev pub By : List Argument → Type 0 → Type 0
By [] R = R
By (word ∷ rest) R = ℕ → By rest R
By (slice ∷ rest) R = List ℕ → By rest R
By (mut ∷ rest) R = List ℕ → By rest R

abbrev pub of : {R : Type 0} (arguments : List Argument) → By arguments R → Lent arguments → R
of [] f lent = f
of (word ∷ rest) f lent = of rest (f lent.0) lent.1
of (slice ∷ rest) f lent = of rest (f lent.0.now) lent.1
of (mut ∷ rest) f lent = of rest (f lent.0.now) lent.1

-- A function's contract asks nothing. Where `last` is what its slices hold at the end, a caller learns that the number and they are those of `ends`,
-- the terms of term 1; so the number is 0 or one of the line, and unless it is 0 all arguments are left as they were lent.
pub record Call {K : Type 0} (arguments : List Argument) (left : K → (lent : Lent arguments) → Last arguments → Lent arguments)
    (Asked : K → Lent arguments → Type 0) (Learnt : K → Lent arguments → ℕ → Lent arguments → Type 0)
    (line : List ℕ) (ends : By arguments (ℕ × List (List ℕ))) : Type 0 where
  pub unasked : (κs : K) (lent : Lent arguments) → Asked κs lent
  pub told : (κs : K) (lent : Lent arguments) (number : ℕ) (last : Last arguments) → Learnt κs lent number (left κs lent last)
      → let ended = of arguments ends lent in (number ≡ ended.0) × (last ≡ placed arguments ended.1)
  pub answers : (κs : K) (lent : Lent arguments) (number : ℕ) (last : Last arguments) → Learnt κs lent number (left κs lent last)
      → Answers line number (left κs lent last ≡ lent)

-- the slices that `open` may write, in their order
abbrev pub each : Slices → List (List ℕ)
each s =
    s.trace ∷ s.op_stack ∷ s.ram ∷ s.jump_stack ∷ s.sampled ∷ s.digest ∷ s.input ∷ s.output ∷ s.counts ∷ []

-- Every function of `tealbobbin`, with the line of term 1.
pub record Term1OfCalls : Type 0 where
  pub base_add : Call (word ∷ word ∷ mut ∷ []) (at_exit contracts.tealbobbin_base_add.ended) abi.tealbobbin_base_add.Reads.Asked abi.tealbobbin_base_add.Reads.Learnt
      (1 ∷ 2 ∷ []) (λ a b out. (base_number_into out (base_add a b), base_into out (base_add a b) ∷ []))
  pub base_sub : Call (word ∷ word ∷ mut ∷ []) (at_exit contracts.tealbobbin_base_sub.ended) abi.tealbobbin_base_sub.Reads.Asked abi.tealbobbin_base_sub.Reads.Learnt
      (1 ∷ 2 ∷ []) (λ a b out. (base_number_into out (base_sub a b), base_into out (base_sub a b) ∷ []))
  pub base_mul : Call (word ∷ word ∷ mut ∷ []) (at_exit contracts.tealbobbin_base_mul.ended) abi.tealbobbin_base_mul.Reads.Asked abi.tealbobbin_base_mul.Reads.Learnt
      (1 ∷ 2 ∷ []) (λ a b out. (base_number_into out (base_mul a b), base_into out (base_mul a b) ∷ []))
  pub base_inverse : Call (word ∷ mut ∷ []) (at_exit contracts.tealbobbin_base_inverse.ended) abi.tealbobbin_base_inverse.Reads.Asked abi.tealbobbin_base_inverse.Reads.Learnt
      (1 ∷ 2 ∷ 6 ∷ []) (λ a out. (base_number_into out (base_inverse a), base_into out (base_inverse a) ∷ []))
  pub to_montgomery : Call (word ∷ mut ∷ []) (at_exit contracts.tealbobbin_to_montgomery.ended) abi.tealbobbin_to_montgomery.Reads.Asked abi.tealbobbin_to_montgomery.Reads.Learnt
      (1 ∷ 2 ∷ []) (λ a out. (base_number_into out (to_answer a), base_into out (to_answer a) ∷ []))
  pub from_montgomery : Call (word ∷ mut ∷ []) (at_exit contracts.tealbobbin_from_montgomery.ended) abi.tealbobbin_from_montgomery.Reads.Asked abi.tealbobbin_from_montgomery.Reads.Learnt
      (1 ∷ 2 ∷ []) (λ a out. (base_number_into out (from_answer a), base_into out (from_answer a) ∷ []))
  pub montgomery_add : Call (word ∷ word ∷ mut ∷ []) (at_exit contracts.tealbobbin_montgomery_add.ended) abi.tealbobbin_montgomery_add.Reads.Asked abi.tealbobbin_montgomery_add.Reads.Learnt
      (1 ∷ 2 ∷ []) (λ a b out. (base_number_into out (montgomery_add a b), base_into out (montgomery_add a b) ∷ []))
  pub montgomery_mul : Call (word ∷ word ∷ mut ∷ []) (at_exit contracts.tealbobbin_montgomery_mul.ended) abi.tealbobbin_montgomery_mul.Reads.Asked abi.tealbobbin_montgomery_mul.Reads.Learnt
      (1 ∷ 2 ∷ []) (λ a b out. (base_number_into out (montgomery_mul a b), base_into out (montgomery_mul a b) ∷ []))
  pub montgomery_inverse : Call (word ∷ mut ∷ []) (at_exit contracts.tealbobbin_montgomery_inverse.ended) abi.tealbobbin_montgomery_inverse.Reads.Asked abi.tealbobbin_montgomery_inverse.Reads.Learnt
      (1 ∷ 2 ∷ 6 ∷ []) (λ a out. (base_number_into out (montgomery_inverted a), base_into out (montgomery_inverted a) ∷ []))
  pub element_add : Call (slice ∷ slice ∷ mut ∷ []) (at_exit contracts.tealbobbin_element_add.ended) abi.tealbobbin_element_add.Reads.Asked abi.tealbobbin_element_add.Reads.Learnt
      (1 ∷ 2 ∷ []) (λ a b out. (binary_number element_add a b out, binary_out element_add a b out ∷ []))
  pub element_sub : Call (slice ∷ slice ∷ mut ∷ []) (at_exit contracts.tealbobbin_element_sub.ended) abi.tealbobbin_element_sub.Reads.Asked abi.tealbobbin_element_sub.Reads.Learnt
      (1 ∷ 2 ∷ []) (λ a b out. (binary_number element_sub a b out, binary_out element_sub a b out ∷ []))
  pub element_mul : Call (slice ∷ slice ∷ mut ∷ []) (at_exit contracts.tealbobbin_element_mul.ended) abi.tealbobbin_element_mul.Reads.Asked abi.tealbobbin_element_mul.Reads.Learnt
      (1 ∷ 2 ∷ []) (λ a b out. (binary_number element_mul a b out, binary_out element_mul a b out ∷ []))
  pub element_scale : Call (word ∷ slice ∷ mut ∷ []) (at_exit contracts.tealbobbin_element_scale.ended) abi.tealbobbin_element_scale.Reads.Asked abi.tealbobbin_element_scale.Reads.Learnt
      (1 ∷ 2 ∷ []) (λ k a out. (unary_number (element_scale k) a out, unary_out (element_scale k) a out ∷ []))
  pub element_inverse : Call (slice ∷ mut ∷ []) (at_exit contracts.tealbobbin_element_inverse.ended) abi.tealbobbin_element_inverse.Reads.Asked abi.tealbobbin_element_inverse.Reads.Learnt
      (1 ∷ 2 ∷ 6 ∷ []) (λ a out. (unary_number element_inverse a out, unary_out element_inverse a out ∷ []))
  pub decode : Call (slice ∷ mut ∷ []) (at_exit contracts.tealbobbin_decode.ended) abi.tealbobbin_decode.Reads.Asked abi.tealbobbin_decode.Reads.Learnt
      (1 ∷ 2 ∷ []) (λ row out. (decode_number_into out (decode_answer row), decode_into out (decode_answer row) ∷ []))
  pub challenges : Call (slice ∷ slice ∷ slice ∷ slice ∷ mut ∷ []) (at_exit contracts.tealbobbin_challenges.ended) abi.tealbobbin_challenges.Reads.Asked abi.tealbobbin_challenges.Reads.Learnt
      (1 ∷ 2 ∷ []) (λ sampled digest input output lent.
      (answer_number_of (challenges_answer sampled digest input output lent), challenges_record sampled digest input output lent ∷ []))
  pub scan_maps : Call (mut ∷ word ∷ []) (at_exit contracts.tealbobbin_scan_maps.ended) abi.tealbobbin_scan_maps.Reads.Asked abi.tealbobbin_scan_maps.Reads.Learnt
      (1 ∷ 5 ∷ 2 ∷ []) (λ items chunk. (answer_number_of (scan_answer 6 items chunk), scan_words 6 items chunk (scanned_maps items) ∷ []))
  pub scan_products : Call (mut ∷ word ∷ []) (at_exit contracts.tealbobbin_scan_products.ended) abi.tealbobbin_scan_products.Reads.Asked abi.tealbobbin_scan_products.Reads.Learnt
      (1 ∷ 5 ∷ 2 ∷ []) (λ items chunk. (answer_number_of (scan_answer 3 items chunk), scan_words 3 items chunk (scanned_products items) ∷ []))
  pub scan_sums : Call (mut ∷ word ∷ []) (at_exit contracts.tealbobbin_scan_sums.ended) abi.tealbobbin_scan_sums.Reads.Asked abi.tealbobbin_scan_sums.Reads.Learnt
      (1 ∷ 5 ∷ 2 ∷ []) (λ items chunk. (answer_number_of (scan_answer 3 items chunk), scan_words 3 items chunk (scanned_sums items) ∷ []))
  pub fill : Call (slice ∷ slice ∷ slice ∷ slice ∷ mut ∷ []) (at_exit contracts.tealbobbin_fill.ended) abi.tealbobbin_fill.Reads.Asked abi.tealbobbin_fill.Reads.Learnt
      (1 ∷ 3 ∷ 2 ∷ 4 ∷ []) (λ trace op_stack ram jump_stack table.
      (answer_number_of (fill_answer trace op_stack ram jump_stack table), fill_table trace op_stack ram jump_stack table ∷ []))
  pub pad : Call (mut ∷ word ∷ []) (at_exit contracts.tealbobbin_pad.ended) abi.tealbobbin_pad.Reads.Asked abi.tealbobbin_pad.Reads.Learnt
      (1 ∷ 3 ∷ 2 ∷ []) (λ table table-len. (answer_number_of (pad_answer table table-len), pad_table table table-len ∷ []))
  pub extend : Call (slice ∷ slice ∷ word ∷ mut ∷ mut ∷ []) (at_exit contracts.tealbobbin_extend.ended) abi.tealbobbin_extend.Reads.Asked abi.tealbobbin_extend.Reads.Learnt
      (1 ∷ 3 ∷ 5 ∷ 2 ∷ 6 ∷ []) (λ main challenges chunk aux work.
      (answer_number_of (extend_answer main challenges chunk aux work), extend_aux main challenges chunk aux work ∷ extend_work main challenges chunk aux work ∷ []))
  pub extend_strict : Call (slice ∷ slice ∷ word ∷ mut ∷ mut ∷ []) (at_exit contracts.tealbobbin_extend_strict.ended) abi.tealbobbin_extend_strict.Reads.Asked abi.tealbobbin_extend_strict.Reads.Learnt
      (1 ∷ 3 ∷ 5 ∷ 2 ∷ 11 ∷ 6 ∷ []) (λ main challenges chunk aux work.
      (answer_number_of (strict_answer main challenges chunk aux work), strict_aux main challenges chunk aux work ∷ strict_work main challenges chunk aux work ∷ []))
  pub check : Call (slice ∷ slice ∷ slice ∷ mut ∷ []) (at_exit contracts.tealbobbin_check.ended) abi.tealbobbin_check.Reads.Asked abi.tealbobbin_check.Reads.Learnt
      (1 ∷ 3 ∷ 2 ∷ 6 ∷ []) (λ main challenges offered verdict.
      (check_number_into 1 verdict (check_answer main challenges offered), check_into 1 verdict (check_answer main challenges offered) ∷ []))
  pub check_at : Call (slice ∷ slice ∷ slice ∷ mut ∷ []) (at_exit contracts.tealbobbin_check_at.ended) abi.tealbobbin_check_at.Reads.Asked abi.tealbobbin_check_at.Reads.Learnt
      (1 ∷ 3 ∷ 2 ∷ 6 ∷ []) (λ main challenges offered verdict.
      (check_number_into 3 verdict (check_answer main challenges offered), check_into 3 verdict (check_answer main challenges offered) ∷ []))
  pub open_batch : Call (slice ∷ mut ∷ mut ∷ mut ∷ mut ∷ mut ∷ mut ∷ mut ∷ mut ∷ mut ∷ []) (at_exit contracts.tealbobbin_open.ended) abi.tealbobbin_open.Reads.Asked abi.tealbobbin_open.Reads.Learnt
      (1 ∷ 7 ∷ 8 ∷ 9 ∷ 10 ∷ 3 ∷ 12 ∷ 2 ∷ []) (λ batch trace op_stack ram jump_stack sampled digest input output counts.
      let lent = slices trace op_stack ram jump_stack sampled digest input output counts in
      (answer_number_of (open_into batch lent), each (slices_after batch lent)))
  pub write_batch : Call (slice ∷ slice ∷ slice ∷ slice ∷ slice ∷ slice ∷ slice ∷ slice ∷ word ∷ word ∷ mut ∷ []) (at_exit contracts.tealbobbin_write.ended) abi.tealbobbin_write.Reads.Asked abi.tealbobbin_write.Reads.Learnt
      (1 ∷ 3 ∷ 12 ∷ 2 ∷ []) (λ trace op_stack ram jump_stack sampled digest input output form k batch.
      let contents = contents_of trace op_stack ram jump_stack sampled digest input output k in
      (answer_number_of (write_answer (told_form form) contents (length batch)), write_batch (told_form form) contents batch ∷ []))
  pub terminals : Call (slice ∷ mut ∷ []) (at_exit contracts.tealbobbin_terminals.ended) abi.tealbobbin_terminals.Reads.Asked abi.tealbobbin_terminals.Reads.Learnt
      (1 ∷ 7 ∷ 8 ∷ 9 ∷ 10 ∷ 3 ∷ 12 ∷ 2 ∷ 4 ∷ 6 ∷ []) (λ batch cells. (answer_number_of (terminals_into batch cells), cells_into batch cells ∷ []))
