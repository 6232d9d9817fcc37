-- Term 1: every call of a public operation ends with 0 or a number of the operation's line in documents 01 and 02; after a refusal no lent slice has changed.
-- The operations are those of `tealbobbin`, which `tealbobbin_c` exports. That a call ends is part of each contract, and none has a `requires`; number and slices are the
-- terms that the contracts give: any words, slices of any length.
use Rattle.std.specs.Prelude.{◌≡◌, ◌≢◌, ℕ, length, Result}
use mathlib.Core.List.{List, [], ◌∷◌, Memᴰ}
use Rattle.refusal.specs.Number.{answer_number_of}
use Rattle.refusal.specs.declared.Refusal.{Refusal}
use Rattle.field_base.specs.Answers.{base_add, base_sub, base_mul, base_inverse}
use Rattle.field_montgomery.specs.Answers.{to_answer, from_answer, montgomery_add, montgomery_mul, montgomery_inverted}
use Rattle.field.specs.Answers.{element_add, element_sub, element_mul, element_scale, element_inverse}
use Rattle.field.specs.declared.XFieldElement.{XFieldElement}
use Rattle.isa_decoding.specs.Answer.{decode_answer}
use Rattle.challenges.specs.Derived.{challenges_answer, challenges_record}
use Rattle.scan_steps.specs.Scan.{scanned_maps, scanned_products, scanned_sums}
use Rattle.running_arguments.specs.Answers.{scan_answer, scan_words}
use Rattle.table_fill.specs.Fill.{fill_answer, fill_table}
use Rattle.table_pad.specs.Pad.{pad_answer, pad_table}
use Rattle.extend_answer.specs.Answer.{extend_answer}
use Rattle.extend_answer.specs.Strict.{strict_answer}
use Rattle.extend.specs.Extend.{extend_aux, extend_work, strict_aux, strict_work}
use Rattle.check_columns.specs.Check.{check_answer}
use Rattle.batch_writer.specs.Contents.{Contents}
use Rattle.batch_writer.specs.Write.{write_answer, write_batch}
use Rattle.tealbobbin_answers.specs.Field.{base_number_into, base_into, unary_number, unary_out, binary_number, binary_out}
use Rattle.tealbobbin_answers.specs.Decode.{decode_number_into, decode_into}
use Rattle.tealbobbin_answers.specs.Check.{check_number_into, check_into}
use Rattle.terminals_batch.specs.Into.{terminals_into, cells_into}
use Rattle.tealbobbin_answers.specs.Write.{told_form}
use Rattle.tealbobbin_answers.specs.Open.{Slices, open_into, slices_after}

-- n stands in the list
infix 4 ◌∈◌
abbrev pub ◌∈◌ : ℕ → List ℕ → Type 0
n ∈ ns = Memᴰ n ns

-- an operation's line of refusals, the number of a call, and what it is for the lent slices not to have changed
pub record Answers (line : List ℕ) (number : ℕ) (unchanged : Type 0) : Type 0 where
  pub fixed : number ∈ 0 ∷ line
  pub kept : number ≢ 0 → unchanged

-- an operation on words, on an element and on two, whose result goes into `out`
abbrev pub OnWords : List ℕ → Result ℕ Refusal → Type 0
OnWords line answer = (out : List ℕ) → Answers line (base_number_into out answer) (base_into out answer ≡ out)

abbrev pub OnElement : List ℕ → (XFieldElement → Result XFieldElement Refusal) → Type 0
OnElement line f = (a out : List ℕ) → Answers line (unary_number f a out) (unary_out f a out ≡ out)

abbrev pub OnElements : List ℕ → (XFieldElement → XFieldElement → Result XFieldElement Refusal) → Type 0
OnElements line f = (a b out : List ℕ) → Answers line (binary_number f a b out) (binary_out f a b out ≡ out)

-- a scan of items of `width` words, in place
abbrev pub Scans : List ℕ → ℕ → (List ℕ → List ℕ) → Type 0
Scans line width scanned =
    (items : List ℕ) (chunk : ℕ) → Answers line (answer_number_of (scan_answer width items chunk)) (scan_words width items chunk (scanned items) ≡ items)

-- a check of offered columns, whose verdict goes into n words
abbrev pub Checks : List ℕ → ℕ → Type 0
Checks line n =
    (main challenges offered verdict : List ℕ)
    → Answers line (check_number_into n verdict (check_answer main challenges offered)) (check_into n verdict (check_answer main challenges offered) ≡ verdict)

-- The lines are document 01's, "Refusals by operation", with what document 02 adds. A field operation over slices also answers 1.
pub record Term1 : Type 0 where
  pub base_add : (a b : ℕ) → OnWords (1 ∷ 2 ∷ []) (base_add a b)
  pub base_sub : (a b : ℕ) → OnWords (1 ∷ 2 ∷ []) (base_sub a b)
  pub base_mul : (a b : ℕ) → OnWords (1 ∷ 2 ∷ []) (base_mul a b)
  pub base_inverse : (a : ℕ) → OnWords (1 ∷ 2 ∷ 6 ∷ []) (base_inverse a)
  pub to_montgomery : (a : ℕ) → OnWords (1 ∷ 2 ∷ []) (to_answer a)
  pub from_montgomery : (a : ℕ) → OnWords (1 ∷ 2 ∷ []) (from_answer a)
  pub montgomery_add : (a b : ℕ) → OnWords (1 ∷ 2 ∷ []) (montgomery_add a b)
  pub montgomery_mul : (a b : ℕ) → OnWords (1 ∷ 2 ∷ []) (montgomery_mul a b)
  pub montgomery_inverse : (a : ℕ) → OnWords (1 ∷ 2 ∷ 6 ∷ []) (montgomery_inverted a)
  pub element_add : OnElements (1 ∷ 2 ∷ []) element_add
  pub element_sub : OnElements (1 ∷ 2 ∷ []) element_sub
  pub element_mul : OnElements (1 ∷ 2 ∷ []) element_mul
  pub element_scale : (k : ℕ) → OnElement (1 ∷ 2 ∷ []) (element_scale k)
  pub element_inverse : OnElement (1 ∷ 2 ∷ 6 ∷ []) element_inverse
  pub decode : (row out : List ℕ) → Answers (1 ∷ 2 ∷ []) (decode_number_into out (decode_answer row)) (decode_into out (decode_answer row) ≡ out)
  pub challenges : (sampled digest input output lent : List ℕ)
      → Answers (1 ∷ 2 ∷ []) (answer_number_of (challenges_answer sampled digest input output lent))
      (challenges_record sampled digest input output lent ≡ lent)
  pub scan_maps : Scans (1 ∷ 5 ∷ 2 ∷ []) 6 scanned_maps
  pub scan_products : Scans (1 ∷ 5 ∷ 2 ∷ []) 3 scanned_products
  pub scan_sums : Scans (1 ∷ 5 ∷ 2 ∷ []) 3 scanned_sums
  pub fill : (trace op_stack ram jump_stack table : List ℕ)
      → Answers (1 ∷ 3 ∷ 2 ∷ 4 ∷ []) (answer_number_of (fill_answer trace op_stack ram jump_stack table))
      (fill_table trace op_stack ram jump_stack table ≡ table)
  pub pad : (table : List ℕ) (table-len : ℕ) → Answers (1 ∷ 3 ∷ 2 ∷ []) (answer_number_of (pad_answer table table-len)) (pad_table table table-len ≡ table)
  pub extend : (main challenges : List ℕ) (chunk : ℕ) (aux work : List ℕ)
      → Answers (1 ∷ 3 ∷ 5 ∷ 2 ∷ 6 ∷ []) (answer_number_of (extend_answer main challenges chunk aux work))
      ((extend_aux main challenges chunk aux work ≡ aux) × (extend_work main challenges chunk aux work ≡ work))
  pub extend_strict : (main challenges : List ℕ) (chunk : ℕ) (aux work : List ℕ)
      → Answers (1 ∷ 3 ∷ 5 ∷ 2 ∷ 11 ∷ 6 ∷ []) (answer_number_of (strict_answer main challenges chunk aux work))
      ((strict_aux main challenges chunk aux work ≡ aux) × (strict_work main challenges chunk aux work ≡ work))
  pub check : Checks (1 ∷ 3 ∷ 2 ∷ 6 ∷ []) 1
  pub check_at : Checks (1 ∷ 3 ∷ 2 ∷ 6 ∷ []) 3
  pub open_batch : (batch : List ℕ) (lent : Slices)
      → Answers (1 ∷ 7 ∷ 8 ∷ 9 ∷ 10 ∷ 3 ∷ 12 ∷ 2 ∷ []) (answer_number_of (open_into batch lent)) (slices_after batch lent ≡ lent)
  pub write_batch : (contents : Contents) (form : ℕ) (batch : List ℕ)
      → Answers (1 ∷ 3 ∷ 12 ∷ 2 ∷ []) (answer_number_of (write_answer (told_form form) contents (length batch))) (write_batch (told_form form) contents batch ≡ batch)
  pub terminals : (batch cells : List ℕ)
      → Answers (1 ∷ 7 ∷ 8 ∷ 9 ∷ 10 ∷ 3 ∷ 12 ∷ 2 ∷ 4 ∷ 6 ∷ []) (answer_number_of (terminals_into batch cells)) (cells_into batch cells ≡ cells)
