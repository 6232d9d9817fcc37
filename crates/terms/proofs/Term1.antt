-- Term 1 holds: an answer is the first of its tests, and what a slice holds afterwards goes by cases on the answer.
use mathlib.Core.Path.{◌≡◌, refl}
use mathlib.Core.Bool.{Bool, true, false, cond, not, ◌||◌}
use mathlib.Core.List.Memᴰ
use mathlib.Core.List.{List, [], ◌∷◌, ◌++◌}
use Prim.Native.Nat.{ℕ, zero, suc, ◌*◌, ◌-◌}
use lib.Dec.{T, eqb, ltb}
use lib.ListN.{length, take, drop, replicate}
use Rattle.std.specs.Prelude.{Result, Ok, Err}
use Rattle.refusal.proofs.First.{stands, all_stand, found, listed, number_listed}
use Rattle.refusal.specs.declared.Refusal.{Refusal}
use Rattle.refusal.specs.declared.Refusal.TheVariants.{SliceLength, BatchCutOff}
use Rattle.refusal.specs.Number.{Done, number_of, answer_number_of, on_done}
use Rattle.refusal.specs.Tests.{Tests, ◌when◌, first_or}
use Rattle.field_base.specs.Answers.{word_tests, words_tests, inverse_tests}
use Rattle.field.specs.Answers as answers
use Rattle.field.specs.Answers.{element_add, element_sub, element_mul, element_scale, element_inverse}
use Rattle.field.specs.Element.{element_at}
use Rattle.field.specs.declared.XFieldElement.{XFieldElement}
use Rattle.isa_decoding.specs.Answer.{decode_tests, decode_answer}
use Rattle.challenges.specs.Derived.{challenges_tests, challenges_answer, challenges_record, derived_record}
use Rattle.scan_steps.specs.Scan.{scanned_maps, scanned_products, scanned_sums}
use Rattle.running_arguments.specs.Answers.{scan_tests, scan_answer, scan_words}
use Rattle.table_rows.specs.Rows.{rows, started_chunks}
use Rattle.table_fill.specs.Fill.{multiplicity, filled, fill_tests, fill_answer, fill_table}
use Rattle.table_pad.specs.Pad.{padded, pad_tests, pad_answer, pad_table}
use Rattle.extend_table.specs.Extended.{extended}
use Rattle.extend_answer.specs.Answer.{lengths_test, rows_test, extend_tests, extend_answer}
use Rattle.extend_answer.specs.Strict.{tests_in, strict_answer}
use Rattle.extend.specs.Extend.{extend_aux, extend_work, strict_aux, strict_work}
use Rattle.batch_commands.specs.declared.Seen.{Seen}
use Rattle.air.specs.ChallengeId.{RECORD-WORDS}
use Rattle.batch_commands.specs.Format.{END, width, Command}
use Rattle.batch_commands.specs.Fault.{judged, fault_tests, fault}
use Rattle.batch_reader.specs.Commands.{seen_in}
use Rattle.batch_reader.specs.Reading.{Reading, read, unless, read_from, reading}
use Rattle.batch_reader.specs.Answers.{answer_of}
use Rattle.batch.specs.Open as batch
use Rattle.batch.specs.Lent.{zeros}
use Rattle.batch.specs.Open.{open_answer, open_slice}
use Rattle.batch_reader.specs.declared.Counts.{Counts}
use Rattle.table_pad.specs.Height.{padded_height}
use Rattle.terminals_extended.specs.Extended.{extended_answer}
use Rattle.terminals_cells.specs.Terminals.{after, padded_answer, filled_answer, table_answer, opened_answer, answer_after, terminals_answer, terminals_cells}
use Rattle.terminals_batch.specs.Into.{terminals_into, cells_into}
use Rattle.tealbobbin_answers.specs.Write.{told_form}
use Rattle.batch_writer.specs.Layout.{batch_of}
use Rattle.batch_writer.specs.Write.{write_tests, write_answer, write_batch}
use Rattle.tealbobbin_answers.specs.Field.{is_word, is_element, base_written, element_written, element_number_into, element_into, unary_number, unary_out}
use Rattle.tealbobbin_answers.specs.Open.{Slices, open_into, slices_by}
use Rattle.tealbobbin_answers.specs.Check.{check_written}
use Rattle.tealbobbin_answers.specs.Decode.{answer_words}
use Rattle.check_relations.specs.First.{verdict}
use Rattle.check_columns.specs.Check.{check_tests, check_answer}
use Rattle.terms.specs.Term1.{◌∈◌, Answers, OnWords, OnElement, OnElements, Scans, Checks, Term1}

-- a refusal of the line
standing : {line : List ℕ} (r : Refusal) → T (stands line (number_of r)) → number_of r ∈ 0 ∷ line
standing {line} r t = Memᴰ.tail (found line t)

zero_listed : {line : List ℕ} → 0 ∈ 0 ∷ line
zero_listed = Memᴰ.head refl

chosen : {A : Type 0} {ns : List ℕ} (number : A → ℕ) (test : Bool) (a b : A) → number a ∈ ns → number b ∈ ns → number (cond test a b) ∈ ns
chosen number true a b f g = f
chosen number false a b f g = g

-- an answer by tests whose refusals are of the line
by_tests : {A : Type 0} {line : List ℕ} (tests : Tests) → T (all_stand (0 ∷ line) tests) → (last : Result A Refusal) → answer_number_of last ∈ 0 ∷ line
    → answer_number_of (first_or Err tests last) ∈ 0 ∷ line
by_tests {line} tests t last f = number_listed Err answer_number_of (λ r. refl) tests last (listed (0 ∷ line) tests t) f

answered : {A : Type 0} {line : List ℕ} (tests : Tests) → T (all_stand (0 ∷ line) tests) → (a : A) → answer_number_of (first_or Err tests (Ok a)) ∈ 0 ∷ line
answered tests t a = by_tests tests t (Ok a) zero_listed

refused : {line : List ℕ} {number : ℕ} {unchanged : Type 0} → number ∈ 0 ∷ line → unchanged → Answers line number unchanged
refused f u = record { fixed = f; kept = λ ne. u }

-- past a success nothing is asked of the slices
kept_on_refusal : {A : Type 0} {line : List ℕ} (unchanged : Result A Refusal → Type 0) → ((r : Refusal) → unchanged (Err r))
    → (answer : Result A Refusal) → answer_number_of answer ∈ 0 ∷ line → Answers line (answer_number_of answer) (unchanged answer)
kept_on_refusal unchanged after (Ok a) f = record { fixed = f; kept = λ ne. absurd (ne refl) }
kept_on_refusal unchanged after (Err r) f = refused f (after r)

-- a slice of the wrong length brings 1
guarded : {line : List ℕ} (right : Bool) (number : ℕ) (after out : List ℕ) → T (stands line 1) → Answers line number (after ≡ out)
    → Answers line (cond right number 1) (cond right after out ≡ out)
guarded true number after out t a = a
guarded false number after out t a = refused (standing SliceLength t) refl

on_words : {line : List ℕ} (tests : Tests) (w : ℕ) → T (stands line 1) → T (all_stand (0 ∷ line) tests) → OnWords line (first_or Err tests (Ok w))
on_words tests w t l out =
    let answer = first_or Err tests (Ok w) in
    guarded (is_word out) (answer_number_of answer) (base_written out answer) out t
    (kept_on_refusal (λ a. base_written out a ≡ out) (λ r. refl) answer (answered tests l w))

on_element : {line : List ℕ} (f : XFieldElement → Result XFieldElement Refusal) → T (stands line 1) → ((e : XFieldElement) → answer_number_of (f e) ∈ 0 ∷ line) → OnElement line f
on_element f t fixed a out =
    let answer = f (element_at a 0) in
    guarded (is_element a) (element_number_into out answer) (element_into out answer) out t
    (guarded (is_element out) (answer_number_of answer) (element_written out answer) out t
    (kept_on_refusal (λ b. element_written out b ≡ out) (λ r. refl) answer (fixed (element_at a 0))))

on_elements : {line : List ℕ} (f : XFieldElement → XFieldElement → Result XFieldElement Refusal) → T (stands line 1)
    → ((d e : XFieldElement) → answer_number_of (f d e) ∈ 0 ∷ line) → OnElements line f
on_elements f t fixed a b out =
    let g = f (element_at a 0) in
    guarded (is_element a) (unary_number g b out) (unary_out g b out) out t (on_element g t (fixed (element_at a 0)) b out)

checks : (n : ℕ) → Checks (1 ∷ 3 ∷ 2 ∷ 6 ∷ []) n
unfolding check_answer
checks n main challenges offered out =
    let answer = check_answer main challenges offered in
    guarded (eqb (length out) n) (answer_number_of answer) (check_written n out answer) out tt
    (kept_on_refusal (λ a. check_written n out a ≡ out) (λ r. refl) answer (answered (check_tests main challenges offered) tt (verdict challenges main offered)))

-- operations whose success has no value
into_slice : {line : List ℕ} (answer : Result (Unit {0}) Refusal) → answer_number_of answer ∈ 0 ∷ line → (result slice : List ℕ)
    → Answers line (answer_number_of answer) (on_done answer result slice ≡ slice)
into_slice answer f result slice = kept_on_refusal (λ a. on_done a result slice ≡ slice) (λ r. refl) answer f

two_slices : {line : List ℕ} (answer : Result (Unit {0}) Refusal) → answer_number_of answer ∈ 0 ∷ line → (r₁ s₁ r₂ s₂ : List ℕ)
    → Answers line (answer_number_of answer) ((on_done answer r₁ s₁ ≡ s₁) × (on_done answer r₂ s₂ ≡ s₂))
two_slices answer f r₁ s₁ r₂ s₂ = kept_on_refusal (λ a. (on_done a r₁ s₁ ≡ s₁) × (on_done a r₂ s₂ ≡ s₂)) (λ r. (refl, refl)) answer f

scans : (width : ℕ) (scanned : List ℕ → List ℕ) → Scans (1 ∷ 5 ∷ 2 ∷ []) width scanned
unfolding scan_answer scan_words
scans width scanned items chunk = into_slice (scan_answer width items chunk) (answered (scan_tests width items chunk) tt tt) (scanned items) items

abbrev read_number : Reading → ℕ
read_number r = answer_number_of (answer_of r)

-- the refusals of a batch's commands
module _ (line : List ℕ) (t : (seen : Seen) (code : ℕ) (bytes : List ℕ) → T (all_stand (0 ∷ line) (fault_tests seen code bytes))) (cut_off : 8 ∈ 0 ∷ line) where
  command : (seen : Seen) (code : ℕ) (bytes : List ℕ) → answer_number_of (fault seen code bytes) ∈ 0 ∷ line
  unfolding fault judged
  command seen code bytes = answered (fault_tests seen code bytes) (t seen code bytes) tt

  unless_refused : (answer : Result (Unit {0}) Refusal) (next : Reading) → answer_number_of answer ∈ 0 ∷ line → read_number next ∈ 0 ∷ line → read_number (unless answer next) ∈ 0 ∷ line
  unless_refused (Ok u) next f g = g
  unless_refused (Err r) next f g = f

  batch_read : (n : ℕ) (before : List Command) (bytes : List ℕ) → read_number (read_from n before bytes) ∈ 0 ∷ line
  unfolding read_from
  batch_read zero before bytes = cut_off
  batch_read (suc n) before [] = cut_off
  batch_read (suc n) before (code ∷ bytes) =
      let next = before ++ (record { code = code; operand = take (width code) bytes } ∷ []) in
      let rest = read_from n next (drop (width code) bytes) in
      unless_refused (fault (seen_in before) code bytes) (cond (eqb code END) (read before) rest)
      (command (seen_in before) code bytes)
      (chosen read_number (eqb code END) (read before) rest zero_listed (batch_read n next (drop (width code) bytes)))

-- one operation after the other: open, challenges, fill, pad and extend, whose chunk length 4 is not 0
abbrev terminals_line : List ℕ
terminals_line = 1 ∷ 7 ∷ 8 ∷ 9 ∷ 10 ∷ 3 ∷ 12 ∷ 2 ∷ 4 ∷ 6 ∷ []

abbrev Ends : Result (Unit {0}) Refusal → Type 0
Ends answer = answer_number_of answer ∈ 0 ∷ terminals_line

in_turn : (a b : Result (Unit {0}) Refusal) → Ends a → Ends b → Ends (after a b)
in_turn (Ok u) b f g = g
in_turn (Err refusal) b f g = f

module _ (record-words : List ℕ) where
  extended_ends : (main : List ℕ) → Ends (extended_answer main record-words)
  unfolding extended_answer extend_answer
  extended_ends main =
      let aux = zeros (rows main * 33) in
      answered (lengths_test main record-words aux ∷ rows_test main ∷ drop 3 (extend_tests main record-words 4 aux (zeros (started_chunks (rows main) 4 * 6)))) tt tt

  padded_ends : (table : List ℕ) (len : ℕ) → Ends (padded_answer table len record-words)
  unfolding padded_answer pad_answer
  padded_ends table len = in_turn (pad_answer table len) (extended_answer (pad_table table len) record-words) (answered (pad_tests table len) tt tt) (extended_ends (pad_table table len))

  table_ends : (k : ℕ) (trace op_stack ram jump_stack : List ℕ) → Ends (table_answer k trace op_stack ram jump_stack record-words)
  unfolding table_answer filled_answer fill_answer
  table_ends k trace op_stack ram jump_stack =
      let table = zeros (padded_height k (rows trace) * 39) in
      let filled-table = fill_table trace op_stack ram jump_stack table in
      in_turn (fill_answer trace op_stack ram jump_stack table) (padded_answer filled-table (rows trace) record-words)
      (answered (fill_tests trace op_stack ram jump_stack table) tt tt) (padded_ends filled-table (rows trace))

opened_ends : (counts : Counts) (trace op_stack ram jump_stack sampled digest input output : List ℕ) → Ends (opened_answer counts trace op_stack ram jump_stack sampled digest input output)
unfolding opened_answer challenges_answer
opened_ends counts trace op_stack ram jump_stack sampled digest input output =
    let read-words = take counts.input input in
    let wrote = take counts.output output in
    let lent = zeros RECORD-WORDS in
    let derived = challenges_record sampled digest read-words wrote lent in
    let rows-sent = take (counts.rows * 39) trace in
    let o = take counts.op_stack op_stack in
    let r = take counts.ram ram in
    let j = take counts.jump_stack jump_stack in
    in_turn (challenges_answer sampled digest read-words wrote lent) (table_answer counts.log2_height rows-sent o r j derived)
    (answered (challenges_tests sampled digest read-words wrote lent) tt tt) (table_ends derived counts.log2_height rows-sent o r j)

after_open : (a : Result Counts Refusal) (bytes : List ℕ) → answer_number_of a ∈ 0 ∷ terminals_line → Ends (answer_after a bytes)
after_open (Err refusal) bytes f = f
after_open (Ok counts) bytes f = opened_ends counts _ _ _ _ _ _ _ _

terminals_end : (bytes : List ℕ) → Ends (terminals_answer bytes)
unfolding terminals_answer open_answer reading
terminals_end bytes =
    after_open (open_answer bytes 1248 128 128 128 177 5 64 64) bytes
    (by_tests ((SliceLength when ltb batch.MAX-BYTES (length bytes) || false) ∷ []) tt
    (answer_of (reading bytes)) (batch_read _ (λ seen code rest. tt) (standing BatchCutOff tt) (length bytes) [] bytes))

open_kept : {line : List ℕ} (bytes : List ℕ) (lent : Slices) (answer : Result Counts Refusal) → answer_number_of answer ∈ 0 ∷ line
    → Answers line (answer_number_of answer) (slices_by answer bytes lent ≡ lent)
unfolding open_slice
open_kept bytes lent answer f = kept_on_refusal (λ a. slices_by a bytes lent ≡ lent) (λ r. refl) answer f

pub term1 : Term1
unfolding decode_answer challenges_answer challenges_record fill_answer fill_table pad_answer pad_table extend_answer extend_aux extend_work strict_answer strict_aux strict_work open_into open_answer reading write_answer write_batch terminals_into cells_into
term1 =
    record {
      base_add = λ a b. on_words (words_tests a b) _ tt tt;
      base_sub = λ a b. on_words (words_tests a b) _ tt tt;
      base_mul = λ a b. on_words (words_tests a b) _ tt tt;
      base_inverse = λ a. on_words (inverse_tests a) _ tt tt;
      to_montgomery = λ a. on_words (word_tests a) _ tt tt;
      from_montgomery = λ a. on_words (word_tests a) _ tt tt;
      montgomery_add = λ a b. on_words (words_tests a b) _ tt tt;
      montgomery_mul = λ a b. on_words (words_tests a b) _ tt tt;
      montgomery_inverse = λ a. on_words (inverse_tests a) _ tt tt;
      element_add = on_elements element_add tt (λ d e. answered (answers.elements_tests d e) tt _);
      element_sub = on_elements element_sub tt (λ d e. answered (answers.elements_tests d e) tt _);
      element_mul = on_elements element_mul tt (λ d e. answered (answers.elements_tests d e) tt _);
      element_scale = λ k. on_element (element_scale k) tt (λ e. answered (answers.scale_tests k e) tt _);
      element_inverse = on_element element_inverse tt (λ e. answered (answers.inverse_tests e) tt _);
      decode = λ row out.
          guarded (eqb (length out) 2) (answer_number_of (decode_answer row)) (answer_words (decode_answer row) out) out tt
          (kept_on_refusal (λ a. answer_words a out ≡ out) (λ r. refl) (decode_answer row) (answered (decode_tests row) tt _));
      challenges = λ sampled digest input output lent.
          into_slice (challenges_answer sampled digest input output lent)
          (answered (challenges_tests sampled digest input output lent) tt tt)
          (derived_record sampled digest input output) lent;
      scan_maps = scans 6 scanned_maps;
      scan_products = scans 3 scanned_products;
      scan_sums = scans 3 scanned_sums;
      fill = λ trace op_stack ram jump_stack table.
          into_slice (fill_answer trace op_stack ram jump_stack table)
          (answered (fill_tests trace op_stack ram jump_stack table) tt tt)
          (filled trace (multiplicity op_stack ram jump_stack) table) table;
      pad = λ table len.
          into_slice (pad_answer table len)
          (answered (pad_tests table len) tt tt)
          (padded table len) table;
      check = checks 1;
      check_at = checks 3;
      extend = λ main challenges chunk aux work.
          two_slices (extend_answer main challenges chunk aux work) (answered (extend_tests main challenges chunk aux work) tt tt)
          (extended main challenges) aux (replicate (length work) 0) work;
      extend_strict = λ main challenges chunk aux work.
          two_slices (strict_answer main challenges chunk aux work) (answered (tests_in true main challenges chunk aux work) tt tt)
          (extended main challenges) aux (replicate (length work) 0) work;
      open_batch = λ bytes lent.
          let answer = open_answer bytes (length lent.trace) (length lent.op_stack) (length lent.ram) (length lent.jump_stack) (length lent.sampled)
          (length lent.digest) (length lent.input) (length lent.output) in
          let lengths = batch.right_lengths (length lent.trace) (length lent.op_stack) (length lent.ram) (length lent.jump_stack) (length lent.sampled)
          (length lent.digest) (length lent.input) (length lent.output) in
          open_kept bytes lent
          (cond (eqb (length lent.counts) 7) answer (Err SliceLength))
          (chosen answer_number_of (eqb (length lent.counts) 7) answer (Err SliceLength)
          (by_tests ((SliceLength when ltb batch.MAX-BYTES (length bytes) || not lengths) ∷ []) tt
          (answer_of (reading bytes)) (batch_read _ (λ seen code rest. tt) (standing BatchCutOff tt) (length bytes) [] bytes))
          (standing SliceLength tt));
      write_batch = λ contents form bytes.
          into_slice (write_answer (told_form form) contents (length bytes))
          (answered (write_tests (told_form form) contents (length bytes)) tt tt)
          (batch_of (told_form form) contents) bytes;
      terminals = λ bytes cells.
          into_slice (terminals_into bytes cells)
          (chosen answer_number_of (eqb (length cells) 33) (terminals_answer bytes) (Err SliceLength) (terminals_end bytes) (standing SliceLength tt))
          (terminals_cells bytes) cells;
    }
