-- What a batch that opens leaves in the slices up to the counts: what its commands bring.
use mathlib.Core.Path.{◌≡◌, refl, ap, ◌∙◌}
use mathlib.Core.Bool.{Bool, true, false, cond, not, ◌||◌}
use mathlib.Core.List.{List, [], ◌∷◌, ◌++◌, append-nil}
use Prim.Native.Nat.{ℕ, ◌*◌, ◌≤◌}
use native.Mathlib.Omega.{arith}
use lib.Dec.{eqb, ltb, lit<}
use lib.ListN.{length, take, drop, drop_of_length-le}
use lib.Seq.{take_at}
use borrow.Author.Tests.{ltb-false, eqb-true, not-false}
use Rattle.std.proofs.lemmas.Bool.{or_parts}
use Rattle.std.specs.Prelude.{Result, Ok, Err}
use Rattle.refusal.specs.declared.Refusal.{Refusal}
use Rattle.air.specs.MainColumn.{MAIN-WIDTH}
use Rattle.air.specs.ChallengeId.{SAMPLED-WORDS, DIGEST-WORDS}
use Rattle.batch_commands.specs.Format.{MAX-DIFFERENCES, MAX-WORDS, ROW, OP-STACK, RAM, JUMP-STACK, SAMPLED, DIGEST, INPUT, OUTPUT, Command}
use Rattle.batch_reader.specs.declared.Counts.{Counts}
use Rattle.batch_reader.specs.Commands.{counts, height_of, slice_from}
use Rattle.batch_reader.specs.Reading.{Reading, read, refused, reading}
use Rattle.batch_reader.specs.Answers.{counts_in, answer_of, brought}
use Rattle.batch_reader.proofs.Commands.{length-contents}
use Rattle.batch_reader.proofs.Rows.{length-rows}
use Rattle.batch.specs.Open.{MAX-BYTES, TRACE-WORDS, right_lengths, open_answer, open_slice}
use Rattle.batch_writer.specs.Contents.{Contents}
use Rattle.terms_batches.specs.Opening.{opened, slices_after, up_to}
use Rattle.terms_batches.specs.Written.{RightSlices}
use Rattle.terms_batches.proofs.Conjunctions.{all_true}
use Rattle.terms_batches.proofs.Canonical.{contents_in}
use Rattle.terms_batches.proofs.Sound.{sound}

opens : (refuse : Bool) (r : Refusal) (rest : Result Counts Refusal) (came : Counts) → cond refuse (Err r) rest ≡ Ok came → (refuse ≡ false) × (rest ≡ Ok came)
opens true r rest came e = (cc, cc)
opens false r rest came e = (refl, e)

-- the commands of a batch that opens
pub record Opens (batch : List ℕ) (lent : Contents) (came : Counts) : Type 0 where
  pub ks : List Command
  pub is_read : reading batch ≡ read ks
  pub came_is : came ≡ counts_in (counts ks) (height_of ks)
  pub right : RightSlices lent
  pub short : length batch ≤ MAX-BYTES

answers : (r : Reading) (came : Counts) → answer_of r ≡ Ok came → (ks : List Command) × (r ≡ read ks) × (came ≡ counts_in (counts ks) (height_of ks))
answers (read ks) came e = (ks, refl, cc)
answers (refused r) came e = ([], cc, cc)

-- the two slices that are filled whole
whole_lengths : (trace op_stack ram jump_stack sampled digest input output : List ℕ)
    → right_lengths (length trace) (length op_stack) (length ram) (length jump_stack) (length sampled) (length digest) (length input) (length output) ≡ true
    → (length sampled ≡ SAMPLED-WORDS) × (length digest ≡ DIGEST-WORDS)
whole_lengths trace op_stack ram jump_stack sampled digest input output right =
    let h = all_true (eqb (length trace) TRACE-WORDS) (eqb (length op_stack) MAX-DIFFERENCES ∷ eqb (length ram) MAX-DIFFERENCES ∷ eqb (length jump_stack) MAX-DIFFERENCES ∷ eqb (length sampled) SAMPLED-WORDS
    ∷ eqb (length digest) DIGEST-WORDS ∷ eqb (length input) MAX-WORDS ∷ eqb (length output) MAX-WORDS ∷ []) right in
    (eqb-true (length sampled) SAMPLED-WORDS h.1.1.1.1.0, eqb-true (length digest) DIGEST-WORDS h.1.1.1.1.1.0)

module _ (batch : List ℕ) (lent : Contents) (came : Counts) (e : opened batch lent ≡ Ok came) where
  pub opening : Opens batch lent came
  unfolding open_answer
  opening =
      let o = opens (ltb MAX-BYTES (length batch) || not (right_lengths (length lent.trace) (length lent.op_stack) (length lent.ram) (length lent.jump_stack) (length lent.sampled) (length lent.digest) (length lent.input) (length lent.output))) _ (answer_of (reading batch)) came e in
      let t = or_parts (ltb MAX-BYTES (length batch)) _ o.0 in
      let a = answers (reading batch) came o.1 in
      record { ks = a.0; is_read = a.1; came_is = a.2; right = not-false _ t.1; short = ltb-false MAX-BYTES (length batch) t.0 }

  abbrev o : Opens batch lent came
  o = opening

  slice_is : (code : ℕ) (slice : List ℕ) → open_slice (opened batch lent) code batch slice ≡ slice_from code o.ks ++ drop (length (slice_from code o.ks)) slice
  unfolding open_slice brought
  slice_is code slice = rw (e, o.is_read)

  up_to_lem : (code n : ℕ) (slice : List ℕ) → length (slice_from code o.ks) ≡ n → take n (open_slice (opened batch lent) code batch slice) ≡ slice_from code o.ks
  up_to_lem code n slice l = rw (slice_is code slice) (take_at (slice_from code o.ks) (drop (length (slice_from code o.ks)) slice) n l)

  whole : (code : ℕ) (slice : List ℕ) → length slice ≡ length (slice_from code o.ks) → open_slice (opened batch lent) code batch slice ≡ slice_from code o.ks
  whole code slice l = slice_is code slice ∙ rw (drop_of_length-le slice {i = length (slice_from code o.ks)} (omega arith)) (append-nil (slice_from code o.ks))

  pub left_in_slices : up_to came (slices_after batch lent) ≡ contents_in o.ks
  left_in_slices =
      let ks = o.ks in
      let s = sound batch ks o.is_read in
      let lengths = whole_lengths lent.trace lent.op_stack lent.ram lent.jump_stack lent.sampled lent.digest lent.input lent.output o.right in
      let trace = up_to_lem ROW (came.rows * MAIN-WIDTH) lent.trace (omega (arith, length-rows ks, ap (λ c. c.rows) o.came_is)) in
      let op_stack = up_to_lem OP-STACK came.op_stack lent.op_stack (omega (arith, length-contents OP-STACK ks, ap (λ c. c.op_stack) o.came_is)) in
      let ram = up_to_lem RAM came.ram lent.ram (omega (arith, length-contents RAM ks, ap (λ c. c.ram) o.came_is)) in
      let jump_stack = up_to_lem JUMP-STACK came.jump_stack lent.jump_stack (omega (arith, length-contents JUMP-STACK ks, ap (λ c. c.jump_stack) o.came_is)) in
      let sampled = whole SAMPLED lent.sampled (omega (arith, lengths.0, length-contents SAMPLED ks, s.sampled, s.within SAMPLED (lit< tt))) in
      let digest = whole DIGEST lent.digest (omega (arith, lengths.1, length-contents DIGEST ks, s.digest, s.within DIGEST (lit< tt))) in
      let input = up_to_lem INPUT came.input lent.input (omega (arith, length-contents INPUT ks, ap (λ c. c.input) o.came_is)) in
      let output = up_to_lem OUTPUT came.output lent.output (omega (arith, length-contents OUTPUT ks, ap (λ c. c.output) o.came_is)) in
      let log2_height = ap (λ c. c.log2_height) o.came_is in
      λ i. record { trace = trace i; op_stack = op_stack i; ram = ram i; jump_stack = jump_stack i; sampled = sampled i; digest = digest i; input = input i; output = output i; log2_height = log2_height i }
