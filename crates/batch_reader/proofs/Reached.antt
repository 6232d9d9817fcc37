-- Where the reader stands: what it remembers is what the commands so far say, and what follows decides.
use mathlib.Core.Path.{◌≡◌, refl, sym, ap, ◌∙◌}
use mathlib.Core.List.{List, [], ◌∷◌, ◌++◌}
use Prim.Native.Nat.{ℕ, zero, suc, ◌+◌, ◌≤◌, ◌<◌}
use native.Mathlib.Numerals.{add-one}
use native.Mathlib.Omega.{arith}
use lib.ListN.{length, drop, get_or, length-drop}
use lib.Seq.{drop-cons}
use Rattle.batch_commands.specs.Format.{END, width, Command, rank, key}
use Rattle.batch_commands.specs.Fault.{fault}
use Rattle.batch_commands.proofs.Tables.{key_within}
use Rattle.batch_commands.specs.declared.Seen.{Seen}
use Rattle.batch_reader.specs.Commands.{count, counts, announced, height_of, highest_rank, last_key, seen_in}
use Rattle.batch_reader.specs.Reading.{read_from, reading}
use Rattle.batch_reader.specs.Answers.{counts_in, answer_of}
use Rattle.batch_reader.specs.Steps.{seen_nothing, seen_past, step_by, step_of}
use Rattle.batch_reader.proofs.Commands.{counts_one, count_at, highest_one, last_key_lem}
use Rattle.batch_reader.proofs.Passing.{Passes, passing}
use Rattle.batch_reader.proofs.Faults.{stopped, ended, went}
use Rattle.batch_reader.proofs.Ordered.{not_before}
use Rattle.batch_reader.proofs.Readings.{command_at, fault_at, past_at, Along, at_start, nothing_left, goes_on}
use Rattle.batch_reader.proofs.Bounds.{Bounded, none_bounded, announced_next, bounded_next, height_next, count_small}
use Rattle.std.specs.Prelude.{Some, None, Ok, Err}
use Rattle.refusal.specs.declared.Refusal.{Refusal}
use Rattle.refusal.specs.Number.{Done}

pub record Reached (batch : List ℕ) (seen : Seen) (at : ℕ) : Type 0 where
  pub before : List Command
  pub along : Along batch at before
  pub bounded : Bounded before
  pub seen_is : seen ≡ seen_in before

pub nothing_read : (batch : List ℕ) → Reached batch seen_nothing 0
unfolding count height_of highest_rank last_key
nothing_read batch = record { before = []; along = at_start batch; bounded = none_bounded; seen_is = refl }

-- a step that refuses answers what the definition does
refused_at : (fuel : ℕ) (before : List Command) (bytes : List ℕ) (r : Refusal) → length bytes ≤ fuel → step_of (seen_in before) bytes ≡ Err r → Err r ≡ answer_of (read_from fuel before bytes)
unfolding read_from
refused_at fuel before [] r h e = rw (nothing_left fuel before) (cc)
refused_at zero before (code ∷ bytes) r h e = absurd (omega arith)
refused_at (suc n) before (code ∷ bytes) r h e = stopped (fault (seen_in before) code bytes) code _ r e

-- and so does the last
ends_at : (fuel : ℕ) (before : List Command) (bytes : List ℕ) → length bytes ≤ fuel → step_of (seen_in before) bytes ≡ Ok None → Ok (counts_in (counts before) (height_of before)) ≡ answer_of (read_from fuel before bytes)
unfolding read_from
ends_at fuel before [] h e = cc
ends_at zero before (code ∷ bytes) h e = absurd (omega arith)
ends_at (suc n) before (code ∷ bytes) h e = ended (fault (seen_in before) code bytes) code before _ e

next_some : (seen : Seen) (bytes : List ℕ) (k : ℕ) → step_of seen bytes ≡ Ok (Some k) → 0 < length bytes
next_some seen [] k e = let z : ◌≡◌ {A = ℕ} 0 1 = cc in omega arith
next_some seen (code ∷ bytes) k e = omega arith

module _ (batch : List ℕ) (seen : Seen) (at : ℕ) (r : Reached batch seen at) where
  abbrev code : ℕ
  code = get_or batch at 0

  abbrev bytes : List ℕ
  bytes = drop (at + 1) batch

  pub refused_there : (refusal : Refusal) → step_of seen (drop at batch) ≡ Err refusal → Err refusal ≡ answer_of (reading batch)
  refused_there refusal e = refused_at r.along.fuel r.before (drop at batch) refusal (rw (length-drop at batch) r.along.enough) (rw r.seen_is at e) ∙ sym (ap answer_of r.along.rest)

  pub ended_there : step_of seen (drop at batch) ≡ Ok None → Ok (counts_in seen.came seen.log2_height) ≡ answer_of (reading batch)
  ended_there e = rw r.seen_is (ends_at r.along.fuel r.before (drop at batch) (rw (length-drop at batch) r.along.enough) (rw r.seen_is at e) ∙ sym (ap answer_of r.along.rest))

  module _ (k : ℕ) (next : step_of seen (drop at batch) ≡ Ok (Some k)) where
    here : at < length batch
    here = omega (arith, next_some seen (drop at batch) k next, length-drop at batch)

    -- the step is by the fault that the definition finds
    on : (fault_at batch at r.before ≡ Done) × (code ≡ k) × (code ≡ END → ⊥)
    on =
        let e : step_of seen (drop at batch) ≡ step_by (fault seen code bytes) code = rw (drop-cons batch at 0 here, add-one) in
        went (fault_at batch at r.before) code k (rw r.seen_is at (sym e ∙ next))

    passed : Passes (seen_in r.before) code bytes
    passed = passing (seen_in r.before) code bytes on.0

    pub whole : at + 1 + width k ≤ length batch
    whole = let h = here in rw (sym on.1) (omega (arith, passed.whole, length-drop (at + 1) batch))

    came_at : get_or seen.came code 0 ≡ count code r.before
    came_at = rw r.seen_is (count_at r.before code passed.known)

    pub came_few : get_or seen.came k 0 ≤ 128
    came_few = rw (sym on.1) (rw came_at (count_small r.before r.bounded code passed.known))

    seen_next : seen_past seen code bytes ≡ seen_in (r.before ++ (command_at batch at ∷ []))
    seen_next =
        let n : (seen_past seen code bytes).rows ≡ announced (r.before ++ (command_at batch at ∷ [])) = rw r.seen_is (sym (announced_next code bytes r.before r.bounded passed)) in
        let h : (seen_past seen code bytes).log2_height ≡ height_of (r.before ++ (command_at batch at ∷ [])) = rw r.seen_is (sym (height_next code bytes r.before passed)) in
        let m : (seen_past seen code bytes).came ≡ counts (r.before ++ (command_at batch at ∷ [])) = rw (came_at, r.seen_is) (sym (counts_one r.before (command_at batch at) passed.known)) in
        let b = not_before (highest_rank r.before) (last_key 0 r.before) (rank code) (key code bytes) passed.in_order in
        let k : (seen_past seen code bytes).rank ≡ highest_rank (r.before ++ (command_at batch at ∷ [])) = omega (arith, b.0, highest_one r.before (command_at batch at)) in
        let l : (seen_past seen code bytes).key ≡ last_key 0 (r.before ++ (command_at batch at ∷ [])) = sym (last_key_lem 0 r.before (command_at batch at) ∙ key_within code bytes passed.known) in
        λ i. record { rows = n i; log2_height = h i; came = m i; rank = k i; key = l i }

    reached_past : Reached batch (seen_past seen code bytes) (past_at batch at)
    reached_past =
        record {
          before = r.before ++ (command_at batch at ∷ []);
          along = goes_on batch at r.before r.along here on.0 on.2;
          bounded = bounded_next code bytes r.before on.0 r.bounded;
          seen_is = seen_next;
        }

    pub reached_next : Reached batch (seen_past seen k bytes) (at + 1 + width k)
    reached_next = rw on.1 at reached_past
