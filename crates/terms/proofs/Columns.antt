-- The statements of specs/Columns.antt, proved: the columns' lists are tested one by one.
use mathlib.Core.Path.{subst}
use mathlib.Core.Logic.{◌≢◌}
use mathlib.Core.Bool.{not}
use Prim.Native.Nat.{ℕ, ◌<◌}
use lib.Dec.{T, ltb, eqb, ltb→lt, eqb_refl, T_not}
use Rattle.air.specs.ChallengeId.{SAMPLE-COUNT}
use Rattle.column_entries.specs.Columns.{Column, input, output, instruction, op_stack, ram, jump_stack, hash_input, hash_digest, sponge, u32, clock, indeterminate_of, weights_of}
use Rattle.terms.specs.Columns.{Sampled, AllSampled}
use Rattle.terms.proofs.Tests.{every, every_all}

differs : (m n : ℕ) → T (not (eqb m n)) → m ≢ n
differs m n t e = T_not (eqb m n) t (subst (λ (k : ℕ). T (eqb m k)) e (eqb_refl m))

tested : (c : Column) → T (ltb (indeterminate_of c) SAMPLE-COUNT) → T (every (λ j. ltb j SAMPLE-COUNT) (weights_of c)) → T (every (λ j. not (eqb j (indeterminate_of c))) (weights_of c)) → Sampled c
tested c s t u =
    record {
      own_sampled = ltb→lt (indeterminate_of c) SAMPLE-COUNT s;
      weights_sampled = every_all (λ j. ltb j SAMPLE-COUNT) (λ j. j < SAMPLE-COUNT) (λ j h. ltb→lt j SAMPLE-COUNT h) (weights_of c) t;
      weights_other = every_all (λ j. not (eqb j (indeterminate_of c))) (λ j. j ≢ indeterminate_of c) (λ j h. differs j (indeterminate_of c) h) (weights_of c) u;
    }

pub all_sampled : AllSampled
all_sampled input = tested input tt tt tt
all_sampled output = tested output tt tt tt
all_sampled instruction = tested instruction tt tt tt
all_sampled op_stack = tested op_stack tt tt tt
all_sampled ram = tested ram tt tt tt
all_sampled jump_stack = tested jump_stack tt tt tt
all_sampled hash_input = tested hash_input tt tt tt
all_sampled hash_digest = tested hash_digest tt tt tt
all_sampled sponge = tested sponge tt tt tt
all_sampled u32 = tested u32 tt tt tt
all_sampled clock = tested clock tt tt tt
