-- Every entry of a table whose words are below p is canonical: a weighed entry is a sum or zero, and the others are words of the table.
use mathlib.Core.Path.{◌≡◌}
use mathlib.Core.Bool.{true, cond, ◌||◌}
use mathlib.Core.List.{List, [], ◌∷◌, map, reverse}
use Prim.Native.Nat.{ℕ, zero, suc, ◌*◌, ◌<◌}
use lib.Dec.{eqb, lit<}
use lib.ListN.{get_or, drop}
use Rattle.std.specs.Prelude.{Result, Ok, Err}
use Rattle.algebra.specs.Modulus.{p}
use Rattle.algebra.specs.Polynomial.{All}
use Rattle.field_base.specs.Words.{all_below}
use Rattle.field_base.proofs.Below.{first_below}
use Rattle.field.specs.Element.{Canonical, lift}
use Rattle.field.specs.declared.XFieldElement.{XFieldElement}
use Rattle.field.proofs.Units.{lift_canonical}
use Rattle.air.specs.Count.{up_to}
use Rattle.air.specs.MainColumn.{CLK, CI, ST0, CLOCK-JUMP-DIFFERENCE-LOOKUP-MULTIPLICITY}
use Rattle.isa.specs.Instruction.{opcode_of, argument_of, influence_of}
use Rattle.isa.specs.declared.Instruction.{Instruction}
use Rattle.isa_decoding.specs.declared.Undecodable.{Undecodable}
use Rattle.table_rows.specs.Rows.{row_at}
use Rattle.column_entries.proofs.Weigh.{weigh_canonical}
use Rattle.column_entries.specs.Row.{word_at, words_from, is_padding, instruction_of, weigh}
use Rattle.column_entries.specs.Entries.{one_over, if_read, if_opcode, input_entries, output_entries, instruction_entries, shorter, height_change, op_stack_entry, op_stack_entries, ram_entry, ram_accesses, ram_entries, jump_stack_entries, is_merkle_step, merkle_input, hash_input_entries, hash_digest_entries, sponge_entries, u32_lookups, u32_entries, clock_entries}
use Rattle.column_entries.specs.Columns.{Column, input, output, instruction, op_stack, ram, jump_stack, hash_input, hash_digest, sponge, u32, clock, Kind, evaluation, product, lookup, kind_of, Entry, of_windows, brought_by, row_entries, entries}
use Rattle.terms.proofs.Lists.{All-map, All-append, All-take, All-drop, All-reverse, All-cond, All-image}

abbrev pub Words : List ℕ → Type 0
Words ws = All (λ w. w < p) ws

pub words_below : (ws : List ℕ) → all_below ws ≡ true → Words ws
words_below [] h = tt
words_below (w ∷ ws) h = let parts = first_below w ws h in (parts.0, words_below ws parts.1)

-- past the end stands 0
word_below : (ws : List ℕ) → Words ws → (i : ℕ) → get_or ws i 0 < p
word_below [] h i = lit< tt
word_below (w ∷ ws) h zero = h.0
word_below (w ∷ ws) h (suc i) = word_below ws h.1 i

weighed : (weights : List XFieldElement) (words : List ℕ) → All Canonical (weigh weights words ∷ [])
weighed weights words = (weigh_canonical weights words, tt)

lifted : (ws : List ℕ) → Words ws → All Canonical (map lift ws)
lifted = All-map (λ w. w < p) Canonical lift lift_canonical

cells_below : (row : List ℕ) (column n : ℕ) → Words row → Words (words_from row column n)
cells_below row column n h = All-take (λ w. w < p) n (drop column row) (All-drop (λ w. w < p) column row h)

row_below : (table : List ℕ) → Words table → (r : ℕ) → Words (row_at table r)
row_below table h r = All-take (λ w. w < p) 39 (drop (r * 39) table) (All-drop (λ w. w < p) (r * 39) table h)

module _ {A : Type 0} (Q : A → Type 0) where
  if_read_lem : (d : Result Instruction Undecodable) (brings : Instruction → List A) → ((i : Instruction) → All Q (brings i)) → All Q (if_read d brings)
  if_read_lem (Err e) brings h = tt
  if_read_lem (Ok i) brings h = h i

  if_opcode_lem : (opcode : ℕ) (i : Instruction) (brings : ℕ → List A) → ((n : ℕ) → All Q (brings n)) → All Q (if_opcode opcode i brings)
  if_opcode_lem opcode i brings h = All-cond Q (eqb (opcode_of i) opcode) (brings (argument_of i)) [] (h (argument_of i)) tt

  window : (of : List ℕ → List ℕ → List A) → ((prev curr : List ℕ) → Words prev → Words curr → All Q (of prev curr))
      → (table : List ℕ) → Words table → (r : ℕ) → All Q (brought_by (of_windows of) table r)
  window of h table below zero = tt
  window of h table below (suc r) = h (row_at table r) (row_at table (suc r)) (row_below table below r) (row_below table below (suc r))

-- column by column
input_canonical : (prev curr : List ℕ) → Words prev → Words curr → All Canonical (input_entries prev curr)
unfolding input_entries
input_canonical prev curr h k =
    if_read_lem Canonical (instruction_of prev) _
    (λ i. if_opcode_lem Canonical 73 i (λ n. map lift (reverse (words_from curr ST0 n)))
    (λ n. lifted (reverse (words_from curr ST0 n)) (All-reverse (λ w. w < p) (words_from curr ST0 n) (cells_below curr ST0 n k))))

output_canonical : (prev curr : List ℕ) → Words prev → Words curr → All Canonical (output_entries prev curr)
unfolding output_entries
output_canonical prev curr h k =
    if_read_lem Canonical (instruction_of prev) _
    (λ i. if_opcode_lem Canonical 19 i (λ n. map lift (words_from prev ST0 n)) (λ n. lifted (words_from prev ST0 n) (cells_below prev ST0 n h)))

-- an entry's element: itself, or the fraction's symbol
abbrev pub CanonicalEntry : (k : Kind) → Entry k → Type 0
CanonicalEntry evaluation e = Canonical e
CanonicalEntry product e = Canonical e
CanonicalEntry lookup f = Canonical f.symbol

module _ (weights : List XFieldElement) where
  instruction_canonical : (row : List ℕ) → All (CanonicalEntry lookup) (instruction_entries weights row)
  unfolding instruction_entries
  instruction_canonical row = All-cond (CanonicalEntry lookup) (is_padding row) [] _ tt (weigh_canonical weights _, tt)

  op_stack_canonical : (prev curr : List ℕ) → All Canonical (op_stack_entries weights prev curr)
  unfolding op_stack_entries
  op_stack_canonical prev curr =
      All-cond Canonical (is_padding curr) [] _ tt
      (if_read_lem Canonical (instruction_of prev) _
      (λ i. All-image Canonical (op_stack_entry weights prev (shorter (influence_of i) prev curr)) (λ k. weigh_canonical weights _) (up_to (height_change (influence_of i)))))

  ram_canonical : (prev curr : List ℕ) → All Canonical (ram_entries weights prev curr)
  unfolding ram_entries
  ram_canonical prev curr =
      All-cond Canonical (is_padding curr) [] _ tt
      (if_read_lem Canonical (instruction_of prev) _
      (λ i. All-image Canonical (ram_entry weights (word_at prev CLK) (cond (eqb (opcode_of i) 11) 0 1)) (λ access. weigh_canonical weights _) (ram_accesses i prev curr)))

  hash_input_canonical : (row : List ℕ) → All Canonical (hash_input_entries weights row)
  unfolding hash_input_entries
  hash_input_canonical row =
      All-cond Canonical (eqb (word_at row CI) 18) _ _ (weighed weights (words_from row ST0 10))
      (All-cond Canonical (is_merkle_step (word_at row CI)) _ [] (weighed weights (merkle_input row)) tt)

  hash_digest_canonical : (prev curr : List ℕ) → All Canonical (hash_digest_entries weights prev curr)
  unfolding hash_digest_entries
  hash_digest_canonical prev curr =
      All-cond Canonical (eqb (word_at prev CI) 18 || is_merkle_step (word_at prev CI)) _ [] (weighed weights (words_from curr ST0 5)) tt

  sponge_canonical : (prev curr : List ℕ) → All Canonical (sponge_entries weights prev curr)
  unfolding sponge_entries
  sponge_canonical prev curr =
      All-cond Canonical (eqb (word_at prev CI) 40) _ _ (weighed weights _)
      (All-cond Canonical (eqb (word_at prev CI) 34) _ _ (weighed weights _)
      (All-cond Canonical (eqb (word_at prev CI) 48) _ _ (weighed weights _)
      (All-cond Canonical (eqb (word_at prev CI) 56) _ [] (weighed weights _) tt)))

  u32_canonical : (prev curr : List ℕ) → All (CanonicalEntry lookup) (u32_entries weights prev curr)
  unfolding u32_entries
  u32_canonical prev curr = All-image (CanonicalEntry lookup) (λ words. one_over (weigh weights words)) (λ words. weigh_canonical weights words) (u32_lookups prev curr)

clock_canonical : (row : List ℕ) → Words row → All (CanonicalEntry lookup) (clock_entries row)
unfolding clock_entries
clock_canonical row h =
    All-cond (CanonicalEntry lookup) (eqb (word_at row CLOCK-JUMP-DIFFERENCE-LOOKUP-MULTIPLICITY) 0) [] _ tt (lift_canonical (word_at row CLK) (word_below row h CLK), tt)

row_canonical : (c : Column) (weights : List XFieldElement) (table : List ℕ) → Words table → (r : ℕ) → All (CanonicalEntry (kind_of c)) (row_entries c weights table r)
unfolding row_entries jump_stack_entries
row_canonical input weights table h r = window Canonical input_entries input_canonical table h r
row_canonical output weights table h r = window Canonical output_entries output_canonical table h r
row_canonical instruction weights table h r = instruction_canonical weights (row_at table r)
row_canonical op_stack weights table h r = window Canonical (op_stack_entries weights) (λ prev curr k l. op_stack_canonical weights prev curr) table h r
row_canonical ram weights table h r = window Canonical (ram_entries weights) (λ prev curr k l. ram_canonical weights prev curr) table h r
row_canonical jump_stack weights table h r = weighed weights _
row_canonical hash_input weights table h r = hash_input_canonical weights (row_at table r)
row_canonical hash_digest weights table h r = window Canonical (hash_digest_entries weights) (λ prev curr k l. hash_digest_canonical weights prev curr) table h r
row_canonical sponge weights table h r = window Canonical (sponge_entries weights) (λ prev curr k l. sponge_canonical weights prev curr) table h r
row_canonical u32 weights table h r = window (CanonicalEntry lookup) (u32_entries weights) (λ prev curr k l. u32_canonical weights prev curr) table h r
row_canonical clock weights table h r = clock_canonical (row_at table r) (row_below table h r)

pub entries_canonical : (c : Column) (weights : List XFieldElement) (table : List ℕ) → Words table → (n : ℕ) → All (CanonicalEntry (kind_of c)) (entries c weights table n)
unfolding entries
entries_canonical c weights table h zero = tt
entries_canonical c weights table h (suc n) =
    All-append (CanonicalEntry (kind_of c)) (entries c weights table n) (row_entries c weights table n)
    (entries_canonical c weights table h n) (row_canonical c weights table h n)
