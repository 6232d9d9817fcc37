-- Strict extension is extension with one test more.
use mathlib.Core.Path.{◌≡◌, refl, sym, ap, ◌∙◌}
use mathlib.Core.Logic.{◌≢◌}
use mathlib.Core.Bool.{Bool, true, false, not, ◌||◌, false≢true, or-true}
use mathlib.Core.List.{List, [], ◌∷◌}
use Prim.Native.Nat.{ℕ, zero, suc, ◌+◌, ◌≤◌, ◌<◌}
use native.Mathlib.Omega.{arith}
use lib.Dec.{eqb}
use lib.ListN.{length, replicate}
use borrow.Author.Tests.{eqb-true, eqb-false}
use Rattle.std.specs.Prelude.{Result, Ok, Err}
use Rattle.refusal.specs.Number.{on_done}
use Rattle.refusal.specs.Tests.{Tests}
use Rattle.refusal.specs.declared.Refusal.TheVariants.{UndecodableRow}
use Rattle.refusal.proofs.First.{inserted_exactly, inserted_elsewhere}
use Rattle.isa.specs.declared.Instruction.{Instruction}
use Rattle.isa_decoding.specs.declared.Undecodable as reason
use Rattle.table_rows.specs.Rows.{rows, row_at}
use Rattle.column_entries.specs.Row.{instruction_of}
use Rattle.extend_answer.specs.Answer.{tests_through_two, denominator_test, extend_answer}
use Rattle.extend_answer.specs.Strict.{is_read, undecodable, undecodable_from, strict_answer}
use Rattle.extend_table.specs.Extended.{extended}
use Rattle.extend.specs.Extend.{extend_aux, extend_work, strict_aux, strict_work}
use Rattle.terms.specs.Strict.{Undecodable, Eleven, Elsewhere, Strict}

-- rows that do not decode
unread_row : (d : Result Instruction reason.Undecodable) → is_read d ≡ false → (i : Instruction) → d ≢ Ok i
unread_row d e i f = false≢true (sym e ∙ ap is_read f)

not_read : (d : Result Instruction reason.Undecodable) → ((i : Instruction) → d ≢ Ok i) → is_read d ≡ false
not_read (Ok i) h = absurd (h i refl)
not_read (Err why) h = refl

module _ (main : List ℕ) where
  here_or_later : (c n : ℕ) (read : Bool) → is_read (instruction_of (row_at main c)) ≡ read → (not read || undecodable_from main (suc c) n) ≡ true
      → (undecodable_from main (suc c) n ≡ true → (k : ℕ) × (k < suc c + n) × Undecodable main k)
      → (k : ℕ) × (k < c + suc n) × Undecodable main k
  here_or_later c n true r e later = let row = later e in (row.0, omega (arith, row.1), row.2)
  here_or_later c n false r e later = (c, omega arith, unread_row (instruction_of (row_at main c)) r)

  some_row : (c n : ℕ) → undecodable_from main c n ≡ true → (k : ℕ) × (k < c + n) × Undecodable main k
  unfolding undecodable_from
  some_row c zero e = absurd (false≢true e)
  some_row c (suc n) e = here_or_later c n (is_read (instruction_of (row_at main c))) refl e (some_row (suc c) n)

  first_or_later : (c n k : ℕ) → c ≤ k → Undecodable main k → (same : Bool) → eqb c k ≡ same → (suc c ≤ k → undecodable_from main (suc c) n ≡ true)
      → (not (is_read (instruction_of (row_at main c))) || undecodable_from main (suc c) n) ≡ true
  first_or_later c n k h u true e later = rw (not_read (instruction_of (row_at main c)) (rw (← eqb-true c k e) at u))
  first_or_later c n k h u false e later =
      let other = eqb-false c k e in
      rw (later (omega (arith, other)), or-true)

  from_row : (c n k : ℕ) → c ≤ k → k < c + n → Undecodable main k → undecodable_from main c n ≡ true
  unfolding undecodable_from
  from_row c zero k h l u = absurd (omega arith)
  from_row c (suc n) k h l u = first_or_later c n k h u (eqb c k) refl (λ m. from_row (suc c) n k m (omega arith) u)

module _ (main challenges : List ℕ) (chunk : ℕ) (aux work : List ℕ) where
  abbrev before : Tests
  before = tests_through_two main challenges chunk aux work

  abbrev after : Tests
  after = denominator_test main challenges ∷ []

  eleven : Eleven main challenges chunk aux work
  unfolding strict_answer
  eleven =
      let law = inserted_exactly UndecodableRow (undecodable main) after before tt tt in (
        λ e. let h = law.0 e in let row = some_row main 0 (rows main) h.1 in (h.0, row.0, omega (arith, row.1), row.2),
        λ h. law.1 (h.0, from_row main 0 (rows main) h.1 (omega arith) (omega (arith, h.2)) h.3),
      )

  elsewhere : Elsewhere main challenges chunk aux work
  unfolding strict_answer strict_aux strict_work extend_answer extend_aux extend_work
  elsewhere ne =
      let e = inserted_elsewhere UndecodableRow (undecodable main) after before ne in
      (e, ap (λ a. on_done a (extended main challenges) aux) e, ap (λ a. on_done a (replicate (length work) 0) work) e)

pub strict : Strict
strict = record { eleven = eleven; elsewhere = elsewhere }
