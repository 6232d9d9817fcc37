-- How many commands of a kind a batch holds, and so how many words they bring.
use mathlib.Core.Path.{◌≡◌, refl, sym, ◌∙◌}
use mathlib.Core.Bool.{Bool, true, false, cond, ◌&&◌}
use mathlib.Core.Logic.{◌⊎◌, inl, inr}
use mathlib.Core.List.{List, [], ◌∷◌, ◌++◌}
use Prim.Native.Nat.{ℕ, ◌+◌, ◌≤◌, ◌<◌}
use native.Mathlib.Omega.{arith}
use lib.Dec.{eqb, leb}
use lib.ListN.{take}
use borrow.Author.Tests.{eqb-true, eq-eqb, ne_eqb, leb-true, not-false}
use Rattle.field_base.proofs.Below.{and-true}
use Rattle.batch_words.specs.Words.{number}
use Rattle.batch_commands.specs.Format.{TRACE-ROWS, HEIGHT, Line, in_all, lines, COMMANDS, said, width, limit, Command}
use Rattle.batch_commands.specs.Fault.{wrong_row_count, wrong_height, height_out_of_range, fault}
use Rattle.batch_reader.specs.Commands.{count, announced, height_of, seen_in}
use Rattle.batch_reader.specs.Reading.{read, reading}
use Rattle.batch_reader.proofs.Commands.{count_one, count_at, height_one, no_height}
use Rattle.batch_reader.proofs.Passing.{Passes, passing}
use Rattle.batch_reader.proofs.Readings.{at_start, kept}
use Rattle.refusal.specs.Number.{Done}

-- 01 stands first
abbrev First : List Command → Type 0
First [] = Unit
First (k ∷ ks) = k.code ≡ TRACE-ROWS

pub record Bounded (ks : List Command) : Type 0 where
  first : First ks
  pub few_rows : announced ks ≤ 32
  pub within : (code : ℕ) → code < COMMANDS → count code ks ≤ limit (announced ks) code

pub none_bounded : Bounded []
unfolding count
none_bounded = record { first = tt; few_rows = omega arith; within = λ code l. omega arith }

one_more : (n most : ℕ) (same : Bool) → n ≤ most → (same ≡ true → n < most) → n + cond same 1 0 ≤ most
one_more n most true h g = let u = g refl in omega arith
one_more n most false h g = omega arith

alone : (most : ℕ) (same : Bool) → (same ≡ true → 0 < most) → cond same 1 0 + 0 ≤ most
alone most true g = let u = g refl in omega arith
alone most false g = omega arith

module _ (code : ℕ) (bytes : List ℕ) where
  abbrev next : Command
  next = record { code = code; operand = take (width code) bytes }

  first_is : Passes (seen_in []) code bytes → code ≡ TRACE-ROWS
  unfolding count
  first_is p = eqb-true code TRACE-ROWS (not-false (eqb code TRACE-ROWS) p.after_first)

  -- 01 comes once
  later_is_not : (k : Command) (ks : List Command) → Bounded (k ∷ ks) → Passes (seen_in (k ∷ ks)) code bytes → code ≡ TRACE-ROWS → ⊥
  unfolding count
  later_is_not k ks b p e =
      let u : cond (eqb k.code TRACE-ROWS) 1 0 + count TRACE-ROWS ks < 1 = rw e at p.under in
      let v : 1 + count TRACE-ROWS ks < 1 = rw (eq-eqb k.code TRACE-ROWS b.first) at u in
      omega arith

  pub announced_next : (before : List Command) → Bounded before → Passes (seen_in before) code bytes → announced (before ++ (next ∷ [])) ≡ cond (eqb code TRACE-ROWS) (number (take (width code) bytes)) (announced before)
  announced_next [] b p = rw (eq-eqb code TRACE-ROWS (first_is p))
  announced_next (k ∷ ks) b p = rw (ne_eqb code TRACE-ROWS (later_is_not k ks b p))

  few : code ≡ TRACE-ROWS → wrong_row_count code (take (width code) bytes) ≡ false → number (take (width code) bytes) ≤ 32
  few e w =
      let n = number (take 4 bytes) in
      let v = and-true (leb 1 n) (leb n 32) (not-false (leb 1 n && leb n 32) (rw e at w)) in
      rw e (leb-true n 32 v.1)

  bounded_first : fault (seen_in []) code bytes ≡ Done → Bounded (next ∷ [])
  unfolding count
  bounded_first d =
      let p = passing (seen_in []) code bytes d in
      let e = first_is p in
      record {
        first = e;
        few_rows = few e p.row_count;
        within = λ c l. alone (limit (number (take (width code) bytes)) c) (eqb code c) (λ q. let z : c ≡ TRACE-ROWS = sym (eqb-true code c q) ∙ e in rw z (omega arith));
      }

  under_at : (before : List Command) (c : ℕ) → Passes (seen_in before) code bytes → code ≡ c → count c before < limit (announced before) c
  under_at before c p e = rw (sym e) (rw (count_at before code p.known) at p.under)

  pub bounded_next : (before : List Command) → fault (seen_in before) code bytes ≡ Done → Bounded before → Bounded (before ++ (next ∷ []))
  bounded_next [] d b = bounded_first d
  bounded_next (k ∷ ks) d b =
      let p = passing (seen_in (k ∷ ks)) code bytes d in
      record {
        first = b.first;
        few_rows = b.few_rows;
        within = λ c l.
            let e : count c (k ∷ (ks ++ (next ∷ []))) ≡ count c (k ∷ ks) + cond (eqb code c) 1 0 = count_one c (k ∷ ks) next in
            rw e (one_more (count c (k ∷ ks)) (limit (announced (k ∷ ks)) c) (eqb code c) (b.within c l) (λ q. under_at (k ∷ ks) c p (eqb-true code c q)));
      }

  -- 0B comes once
  pub once : (before : List Command) → Passes (seen_in before) code bytes → code ≡ HEIGHT → count HEIGHT before ≡ 0
  once before p e = omega (arith, under_at before HEIGHT p e)

  pub height_next : (before : List Command) → Passes (seen_in before) code bytes → height_of (before ++ (next ∷ [])) ≡ cond (eqb code HEIGHT) (number (take (width code) bytes)) (height_of before)
  height_next before p = height_one before next (once before p)

pub bounded : (batch : List ℕ) (ks : List Command) → reading batch ≡ read ks → Bounded ks
bounded batch ks e = let a = at_start batch in kept Bounded (λ before code bytes. bounded_next code bytes before) a.fuel [] batch ks none_bounded (sym a.rest ∙ e)

-- each line's number is at most `most`
abbrev AllAtMost : ℕ → (Line → ℕ) → List Line → Type 0
AllAtMost most column [] = Unit
AllAtMost most column (line ∷ others) = (column line ≤ most) × AllAtMost most column others

either_at_most : (most a b : ℕ) (first : Bool) → a ≤ most → b ≤ most → cond first a b ≤ most
either_at_most most a b true l m = l
either_at_most most a b false l m = m

said_at_most : (most : ℕ) (column : Line → ℕ) (code : ℕ) (others : List Line) → AllAtMost most column others → said column code others ≤ most
said_at_most most column code [] h = omega arith
said_at_most most column code (line ∷ others) h = either_at_most most (column line) (said column code others) (eqb code line.byte) h.0 (said_at_most most column code others h.1)

pub count_small : (ks : List Command) → Bounded ks → (code : ℕ) → code < COMMANDS → count code ks ≤ 128
count_small ks b code l =
    let few = b.few_rows in
    let n : limit (announced ks) code ≤ 128 = said_at_most 128 (λ line. in_all (announced ks) line.often) code lines
    (omega arith, (omega arith, (omega arith, (omega arith, (omega arith, (omega arith, (omega arith, (omega arith, (omega arith, (omega arith, (omega arith, (omega arith, tt)))))))))))) in
    omega (arith, n, b.within code l)

-- 0B did not come, or it set a height in its range
abbrev pub HeightSet : List Command → Type 0
HeightSet ks = ((count HEIGHT ks ≡ 0) × (height_of ks ≡ 0)) ⊎ ((count HEIGHT ks ≡ 1) × (wrong_height (announced ks) (height_of ks) ≡ false))

height_right : (rows code : ℕ) (operand : List ℕ) → eqb code HEIGHT ≡ true → height_out_of_range rows code operand ≡ false → wrong_height rows (number operand) ≡ false
height_right rows code operand e h = rw e at h

module _ (code : ℕ) (bytes : List ℕ) where
  set_by : (k : Command) (ks : List Command) (same : Bool) → eqb code HEIGHT ≡ same → Passes (seen_in (k ∷ ks)) code bytes → HeightSet (k ∷ ks) → HeightSet (k ∷ ks ++ (next code bytes ∷ []))
  set_by k ks true e p s =
      let is = eqb-true code HEIGHT e in
      let n : count HEIGHT (k ∷ ks ++ (next code bytes ∷ [])) ≡ 1 = count_one HEIGHT (k ∷ ks) (next code bytes) ∙ rw (e, once code bytes (k ∷ ks) p is) in
      let h : height_of (k ∷ ks ++ (next code bytes ∷ [])) ≡ number (take (width code) bytes) = height_next code bytes (k ∷ ks) p ∙ rw e in
      inr (n, rw h (height_right (announced (k ∷ ks)) code (take (width code) bytes) e p.height))
  set_by k ks false e p (inl s) =
      let n : count HEIGHT (k ∷ ks ++ (next code bytes ∷ [])) ≡ 0 = count_one HEIGHT (k ∷ ks) (next code bytes) ∙ rw (e, s.0) in
      inl (n, no_height (k ∷ ks ++ (next code bytes ∷ [])) n)
  set_by k ks false e p (inr s) =
      let n : count HEIGHT (k ∷ ks ++ (next code bytes ∷ [])) ≡ 1 = count_one HEIGHT (k ∷ ks) (next code bytes) ∙ rw (e, s.0) in
      let h : height_of (k ∷ ks ++ (next code bytes ∷ [])) ≡ height_of (k ∷ ks) = height_next code bytes (k ∷ ks) p ∙ rw e in
      inr (n, rw h s.1)

  set_next : (before : List Command) → fault (seen_in before) code bytes ≡ Done → HeightSet before → HeightSet (before ++ (next code bytes ∷ []))
  unfolding count
  set_next [] d s =
      let n : count HEIGHT (next code bytes ∷ []) ≡ 0 = rw (first_is code bytes (passing (seen_in []) code bytes d)) in
      inl (n, no_height (next code bytes ∷ []) n)
  set_next (k ∷ ks) d s = set_by k ks (eqb code HEIGHT) refl (passing (seen_in (k ∷ ks)) code bytes d) s

pub height_set : (batch : List ℕ) (ks : List Command) → reading batch ≡ read ks → HeightSet ks
unfolding count
height_set batch ks e = let a = at_start batch in kept HeightSet (λ before code bytes. set_next code bytes before) a.fuel [] batch ks (inl (refl, no_height [] refl)) (sym a.rest ∙ e)
