-- Laws of an operation's line: when it is done, when it refuses with r, that its number stands in the line, and what a test put in changes. By cases on each test.
use mathlib.Core.Path.{◌≡◌, refl, sym, ap, ◌∙◌}
use mathlib.Core.Logic.{◌≢◌, ◌↔◌, ◌⊎◌, inl, inr, ⊎_elim}
use mathlib.Core.Bool.{Bool, true, false, cond, not, ◌&&◌, ◌||◌}
use mathlib.Core.List.{List, [], ◌∷◌, ◌++◌, Memᴰ}
use Prim.Native.Nat.{ℕ}
use native.Mathlib.Omega.{arith}
use lib.Dec.{T, T_not, eqb, eqb_refl}
use borrow.Author.Tests.{eqb-true}
use mir.Facts.{and_yes}
use Rattle.refusal.specs.Number.{Done, number_of}
use Rattle.refusal.specs.Tests.{Test, Tests, ◌when◌, first_or, first, NoneHolds, HoldsFirst}
use Rattle.refusal.specs.declared.Refusal.{Refusal}
use Rattle.std.specs.Prelude.{Result, Err}

-- the number of each test's refusal stands in the line
abbrev pub Listed : List ℕ → Tests → Type 0
Listed line [] = Unit {0}
Listed line (test ∷ tests) = Memᴰ (number_of test.refusal) line × Listed line tests

-- the same, as a test
abbrev pub stands : List ℕ → ℕ → Bool
stands [] n = false
stands (m ∷ line) n = eqb n m || stands line n

abbrev pub all_stand : List ℕ → Tests → Bool
all_stand line [] = true
all_stand line (test ∷ tests) = stands line (number_of test.refusal) && all_stand line tests

here_or : {n : ℕ} (m : ℕ) {line : List ℕ} (same : Bool) → eqb n m ≡ same → T (same || stands line n) → (T (stands line n) → Memᴰ n line) → Memᴰ n (m ∷ line)
here_or {n} m true e t later = Memᴰ.head (eqb-true n m e)
here_or m false e t later = Memᴰ.tail (later t)

pub found : {n : ℕ} (line : List ℕ) → T (stands line n) → Memᴰ n line
found [] t = absurd t
found {n} (m ∷ line) t = here_or m (eqb n m) refl t (found line)

pub listed : (line : List ℕ) (tests : Tests) → T (all_stand line tests) → Listed line tests
listed line [] t = tt
listed line (test ∷ tests) t = let both = and_yes (stands line (number_of test.refusal)) (all_stand line tests) t in (found line both.0, listed line tests both.1)

chosen : {A : Type 0} {line : List ℕ} (number : A → ℕ) (test : Bool) (a b : A) → Memᴰ (number a) line → Memᴰ (number b) line
    → Memᴰ (number (cond test a b)) line
chosen number true a b f g = f
chosen number false a b f g = g

module _ {A : Type 0} (refused : Refusal → A) where
  step_past : (test : Bool) (r : Refusal) (rest x : A) → refused r ≢ x → cond test (refused r) rest ≡ x → (test ≡ false) × (rest ≡ x)
  step_past true r rest x ne e = absurd (ne e)
  step_past false r rest x ne e = (refl, e)

  -- what is answered, if no refusal is, is what is answered past all tests
  pub past_all : (tests : Tests) (done x : A) → ((r : Refusal) → refused r ≢ x) → first_or refused tests done ≡ x → NoneHolds tests × (done ≡ x)
  past_all [] done x ne e = (tt, e)
  past_all (test ∷ tests) done x ne e =
      let s = step_past test.holds test.refusal (first_or refused tests done) x (ne test.refusal) e in
      let t = past_all tests done x ne s.1 in
      ((s.0, t.0), t.1)

  -- and where no test holds, that is answered
  pub none_holds : (tests : Tests) (done : A) → NoneHolds tests → first_or refused tests done ≡ done
  none_holds [] done none = refl
  none_holds (test ∷ tests) done none = rw none.0 (none_holds tests done none.1)

  step_refused : (test : Bool) (s r : Refusal) (rest : A) → ((t : Refusal) → refused s ≡ refused t → s ≡ t) → cond test (refused s) rest ≡ refused r
      → ((test ≡ true) × (s ≡ r)) ⊎ ((test ≡ false) × (rest ≡ refused r))
  step_refused true s r rest injective e = inl (refl, injective r e)
  step_refused false s r rest injective e = inr (refl, e)

  -- r is answered only if a test of r holds and none before it
  pub holds_first : ((s t : Refusal) → refused s ≡ refused t → s ≡ t) → (tests : Tests) (done : A) (r : Refusal) → done ≢ refused r
      → first_or refused tests done ≡ refused r → HoldsFirst r tests
  holds_first injective [] done r ne e = ne e
  holds_first injective (test ∷ tests) done r ne e =
      ⊎_elim inl (λ h. inr (h.0, holds_first injective tests done r ne h.1))
      (step_refused test.holds test.refusal r (first_or refused tests done) (injective test.refusal) e)

  -- and it is answered then
  pub refused_first : (tests : Tests) (done : A) (r : Refusal) → HoldsFirst r tests → first_or refused tests done ≡ refused r
  refused_first [] done r h = absurd h
  refused_first (test ∷ tests) done r (inl h) = rw (h.0, h.1)
  refused_first (test ∷ tests) done r (inr h) = rw h.0 (refused_first tests done r h.1)

  -- an answer's number is that of a test, or of what is answered past all of them
  pub number_listed : {line : List ℕ} (number : A → ℕ) → ((r : Refusal) → number (refused r) ≡ number_of r)
      → (tests : Tests) (done : A) → Listed line tests → Memᴰ (number done) line → Memᴰ (number (first_or refused tests done)) line
  number_listed number numbered [] done l f = f
  number_listed number numbered (test ∷ tests) done l f =
      chosen number test.holds (refused test.refusal) (first_or refused tests done) (rw (numbered test.refusal) l.0) (number_listed number numbered tests done l.1 f)

done_alone : (r : Refusal) → Err r ≢ Done
done_alone r e = let z : ◌≡◌ {A = ℕ} 0 1 = cc in omega arith

-- done exactly if no test holds
pub done_exactly : (tests : Tests) → (first tests ≡ Done) ↔ NoneHolds tests
done_exactly tests = (λ e. (past_all Err tests Done Done done_alone e).0, none_holds Err tests Done)

-- refused with r exactly if a test of r holds and none before it
pub refused_exactly : (tests : Tests) (r : Refusal) → (first tests ≡ Err r) ↔ HoldsFirst r tests
refused_exactly tests r = (holds_first Err (λ s t e. cc) tests Done r (λ e. done_alone r (sym e)), refused_first Err tests Done r)

-- tests put behind others change no refusal of theirs
holds_before : (before after : Tests) (r : Refusal) → HoldsFirst r before → HoldsFirst r (before ++ after)
holds_before [] after r h = absurd h
holds_before (test ∷ before) after r (inl h) = inl h
holds_before (test ∷ before) after r (inr h) = inr (h.0, holds_before before after r h.1)

pub refused_before : (before after : Tests) (r : Refusal) → first before ≡ Err r → first (before ++ after) ≡ Err r
refused_before before after r e = (refused_exactly (before ++ after) r).1 (holds_before before after r ((refused_exactly before r).0 e))

-- whether no test has this refusal
abbrev another : Refusal → Test → Bool
another r test = not (eqb (number_of test.refusal) (number_of r))

abbrev pub lacks : Refusal → Tests → Bool
lacks r [] = true
lacks r (test ∷ tests) = another r test && lacks r tests

not_another : (r : Refusal) (test : Test) (tests : Tests) → T (lacks r (test ∷ tests)) → test.refusal ≢ r
not_another r test tests l e = T_not (eqb (number_of test.refusal) (number_of r)) (and_yes (another r test) (lacks r tests) l).0 (rw e (eqb_refl (number_of r)))

never : (tests : Tests) (r : Refusal) → T (lacks r tests) → HoldsFirst r tests → ⊥
never [] r l h = h
never (test ∷ tests) r l (inl h) = not_another r test tests l h.1
never (test ∷ tests) r l (inr h) = never tests r (and_yes (another r test) (lacks r tests) l).1 h.1

module _ (r : Refusal) (condition : Bool) (after : Tests) where
  to_inserted : (before : Tests) → T (lacks r before) → T (lacks r after) → HoldsFirst r (before ++ (r when condition) ∷ after) → NoneHolds before × (condition ≡ true)
  to_inserted [] l m (inl h) = (tt, h.0)
  to_inserted [] l m (inr h) = absurd (never after r m h.1)
  to_inserted (test ∷ before) l m (inl h) = absurd (not_another r test before l h.1)
  to_inserted (test ∷ before) l m (inr h) =
      let n = to_inserted before (and_yes (another r test) (lacks r before) l).1 m h.1 in
      ((h.0, n.0), n.1)

  from_inserted : (before : Tests) → NoneHolds before → condition ≡ true → HoldsFirst r (before ++ (r when condition) ∷ after)
  from_inserted [] none e = inl (e, refl)
  from_inserted (test ∷ before) none e = inr (none.0, from_inserted before none.1 e)

  -- a refusal of its own, put in: answered exactly if its condition holds and no test before it
  pub inserted_exactly : (before : Tests) → T (lacks r before) → T (lacks r after) → (first (before ++ (r when condition) ∷ after) ≡ Err r) ↔ (NoneHolds before × (condition ≡ true))
  inserted_exactly before l m =
      let law = refused_exactly (before ++ (r when condition) ∷ after) r in
      (λ e. to_inserted before l m (law.0 e), λ h. law.1 (from_inserted before h.0 h.1))

  -- elsewhere the answer is as without it
  pub inserted_elsewhere : (before : Tests) → first (before ++ (r when condition) ∷ after) ≢ Err r → first (before ++ (r when condition) ∷ after) ≡ first (before ++ after)
  inserted_elsewhere [] ne = here condition ne
    where
      here : (b : Bool) → cond b (Err r) (first after) ≢ Err r → cond b (Err r) (first after) ≡ first after
      here true ne = absurd (ne refl)
      here false ne = refl
  inserted_elsewhere (test ∷ before) ne = later test.holds (first (before ++ (r when condition) ∷ after)) ne (inserted_elsewhere before)
    where
      later : (b : Bool) (x : Result (Unit {0}) Refusal) → cond b (Err test.refusal) x ≢ Err r → (x ≢ Err r → x ≡ first (before ++ after))
          → cond b (Err test.refusal) x ≡ cond b (Err test.refusal) (first (before ++ after))
      later true x ne same = refl
      later false x ne same = same ne

-- an answer seen through a function
pub seen_through : {A B : Type 0} (f : A → B) (refused : Refusal → A) (tests : Tests) (done : A) → f (first_or refused tests done) ≡ first_or (λ r. f (refused r)) tests (f done)
seen_through f refused [] done = refl
seen_through {A} {B} f refused (test ∷ tests) done =
    under test.holds (first_or refused tests done) ∙ ap (cond test.holds (f (refused test.refusal))) (seen_through f refused tests done)
  where
    under : (b : Bool) (x : A) → f (cond b (refused test.refusal) x) ≡ cond b (f (refused test.refusal)) (f x)
    under true x = refl
    under false x = refl
