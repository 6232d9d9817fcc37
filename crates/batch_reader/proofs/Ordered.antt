-- The commands that are read stand in the order of a batch.
use mathlib.Core.Path.{◌≡◌, refl, sym, ap, ◌∙◌}
use mathlib.Core.Bool.{Bool, true, false, ◌&&◌, ◌||◌}
use mathlib.Core.List.{List, [], ◌∷◌, ◌++◌}
use Prim.Native.Nat.{ℕ, max, ◌≤◌, ◌<◌}
use native.Mathlib.Omega.{arith}
use lib.Dec.{eqb, ltb}
use lib.ListN.{take}
use borrow.Author.Tests.{ltb-true, ltb-false, le-ltb, eqb-true, eqb-false}
use Rattle.refusal.proofs.Answers.{or-false}
use Rattle.batch_commands.specs.Format.{width, rank, key, Command}
use Rattle.batch_commands.specs.Fault.{fault}
use Rattle.batch_commands.proofs.Tables.{key_within}
use Rattle.batch_reader.specs.Commands.{highest_rank, last_key, seen_in}
use Rattle.batch_reader.specs.Reading.{read, reading}
use Rattle.batch_reader.proofs.Passing.{passing}
use Rattle.batch_reader.proofs.Readings.{at_start, kept}
use Rattle.refusal.specs.Number.{Done}

-- (s, n) does not belong before (r, m)
abbrev pub NotBefore : ℕ → ℕ → ℕ → ℕ → Type 0
NotBefore r m s n = (r ≤ s) × (r ≡ s → m ≤ n)

-- commands behind one of rank r and key m, each not before the last
abbrev pub OrderedFrom : ℕ → ℕ → List Command → Type 0
OrderedFrom r m [] = Unit
OrderedFrom r m (k ∷ ks) = NotBefore r m (rank k.code) (key k.code k.operand) × OrderedFrom (rank k.code) (key k.code k.operand) ks

abbrev pub Ordered : List Command → Type 0
Ordered ks = OrderedFrom 0 0 ks

-- the rank of the last command, or r; it is the highest
unfoldable pub last_rank : ℕ → List Command → ℕ
last_rank r [] = r
last_rank r (k ∷ ks) = last_rank (rank k.code) ks

last_highest : (r m : ℕ) (ks : List Command) → OrderedFrom r m ks → max r (highest_rank ks) ≡ last_rank r ks
unfolding last_rank highest_rank
last_highest r m [] h = omega arith
last_highest r m (k ∷ ks) h =
    let l = h.0.0 in
    omega (arith, last_highest (rank k.code) (key k.code k.operand) ks h.1)

pub highest : (ks : List Command) → Ordered ks → highest_rank ks ≡ last_rank 0 ks
highest ks h = omega (arith, last_highest 0 0 ks h)

pub ordered_append : (r m : ℕ) (ks js : List Command) → OrderedFrom r m ks → OrderedFrom (last_rank r ks) (last_key m ks) js → OrderedFrom r m (ks ++ js)
unfolding last_rank last_key
ordered_append r m [] js h g = g
ordered_append r m (k ∷ ks) js h g = (h.0, ordered_append (rank k.code) (key k.code k.operand) ks js h.1 g)

pub ordered_parts : (r m : ℕ) (ks js : List Command) → OrderedFrom r m (ks ++ js) → OrderedFrom r m ks × OrderedFrom (last_rank r ks) (last_key m ks) js
unfolding last_rank last_key
ordered_parts r m [] js h = (tt, h)
ordered_parts r m (k ∷ ks) js h =
    let p = ordered_parts (rank k.code) (key k.code k.operand) ks js h.1 in
    ((h.0, p.0), p.1)

pub not_before_past : (r m s n t o : ℕ) → NotBefore r m s n → NotBefore s n t o → NotBefore r m t o
not_before_past r m s n t o b c = (
  omega arith,
  λ e.
      let f = b.1 (omega arith) in
      let g = c.1 (omega arith) in
      omega arith,
)

-- also behind what belongs further before
pub ordered_since : (r m s n : ℕ) (ks : List Command) → NotBefore r m s n → OrderedFrom s n ks → OrderedFrom r m ks
ordered_since r m s n [] b h = tt
ordered_since r m s n (k ∷ ks) b h = (not_before_past r m s n (rank k.code) (key k.code k.operand) b h.0, h.1)

-- P of each
abbrev pub Every : {A : Type 0} → (A → Type 0) → List A → Type 0
Every P [] = Unit
Every P (x ∷ xs) = P x × Every P xs

module _ {A : Type 0} (P : A → Type 0) where
  pub every_append : (xs ys : List A) → Every P xs → Every P ys → Every P (xs ++ ys)
  every_append [] ys h g = g
  every_append (x ∷ xs) ys h g = (h.0, every_append xs ys h.1 g)

  pub every_map : (Q : A → Type 0) → ((x : A) → P x → Q x) → (xs : List A) → Every P xs → Every Q xs
  every_map Q f [] h = tt
  every_map Q f (x ∷ xs) h = (f x h.0, every_map Q f xs h.1)

pub every_both : (P Q : Command → Type 0) (ks : List Command) → Every P ks → Every Q ks → Every (λ k. P k × Q k) ks
every_both P Q [] h g = tt
every_both P Q (k ∷ ks) h g = ((h.0, g.0), every_both P Q ks h.1 g.1)

pub every_at : (P : Command → Type 0) (before : List Command) (k : Command) (after : List Command) → Every P (before ++ k ∷ after) → P k
every_at P [] k after h = h.0
every_at P (j ∷ before) k after h = every_at P before k after h.1

pub ranks_from : (r m s : ℕ) (ks : List Command) → s ≤ r → OrderedFrom r m ks → Every (λ k. s ≤ rank k.code) ks
ranks_from r m s [] l h = tt
ranks_from r m s (k ∷ ks) l h = (omega arith, ranks_from (rank k.code) (key k.code k.operand) s ks (omega arith) h.1)

-- the commands of a rank below s, and behind them those of s or more
pub record Split (s : ℕ) (ks : List Command) : Type 0 where
  pub low : List Command
  pub high : List Command
  pub parts : ks ≡ low ++ high
  pub low_ranks : Every (λ k. rank k.code < s) low
  pub high_ranks : Every (λ k. s ≤ rank k.code) high

split_by : (s r m : ℕ) (k : Command) (ks : List Command) (low : Bool) → ltb (rank k.code) s ≡ low → OrderedFrom r m (k ∷ ks) → Split s ks → Split s (k ∷ ks)
split_by s r m k ks true e h rest =
    record { low = k ∷ rest.low; high = rest.high; parts = ap (◌∷◌ k) rest.parts; low_ranks = (ltb-true (rank k.code) s e, rest.low_ranks); high_ranks = rest.high_ranks }
split_by s r m k ks false e h rest =
    let l = ltb-false (rank k.code) s e in
    record { low = []; high = k ∷ ks; parts = refl; low_ranks = tt; high_ranks = (l, ranks_from (rank k.code) (key k.code k.operand) s ks l h.1) }

pub split : (s r m : ℕ) (ks : List Command) → OrderedFrom r m ks → Split s ks
split s r m [] h = record { low = []; high = []; parts = refl; low_ranks = tt; high_ranks = tt }
split s r m (k ∷ ks) h = split_by s r m k ks (ltb (rank k.code) s) refl h (split s (rank k.code) (key k.code k.operand) ks h.1)

-- by the tests
ordered_by : (r m s n : ℕ) (last : Bool) → eqb s r ≡ last → (last && ltb n m) ≡ false → r ≡ s → m ≤ n
ordered_by r m s n true e t q = ltb-false n m t
ordered_by r m s n false e t q = absurd (eqb-false s r e (sym q))

pub not_before : (r m s n : ℕ) → (ltb s r || (eqb s r && ltb n m)) ≡ false → NotBefore r m s n
not_before r m s n t =
    let h = or-false (ltb s r) (eqb s r && ltb n m) t in
    (ltb-false s r h.0, ordered_by r m s n (eqb s r) refl h.1)

test_by : (r m s n : ℕ) (last : Bool) → eqb s r ≡ last → (r ≡ s → m ≤ n) → (last && ltb n m) ≡ false
test_by r m s n true e h = le-ltb n m (h (sym (eqb-true s r e)))
test_by r m s n false e h = refl

pub not_before_test : (r m s n : ℕ) → NotBefore r m s n → (ltb s r || (eqb s r && ltb n m)) ≡ false
not_before_test r m s n h = rw (le-ltb s r h.0, test_by r m s n (eqb s r) refl h.1)

pub ordered : (batch : List ℕ) (ks : List Command) → reading batch ≡ read ks → Ordered ks
ordered batch ks e = let a = at_start batch in kept Ordered keep a.fuel [] batch ks tt (sym a.rest ∙ e)
  where
    keep : (before : List Command) (code : ℕ) (bytes : List ℕ) → fault (seen_in before) code bytes ≡ Done → Ordered before → Ordered (before ++ (record { code = code; operand = take (width code) bytes } ∷ []))
    keep before code bytes d h =
        let p = passing (seen_in before) code bytes d in
        let b = rw (highest before h) at (not_before (highest_rank before) (last_key 0 before) (rank code) (key code bytes) p.in_order) in
        ordered_append 0 0 before (record { code = code; operand = take (width code) bytes } ∷ []) h ((b.0, λ q. rw (key_within code bytes p.known) (b.1 q)), tt)
