-- Rows one after the other: how long they are, how they split, and what reading, setting and replacing them gives.
use mathlib.Core.Path.{◌≡◌, refl, sym, ap, ◌∙◌}
use mathlib.Core.List.{List, [], ◌∷◌, ◌++◌, append_assoc, append-nil}
use Prim.Native.Nat.{ℕ, zero, suc, ◌+◌, ◌-◌, ◌*◌, ◌≤◌, ◌<◌}
use native.Mathlib.Nat.{zero-add, add-zero, suc-add, suc-mul, add-mul, zero-mul}
use native.Mathlib.Omega.{arith}
use lib.ListN.{length, take, drop, get_or, set, length-append, length-drop, take-append-drop, drop_of_length-le, get_or-append}
use lib.Seq.{sets, sets-eq, take_all, take-add, drop-drop, length-take-le, take_at, drop_at, get_or-append-add, set-append_left}
use Rattle.table_rows.specs.Rows.{row_at, rows_from}
use Rattle.table_rows.specs.Writes.{with_row, with_rows}

-- the first n rows, then the others
pub split_rows : (row : ℕ → List ℕ) (c n m : ℕ) → rows_from row c (n + m) ≡ rows_from row c n ++ rows_from row (c + n) m
unfolding rows_from
split_rows row c zero m = rw (zero-add, add-zero)
split_rows row c (suc n) m =
    let e₁ : suc n + m ≡ suc (n + m) = omega arith in
    let e₂ : c + suc n ≡ suc c + n = omega arith in
    rw (e₁, e₂, split_rows row (suc c) n m, append_assoc)

pub one_more_row : (row : ℕ → List ℕ) (n : ℕ) → rows_from row 0 (n + 1) ≡ rows_from row 0 n ++ row n
unfolding rows_from
one_more_row row n = split_rows row 0 n 1 ∙ ap (λ t. rows_from row 0 n ++ t) (append-nil (row (0 + n)) ∙ ap row (zero-add n))

pub same_rows : (f g : ℕ → List ℕ) (c n : ℕ) → ((k : ℕ) → c ≤ k → k < c + n → f k ≡ g k) → rows_from f c n ≡ rows_from g c n
unfolding rows_from
same_rows f g c zero h = refl
same_rows f g c (suc n) h = rw (h c (omega arith) (omega arith), same_rows f g (suc c) n (λ k l m. h k (omega arith) (omega arith)))

-- the words from a row's start to its end, and from a place to the end of all
pub row_part : (table : List ℕ) (c : ℕ) → take (c * 39 + 39 - c * 39) (drop (c * 39) table) ≡ row_at table c
row_part table c = let e : c * 39 + 39 - c * 39 ≡ 39 = omega arith in ap (λ n. take n (drop (c * 39) table)) e

pub rest_part : (words : List ℕ) (n : ℕ) → take (length words - n) (drop n words) ≡ drop n words
rest_part words n = take_all (length words - n) (drop n words) (omega (arith, length-drop n words))

-- a row of the main table
pub length-row : (table : List ℕ) (c : ℕ) → suc c * 39 ≤ length table → length (row_at table c) ≡ 39
length-row table c h = length-take-le 39 (drop (c * 39) table) (simp length-drop (omega arith))

pub rows_of : (table : List ℕ) (c n : ℕ) → rows_from (row_at table) c n ≡ take (n * 39) (drop (c * 39) table)
unfolding rows_from
rows_of table c zero = refl
rows_of table c (suc n) =
    let e₁ : suc n * 39 ≡ 39 + n * 39 = omega arith in
    let e₂ : suc c * 39 ≡ c * 39 + 39 = omega arith in
    rw (rows_of table (suc c) n, e₁, take-add, drop-drop, e₂)

-- n rows from row c on have `width` words each
abbrev pub Whole : ℕ → (ℕ → List ℕ) → ℕ → ℕ → Type 0
Whole width row c n = (k : ℕ) → c ≤ k → k < c + n → length (row k) ≡ width

pub length-rows : (width : ℕ) (row : ℕ → List ℕ) (c n : ℕ) → Whole width row c n → length (rows_from row c n) ≡ n * width
unfolding rows_from
length-rows width row c zero h = sym (zero-mul width)
length-rows width row c (suc n) h =
    let rest = length-rows width row (suc c) n (λ k l m. h k (omega arith) (omega arith)) in
    let first = h c (omega arith) (omega arith) in
    length-append (row c) (rows_from row (suc c) n) ∙ omega (arith, suc-mul n width)

-- a loop from row c up to row n that replaces the rows one by one
module _ (width : ℕ) (table : List ℕ) (row : ℕ → List ℕ) (c n : ℕ) where
  pub replace_past : n ≤ c → with_rows width table row c (n - c) ≡ table
  unfolding with_rows rows_from
  replace_past h =
      let e : n - c ≡ 0 = omega arith in
      rw (e, add-zero, append-nil, take-append-drop)

  pub replace_next : (next : List ℕ) → c < n → suc c * width ≤ length table → length (row c) ≡ width → next ≡ with_row width table c (row c) → with_rows width table row c (n - c) ≡ with_rows width next row (c + 1) (n - (c + 1))
  unfolding with_rows rows_from
  replace_next next l h e q =
      let front = take (c * width) table ++ row c in
      let back = drop (suc c * width) table in
      let s = suc-mul c width in
      let len : length front ≡ suc c * width = length-append (take (c * width) table) (row c) ∙ rw (length-take-le (c * width) table (omega arith)) (omega arith) in
      let m = n - suc c in
      let e₁ : n - c ≡ suc m = omega arith in
      let e₂ : c + 1 ≡ suc c = omega arith in
      let e₃ : c + suc m ≡ suc c + m = omega arith in
      rw (
        q,
        e₁,
        e₂,
        e₃,
        add-mul (suc c) m width,
        ← drop-drop (m * width) (suc c * width) (front ++ back),
        drop_at front back (suc c * width) len,
        take_at front back (suc c * width) len,
        drop-drop,
      ) (simp append_assoc)

set_append_add : (xs ys : List ℕ) (n v : ℕ) → set (xs ++ ys) (length xs + n) v ≡ xs ++ set ys n v
set_append_add [] ys n v = rw zero-add
set_append_add (x ∷ xs) ys n v = rw (suc-add, set_append_add xs ys n v)

set_between : (front row back : List ℕ) (j v at : ℕ) → length front ≡ at → j < length row → set (front ++ row ++ back) (at + j) v ≡ front ++ set row j v ++ back
set_between front row back j v at e g = rw (← e, append_assoc front row back, set_append_add front (row ++ back) j v, set-append_left row back j v g) (simp append_assoc)

-- a word of a row that was put
pub set_in_put : (width : ℕ) (table : List ℕ) (c : ℕ) (row : List ℕ) (j v : ℕ) → c * width ≤ length table → j < length row
    → set (with_row width table c row) (c * width + j) v ≡ with_row width table c (set row j v)
set_in_put width table c row j v h g =
    let front = take (c * width) table in
    let back = drop (suc c * width) table in
    let e : length front ≡ c * width = length-take-le (c * width) table h in
    set_between front row back j v (c * width) e g

pub row_of_put : (table : List ℕ) (c : ℕ) (row : List ℕ) → c * 39 ≤ length table → length row ≡ 39 → row_at (with_row 39 table c row) c ≡ row
row_of_put table c row h e =
    let front = take (c * 39) table in
    let back = drop (suc c * 39) table in
    rw (append_assoc front row back, drop_at front (row ++ back) (c * 39) (length-take-le (c * 39) table h), take_at row back 39 e)

-- word j of row d, where n rows stand before the rest
module _ (width : ℕ) (row : ℕ → List ℕ) (n : ℕ) (rest : List ℕ) (whole : Whole width row 0 n) (d j : ℕ) (within : d < n) (column : j < width) where
  split_at_row : (f : ℕ → List ℕ) → rows_from f 0 n ++ rest ≡ rows_from f 0 d ++ (f d ++ (rows_from f (suc d) (n - suc d) ++ rest))
  unfolding rows_from
  split_at_row f =
      let e : n ≡ d + suc (n - suc d) = omega arith in
      ap (λ (k : ℕ). rows_from f 0 k ++ rest) e ∙ rw (split_rows f 0 d (suc (n - suc d)), zero-add) (simp append_assoc)

  before : length (rows_from row 0 d) ≡ d * width
  before = length-rows width row 0 d (λ k l h. whole k l (omega arith))

  pub read_in_row : get_or (rows_from row 0 n ++ rest) (d * width + j) 0 ≡ get_or (row d) j 0
  read_in_row =
      let len = whole d (omega arith) (omega arith) in
      rw (split_at_row row, ← before, get_or-append-add, get_or-append (row d) (rows_from row (suc d) (n - suc d) ++ rest) 0 j (omega arith))

  -- the other rows are the same
  pub set_in_row : (next : ℕ → List ℕ) (v : ℕ) → set (row d) j v ≡ next d → ((k : ℕ) → (d ≡ k → ⊥) → next k ≡ row k) → set (rows_from row 0 n ++ rest) (d * width + j) v ≡ rows_from next 0 n ++ rest
  set_in_row next v here others =
      let len = whole d (omega arith) (omega arith) in
      rw (
        split_at_row row,
        split_at_row next,
        same_rows next row 0 d (λ k l h. others k (λ e. omega arith)),
        same_rows next row (suc d) (n - suc d) (λ k l h. others k (λ e. omega arith)),
        ← before,
        set_append_add,
        set-append_left (row d) (rows_from row (suc d) (n - suc d) ++ rest) j v (omega arith),
        here,
      )

-- a row of rows one after the other
pub row_in_rows : (row : ℕ → List ℕ) (n : ℕ) → Whole 39 row 0 n → (d : ℕ) → d < n → row_at (rows_from row 0 n) d ≡ row d
unfolding rows_from
row_in_rows row n whole d h =
    let rest = rows_from row (suc d) (n - suc d) in
    let e : n ≡ d + suc (n - suc d) = omega arith in
    let front = length-rows 39 row 0 d (λ k l m. whole k l (omega arith)) in
    ap (λ (k : ℕ). row_at (rows_from row 0 k) d) e
    ∙ rw (split_rows row 0 d (suc (n - suc d)), zero-add, drop_at (rows_from row 0 d) (row d ++ rest) (d * 39) front, take_at (row d) rest 39 (whole d (omega arith) (omega arith)))

-- a row of `width` words
pub put_row : (width : ℕ) (table : List ℕ) (c : ℕ) (row : List ℕ) → length row ≡ width → suc c * width ≤ length table
    → sets table (c * width) row ≡ with_row width table c row
put_row width table c row e h =
    let s = suc-mul c width in
    let room : c * width + length row ≤ length table = omega (arith, e) in
    let end : c * width + length row ≡ suc c * width = omega (arith, e) in
    sets-eq row table (c * width) room ∙ rw end

-- every row of a table
pub all_rows : (width : ℕ) (table : List ℕ) (row : ℕ → List ℕ) (n : ℕ) → length table ≡ n * width → with_rows width table row 0 (n - 0) ≡ rows_from row 0 n
unfolding with_rows
all_rows width table row n h =
    let e : n - 0 ≡ n = omega arith in
    rw (e, zero-mul, zero-add, drop_of_length-le table {i = n * width} (omega arith), append-nil)
