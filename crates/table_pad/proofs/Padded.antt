-- What pad's answer says of the table, and the padded table as the trace's rows with padding below them.
use mathlib.Core.Path.{◌≡◌, sym, ap, ◌∙◌}
use mathlib.Core.Bool.{◌||◌}
use mathlib.Core.List.{List, [], ◌∷◌, ◌++◌, append-nil, append_assoc}
use Prim.Native.Nat.{ℕ, suc, ◌+◌, ◌-◌, ◌*◌, ◌%◌, ◌≤◌, ◌<◌}
use native.Mathlib.Nat.{zero-add}
use native.Mathlib.Omega.{arith}
use lib.Dec.{eqb, ltb}
use lib.ListN.{length, take, drop, get_or, set, length-set, length-take, length-drop, length-append, drop_of_length-le, get_or-append}
use lib.Seq.{set-set, set_at, take-suc, drop-cons, get_or-take, get_or-drop, length-take-le, paste, paste-suc}
use borrow.Author.Tests.{ltb-false, leb-true, eqb-true, eqb-false, not-false, lt-ltb, le-ltb}
use Rattle.refusal.specs.Long.{is_long}
use Rattle.air.specs.MainColumn.{CLK}
use Rattle.table_rows.specs.Rows.{rows, row_at, rows_from}
use Rattle.table_rows.specs.Writes.{with_row, with_rows}
use Rattle.table_pad.specs.Pad.{pad_tests, pad_answer, padding_row, padded_row}
use Rattle.refusal.proofs.Answers.{or-false}
use Rattle.refusal.proofs.First.{done_exactly}
use Rattle.table_rows.proofs.Rows.{split_rows, same_rows, rows_of, replace_next, row_of_put}
use Rattle.refusal.specs.Number.{Done}

-- a table whose shape is not refused
pub record Shaped (table : List ℕ) (len : ℕ) : Type 0 where
  pub whole : length table % 39 ≡ 0
  pub two : 2 ≤ rows table
  pub short : rows table ≤ 4194304
  pub some : 0 < len
  pub within : len ≤ rows table

module _ (table : List ℕ) (len : ℕ) where
  pub shaped : pad_answer table len ≡ Done → Shaped table len
  unfolding pad_answer
  shaped e =
      let empty = eqb len 0 in
      let n = rows table in
      let none = (done_exactly (pad_tests table len)).0 e in
      let c = or-false (ltb n 2 || is_long n || empty) (ltb n len) none.1.0 in
      let d = or-false (ltb n 2 || is_long n) empty c.0 in
      let f = or-false (ltb n 2) (is_long n) d.0 in
      let positive = eqb-false len 0 d.1 in
      record {
        whole = eqb-true (length table % 39) 0 (not-false _ none.0);
        two = ltb-false n 2 f.0;
        short = leb-true n 4194304 (not-false _ f.1);
        some = omega arith;
        within = ltb-false n len c.1;
      }

  -- the first rows are kept, the others are padding
  pub copied_down : Shaped table len → rows_from (padded_row table len) 0 (rows table) ≡ with_rows 39 table (padding_row (row_at table (len - 1))) len (rows table - len)
  unfolding with_rows
  copied_down s =
      let last = row_at table (len - 1) in
      let left = rows table - len in
      let e : rows table ≡ len + left = omega arith in
      let h : length table ≤ (len + left) * 39 = omega arith in
      ap (rows_from (padded_row table len) 0) e ∙ split_rows (padded_row table len) 0 len left
      ∙ rw (
        zero-add,
        same_rows (padded_row table len) (row_at table) 0 len (λ k l m. rw (lt-ltb k len (omega arith))),
        same_rows (padded_row table len) (padding_row last) len left (λ k l m. rw (le-ltb k len l)),
        rows_of table 0 len,
        drop_of_length-le table h,
        append-nil,
      )

-- padding like a padding row, and its multiplicity
module _ (c : ℕ) where
  pub padding_again : (row : List ℕ) → length row ≡ 39 → (a : ℕ) → padding_row (padding_row row a) c ≡ padding_row row c
  padding_again [] e a = cc
  padding_again (x ∷ []) e a = cc
  padding_again (x ∷ y ∷ rest) e a = ap (λ (l : List ℕ). c ∷ 1 ∷ l) (set-set rest 36 0 0)

  pub padding_without : (row : List ℕ) → length row ≡ 39 → set (padding_row row c) 38 0 ≡ padding_row row c
  padding_without [] e = cc
  padding_without (x ∷ []) e = cc
  padding_without (x ∷ y ∷ rest) e = ap (λ (l : List ℕ). c ∷ 1 ∷ l) (set-set rest 36 0 0)

-- words copied from before the place that they go to
pub paste_above : (table : List ℕ) (to from i : ℕ) → from + i < to → to + i < length table
    → set (paste table to (drop from table) i) (to + i) (get_or (paste table to (drop from table) i) (from + i) 0) ≡ paste table to (drop from table) (suc i)
paste_above table to from i h g =
    let front = take to table ++ take i (drop from table) in
    let len : to ≤ length (take to table) = simp length-take (omega arith) in
    let some : i < length (drop from table) = simp length-drop (omega arith) in
    let e : get_or (paste table to (drop from table) i) (from + i) 0 ≡ get_or (drop from table) i 0 =
    get_or-append front (drop (to + i) table) 0 (from + i) (simp length-append (omega arith)) ∙ get_or-append (take to table) (take i (drop from table)) 0 (from + i) (omega arith) ∙ get_or-take to table (from + i) 0 h ∙ sym (get_or-drop from table i 0) in
    rw e (paste-suc table to (drop from table) i 0 g some)

-- the row above with another first word
pub repeated : (table : List ℕ) (c : ℕ) → 0 < c → suc c * 39 ≤ length table
    → set (paste table (c * 39 + 1) (drop (c * 39 + 1 - 39) table) 38) (c * 39) c ≡ with_row 39 table c (set (row_at table (c - 1)) 0 c)
repeated table c some h =
    let at = c * 39 in
    let above = (c - 1) * 39 in
    let e₁ : at + 1 ≡ suc at = omega arith in
    let e₂ : suc at - 39 ≡ suc above = omega arith in
    let e₃ : suc c * 39 ≡ suc at + 38 = omega arith in
    let l₁ : above < length table = omega arith in
    let l₂ : at < length table = omega arith in
    rw (e₁, e₂, e₃, drop-cons table above 0 l₁, take-suc table at 0 l₂)
    (simp append_assoc (set_at (take at table) (get_or table at 0) (take 38 (drop (suc above) table) ++ drop (suc at + 38) table) c at (length-take-le at table (omega arith))))

-- a row like row n, at the clock c
abbrev pub like : List ℕ → ℕ → ℕ → List ℕ
like table n c = set (row_at table n) CLK c

-- once the first padding row is put, the others are like it
module _ (table next last : List ℕ) (len : ℕ) (whole : length last ≡ 39) (room : suc len * 39 ≤ length table) (put : next ≡ with_row 39 table len (padding_row last len)) where
  length-padding : (c : ℕ) → length (padding_row last c) ≡ 39
  length-padding c = simp length-set whole

  pub like_first : (c : ℕ) → like next len c ≡ padding_row last c
  like_first c = rw (put, row_of_put table len (padding_row last len) (omega arith) (length-padding len), set-set)

  pub first_padding : row_at next len ≡ like next len len
  first_padding = rw put (row_of_put table len (padding_row last len) (omega arith) (length-padding len)) ∙ sym (like_first len)

  pub rest_like_first : (n : ℕ) → len < n → with_rows 39 table (padding_row last) len (n - len) ≡ with_rows 39 next (like next len) (len + 1) (n - (len + 1))
  unfolding with_rows
  rest_like_first n l =
      replace_next 39 table (padding_row last) len n next l room (length-padding len) put
      ∙ rw (same_rows (padding_row last) (like next len) (len + 1) (n - (len + 1)) (λ k g h. sym (like_first k)))
