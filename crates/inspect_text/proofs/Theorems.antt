-- A line begins with a digit, so that no lines are the text that all rows decode; and only a row that decodes has no line.
use mathlib.Core.Path.{◌≡◌, refl, sym, ap, ◌∙◌}
use mathlib.Core.Bool.{Bool, true, false, cond}
use mathlib.Core.List.{List, [], ◌∷◌, ◌++◌}
use Prim.Native.Nat.{ℕ, zero, suc, ◌+◌, ◌/◌, ◌%◌, ◌≤◌, ◌<◌}
use native.Mathlib.Nat.{add-zero, zero-add}
use native.Mathlib.Omega.{arith}
use lib.Dec.{ltb}
use lib.ListN.{length, length-append, get_or}
use borrow.Author.Tests.{ltb-true}
use Rattle.isa_decoding.specs.Decode.{decoded}
use Rattle.table_rows.specs.Rows.{rows, row_at, rows_from}
use Rattle.text.specs.Ascii.{ascii}
use Rattle.text.specs.Text.{decimal_of, decimal, word}
use Rattle.inspect_text.specs.Text.{numbers_text, line_of, line, row_text, lines, or_all_decode, trace_text}
use Rattle.inspect_text.specs.Theorems.{Decodes, AllDecode}
use Rattle.std.specs.Prelude.{Result, Ok, Err}
use Rattle.isa_decoding.specs.declared.Undecodable.TheVariants.{Unknown, Outside}
use Rattle.isa.specs.declared.Instruction.{Instruction}
use Rattle.isa_decoding.specs.declared.Undecodable.{Undecodable}

-- what it begins with, if with anything, is no letter
abbrev NoLetter : List ℕ → Type 0
NoLetter l = (c : ℕ) (cs : List ℕ) → l ≡ c ∷ cs → c < 58

nothing : NoLetter []
nothing c cs e = cc

digit : (d : ℕ) (ds : List ℕ) → d < 58 → NoLetter (d ∷ ds)
digit d ds h c cs e = let same : d ≡ c = cc in omega arith

joined : (xs ys : List ℕ) → NoLetter xs → NoLetter ys → NoLetter (xs ++ ys)
joined [] ys f g = g
joined (x ∷ xs) ys f g = digit x (xs ++ ys) (f x xs refl)

by_size : (k n : ℕ) (small : Bool) → ltb n 10 ≡ small → NoLetter (decimal_of k (n / 10)) → NoLetter (cond small ((48 + n) ∷ []) (decimal_of k (n / 10) ++ ((48 + n % 10) ∷ [])))
by_size k n true e f = let h = ltb-true n 10 e in digit (48 + n) [] (omega arith)
by_size k n false e f = joined (decimal_of k (n / 10)) ((48 + n % 10) ∷ []) f (digit (48 + n % 10) [] (omega arith))

digits : (k n : ℕ) → NoLetter (decimal_of k n)
unfolding decimal_of
digits zero n = nothing
digits (suc k) n = by_size k n (ltb n 10) refl (digits k (n / 10))

-- the first of two texts that has a byte decides
led : (xs ys : List ℕ) → 1 ≤ length xs → NoLetter xs → NoLetter (xs ++ ys)
led [] ys h f = absurd (omega arith)
led (x ∷ xs) ys h f = digit x (xs ++ ys) (f x xs refl)

number : (n : ℕ) → NoLetter (word n 32)
unfolding decimal
number n = joined (decimal n) (32 ∷ []) (digits 20 n) (digit 32 [] (omega arith))

module _ (row ci nia : ℕ) where
  numbers : NoLetter (numbers_text row ci nia)
  unfolding numbers_text
  numbers = joined (word row 32 ++ word ci 32) (word nia 32) (joined (word row 32) (word ci 32) (number row) (number ci)) (number nia)

  some_numbers : 1 ≤ length (numbers_text row ci nia)
  unfolding numbers_text
  some_numbers = omega (arith, length-append (word row 32 ++ word ci 32) (word nia 32), length-append (decimal nia) (32 ∷ []))

  said : (reason : List ℕ) → NoLetter (numbers_text row ci nia ++ reason ++ ascii "\n")
  said reason =
      led (numbers_text row ci nia ++ reason) (ascii "\n") (omega (arith, some_numbers, length-append (numbers_text row ci nia) reason))
      (led (numbers_text row ci nia) reason some_numbers numbers)

  not_empty : (reason : List ℕ) → numbers_text row ci nia ++ reason ++ ascii "\n" ≡ [] → ⊥
  not_empty reason e = omega (arith, ap length e, length-append (numbers_text row ci nia ++ reason) (ascii "\n"))

  of_line : (d : Result Instruction Undecodable) → NoLetter (line_of d row ci nia)
  of_line (Ok i) = nothing
  of_line (Err Unknown) = said _
  of_line (Err (Outside class i)) = said _

  line_no_letter : NoLetter (line row ci nia)
  unfolding line
  line_no_letter = of_line (decoded ci nia)

module _ (words : List ℕ) (row : ℕ) where
  abbrev ci : ℕ
  ci = get_or words 3 0

  abbrev nia : ℕ
  nia = get_or words 4 0

  by_decoded : (d : Result Instruction Undecodable) → decoded ci nia ≡ d → line_of d row ci nia ≡ [] → Decodes words
  by_decoded (Ok i) e z = record { instruction = i; read = e }
  by_decoded (Err Unknown) e z = absurd (not_empty row ci nia _ z)
  by_decoded (Err (Outside class i)) e z = absurd (not_empty row ci nia _ z)

  decodes : row_text words row ≡ [] → Decodes words
  unfolding line
  decodes z = by_decoded (decoded ci nia) refl z

  no_line : Decodes words → row_text words row ≡ []
  unfolding line
  no_line d = ap (λ x. line_of x row ci nia) d.read

front_empty : (xs ys : List ℕ) → xs ++ ys ≡ [] → (xs ≡ []) × (ys ≡ [])
front_empty [] ys e = (refl, e)
front_empty (x ∷ xs) ys e = cc

module _ (f : ℕ → List ℕ) where
  rows_no_letter : (c n : ℕ) → ((k : ℕ) → NoLetter (f k)) → NoLetter (rows_from f c n)
  unfolding rows_from
  rows_no_letter c zero h = nothing
  rows_no_letter c (suc n) h = joined (f c) (rows_from f (suc c) n) (h c) (rows_no_letter (suc c) n h)

  each_empty : (c n : ℕ) → rows_from f c n ≡ [] → (k : ℕ) → k < n → f (c + k) ≡ []
  unfolding rows_from
  each_empty c zero e k h = absurd (omega arith)
  each_empty c (suc n) e zero h = rw (add-zero c) (front_empty (f c) (rows_from f (suc c) n) e).0
  each_empty c (suc n) e (suc k) h =
      let at : suc c + k ≡ c + suc k = omega arith in
      ap f (sym at) ∙ each_empty (suc c) n (front_empty (f c) (rows_from f (suc c) n) e).1 k (omega arith)

  all_empty : (c n : ℕ) → ((k : ℕ) → k < n → f (c + k) ≡ []) → rows_from f c n ≡ []
  unfolding rows_from
  all_empty c zero h = refl
  all_empty c (suc n) h =
      let first = ap f (sym (add-zero c)) ∙ h 0 (omega arith) in
      let rest = all_empty (suc c) n (λ k g. let at : suc c + k ≡ c + suc k = omega arith in ap f at ∙ h (suc k) (omega arith)) in
      ap (λ t. t ++ rows_from f (suc c) n) first ∙ rest

told : (l : List ℕ) → NoLetter l → or_all_decode l ≡ ascii "all rows decode\n" → l ≡ []
told [] f e = refl
told (x ∷ xs) f e = let a : x ≡ 97 = cc in absurd (omega (arith, f x xs refl))

module _ (trace : List ℕ) where
  abbrev texts : ℕ → List ℕ
  texts row = row_text (row_at trace row) row

  to : trace_text trace ≡ ascii "all rows decode\n" → (row : ℕ) → row < rows trace → Decodes (row_at trace row)
  unfolding trace_text lines
  to e row h =
      let plain = rows_no_letter texts 0 (rows trace) (λ k. line_no_letter k (get_or (row_at trace k) 3 0) (get_or (row_at trace k) 4 0)) in
      let empty = told (rows_from texts 0 (rows trace)) plain e in
      decodes (row_at trace row) row (ap texts (sym (zero-add row)) ∙ each_empty texts 0 (rows trace) empty row h)

  from : ((row : ℕ) → row < rows trace → Decodes (row_at trace row)) → trace_text trace ≡ ascii "all rows decode\n"
  unfolding trace_text lines
  from all = ap or_all_decode (all_empty texts 0 (rows trace) (λ k h. ap texts (zero-add k) ∙ no_line (row_at trace k) k (all k h)))

pub all_decode : AllDecode
all_decode trace = (to trace, from trace)
