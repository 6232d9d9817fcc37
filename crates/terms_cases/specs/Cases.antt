-- Document 01's values to hold, those marked P, over the definitions that the contracts cite.
use Rattle.std.specs.Prelude.{◌≡◌, [], ◌∷◌, map, ◌+◌, ◌-◌, ◌*◌, drop, get_or, Ok, Err}
use Rattle.algebra.specs.Modulus as base
use Rattle.algebra.specs.Modulus.{p}
use Rattle.algebra.specs.Polynomial.{Distinct}
use Rattle.field.specs.Element.{X, lift, difference, product, inverse}
use Rattle.isa_decoding.specs.Decode.{decoded}
use Rattle.isa_decoding.specs.declared.Class.TheVariants.{NumberOfWords}
use Rattle.isa_decoding.specs.declared.Undecodable.TheVariants.{Outside}
use Rattle.isa.specs.declared.Instruction.TheVariants.{ReadIo}
use Rattle.tip5.specs.LookupTable.{lookup_table}
use Rattle.air.specs.AuxColumn.{AUX-WORDS}
use Rattle.air.specs.Count.{up_to}
use Rattle.air.specs.ChallengeId.{COUNT}
use Rattle.challenges.specs.Derived.{challenge_at}
use Rattle.table_rows.specs.Rows.{row_at}
use Rattle.column_entries.specs.Entries.{u32_lookups}
use Rattle.column_entries.specs.Columns.{Column, input, output, u32}
use Rattle.terms_cases.specs.Tables.{window, xor, example, elements, twos, ten, extension, last_cell}

pub record Cases : Type 0 where
  pub x_times_x² : product X (product X X) ≡ record { c0 = p - 1; c1 = 1; c2 = 0 }
  pub x²_times_x² : product (product X X) (product X X) ≡ record { c0 = 0; c1 = p - 1; c2 = 1 }
  pub one_over_x : inverse X ≡ record { c0 = 1; c1 = 0; c2 = p - 1 }
  pub one_over_2 : base.inverse 2 ≡ 9223372034707292161
  pub read_io_0 : decoded 73 0 ≡ Err (Outside NumberOfWords (ReadIo 0))
  pub read_io_6 : decoded 73 6 ≡ Err (Outside NumberOfWords (ReadIo 6))
  pub read_io_5 : decoded 73 5 ≡ Ok (ReadIo 5)
  pub byte_0 : get_or lookup_table 0 0 ≡ 0
  pub byte_1 : get_or lookup_table 1 0 ≡ 7
  pub byte_6 : get_or lookup_table 6 0 ≡ 85
  pub byte_255 : get_or lookup_table 255 0 ≡ 255
  -- so that a cell under another column's challenge shows
  pub all_different : (c : Column) → Distinct (map (challenge_at (ten c)) (up_to COUNT))
  -- indeterminate 10, previous CI 73, NIA 2, current ST0 5, ST1 7
  pub input_cell : last_cell input 0 (window 73 2 [] (5 ∷ 7 ∷ [])) ≡ lift 175
  -- CI 19, NIA 2, previous ST0 5, ST1 7
  pub output_cell : last_cell output 1 (window 19 2 (5 ∷ 7 ∷ []) []) ≡ lift 157
  -- CI 73 with NIA 0 or 6
  pub input_0 : last_cell input 0 (window 73 0 [] (5 ∷ 7 ∷ [])) ≡ lift 1
  pub input_6 : last_cell input 0 (window 73 6 [] (5 ∷ 7 ∷ [])) ≡ lift 1
  -- Xor 6, 3, result 5 enters And, 14, with 2; its weights are challenges 55 to 58
  pub xor_enters : u32_lookups (row_at xor 0) (row_at xor 1) ≡ (6 ∷ 3 ∷ 14 ∷ 2 ∷ []) ∷ []
  pub xor_cell : last_cell u32 9 xor ≡ inverse (difference (lift 10) (lift (155 * 6 + 156 * 3 + 157 * 14 + 158 * 2)))
  -- the example of the program `terminals`: the last row's eleven cells
  pub example_cells :
      drop AUX-WORDS (extension twos example)
      ≡ elements (1 ∷ 1 ∷ 9223372034707292161 ∷ 1 ∷ 1 ∷ 0 ∷ 1 ∷ 1 ∷ 1 ∷ 0 ∷ 1 ∷ [])
