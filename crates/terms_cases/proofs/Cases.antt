-- Each case is computed.
use mathlib.Core.Path.{refl}
use Rattle.algebra.specs.Modulus as base
use Rattle.algebra.specs.Modulus.{power}
use Rattle.algebra.specs.Element as plain
use Rattle.field.specs.Element.{sum, difference, product, scale, inverse}
use Rattle.isa_decoding.specs.Decode.{decoded}
use Rattle.tip5.specs.LookupTable.{lookup_table}
use Rattle.cross_table_argument.specs.CrossTable.{evaluation, running_product, running_sum}
use Rattle.column_entries.specs.Row.{weigh}
use Rattle.column_entries.specs.Entries.{input_entries, output_entries, instruction_entries, op_stack_entries, ram_entries, ram_accesses, accesses_from, jump_stack_entries, hash_input_entries, hash_digest_entries, sponge_entries, u32_lookups, u32_entries, clock_entries}
use Rattle.column_entries.specs.Columns.{row_entries, entries, running}
use Rattle.column_entries.specs.AuxRow.{placed, aux_row}
use Rattle.field_base.specs.Words.{all_below}
use Rattle.table_rows.specs.Rows.{rows_from}
use Rattle.column_entries.specs.Denominators.{has_zero, zero_up_to}
use Rattle.extend_table.specs.Extended.{extended}
use Rattle.extend_answer.specs.Answer.{extend_answer}
use Rattle.extend.specs.Extend.{extend_aux}
use Rattle.terms_cases.specs.Cases.{Cases}
use Rattle.terms_cases.proofs.Different.{different}

pub cases : Cases
unfolding zero_up_to has_zero all_below rows_from placed aux_row extended extend_answer extend_aux sum difference product scale inverse plain.sum plain.difference plain.product plain.scale plain.cofactor plain.norm plain.inverse base.inverse power decoded lookup_table evaluation running_product running_sum weigh input_entries output_entries instruction_entries op_stack_entries ram_entries ram_accesses accesses_from jump_stack_entries hash_input_entries hash_digest_entries sponge_entries u32_lookups u32_entries clock_entries row_entries entries running
cases =
    record {
      x_times_x² = refl;
      x²_times_x² = refl;
      one_over_x = refl;
      one_over_2 = refl;
      read_io_0 = refl;
      read_io_6 = refl;
      read_io_5 = refl;
      byte_0 = refl;
      byte_1 = refl;
      byte_6 = refl;
      byte_255 = refl;
      all_different = different;
      input_cell = refl;
      output_cell = refl;
      input_0 = refl;
      input_6 = refl;
      xor_enters = refl;
      xor_cell = refl;
      example_cells = refl;
    }
