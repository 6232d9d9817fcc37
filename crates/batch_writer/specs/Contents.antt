-- What a batch holds.
use Rattle.std.specs.Prelude.{List, ℕ}
use Rattle.batch_writer.specs.declared.Lists.{Lists}

pub record Contents : Type 0 where
  pub trace : List ℕ
  pub op_stack : List ℕ
  pub ram : List ℕ
  pub jump_stack : List ℕ
  pub sampled : List ℕ
  pub digest : List ℕ
  pub input : List ℕ
  pub output : List ℕ
  -- the k of 0B, or 0
  pub log2_height : ℕ

abbrev pub contents_of : (trace op_stack ram jump_stack sampled digest input output : List ℕ) (log2_height : ℕ) → Contents
contents_of trace op_stack ram jump_stack sampled digest input output log2_height =
    record {
      trace = trace;
      op_stack = op_stack;
      ram = ram;
      jump_stack = jump_stack;
      sampled = sampled;
      digest = digest;
      input = input;
      output = output;
      log2_height = log2_height;
    }

-- and of the lists that the writer hands on
abbrev pub contents_in : Lists → ℕ → Contents
contents_in lists log2_height =
    contents_of lists.trace.now lists.op_stack.now lists.ram.now lists.jump_stack.now lists.sampled.now lists.digest.now lists.input.now lists.output.now log2_height
