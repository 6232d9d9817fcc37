-- A command has no fault exactly if it passes each test.
use mathlib.Core.Path.{◌≡◌, sym, ◌∙◌}
use mathlib.Core.Bool.{true, false, not, ◌&&◌, ◌||◌}
use mathlib.Core.List.{List}
use Prim.Native.Nat.{ℕ, ◌-◌, ◌≤◌, ◌<◌}
use lib.Dec.{eqb, leb}
use lib.ListN.{length, take, get_or}
use borrow.Author.Tests.{ltb-false, le-ltb, leb-false, lt-leb, not-false}
use Rattle.field_base.specs.Words.{all_below}
use Rattle.refusal.proofs.Answers.{or-false}
use Rattle.refusal.proofs.First.{done_exactly}
use Rattle.batch_commands.specs.declared.Seen.{Seen}
use Rattle.batch_commands.specs.Format.{END, TRACE-ROWS, COMMANDS, width, words_in, limit}
use Rattle.batch_commands.specs.Fault.{mixed, missing, out_of_order, wrong_row_count, height_out_of_range, judged, fault_tests, fault}
use Rattle.batch_commands.proofs.Tables.{unknown}
use Rattle.refusal.specs.Number.{Done}

pub record Passes (seen : Seen) (code : ℕ) (bytes : List ℕ) : Type 0 where
  pub known : code < COMMANDS
  pub whole : width code ≤ length bytes
  pub after_first : (eqb (get_or seen.came TRACE-ROWS 0) 0 && not (eqb code TRACE-ROWS)) ≡ false
  pub under : get_or seen.came code 0 < limit seen.rows code
  pub unmixed : mixed seen.came code ≡ false
  pub at_end : (eqb code END && (missing seen.rows seen.came || not (eqb (length bytes - width code) 0))) ≡ false
  pub in_order : out_of_order seen code bytes ≡ false
  pub row_count : wrong_row_count code (take (width code) bytes) ≡ false
  pub height : height_out_of_range seen.rows code (take (width code) bytes) ≡ false
  pub below : all_below (words_in code bytes) ≡ true

module _ (seen : Seen) (code : ℕ) (bytes : List ℕ) where
  pub passing : fault seen code bytes ≡ Done → Passes seen code bytes
  unfolding fault judged
  passing e =
      let none = (done_exactly (fault_tests seen code bytes)).0 e in
      let judged-well = none.1.1 in
      let first = eqb (get_or seen.came TRACE-ROWS 0) 0 && not (eqb code TRACE-ROWS) in
      let over = leb (limit seen.rows code) (get_or seen.came code 0) in
      let p = or-false (first || over || mixed seen.came code) (eqb code END && (missing seen.rows seen.came || not (eqb (length bytes - width code) 0))) judged-well.0 in
      let o = or-false (first || over) (mixed seen.came code) p.0 in
      let q = or-false first over o.0 in
      record {
        known = leb-false COMMANDS code (sym (unknown code) ∙ none.0);
        whole = ltb-false (length bytes) (width code) none.1.0;
        after_first = q.0;
        under = leb-false (limit seen.rows code) (get_or seen.came code 0) q.1;
        unmixed = o.1;
        at_end = p.1;
        in_order = judged-well.1.0;
        row_count = judged-well.1.1.0;
        height = judged-well.1.1.1.0;
        below = not-false (all_below (words_in code bytes)) judged-well.1.1.1.1.0;
      }

  pub no_fault : Passes seen code bytes → fault seen code bytes ≡ Done
  unfolding fault judged
  no_fault p =
      rw (unknown code, lt-leb COMMANDS code p.known, le-ltb (length bytes) (width code) p.whole, p.after_first, lt-leb (limit seen.rows code) (get_or seen.came code 0) p.under, p.unmixed, p.at_end, p.in_order, p.row_count, p.height, p.below)
