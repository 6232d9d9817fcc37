-- A section of the writer's commands: each is proper, how many there are of a kind, and what they bring.
use mathlib.Core.Path.{◌≡◌, refl, sym, ◌∙◌}
use mathlib.Core.Bool.{Bool, true, false, cond}
use mathlib.Core.List.{List, [], ◌++◌, append-nil}
use Prim.Native.Nat.{ℕ, zero, suc, ◌+◌, ◌*◌, ◌/◌, ◌<◌}
use native.Mathlib.Nat.{suc-mul}
use native.Mathlib.Omega.{arith}
use lib.Dec.{eqb}
use lib.ListN.{length, take, drop, length-drop, take-append-drop, drop_of_length-le}
use lib.Seq.{length-take-le}
use Rattle.field_base.specs.Words.{all_below}
use Rattle.field_base.proofs.Below.{below_take, below_drop}
use Rattle.batch_words.specs.Words.{bytes_of}
use Rattle.batch_words.proofs.Writing.{length-bytes_of, words_below_bytes_of}
use Rattle.batch_commands.specs.Format.{END, COMMANDS, width, words_in}
use Rattle.batch_commands.proofs.Tables.{all_words}
use Rattle.batch_reader.specs.Commands.{count, contents}
use Rattle.batch_reader.proofs.Ordered.{Every}
use Rattle.batch_writer.specs.Layout.{commands_with}
use Rattle.terms_batches.proofs.Sound.{Proper}

-- the operand says its words
pub words_of : (code : ℕ) (ws : List ℕ) → length ws ≡ width code / 8 → all_below ws ≡ true → words_in code (bytes_of ws) ≡ ws
words_of code ws l b = all_words code (bytes_of ws) ∙ rw (sym l) (rw append-nil at (words_below_bytes_of ws [] b))

-- n commands of one kind bring exactly these words
pub record Filled (n code : ℕ) (ws : List ℕ) : Type 0 where
  pub exact : n * (width code / 8) ≡ length ws
  pub below : all_below ws ≡ true

module _ (code : ℕ) where
  abbrev w : ℕ
  w = width code / 8

  filled_first : (n : ℕ) (ws : List ℕ) → Filled (suc n) code ws → length (take w ws) ≡ w
  filled_first n ws f = length-take-le w ws (omega (arith, f.exact, suc-mul n w))

  pub filled_rest : (n : ℕ) (ws : List ℕ) → Filled (suc n) code ws → Filled n code (drop w ws)
  filled_rest n ws f = record { exact = omega (arith, f.exact, suc-mul n w, length-drop w ws); below = below_drop w ws f.below }

  module _ (known : code < COMMANDS) (more : code ≡ END → ⊥) (even : 8 * (width code / 8) ≡ width code) where
    pub each_with : (n : ℕ) (ws : List ℕ) → Filled n code ws → Every Proper (commands_with n code ws)
    unfolding commands_with
    each_with zero ws f = tt
    each_with (suc n) ws f =
        let l = filled_first n ws f in
        let b = below_take w ws f.below in
        (record { known = known; more = more; whole = omega (arith, length-bytes_of (take w ws)); below = rw (words_of code (take w ws) l b) b }, each_with n (drop w ws) (filled_rest n ws f))

  module _ (wanted : ℕ) where
    count_by : (n : ℕ) (same : Bool) → cond same 1 0 + cond same n 0 ≡ cond same (suc n) 0
    count_by n true = omega arith
    count_by n false = refl

    none_by : (same : Bool) → cond same 0 0 ≡ zero
    none_by true = refl
    none_by false = refl

    pub count-with : (n : ℕ) (ws : List ℕ) → count wanted (commands_with n code ws) ≡ cond (eqb code wanted) n 0
    unfolding commands_with count
    count-with zero ws = sym (none_by (eqb code wanted))
    count-with (suc n) ws = rw (count-with n (drop w ws)) (count_by n (eqb code wanted))

    contents_by : (ws : List ℕ) (same : Bool) → cond same (take w ws) [] ++ cond same (drop w ws) [] ≡ cond same ws []
    contents_by ws true = take-append-drop w ws
    contents_by ws false = refl

    nothing_by : (ws : List ℕ) (same : Bool) → ws ≡ [] → [] ≡ cond same ws []
    nothing_by ws true e = sym e
    nothing_by ws false e = refl

    pub contents_with : (n : ℕ) (ws : List ℕ) → Filled n code ws → contents wanted (commands_with n code ws) ≡ cond (eqb code wanted) ws []
    unfolding commands_with contents
    contents_with zero ws f = nothing_by ws (eqb code wanted) (drop_of_length-le ws {i = 0} (omega (arith, f.exact)))
    contents_with (suc n) ws f =
        rw (words_of code (take w ws) (filled_first n ws f) (below_take w ws f.below), contents_with n (drop w ws) (filled_rest n ws f)) (contents_by ws (eqb code wanted))
