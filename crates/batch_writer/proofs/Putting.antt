-- Commands of one kind, put one after the other.
use mathlib.Core.Path.{◌≡◌, refl, sym, ap, ◌∙◌}
use mathlib.Core.List.{List, [], ◌∷◌, ◌++◌, append_assoc, append-nil}
use Prim.Native.Nat.{ℕ, suc, ◌+◌, ◌-◌, ◌*◌, ◌/◌, ◌%◌, ◌≤◌, ◌<◌}
use native.Mathlib.Nat.{suc-mul, div-eq_of_lt, div-eq-sub-div, div-mul-le_self}
use native.Mathlib.Numerals.{add-one}
use native.Mathlib.Omega.{arith}
use lib.ListN.{length, length-append}
use lib.Seq.{take_at, drop_at}
use Rattle.std.proofs.lemmas.List.{map-append}
use Rattle.field_montgomery.specs.declared.Form.{Form}
use Rattle.field_montgomery.specs.declared.Form.TheVariants.{Plain, Montgomery}
use Rattle.field_montgomery.specs.Form.{to_montgomery, in_form}
use Rattle.field_montgomery.proofs.Many.{length-in_form}
use Rattle.batch_words.specs.Words.{bytes_of}
use Rattle.batch_words.specs.Pasted.{pasted}
use Rattle.batch_words.proofs.Writing.{length-bytes_of}
use Rattle.batch_words.proofs.Pasting.{pasted_none, pasted_on}
use Rattle.batch_commands.specs.Format.{width, laid_out}
use Rattle.batch_writer.specs.Layout.{commands_with}
use Rattle.batch_writer.proofs.Laying.{laid_next, laid_none, length-laid}

in_form_append : (form : Form) (us vs : List ℕ) → in_form form (us ++ vs) ≡ in_form form us ++ in_form form vs
in_form_append Plain us vs = refl
in_form_append Montgomery us vs = map-append to_montgomery us vs

-- so many words go into whole commands
abbrev pub commands_of : (code each : ℕ) → Form → List ℕ → List ℕ
commands_of code each form words = laid_out (commands_with (length words / each) code (in_form form words))

-- words of `rest` are to come, `each` a command
pub record Putting (batch₀ : List ℕ) (at code each : ℕ) (form : Form) (words batch : List ℕ) (to size : ℕ) (rest : List ℕ) : Type 0 where
  pub operand : width code ≡ 8 * each
  pub some : 0 < each
  pub chunk : size ≡ each
  pub done : List ℕ
  pub same_length : length batch ≡ length batch₀
  pub reached : to ≡ at + length done
  pub so_far : batch ≡ pasted batch₀ at done
  pub left : commands_of code each form words ≡ done ++ commands_of code each form rest
  pub room : to + length rest / each * (1 + 8 * each) ≤ length batch₀

module _ (batch₀ : List ℕ) (at code each : ℕ) (form : Form) (words : List ℕ) where
  pub none_put : width code % 8 ≡ 0 → 0 < width code → each ≡ width code / 8 → at + length words / (width code / 8) * (1 + width code) ≤ length batch₀ → Putting batch₀ at code each form words batch₀ at each words
  none_put whole some e room =
      let operand : width code ≡ 8 * each = omega arith in
      record {
        operand = operand;
        some = omega arith;
        chunk = refl;
        done = [];
        same_length = refl;
        reached = omega arith;
        so_far = pasted_none batch₀ at;
        left = refl;
        room = omega (arith, ap (λ k. length words / k * (1 + 8 * each)) e ∙ ap (λ w. length words / (width code / 8) * (1 + w)) (sym operand));
      }

  module _ (batch : List ℕ) (to size : ℕ) (rest : List ℕ) (p : Putting batch₀ at code each form words batch to size rest) where
    module _ (part rest' : List ℕ) (parts : rest ≡ part ++ rest') (long : length part ≡ size) where
      fewer : length rest / each ≡ suc (length rest' / each)
      fewer =
          let n : length rest ≡ each + length rest' = omega (arith, ap length parts, length-append part rest', p.chunk) in
          let m : length rest - each ≡ length rest' = omega arith in
          div-eq-sub-div {m = each} {n = length rest} p.some (omega arith) ∙ ap (λ k. k / each + 1) m ∙ add-one (length rest' / each)

      one_less : length rest / each * (1 + 8 * each) ≡ length rest' / each * (1 + 8 * each) + (1 + 8 * each)
      one_less = ap (λ k. k * (1 + 8 * each)) fewer ∙ suc-mul (length rest' / each) (1 + 8 * each)

      -- there is room for the next command
      pub fits : to + 1 + 8 * length part ≤ length batch
      fits = omega (arith, p.room, p.same_length, p.chunk, one_less)

      command-is : commands_of code each form rest ≡ (code ∷ bytes_of (in_form form part)) ++ commands_of code each form rest'
      command-is =
          let k : width code / 8 ≡ each = omega (arith, p.operand) in
          let own : length (in_form form part) ≡ each = length-in_form form part ∙ long ∙ p.chunk in
          ap (λ n. laid_out (commands_with n code (in_form form rest))) fewer ∙ laid_next (length rest' / each) code (in_form form rest)
          ∙ rw (k, ap (in_form form) parts ∙ in_form_append form part rest', take_at (in_form form part) (in_form form rest') each own, drop_at (in_form form part) (in_form form rest') each own)

      pub one_put : (batch' : List ℕ) (size' : ℕ) → size' ≡ size → length batch' ≡ length batch → batch' ≡ pasted batch to (code ∷ bytes_of (in_form form part))
          → Putting batch₀ at code each form words batch' (to + (1 + 8 * each)) size' rest'
      one_put batch' size' same l e =
          let command = code ∷ bytes_of (in_form form part) in
          let wide : length command ≡ 1 + 8 * each = omega (arith, length-bytes_of (in_form form part), length-in_form form part, p.chunk) in
          record {
            operand = p.operand;
            some = p.some;
            chunk = same ∙ p.chunk;
            done = p.done ++ command;
            same_length = l ∙ p.same_length;
            reached = omega (arith, p.reached, length-append p.done command, wide);
            so_far = e ∙ ap (λ b. pasted b to command) p.so_far ∙ pasted_on batch₀ at p.done (omega (arith, p.reached, p.room)) to command p.reached;
            left = p.left ∙ ap (◌++◌ p.done) command-is ∙ sym (append_assoc p.done command (commands_of code each form rest'));
            room = omega (arith, p.room, one_less);
          }

    pub all_put : length rest < size → (to ≡ at + length words / (width code / 8) * (1 + width code)) × (batch ≡ pasted batch₀ at (laid_out (commands_with (length words / (width code / 8)) code (in_form form words))))
    all_put few =
        let k : each ≡ width code / 8 = omega (arith, p.operand) in
        let none : length rest / each ≡ 0 = div-eq_of_lt (omega (arith, p.chunk)) in
        let whole : width code % 8 ≡ 0 = omega (arith, p.operand) in
        let n = length words / (width code / 8) in
        let all : p.done ≡ laid_out (commands_with n code (in_form form words)) =
        sym (ap (λ j. laid_out (commands_with (length words / j) code (in_form form words))) (sym k) ∙ p.left ∙ ap (λ j. p.done ++ laid_out (commands_with j code (in_form form rest))) none ∙ rw (laid_none code (in_form form rest)) (append-nil p.done)) in
        let enough : n * (width code / 8) ≤ length (in_form form words) = rw (length-in_form form words) (div-mul-le_self (length words) (width code / 8)) in
        (p.reached ∙ ap (λ l. at + length l) all ∙ ap (◌+◌ at) (length-laid n code (in_form form words) whole enough), p.so_far ∙ ap (pasted batch₀ at) all)
