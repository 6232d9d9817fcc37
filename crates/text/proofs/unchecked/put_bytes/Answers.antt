-- A copy into a part is a run of stores.
use Rattle.std.proofs.Common.{◌+◌, ◌-◌, ◌++◌, length, take, drop, refl, sym, ap, ◌∙◌, arith}
use Rattle.std.proofs.lemmas.List.{take_all}
use Rattle.std.proofs.lemmas.List.Edits.{sets-eq}
use Rattle.std.proofs.lemmas.Slice.{put_mid-paste}
use Rattle.text.proofs.unchecked.put_bytes.Goals as goal

pub returns-clause-text : goal.returns-clause-text
returns-clause-text c =
    let out = c.args.out.now in
    let at = c.args.at in
    let text = c.args.text.now in
    put_mid-paste at (at + length text - at) out c.copy_from_slice.new.self text (length text) c.copy_from_slice.ensures.after (omega arith) refl
    ∙ ap (λ t. take at out ++ t ++ drop (at + length text) out) (take_all (length text) text (omega arith))
    ∙ sym (sets-eq text out at c.requires)
