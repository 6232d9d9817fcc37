-- A call's contract is an equation with the definitions that the terms speak of.
use mathlib.Core.Path.{sym, ap, ◌∙◌}
use mathlib.Core.List.{List}
use Prim.Native.Nat.{ℕ, ◌-◌}
use Rattle.field.specs.declared.XFieldElement.{XFieldElement}
use Rattle.table_rows.specs.Rows.{rows}
use Rattle.column_entries.specs.Columns.{Column}
use Rattle.extend_answer.specs.Answer.{extend_answer}
use Rattle.extend.specs.Extend.{extend_aux}
use Rattle.column_entries.specs.AuxRow.{cell_at}
use Rattle.terms.specs.Term3.{Ends}
use Rattle.terms.specs.Calls.{Call, Term2OfCalls, Term3OfCalls}
use Rattle.terms.proofs.Lists.{All-imply}
use Rattle.terms.proofs.Term2.{term2}
use Rattle.terms.proofs.Term3.{term3}

module _ {c : Column} {sampled : ℕ → XFieldElement} {x : XFieldElement} {main : List ℕ} {v : XFieldElement} (call : Call c sampled x main v) where
  ends : Ends c sampled x main v
  ends =
      let challenges = call.arguments.1.0.now in
      let chunk = call.arguments.1.1.0 in
      let aux = call.arguments.1.1.1.0.now in
      let work = call.arguments.1.1.1.1.0.now in
      record {
        challenges = challenges;
        chunk = chunk;
        aux = aux;
        work = work;
        given = call.given;
        accepted = ap (λ m. extend_answer m challenges chunk aux work) (sym call.main_lent) ∙ sym call.contract.0 ∙ call.accepted;
        last = ap (λ l. cell_at c l (rows main - 1)) (ap (λ m. extend_aux m challenges chunk aux work) (sym call.main_lent) ∙ sym call.contract.1.0) ∙ call.last;
      }

pub term3_of_calls : Term3OfCalls
term3_of_calls c sampled main₁ main₂ differ xs distinct calls =
    term3 c sampled main₁ main₂ differ xs distinct
    (All-imply (λ x. (v : XFieldElement) × Call c sampled x main₁ v × Call c sampled x main₂ v) (λ x. (v : XFieldElement) × Ends c sampled x main₁ v × Ends c sampled x main₂ v)
    (λ x h. (h.0, ends h.1, ends h.2)) xs calls)

pub term2_of_calls : Term2OfCalls
term2_of_calls lifetimes arguments answer left contract accepted c r within =
    let main = arguments.0.now in
    let challenges = arguments.1.0.now in
    let chunk = arguments.1.1.0 in
    let aux = arguments.1.1.1.0.now in
    let work = arguments.1.1.1.1.0.now in
    ap (λ l. cell_at c l r) contract.1.0 ∙ term2.cells main challenges chunk aux work (sym contract.0 ∙ accepted) c r within
