-- Word i is the table's at i behind the row's start.
use Rattle.std.proofs.Common.{◌≡◌, ℕ, zero, suc, ◌+◌, ◌*◌, ◌<◌, List, get_or, sym, ◌∙◌, arith, rules}
use denote.Param.Members.{Mut}
use Rattle.std.specs.Fn.{Called}
use Rattle.std.specs.Array.{IsFromFnResultFrom}
use Rattle.std.proofs.lemmas.List.{ext_get_or, get_or-take, get_or-drop}
use Rattle.table_rows.proofs.Rows.{length-row}
use Rattle.table_rows.proofs.unchecked.row.Goals as goal

-- what calls of a closure that stays as it is gave
module _ {F : Type 0} (g : Mut F (ℕ × Unit {0}) ℕ) (f : F) (h : ℕ → ℕ) (gives : (i y : ℕ) (q : F) → Called g f (i, tt) y q → (y ≡ h i) × (q ≡ f)) where
  each_given : (ys : List ℕ) (i n k j : ℕ) → i + k ≡ j → IsFromFnResultFrom g f ys i n → k < n → get_or ys j 0 ≡ h j
  each_given ys i zero k j at e l = absurd (omega arith)
  each_given ys i (suc n) zero j at e l = let same : i ≡ j = omega arith in rw (← same) (e.2.1 0 ∙ (gives i e.1 e.0 e.3).0)
  each_given ys i (suc n) (suc k) j at e l = each_given ys (i + 1) n k j (omega arith) (rw ((gives i e.1 e.0 e.3).1) at e.4) (omega arith)

pub returns : goal.returns
returns c =
    let table = c.args.table.now in
    let at = c.args.c * 39 in
    let items = c.from_fn.ensures.items in
    let len = length-row table c.args.c (omega arith) in
    ext_get_or 0 c.from_fn.result _ (items.long ∙ sym len)
    (λ i h. let below : i < 39 = omega arith in rw (get_or-take, get_or-drop) (each_given _ _ (λ k. get_or table (at + k) 0) (λ k y q e. search rules) c.from_fn.result 0 39 i i (omega arith) items.each below))
