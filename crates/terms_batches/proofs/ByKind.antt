-- Commands in order are their kinds one after the other.
use mathlib.Core.Path.{◌≡◌, refl, sym, ap, ◌∙◌}
use mathlib.Core.Bool.{Bool, true, false, cond, ◌||◌}
use mathlib.Core.List.{List, [], ◌∷◌, ◌++◌}
use Prim.Native.Nat.{ℕ, suc, ◌≤◌, ◌<◌}
use native.Mathlib.Omega.{arith}
use lib.Dec.{eqb, leb, ltb, lit<, lit≤}
use borrow.Author.Tests.{ltb-true, leb-true, leb-false, le-leb, lt-leb, eqb-true, eqb-false, eq-eqb, ne_eqb}
use Rattle.batch_commands.specs.Format.{END, TRACE-ROWS, ROW, OP-STACK, RAM, JUMP-STACK, SAMPLED, DIGEST, INPUT, OUTPUT, MONTGOMERY-ROW, HEIGHT, COMMANDS, rank, key, Command}
use Rattle.field_montgomery.specs.declared.Form.{Form}
use Rattle.batch_commands.specs.Form.{row_command, OfForm}
use Rattle.batch_commands.proofs.Tables.{of_test, rank_injective, of_any, row_known, row_rank, row_of}
use Rattle.batch_reader.proofs.Ordered.{OrderedFrom, Every, every_map, ranks_from}

-- those that a test holds for
abbrev pub those : (Command → Bool) → List Command → List Command
those test [] = []
those test (k ∷ ks) = cond (test k) (k ∷ those test ks) (those test ks)

those_alike : (f g : Command → Bool) (ks : List Command) → Every (λ k. f k ≡ g k) ks → those f ks ≡ those g ks
those_alike f g [] h = refl
those_alike f g (k ∷ ks) h = rw (h.0, those_alike f g ks h.1)

those_all : (f : Command → Bool) (ks : List Command) → Every (λ k. f k ≡ true) ks → those f ks ≡ ks
those_all f [] h = refl
those_all f (k ∷ ks) h = rw (h.0, those_all f ks h.1)

those_none : (f : Command → Bool) (ks : List Command) → Every (λ k. f k ≡ false) ks → those f ks ≡ []
those_none f [] h = refl
those_none f (k ∷ ks) h = rw (h.0, those_none f ks h.1)

-- of a rank, and of that or a later one
abbrev at : ℕ → List Command → List Command
at r ks = those (λ k. eqb (rank k.code) r) ks

abbrev from : ℕ → List Command → List Command
from r ks = those (λ k. leb r (rank k.code)) ks

-- of a kind
abbrev pub only : ℕ → List Command → List Command
only code ks = those (λ k. eqb k.code code) ks

seam_by : (r : ℕ) (k : Command) (ks : List Command) (here past : Bool) → leb r (rank k.code) ≡ here → leb (suc r) (rank k.code) ≡ past
    → OrderedFrom (rank k.code) (key k.code k.operand) ks → from r ks ≡ at r ks ++ from (suc r) ks → from r (k ∷ ks) ≡ at r (k ∷ ks) ++ from (suc r) (k ∷ ks)
seam_by r k ks here true e q h rest =
    let l = leb-true (suc r) (rank k.code) q in
    let later = ranks_from (rank k.code) (key k.code k.operand) (suc r) ks l h in
    let none : at r ks ≡ [] = those_none (λ j. eqb (rank j.code) r) ks (every_map _ _ (λ j m. ne_eqb (rank j.code) r (λ z. omega arith)) ks later) in
    rw (q, le-leb r (rank k.code) (omega arith), ne_eqb (rank k.code) r (λ z. omega arith), none) (ap (◌∷◌ k) (rest ∙ rw none))
seam_by r k ks true false e q h rest =
    let l = leb-true r (rank k.code) e in
    let m = leb-false (suc r) (rank k.code) q in
    rw (e, q, eq-eqb (rank k.code) r (omega arith), rest)
seam_by r k ks false false e q h rest =
    let l = leb-false r (rank k.code) e in
    rw (e, q, ne_eqb (rank k.code) r (λ z. omega arith), rest)

-- those of a rank stand before the later ones
seam : (r s m : ℕ) (ks : List Command) → OrderedFrom s m ks → from r ks ≡ at r ks ++ from (suc r) ks
seam r s m [] h = refl
seam r s m (k ∷ ks) h = seam_by r k ks (leb r (rank k.code)) (leb (suc r) (rank k.code)) refl refl h.1 (seam r (rank k.code) (key k.code k.operand) ks h.1)

-- the kinds behind 01 and 0B in their order
abbrev pub behind : Form → List ℕ
behind form = DIGEST ∷ INPUT ∷ OUTPUT ∷ SAMPLED ∷ row_command form ∷ OP-STACK ∷ RAM ∷ JUMP-STACK ∷ []

-- only 00 has the last rank
before_end : (code : ℕ) → code < COMMANDS → (code ≡ END → ⊥) → rank code < rank END
before_end code l h = by_test (eqb code END) refl (of_test (λ c. eqb c END || ltb (rank c) (rank END)) refl code l)
  where
    by_test : (end : Bool) → eqb code END ≡ end → (end || ltb (rank code) (rank END)) ≡ true → rank code < rank END
    by_test true e t = absurd (h (eqb-true code END e))
    by_test false e t = ltb-true (rank code) (rank END) t

abbrev pub kinds : List ℕ → List Command → List Command
kinds [] ks = []
kinds (code ∷ codes) ks = only code ks ++ kinds codes ks

module _ (form : Form) where
  abbrev pub Known : Command → Type 0
  Known k = (k.code < COMMANDS) × (k.code ≡ END → ⊥) × OfForm form k.code

  -- no two kinds of a form have one rank
  test_by : (code wanted : ℕ) (same : Bool) → eqb code wanted ≡ same → code < COMMANDS → wanted < COMMANDS → OfForm form code → OfForm form wanted → eqb (rank code) (rank wanted) ≡ same
  test_by code wanted true e l m f g = eq-eqb (rank code) (rank wanted) (ap rank (eqb-true code wanted e))
  test_by code wanted false e l m f g = ne_eqb (rank code) (rank wanted) (λ q. eqb-false code wanted e (rank_injective form code wanted l m f g q))

  -- the kinds of rank r and those behind it
  abbrev InLine : ℕ → List ℕ → Type 0
  InLine r [] = rank END ≤ r
  InLine r (code ∷ codes) = (code < COMMANDS) × OfForm form code × (rank code ≡ r) × InLine (suc r) codes

  module _ (ks : List Command) (known : Every Known ks) (s m : ℕ) (h : OrderedFrom s m ks) where
    kinds_from : (r : ℕ) (codes : List ℕ) → InLine r codes → from r ks ≡ kinds codes ks
    kinds_from r [] l = those_none (λ k. leb r (rank k.code)) ks (every_map Known (λ k. leb r (rank k.code) ≡ false) (λ k p. lt-leb r (rank k.code) (omega (arith, before_end k.code p.0 p.1))) ks known)
    kinds_from r (code ∷ codes) l =
        let this : at r ks ≡ only code ks = those_alike (λ k. eqb (rank k.code) r) (λ k. eqb k.code code) ks (every_map Known (λ k. eqb (rank k.code) r ≡ eqb k.code code) (λ k p. rw (sym l.2) (test_by k.code code (eqb k.code code) refl p.0 l.0 p.2 l.1)) ks known) in
        seam r s m ks h ∙ rw (this, kinds_from (suc r) codes l.3)

    pub in_kinds : ks ≡ kinds (TRACE-ROWS ∷ HEIGHT ∷ behind form) ks
    in_kinds =
        sym (those_all (λ k. leb 0 (rank k.code)) ks (every_map Known (λ k. leb 0 (rank k.code) ≡ true) (λ k p. le-leb 0 (rank k.code) (omega arith)) ks known))
        ∙ kinds_from 0 (TRACE-ROWS ∷ HEIGHT ∷ behind form) in-line
      where
        any : (code : ℕ) → (eqb code ROW || eqb code MONTGOMERY-ROW) ≡ false → OfForm form code
        any = of_any form

        from-rows : InLine 6 (row_command form ∷ OP-STACK ∷ RAM ∷ JUMP-STACK ∷ [])
        from-rows = (row_known form, row_of form, row_rank form, (lit< tt, any OP-STACK refl, refl, (lit< tt, any RAM refl, refl, (lit< tt, any JUMP-STACK refl, refl, lit≤ tt))))

        in-line : InLine 0 (TRACE-ROWS ∷ HEIGHT ∷ behind form)
        in-line = (lit< tt, any TRACE-ROWS refl, refl, (lit< tt, any HEIGHT refl, refl, (lit< tt, any DIGEST refl, refl, (lit< tt, any INPUT refl, refl, (lit< tt, any OUTPUT refl, refl, (lit< tt, any SAMPLED refl, refl, from-rows))))))
