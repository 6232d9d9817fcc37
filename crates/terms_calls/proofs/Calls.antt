-- A call's contract is an equation with the definitions that term 1 speaks of.
use mathlib.Core.Path.{◌≡◌, refl, sym, ap, subst, ◌∙◌}
use mathlib.Core.List.{List, [], ◌∷◌}
use Prim.Native.Nat.{ℕ}
use Rattle.terms.specs.Term1.{Answers}
use Rattle.terms.proofs.Term1.{term1}
use Rattle.terms_calls.specs.Calls.{Argument, slice, mut, Lent, Last, placed, By, of, Call, each, Term1OfCalls}

-- `held` is what the slices hold before the call, and `Unchanged` what term 1 says of them after a refusal
call : {K : Type 0} {ps : List Argument} {left : K → (lent : Lent ps) → Last ps → Lent ps} {Asked : K → Lent ps → Type 0}
    {Learnt : K → Lent ps → ℕ → Lent ps → Type 0} {line : List ℕ} {ends : By ps (ℕ × List (List ℕ))} {held : Lent ps → List (List ℕ)} {Unchanged : Lent ps → Type 0}
    → ((κs : K) (lent : Lent ps) → Asked κs lent)
    → ((κs : K) (lent : Lent ps) (number : ℕ) (last : Last ps) → Learnt κs lent number (left κs lent last)
    → (number ≡ (of ps ends lent).0) × (last ≡ placed ps (of ps ends lent).1))
    → ((lent : Lent ps) → Answers line (of ps ends lent).0 (Unchanged lent)) → ((lent : Lent ps) → Unchanged lent → (of ps ends lent).1 ≡ held lent)
    → ((κs : K) (lent : Lent ps) → left κs lent (placed ps (held lent)) ≡ lent)
    → Call ps left Asked Learnt line ends
call {ps = ps} {left = left} {line = line} unasked told answers same back =
    record {
      unasked = unasked;
      told = told;
      answers = λ κs lent number last h.
          let t = told κs lent number last h in
          subst (λ n. Answers line n (left κs lent last ≡ lent)) (sym t.0)
          (record { fixed = (answers lent).fixed; kept = λ ne. ap (left κs lent) (t.1 ∙ ap (placed ps) (same lent ((answers lent).kept ne))) ∙ back κs lent });
    }

pub term1_of_calls : Term1OfCalls
term1_of_calls =
    record {
      base_add = call (λ κs lent. tt) (λ κs lent n last h. (h.0, λ i. (tt, (tt, (h.1 i, tt))))) (λ lent. term1.base_add lent.0 lent.1.0 _) (λ lent p i. p i ∷ []) (λ κs lent. refl);
      base_sub = call (λ κs lent. tt) (λ κs lent n last h. (h.0, λ i. (tt, (tt, (h.1 i, tt))))) (λ lent. term1.base_sub lent.0 lent.1.0 _) (λ lent p i. p i ∷ []) (λ κs lent. refl);
      base_mul = call (λ κs lent. tt) (λ κs lent n last h. (h.0, λ i. (tt, (tt, (h.1 i, tt))))) (λ lent. term1.base_mul lent.0 lent.1.0 _) (λ lent p i. p i ∷ []) (λ κs lent. refl);
      base_inverse = call (λ κs lent. tt) (λ κs lent n last h. (h.0, λ i. (tt, (h.1 i, tt)))) (λ lent. term1.base_inverse lent.0 _) (λ lent p i. p i ∷ []) (λ κs lent. refl);
      to_montgomery = call (λ κs lent. tt) (λ κs lent n last h. (h.0, λ i. (tt, (h.1 i, tt)))) (λ lent. term1.to_montgomery lent.0 _) (λ lent p i. p i ∷ []) (λ κs lent. refl);
      from_montgomery = call (λ κs lent. tt) (λ κs lent n last h. (h.0, λ i. (tt, (h.1 i, tt)))) (λ lent. term1.from_montgomery lent.0 _) (λ lent p i. p i ∷ []) (λ κs lent. refl);
      montgomery_add = call (λ κs lent. tt) (λ κs lent n last h. (h.0, λ i. (tt, (tt, (h.1 i, tt))))) (λ lent. term1.montgomery_add lent.0 lent.1.0 _) (λ lent p i. p i ∷ []) (λ κs lent. refl);
      montgomery_mul = call (λ κs lent. tt) (λ κs lent n last h. (h.0, λ i. (tt, (tt, (h.1 i, tt))))) (λ lent. term1.montgomery_mul lent.0 lent.1.0 _) (λ lent p i. p i ∷ []) (λ κs lent. refl);
      montgomery_inverse = call (λ κs lent. tt) (λ κs lent n last h. (h.0, λ i. (tt, (h.1 i, tt)))) (λ lent. term1.montgomery_inverse lent.0 _) (λ lent p i. p i ∷ []) (λ κs lent. refl);
      element_add = call (λ κs lent. tt) (λ κs lent n last h. (h.0, λ i. (tt, (tt, (h.1 i, tt))))) (λ lent. term1.element_add lent.0.now lent.1.0.now _) (λ lent p i. p i ∷ []) (λ κs lent. refl);
      element_sub = call (λ κs lent. tt) (λ κs lent n last h. (h.0, λ i. (tt, (tt, (h.1 i, tt))))) (λ lent. term1.element_sub lent.0.now lent.1.0.now _) (λ lent p i. p i ∷ []) (λ κs lent. refl);
      element_mul = call (λ κs lent. tt) (λ κs lent n last h. (h.0, λ i. (tt, (tt, (h.1 i, tt))))) (λ lent. term1.element_mul lent.0.now lent.1.0.now _) (λ lent p i. p i ∷ []) (λ κs lent. refl);
      element_scale = call (λ κs lent. tt) (λ κs lent n last h. (h.0, λ i. (tt, (tt, (h.1 i, tt))))) (λ lent. term1.element_scale lent.0 lent.1.0.now _) (λ lent p i. p i ∷ []) (λ κs lent. refl);
      element_inverse = call (λ κs lent. tt) (λ κs lent n last h. (h.0, λ i. (tt, (h.1 i, tt)))) (λ lent. term1.element_inverse lent.0.now _) (λ lent p i. p i ∷ []) (λ κs lent. refl);
      decode = call (λ κs lent. tt) (λ κs lent n last h. (h.0, λ i. (tt, (h.1 i, tt)))) (λ lent. term1.decode _ _) (λ lent p i. p i ∷ []) (λ κs lent. refl);
      challenges = call (λ κs lent. tt) (λ κs lent n last h. (h.0, λ i. (tt, (tt, (tt, (tt, (h.1 i, tt))))))) (λ lent. term1.challenges _ _ _ _ _) (λ lent p i. p i ∷ []) (λ κs lent. refl);
      scan_maps = call (λ κs lent. tt) (λ κs lent n last h. (h.0, λ i. (h.1 i, (tt, tt)))) (λ lent. term1.scan_maps _ _) (λ lent p i. p i ∷ []) (λ κs lent. refl);
      scan_products = call (λ κs lent. tt) (λ κs lent n last h. (h.0, λ i. (h.1 i, (tt, tt)))) (λ lent. term1.scan_products _ _) (λ lent p i. p i ∷ []) (λ κs lent. refl);
      scan_sums = call (λ κs lent. tt) (λ κs lent n last h. (h.0, λ i. (h.1 i, (tt, tt)))) (λ lent. term1.scan_sums _ _) (λ lent p i. p i ∷ []) (λ κs lent. refl);
      fill = call (λ κs lent. tt) (λ κs lent n last h. (h.0, λ i. (tt, (tt, (tt, (tt, (h.1 i, tt))))))) (λ lent. term1.fill _ _ _ _ _) (λ lent p i. p i ∷ []) (λ κs lent. refl);
      pad = call (λ κs lent. tt) (λ κs lent n last h. (h.0, λ i. (h.1 i, (tt, tt)))) (λ lent. term1.pad _ _) (λ lent p i. p i ∷ []) (λ κs lent. refl);
      extend = call (λ κs lent. tt) (λ κs lent n last h. (h.0, λ i. (tt, (tt, (tt, (h.1.0 i, (h.1.1 i, tt))))))) (λ lent. term1.extend _ _ _ _ _) (λ lent p i. p.0 i ∷ p.1 i ∷ []) (λ κs lent. refl);
      extend_strict = call (λ κs lent. tt) (λ κs lent n last h. (h.0, λ i. (tt, (tt, (tt, (h.1.0 i, (h.1.1 i, tt))))))) (λ lent. term1.extend_strict _ _ _ _ _) (λ lent p i. p.0 i ∷ p.1 i ∷ []) (λ κs lent. refl);
      check = call (λ κs lent. tt) (λ κs lent n last h. (h.0, λ i. (tt, (tt, (tt, (h.1 i, tt)))))) (λ lent. term1.check _ _ _ _) (λ lent p i. p i ∷ []) (λ κs lent. refl);
      check_at = call (λ κs lent. tt) (λ κs lent n last h. (h.0, λ i. (tt, (tt, (tt, (h.1 i, tt)))))) (λ lent. term1.check_at _ _ _ _) (λ lent p i. p i ∷ []) (λ κs lent. refl);
      open_batch = call (λ κs lent. tt) (λ κs lent n last h. (h.0, ap (λ s. placed (slice ∷ mut ∷ mut ∷ mut ∷ mut ∷ mut ∷ mut ∷ mut ∷ mut ∷ mut ∷ []) (each s)) h.1)) (λ lent. term1.open_batch lent.0.now _) (λ lent p. ap each p) (λ κs lent. refl);
      write_batch = call (λ κs lent. tt) (λ κs lent n last h. (h.0, λ i. (tt, (tt, (tt, (tt, (tt, (tt, (tt, (tt, (tt, (tt, (h.1 i, tt))))))))))))) (λ lent. term1.write_batch _ lent.1.1.1.1.1.1.1.1.0 _) (λ lent p i. p i ∷ []) (λ κs lent. refl);
      terminals = call (λ κs lent. tt) (λ κs lent n last h. (h.0, λ i. (tt, (h.1 i, tt)))) (λ lent. term1.terminals _ _) (λ lent p i. p i ∷ []) (λ κs lent. refl);
    }
