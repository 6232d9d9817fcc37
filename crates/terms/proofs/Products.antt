-- Product columns: the cell is the product of x - e over the entries.
use mathlib.Core.Path.{◌≡◌, refl, ap, ap₂, sym, ◌∙◌}
use mathlib.Core.List.{List, [], ◌∷◌}
use mathlib.Core.Logic.{◌≢◌, ◌⊎◌, inl, inr}
use Prim.Native.Nat.{ℕ, suc, ◌+◌, ◌≤◌, max}
use native.Mathlib.Omega.{arith}
use lib.ListN.{length}
use Rattle.algebra.specs.Ring.{CommRing, Field}
use Rattle.algebra.specs.Polynomial.{All, Distinct}
use Rattle.algebra.proofs.RingLaws.{eq_of_sub}
use Rattle.algebra.proofs.Solver.{◌⊕◌, ◌⊗◌, ⊖◌, solve, v0, v1, v2}
use Rattle.algebra.proofs.Roots.{eval, Zero, root_bound}
use Rattle.terms.proofs.Tests.{choose}
use Rattle.terms.proofs.Polynomials.{sub, difference, add_multiple_length, eval_difference, times, times_length, times_zero, eval_times, product, product_of, product_of_length, eval_product_of, product-self, product-nonzero, nonzero_at}

module _ (R : CommRing) where
  open R use {Carrier as C, zero as o, one as i, mul, neg, add-neg}

  module _ (K : Field R) where
    -- how often an element stands in a list
    unfoldable pub count : C → List C → ℕ
    count e [] = 0
    count e (f ∷ fs) = choose (K.discrete f e) 1 0 + count e fs

    abbrev pub SameBag : List C → List C → Type 0
    SameBag es fs = (e : C) → count e es ≡ count e fs

    -- fs is e and the rest, up to order
    record Taken (e : C) (fs : List C) : Type 0 where
      rest : List C
      fewer : length fs ≡ suc (length rest)
      counts : (a : C) → count a fs ≡ count a (e ∷ rest)
      products : (x : C) → product R x fs ≡ product R x (e ∷ rest)

    take : (e : C) (fs : List C) → Taken e fs ⊎ All (λ f. f ≢ e) fs
    unfolding count product
    take e [] = inr tt
    take e (f ∷ fs) = go (K.discrete f e) (take e fs)
      where
        go : Dec (f ≡ e) → Taken e fs ⊎ All (λ f. f ≢ e) fs → Taken e (f ∷ fs) ⊎ All (λ f. f ≢ e) (f ∷ fs)
        go (yes q) t =
            inl (record {
              rest = fs;
              fewer = refl;
              counts = λ a. ap (λ g. count a (g ∷ fs)) q;
              products = λ x. ap (λ g. product R x (g ∷ fs)) q;
            })
        go (no n) (inl t) =
            inl (record {
              rest = f ∷ t.rest;
              fewer = ap suc t.fewer;
              counts = λ a. omega (arith, t.counts a);
              products = λ x. ap (mul (sub R x f)) (t.products x)
                  ∙ solve R (sub R x f ∷ sub R x e ∷ product R x t.rest ∷ []) (v0 ⊗ (v1 ⊗ v2)) (v1 ⊗ (v0 ⊗ v2)) tt;
            })
        go (no n) (inr d) = inr (n, d)

    -- the difference of two products, as a polynomial that is not zero
    record Apart (es fs : List C) : Type 0 where
      polynomial : List C
      nonzero : ¬ Zero R polynomial
      short : length polynomial ≤ suc (max (length es) (length fs))
      value : (x : C) → eval R polynomial x ≡ sub R (product R x es) (product R x fs)

    -- the products differ at x
    apart_at : (es fs : List C) (x : C) → product R x es ≢ product R x fs → Apart es fs
    apart_at es fs x ne =
        record {
          polynomial = difference R (product_of R es) (product_of R fs);
          nonzero = nonzero_at R (difference R (product_of R es) (product_of R fs)) x
              (λ z. ne (eq_of_sub R (product R x es) (product R x fs) (sym (value x) ∙ z)));
          short = omega (arith, add_multiple_length R (neg i) (product_of R es) (product_of R fs), product_of_length R es, product_of_length R fs);
          value = value;
        }
      where
        value : (x : C) → eval R (difference R (product_of R es) (product_of R fs)) x ≡ sub R (product R x es) (product R x fs)
        value x = eval_difference R (product_of R es) (product_of R fs) x ∙ ap₂ (sub R) (eval_product_of R x es) (eval_product_of R x fs)

    -- by induction: a common element is taken out of both, and an element of one alone makes that product alone zero
    apart : (es fs : List C) → ¬ SameBag es fs → Apart es fs
    unfolding count product
    apart [] [] ne = absurd (ne (λ e. refl))
    apart [] (f ∷ fs) ne = apart_at [] (f ∷ fs) f (λ z. product-nonzero R K f [] tt (z ∙ product-self R f fs))
    apart (e ∷ es) fs ne = go (apart es) (take e fs)
      where
        distribute : (x a b : C) → mul (sub R x e) (sub R a b) ≡ sub R (mul (sub R x e) a) (mul (sub R x e) b)
        distribute x a b = solve R (sub R x e ∷ a ∷ b ∷ []) (v0 ⊗ (v1 ⊕ ⊖ v2)) (v0 ⊗ v1 ⊕ ⊖ (v0 ⊗ v2)) tt

        go : ((gs : List C) → ¬ SameBag es gs → Apart es gs) → Taken e fs ⊎ All (λ f. f ≢ e) fs → Apart (e ∷ es) fs
        go recur (inl t) =
            let r = recur t.rest (λ s. ne (λ a. ap (λ (n : ℕ). choose (K.discrete e a) 1 0 + n) (s a) ∙ sym (t.counts a))) in
            record {
              polynomial = times R e o r.polynomial;
              nonzero = λ z. r.nonzero (times_zero R e r.polynomial z);
              short = omega (arith, times_length R e o r.polynomial, t.fewer, r.short);
              value = λ x. eval_times R e x r.polynomial ∙ ap (mul (sub R x e)) (r.value x)
                  ∙ distribute x (product R x es) (product R x t.rest) ∙ ap (sub R (product R x (e ∷ es))) (sym (t.products x));
            }
        go recur (inr d) = apart_at (e ∷ es) fs e (λ z. product-nonzero R K e fs d (sym z ∙ product-self R e es))

    roots : (es fs : List C) (a : Apart es fs) (xs : List C) → All (λ x. product R x es ≡ product R x fs) xs
        → All (λ x. eval R a.polynomial x ≡ o) xs
    roots es fs a [] z = tt
    roots es fs a (x ∷ xs) z =
        (a.value x ∙ ap (λ y. sub R y (product R x fs)) z.0 ∙ add-neg (product R x fs), roots es fs a xs z.1)

    pub product-bound : (es fs : List C) → ¬ SameBag es fs → (xs : List C) → Distinct xs → All (λ x. product R x es ≡ product R x fs) xs
        → length xs ≤ max (length es) (length fs)
    product-bound es fs ne xs d z =
        let a = apart es fs ne in
        let h = root_bound R K a.polynomial xs a.nonzero d (roots es fs a xs z) in omega (arith, h, a.short)
