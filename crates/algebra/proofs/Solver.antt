-- A solver for equations in a commutative ring: the difference of the sides is multiplied out, and each coefficient must be zero.
use mathlib.Core.Path.{◌≡◌, refl, ap, ap₂, sym, ◌∙◌}
use mathlib.Core.Bool.{Bool, true, false, ◌&&◌}
use mathlib.Core.List.{List, [], ◌∷◌}
use Prim.Native.Nat.{ℕ, zero, suc, ◌+◌, ◌*◌}
use lib.Dec.{T, eqb, eqb→eq}
use lib.ListN.{length}
use Rattle.algebra.specs.Ring.{CommRing}
use Rattle.algebra.proofs.RingLaws.{zero-add, distrib_right, add-swap, mul_left_comm, mul_zero, zero-mul, neg_add, neg_neg, neg_zero, mul-neg, neg_mul, eq_of_sub, nat, nat_add, nat_mul, nat_one}

pub data Expr : Type 0 where
  var : ℕ → Expr
  lit : ℕ → Expr
  nil : Expr
  one : Expr
  ◌⊕◌ : Expr → Expr → Expr
  ◌⊗◌ : Expr → Expr → Expr
  ⊖◌ : Expr → Expr

infixl 6 ◌⊕◌
infixl 7 ◌⊗◌
infixr 8 ⊖◌
abbrev pub v0 : Expr
v0 = var 0

abbrev pub v1 : Expr
v1 = var 1

abbrev pub v2 : Expr
v2 = var 2

abbrev pub v3 : Expr
v3 = var 3

abbrev pub v4 : Expr
v4 = var 4

abbrev pub v5 : Expr
v5 = var 5

abbrev pub v6 : Expr
v6 = var 6

abbrev pub v7 : Expr
v7 = var 7

abbrev pub v8 : Expr
v8 = var 8

-- a whole number, as the difference of two numbers
pub data Coef : Type 0 where
  diff : ℕ → ℕ → Coef

-- in n variables: the coefficients of the powers of the first, each a polynomial in the others
abbrev pub Poly : ℕ → Type 0
Poly zero = Coef
Poly (suc n) = List (Poly n)

abbrev pub add_c : Coef → Coef → Coef
add_c (diff a b) (diff c d) = diff (a + c) (b + d)

abbrev pub mul_c : Coef → Coef → Coef
mul_c (diff a b) (diff c d) = diff (a * c + b * d) (a * d + b * c)

abbrev pub neg_c : Coef → Coef
neg_c (diff a b) = diff b a

abbrev pub null_c : Coef → Bool
null_c (diff a b) = eqb a b

module _ {A : Type 0} where
  abbrev pub add_l : (A → A → A) → List A → List A → List A
  add_l f [] m = m
  add_l f (x ∷ l) [] = x ∷ l
  add_l f (x ∷ l) (y ∷ m) = f x y ∷ add_l f l m

  abbrev pub map_l : (A → A) → List A → List A
  map_l f [] = []
  map_l f (x ∷ l) = f x ∷ map_l f l

  -- times the variable
  abbrev pub shift : A → List A → List A
  shift z [] = []
  shift z (x ∷ l) = z ∷ x ∷ l

  abbrev pub mul_l : A → (A → A → A) → (A → A → A) → List A → List A → List A
  mul_l z f g [] m = []
  mul_l z f g (x ∷ l) m = add_l f (map_l (g x) m) (shift z (mul_l z f g l m))

  abbrev pub all_l : (A → Bool) → List A → Bool
  all_l t [] = true
  all_l t (x ∷ l) = t x && all_l t l

abbrev pub zero_p : (n : ℕ) → Poly n
zero_p zero = diff 0 0
zero_p (suc n) = []

abbrev pub lit_p : (n : ℕ) → ℕ → Poly n
lit_p zero k = diff k 0
lit_p (suc n) k = lit_p n k ∷ []

abbrev pub var_p : (n : ℕ) → ℕ → Poly n
var_p zero j = diff 0 0
var_p (suc n) zero = zero_p n ∷ lit_p n 1 ∷ []
var_p (suc n) (suc j) = var_p n j ∷ []

abbrev pub add_p : (n : ℕ) → Poly n → Poly n → Poly n
add_p zero p q = add_c p q
add_p (suc n) p q = add_l (add_p n) p q

abbrev pub neg_p : (n : ℕ) → Poly n → Poly n
neg_p zero p = neg_c p
neg_p (suc n) p = map_l (neg_p n) p

abbrev pub mul_p : (n : ℕ) → Poly n → Poly n → Poly n
mul_p zero p q = mul_c p q
mul_p (suc n) p q = mul_l (zero_p n) (add_p n) (mul_p n) p q

abbrev pub null_p : (n : ℕ) → Poly n → Bool
null_p zero p = null_c p
null_p (suc n) p = all_l (null_p n) p

abbrev pub normal : (n : ℕ) → Expr → Poly n
normal n (var j) = var_p n j
normal n (lit k) = lit_p n k
normal n nil = zero_p n
normal n one = lit_p n 1
normal n (a ⊕ b) = add_p n (normal n a) (normal n b)
normal n (a ⊗ b) = mul_p n (normal n a) (normal n b)
normal n (⊖ a) = neg_p n (normal n a)

-- that the sides are equal in each ring
abbrev pub Equal : ℕ → Expr → Expr → Type 0
Equal n a b = T (null_p n (normal n (a ⊕ ⊖ b)))

T-and_left : (a b : Bool) → T (a && b) → T a
T-and_left true b t = tt
T-and_left false b t = t

T-and_right : (a b : Bool) → T (a && b) → T b
T-and_right true b t = t
T-and_right false b t = absurd t

module _ (R : CommRing) where
  open R use {Carrier as C, zero as o, one as i, add, mul, neg, add_comm, add-zero, add-neg, mul_assoc, mul-one, distrib}

  abbrev pub nth : List C → ℕ → C
  nth [] j = o
  nth (x ∷ ρ) zero = x
  nth (x ∷ ρ) (suc j) = nth ρ j

  abbrev pub ev : List C → Expr → C
  ev ρ (var j) = nth ρ j
  ev ρ (lit k) = nat R k
  ev ρ nil = o
  ev ρ one = i
  ev ρ (a ⊕ b) = add (ev ρ a) (ev ρ b)
  ev ρ (a ⊗ b) = mul (ev ρ a) (ev ρ b)
  ev ρ (⊖ a) = neg (ev ρ a)

  ev_c : Coef → C
  ev_c (diff a b) = add (nat R a) (neg (nat R b))

  horner : {A : Type 0} → C → (A → C) → List A → C
  horner x f [] = o
  horner x f (a ∷ l) = add (f a) (mul x (horner x f l))

  ev_p : (ρ : List C) → Poly (length ρ) → C
  unfolding ev_c horner
  ev_p [] p = ev_c p
  ev_p (x ∷ ρ) p = horner x (ev_p ρ) p

  -- the coefficients
  sub-sub : (a b c d : C) → add (add a c) (neg (add b d)) ≡ add (add a (neg b)) (add c (neg d))
  sub-sub a b c d = ap (add (add a c)) (neg_add R b d) ∙ add-swap R a c (neg b) (neg d)

  add_c_sound : (p q : Coef) → ev_c (add_c p q) ≡ add (ev_c p) (ev_c q)
  unfolding ev_c
  add_c_sound (diff a b) (diff c d) =
      ap₂ (λ x y. add x (neg y)) (nat_add R a c) (nat_add R b d) ∙ sub-sub (nat R a) (nat R b) (nat R c) (nat R d)

  mul-diff : (a b c d : C) → add (add (mul a c) (mul b d)) (neg (add (mul a d) (mul b c))) ≡ mul (add a (neg b)) (add c (neg d))
  mul-diff a b c d =
      sub-sub (mul a c) (mul a d) (mul b d) (mul b c)
      ∙ ap₂ add
      (ap (add (mul a c)) (sym (mul-neg R a d)) ∙ sym (distrib a c (neg d)))
      (add_comm (mul b d) (neg (mul b c))
      ∙ ap₂ add (sym (neg_mul R b c)) (sym (neg_neg R (mul b d)) ∙ ap neg (sym (neg_mul R b d)) ∙ sym (mul-neg R (neg b) d))
      ∙ sym (distrib (neg b) c (neg d)))
      ∙ sym (distrib_right R a (neg b) (add c (neg d)))

  mul_c_sound : (p q : Coef) → ev_c (mul_c p q) ≡ mul (ev_c p) (ev_c q)
  unfolding ev_c
  mul_c_sound (diff a b) (diff c d) =
      ap₂ (λ x y. add x (neg y))
      (nat_add R (a * c) (b * d) ∙ ap₂ add (nat_mul R a c) (nat_mul R b d))
      (nat_add R (a * d) (b * c) ∙ ap₂ add (nat_mul R a d) (nat_mul R b c))
      ∙ mul-diff (nat R a) (nat R b) (nat R c) (nat R d)

  neg_c_sound : (p : Coef) → ev_c (neg_c p) ≡ neg (ev_c p)
  unfolding ev_c
  neg_c_sound (diff a b) =
      add_comm (nat R b) (neg (nat R a)) ∙ ap (add (neg (nat R a))) (sym (neg_neg R (nat R b))) ∙ sym (neg_add R (nat R a) (neg (nat R b)))

  null_c_sound : (p : Coef) → T (null_c p) → ev_c p ≡ o
  unfolding ev_c
  null_c_sound (diff a b) t = ap (λ x. add (nat R x) (neg (nat R b))) (eqb→eq a b t) ∙ add-neg (nat R b)

  lit_c_sound : (k : ℕ) → ev_c (diff k 0) ≡ nat R k
  unfolding ev_c nat
  lit_c_sound k = ap (add (nat R k)) (neg_zero R) ∙ add-zero (nat R k)

  -- the lists
  module _ {A : Type 0} (x : C) (f : A → C) where
    add_l_sound : (g : A → A → A) → ((a b : A) → f (g a b) ≡ add (f a) (f b))
        → (l m : List A) → horner x f (add_l g l m) ≡ add (horner x f l) (horner x f m)
    unfolding horner
    add_l_sound g h [] m = sym (zero-add R (horner x f m))
    add_l_sound g h (a ∷ l) [] = sym (add-zero (horner x f (a ∷ l)))
    add_l_sound g h (a ∷ l) (b ∷ m) =
        ap₂ add (h a b) (ap (mul x) (add_l_sound g h l m) ∙ distrib x (horner x f l) (horner x f m))
        ∙ add-swap R (f a) (f b) (mul x (horner x f l)) (mul x (horner x f m))

    map_l_sound : (g : A → A) (k : C) → ((a : A) → f (g a) ≡ mul k (f a))
        → (l : List A) → horner x f (map_l g l) ≡ mul k (horner x f l)
    unfolding horner
    map_l_sound g k h [] = sym (mul_zero R k)
    map_l_sound g k h (a ∷ l) =
        ap₂ add (h a) (ap (mul x) (map_l_sound g k h l) ∙ mul_left_comm R x k (horner x f l))
        ∙ sym (distrib k (f a) (mul x (horner x f l)))

    neg_l_sound : (g : A → A) → ((a : A) → f (g a) ≡ neg (f a))
        → (l : List A) → horner x f (map_l g l) ≡ neg (horner x f l)
    unfolding horner
    neg_l_sound g h [] = sym (neg_zero R)
    neg_l_sound g h (a ∷ l) =
        ap₂ add (h a) (ap (mul x) (neg_l_sound g h l) ∙ mul-neg R x (horner x f l))
        ∙ sym (neg_add R (f a) (mul x (horner x f l)))

    shift_sound : (z : A) → f z ≡ o → (l : List A) → horner x f (shift z l) ≡ mul x (horner x f l)
    unfolding horner
    shift_sound z h [] = sym (mul_zero R x)
    shift_sound z h (a ∷ l) = ap (λ y. add y (mul x (horner x f (a ∷ l)))) h ∙ zero-add R (mul x (horner x f (a ∷ l)))

    mul_l_sound : (z : A) (g k : A → A → A) → f z ≡ o → ((a b : A) → f (g a b) ≡ add (f a) (f b)) → ((a b : A) → f (k a b) ≡ mul (f a) (f b))
        → (l m : List A) → horner x f (mul_l z g k l m) ≡ mul (horner x f l) (horner x f m)
    unfolding horner
    mul_l_sound z g k hz hg hk [] m = sym (zero-mul R (horner x f m))
    mul_l_sound z g k hz hg hk (a ∷ l) m =
        add_l_sound g hg (map_l (k a) m) (shift z (mul_l z g k l m))
        ∙ ap₂ add (map_l_sound (k a) (f a) (hk a) m)
        (shift_sound z hz (mul_l z g k l m) ∙ ap (mul x) (mul_l_sound z g k hz hg hk l m) ∙ sym (mul_assoc x (horner x f l) (horner x f m)))
        ∙ sym (distrib_right R (f a) (mul x (horner x f l)) (horner x f m))

    all_l_sound : (t : A → Bool) → ((a : A) → T (t a) → f a ≡ o) → (l : List A) → T (all_l t l) → horner x f l ≡ o
    unfolding horner
    all_l_sound t h [] p = refl
    all_l_sound t h (a ∷ l) p =
        ap₂ add (h a (T-and_left (t a) (all_l t l) p)) (ap (mul x) (all_l_sound t h l (T-and_right (t a) (all_l t l) p)) ∙ mul_zero R x) ∙ add-zero o

  -- the polynomials
  zero_p_sound : (ρ : List C) → ev_p ρ (zero_p (length ρ)) ≡ o
  unfolding ev_p ev_c nat horner
  zero_p_sound [] = add-neg o
  zero_p_sound (x ∷ ρ) = refl

  lit_p_sound : (ρ : List C) (k : ℕ) → ev_p ρ (lit_p (length ρ) k) ≡ nat R k
  unfolding ev_p horner
  lit_p_sound [] k = lit_c_sound k
  lit_p_sound (x ∷ ρ) k = ap₂ add (lit_p_sound ρ k) (mul_zero R x) ∙ add-zero (nat R k)

  var_p_sound : (ρ : List C) (j : ℕ) → ev_p ρ (var_p (length ρ) j) ≡ nth ρ j
  unfolding ev_p horner ev_c nat
  var_p_sound [] j = add-neg o
  var_p_sound (x ∷ ρ) zero =
      ap₂ add (zero_p_sound ρ) (ap (mul x) (ap₂ add (lit_p_sound ρ 1 ∙ nat_one R) (mul_zero R x) ∙ add-zero i) ∙ mul-one x) ∙ zero-add R x
  var_p_sound (x ∷ ρ) (suc j) = ap₂ add (var_p_sound ρ j) (mul_zero R x) ∙ add-zero (nth ρ j)

  add_p_sound : (ρ : List C) (p q : Poly (length ρ)) → ev_p ρ (add_p (length ρ) p q) ≡ add (ev_p ρ p) (ev_p ρ q)
  unfolding ev_p
  add_p_sound [] p q = add_c_sound p q
  add_p_sound (x ∷ ρ) p q = add_l_sound x (ev_p ρ) (add_p (length ρ)) (add_p_sound ρ) p q

  neg_p_sound : (ρ : List C) (p : Poly (length ρ)) → ev_p ρ (neg_p (length ρ) p) ≡ neg (ev_p ρ p)
  unfolding ev_p
  neg_p_sound [] p = neg_c_sound p
  neg_p_sound (x ∷ ρ) p = neg_l_sound x (ev_p ρ) (neg_p (length ρ)) (neg_p_sound ρ) p

  mul_p_sound : (ρ : List C) (p q : Poly (length ρ)) → ev_p ρ (mul_p (length ρ) p q) ≡ mul (ev_p ρ p) (ev_p ρ q)
  unfolding ev_p
  mul_p_sound [] p q = mul_c_sound p q
  mul_p_sound (x ∷ ρ) p q =
      mul_l_sound x (ev_p ρ) (zero_p (length ρ)) (add_p (length ρ)) (mul_p (length ρ)) (zero_p_sound ρ) (add_p_sound ρ) (mul_p_sound ρ) p q

  null_p_sound : (ρ : List C) (p : Poly (length ρ)) → T (null_p (length ρ) p) → ev_p ρ p ≡ o
  unfolding ev_p
  null_p_sound [] p t = null_c_sound p t
  null_p_sound (x ∷ ρ) p t = all_l_sound x (ev_p ρ) (null_p (length ρ)) (null_p_sound ρ) p t

  normal_sound : (ρ : List C) (e : Expr) → ev_p ρ (normal (length ρ) e) ≡ ev ρ e
  normal_sound ρ (var j) = var_p_sound ρ j
  normal_sound ρ (lit k) = lit_p_sound ρ k
  normal_sound ρ nil = zero_p_sound ρ
  normal_sound ρ one = lit_p_sound ρ 1 ∙ nat_one R
  normal_sound ρ (a ⊕ b) = add_p_sound ρ (normal (length ρ) a) (normal (length ρ) b) ∙ ap₂ add (normal_sound ρ a) (normal_sound ρ b)
  normal_sound ρ (a ⊗ b) = mul_p_sound ρ (normal (length ρ) a) (normal (length ρ) b) ∙ ap₂ mul (normal_sound ρ a) (normal_sound ρ b)
  normal_sound ρ (⊖ a) = neg_p_sound ρ (normal (length ρ) a) ∙ ap neg (normal_sound ρ a)

  pub solve : (ρ : List C) (a b : Expr) → Equal (length ρ) a b → ev ρ a ≡ ev ρ b
  solve ρ a b t =
      eq_of_sub R (ev ρ a) (ev ρ b)
      (sym (normal_sound ρ (a ⊕ ⊖ b)) ∙ null_p_sound ρ (normal (length ρ) (a ⊕ ⊖ b)) t)
