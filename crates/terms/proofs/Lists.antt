-- What holds of every element of a list, and lists under a function.
use mathlib.Core.Path.{◌≡◌, refl, ap₂}
use mathlib.Core.Bool.{Bool, true, false, cond}
use mathlib.Core.List.{List, [], ◌∷◌, ◌++◌, map, reverse, reverse_aux, nil≢cons, cons≢nil, head-eq_of_cons-eq, tail-eq_of_cons-eq}
use mathlib.Core.Logic.{◌≢◌}
use Prim.Native.Nat.{ℕ, zero, suc}
use lib.ListN.{take, drop}
use Rattle.algebra.specs.Polynomial.{All, Distinct}

-- from what holds of each element to what holds of its image
pub All-map : {A B : Type 0} (Q : A → Type 0) (S : B → Type 0) (f : A → B) → ((a : A) → Q a → S (f a)) → (l : List A) → All Q l → All S (map f l)
All-map Q S f h [] q = tt
All-map Q S f h (a ∷ l) q = (h a q.0, All-map Q S f h l q.1)

pub All-append : {A : Type 0} (Q : A → Type 0) (l m : List A) → All Q l → All Q m → All Q (l ++ m)
All-append Q [] m q r = r
All-append Q (a ∷ l) m q r = (q.0, All-append Q l m q.1 r)

pub All-both : {A : Type 0} (Q S : A → Type 0) (l : List A) → All Q l → All S l → All (λ a. Q a × S a) l
All-both Q S [] q s = tt
All-both Q S (a ∷ l) q s = ((q.0, s.0), All-both Q S l q.1 s.1)

pub All-imply : {A : Type 0} (Q S : A → Type 0) → ((a : A) → Q a → S a) → (l : List A) → All Q l → All S l
All-imply Q S h [] q = tt
All-imply Q S h (a ∷ l) q = (h a q.0, All-imply Q S h l q.1)

-- what holds of every image
pub All-image : {A B : Type 0} (S : B → Type 0) (f : A → B) → ((a : A) → S (f a)) → (l : List A) → All S (map f l)
All-image S f h [] = tt
All-image S f h (a ∷ l) = (h a, All-image S f h l)

pub All-cond : {A : Type 0} (Q : A → Type 0) (test : Bool) (l m : List A) → All Q l → All Q m → All Q (cond test l m)
All-cond Q true l m q r = q
All-cond Q false l m q r = r

pub All-take : {A : Type 0} (Q : A → Type 0) (n : ℕ) (l : List A) → All Q l → All Q (take n l)
All-take Q zero l q = tt
All-take Q (suc n) [] q = tt
All-take Q (suc n) (a ∷ l) q = (q.0, All-take Q n l q.1)

pub All-drop : {A : Type 0} (Q : A → Type 0) (n : ℕ) (l : List A) → All Q l → All Q (drop n l)
All-drop Q zero l q = q
All-drop Q (suc n) [] q = tt
All-drop Q (suc n) (a ∷ l) q = All-drop Q n l q.1

All-reverse_from : {A : Type 0} (Q : A → Type 0) (l m : List A) → All Q l → All Q m → All Q (reverse_aux l m)
All-reverse_from Q [] m q r = r
All-reverse_from Q (a ∷ l) m q r = All-reverse_from Q l (a ∷ m) q.1 (q.0, r)

pub All-reverse : {A : Type 0} (Q : A → Type 0) (l : List A) → All Q l → All Q (reverse l)
All-reverse Q l q = All-reverse_from Q l [] q tt

-- functions that agree on the list
pub map_same : {A B : Type 0} (f g : A → B) (l : List A) → All (λ a. f a ≡ g a) l → map f l ≡ map g l
map_same f g [] q = refl
map_same f g (a ∷ l) q = ap₂ ◌∷◌ q.0 (map_same f g l q.1)

-- a function that keeps apart the elements of which Q holds
module _ {A B : Type 0} (Q : A → Type 0) (f : A → B) (injective : (a b : A) → Q a → Q b → f a ≡ f b → a ≡ b) where
  pub map_injective : (l m : List A) → All Q l → All Q m → map f l ≡ map f m → l ≡ m
  map_injective [] [] q r e = refl
  map_injective [] (b ∷ m) q r e = absurd (nil≢cons e)
  map_injective (a ∷ l) [] q r e = absurd (cons≢nil e)
  map_injective (a ∷ l) (b ∷ m) q r e =
      ap₂ ◌∷◌ (injective a b q.0 r.0 (head-eq_of_cons-eq e)) (map_injective l m q.1 r.1 (tail-eq_of_cons-eq e))

  pub map-distinct : (l : List A) → All Q l → Distinct l → Distinct (map f l)
  map-distinct [] q d = tt
  map-distinct (a ∷ l) q d = (
    All-map (λ b. Q b × (b ≢ a)) (λ y. y ≢ f a) f (λ b h e. h.1 (injective b a h.0 q.0 e)) l (All-both Q (λ b. b ≢ a) l q.1 d.0),
    map-distinct l q.1 d.1,
  )
