-- Words in a form and plain: the conversions undo each other, give words below p, and go word by word.
use Rattle.std.proofs.Common.{◌≡◌, ℕ, zero, suc, ◌<◌, true, List, [], ◌∷◌, ◌++◌, map, length, get_or, take, drop, refl, ap₂, lt-ltb}
use mathlib.Core.List.{map-append}
use lib.ListN.{length-map, get_or-map}
use Rattle.algebra.specs.Modulus.{p}
use Rattle.field_base.specs.Words.{all_below}
use Rattle.field_base.proofs.Below.{first_below}
use Rattle.field_montgomery.specs.declared.Form.{Form}
use Rattle.field_montgomery.specs.declared.Form.TheVariants.{Plain, Montgomery}
use Rattle.field_montgomery.specs.Form.{to_montgomery, from_montgomery, plain_word, word_in, plain, in_form}
use Rattle.field_montgomery.proofs.Theorems.{conversions}

map-undone : (f g : ℕ → ℕ) → ((w : ℕ) → w < p → f (g w) ≡ w) → (ws : List ℕ) → all_below ws ≡ true → map f (map g ws) ≡ ws
map-undone f g e [] h = refl
map-undone f g e (w ∷ ws) h = let b = first_below w ws h in ap₂ ◌∷◌ (e w b.0) (map-undone f g e ws b.1)

map_below : (f : ℕ → ℕ) → ((w : ℕ) → f w < p) → (ws : List ℕ) → all_below (map f ws) ≡ true
unfolding all_below
map_below f b [] = refl
map_below f b (w ∷ ws) = rw (lt-ltb (f w) p (b w)) (map_below f b ws)

map-take : (f : ℕ → ℕ) (n : ℕ) (ws : List ℕ) → map f (take n ws) ≡ take n (map f ws)
map-take f zero ws = refl
map-take f (suc n) [] = refl
map-take f (suc n) (w ∷ ws) = rw (map-take f n ws)

map-drop : (f : ℕ → ℕ) (n : ℕ) (ws : List ℕ) → map f (drop n ws) ≡ drop n (map f ws)
map-drop f zero ws = refl
map-drop f (suc n) [] = refl
map-drop f (suc n) (w ∷ ws) = map-drop f n ws

pub plain_in_form : (form : Form) (ws : List ℕ) → all_below ws ≡ true → plain form (in_form form ws) ≡ ws
plain_in_form Plain ws below = refl
plain_in_form Montgomery ws below = map-undone from_montgomery to_montgomery conversions.from_to ws below

pub in_form_plain : (form : Form) (ws : List ℕ) → all_below ws ≡ true → in_form form (plain form ws) ≡ ws
in_form_plain Plain ws below = refl
in_form_plain Montgomery ws below = map-undone to_montgomery from_montgomery conversions.to_from ws below

pub below_in_form : (form : Form) (ws : List ℕ) → all_below ws ≡ true → all_below (in_form form ws) ≡ true
below_in_form Plain ws below = below
below_in_form Montgomery ws below = map_below to_montgomery conversions.to_below ws

pub below_plain : (form : Form) (ws : List ℕ) → all_below ws ≡ true → all_below (plain form ws) ≡ true
below_plain Plain ws below = below
below_plain Montgomery ws below = map_below from_montgomery conversions.from_below ws

pub length-in_form : (form : Form) (ws : List ℕ) → length (in_form form ws) ≡ length ws
length-in_form Plain ws = refl
length-in_form Montgomery ws = length-map ws to_montgomery

pub length-plain : (form : Form) (ws : List ℕ) → length (plain form ws) ≡ length ws
length-plain Plain ws = refl
length-plain Montgomery ws = length-map ws from_montgomery

pub plain_append : (form : Form) (us vs : List ℕ) → plain form (us ++ vs) ≡ plain form us ++ plain form vs
plain_append Plain us vs = refl
plain_append Montgomery us vs = map-append from_montgomery us vs

pub in_form_part : (form : Form) (n i : ℕ) (ws : List ℕ) → in_form form (take n (drop i ws)) ≡ take n (drop i (in_form form ws))
in_form_part Plain n i ws = refl
in_form_part Montgomery n i ws = rw (map-take to_montgomery n (drop i ws), map-drop to_montgomery i ws)

pub plain_at : (form : Form) (ws : List ℕ) (i : ℕ) → get_or (plain form ws) i 0 ≡ plain_word form (get_or ws i 0)
unfolding from_montgomery
plain_at Plain ws i = refl
plain_at Montgomery ws i = get_or-map from_montgomery ws i 0

pub in_form_at : (form : Form) (ws : List ℕ) (i : ℕ) → get_or (in_form form ws) i 0 ≡ word_in form (get_or ws i 0)
unfolding to_montgomery
in_form_at Plain ws i = refl
in_form_at Montgomery ws i = get_or-map to_montgomery ws i 0
