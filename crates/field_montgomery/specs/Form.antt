-- Document 02, Three: "The prover keeps a base element v as v·2^64 modulo p, so that one is 4294967295".
use Rattle.std.specs.Prelude.{ℕ, ◌*◌, List, map}
use Rattle.algebra.specs.Modulus.{plus, times, inverse}
use Rattle.field_montgomery.specs.declared.Form.{Form}
use Rattle.field_montgomery.specs.declared.Form.TheVariants.{Plain, Montgomery}

abbrev pub RADIX : ℕ
RADIX = 18446744073709551616

unfoldable pub to_montgomery : ℕ → ℕ
to_montgomery v = times v RADIX

-- divided by 2^64 again
unfoldable pub from_montgomery : ℕ → ℕ
unfolding inverse
from_montgomery w = times w (inverse RADIX)

-- of words in the form: their sum is in it, their product has 2^64 once too often, and an inverse lacks it twice
abbrev pub montgomery_sum : ℕ → ℕ → ℕ
montgomery_sum a b = plus a b

unfoldable pub montgomery_product : ℕ → ℕ → ℕ
unfolding from_montgomery
montgomery_product a b = from_montgomery (a * b)

unfoldable pub montgomery_inverse : ℕ → ℕ
unfolding inverse
montgomery_inverse a = times (inverse a) (RADIX * RADIX)

-- a word that is kept in a form as a plain one, and a plain word in a form
abbrev pub plain_word : Form → ℕ → ℕ
plain_word Plain w = w
plain_word Montgomery w = from_montgomery w

abbrev pub word_in : Form → ℕ → ℕ
word_in Plain v = v
word_in Montgomery v = to_montgomery v

-- many words
abbrev pub plain : Form → List ℕ → List ℕ
plain Plain ws = ws
plain Montgomery ws = map from_montgomery ws

abbrev pub in_form : Form → List ℕ → List ℕ
in_form Plain vs = vs
in_form Montgomery vs = map to_montgomery vs
