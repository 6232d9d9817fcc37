-- Numbers and refusals, in ASCII.
use Rattle.std.specs.Prelude.{cond, List, [], ◌∷◌, ◌++◌, ℕ, zero, suc, ◌+◌, ◌/◌, ◌%◌, ltb}
use Rattle.refusal.specs.Number.{number_of}
use Rattle.refusal.specs.declared.Refusal.{Refusal}
use Rattle.text.specs.Ascii.{ascii}

-- the digits of a number that has at most k
unfoldable pub decimal_of : ℕ → ℕ → List ℕ
decimal_of zero n = []
decimal_of (suc k) n = cond (ltb n 10) ((48 + n) ∷ []) (decimal_of k (n / 10) ++ ((48 + n % 10) ∷ []))

-- a word of 64 bits has at most twenty
unfoldable pub decimal : ℕ → List ℕ
decimal n = decimal_of 20 n

abbrev pub SPACE : ℕ
SPACE = 32

abbrev pub NEWLINE : ℕ
NEWLINE = 10

abbrev pub word : ℕ → ℕ → List ℕ
word n then = decimal n ++ (then ∷ [])

-- "one line instead, `refused`, a space and the number"
abbrev pub refusal_text : Refusal → List ℕ
refusal_text refusal = ascii "refused " ++ word (number_of refusal) NEWLINE
