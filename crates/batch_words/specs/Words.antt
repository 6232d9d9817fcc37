-- Numbers and words in a batch: little-endian, a word in 8 bytes.
use Rattle.std.specs.Prelude.{List, [], ◌∷◌, ◌++◌, ℕ, zero, suc, ◌+◌, ◌*◌, ◌/◌, ◌%◌, take, drop}

unfoldable pub number : List ℕ → ℕ
number [] = 0
number (byte ∷ bytes) = byte + 256 * number bytes

-- the first n words
unfoldable pub words : ℕ → List ℕ → List ℕ
unfolding number
words zero bytes = []
words (suc n) bytes = number (take 8 bytes) ∷ words n (drop 8 bytes)

-- n bytes of a number
unfoldable pub little_endian : ℕ → ℕ → List ℕ
little_endian zero value = []
little_endian (suc n) value = value % 256 ∷ little_endian n (value / 256)

-- the bytes of words, one after the other
unfoldable pub bytes_of : List ℕ → List ℕ
unfolding little_endian
bytes_of [] = []
bytes_of (word ∷ ws) = little_endian 8 word ++ bytes_of ws
