-- Document 01: "Long" means over 4,194,304.
use Rattle.std.specs.Prelude.{Bool, not, ℕ, leb}

abbrev pub MAX-LEN : ℕ
MAX-LEN = 4194304

abbrev pub is_long : ℕ → Bool
is_long n = not (leb n MAX-LEN)
