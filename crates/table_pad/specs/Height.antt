-- The rows of the main table: "the smallest power of two of rows, at least 2, that holds the trace".
use Rattle.std.specs.Prelude.{cond, ◌≡◌, ℕ, zero, suc, ◌*◌, ◌^◌, ◌≤◌, eqb, leb}

-- n, or the first that holds the rows where n is doubled up to k times
unfoldable pub doubled : ℕ → ℕ → ℕ → ℕ
doubled rows zero n = n
doubled rows (suc k) n = cond (leb rows n) n (doubled rows k (n * 2))

-- a trace has at most 32 rows
unfoldable pub height : ℕ → ℕ
height rows = doubled rows 4 2

-- Document 02, Five: 0B "sets 2^k rows"; without it, where k is 0, "the trace sets the height as before"
abbrev pub padded_height : ℕ → ℕ → ℕ
padded_height k rows = cond (eqb k 0) (height rows) (2 ^ k)

-- n is a power of two, from 2 on, that holds the rows, and none that is smaller does
pub record Smallest (rows n : ℕ) : Type 0 where
  pub exponent : ℕ
  pub power : n ≡ 2 ^ suc exponent
  pub holds : rows ≤ n
  pub smallest : (k : ℕ) → rows ≤ 2 ^ suc k → n ≤ 2 ^ suc k

abbrev pub HeightIsSmallest : Type 0
HeightIsSmallest = (rows : ℕ) → rows ≤ 32 → Smallest rows (height rows)
