-- A set of numbers below 64 as one number: n has weight 2 ^ n. Labels are such sets of tags. Assumes nothing.
use Rattle.std.specs.Prelude.{Bool, cond, ℕ, zero, suc, ◌+◌, ◌/◌, ◌%◌, ◌^◌, eqb}

-- n is in x: 2 ^ n is one of the weights that x is the sum of
abbrev pub contains : ℕ → ℕ → Bool
contains x n = eqb (x / 2 ^ n % 2) 1

-- the set of those numbers below k that f picks
unfoldable pub set_of : ℕ → (ℕ → Bool) → ℕ
set_of zero f = 0
set_of (suc k) f = cond (f k) (2 ^ k) 0 + set_of k f
