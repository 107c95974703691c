-- What is said of all numbers below a bound, or of some, and how many there are of a sort. Assumes nothing.
use Rattle.std.specs.Prelude.{Bool, true, false, cond, ◌&&◌, ◌||◌, ℕ, zero, suc, ◌+◌}

-- f holds of every number below k
unfoldable pub all_below : ℕ → (ℕ → Bool) → Bool
all_below zero f = true
all_below (suc k) f = f k && all_below k f

-- f holds of some number below k
unfoldable pub any_below : ℕ → (ℕ → Bool) → Bool
any_below zero f = false
any_below (suc k) f = f k || any_below k f

-- of how many numbers below k f holds
unfoldable pub count_below : ℕ → (ℕ → Bool) → ℕ
count_below zero f = 0
count_below (suc k) f = cond (f k) 1 0 + count_below k f
