-- What is said of a memory: which pairs it holds, that none stands twice, and that all are true. Assumes nothing.
use Rattle.std.specs.Prelude.{◌≡◌, Bool, true, false, not, ◌&&◌, ◌||◌, List, [], ◌∷◌, ℕ, eqb}
use Rattle.memory.specs.declared.Memory.{Memory}
use Rattle.memory.specs.Remembered.{holds}

-- x is one of the list
unfoldable pub among : List ℕ → ℕ → Bool
among [] x = false
among (y ∷ l) x = eqb y x || among l x

-- "a remembered pair doubled": none is
unfoldable pub distinct : List ℕ → Bool
distinct [] = true
distinct (y ∷ l) = not (among l y) && distinct l

-- "or untrue": every pair held is one for which the walk would answer yes
abbrev pub Truthful : Memory → (ℕ → Bool) → Type 0
Truthful m walk = (x : ℕ) → holds m x ≡ true → walk x ≡ true
