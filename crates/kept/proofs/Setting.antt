-- A list and one of its elements put in anew. Assumes nothing.
use mathlib.Core.Path.{◌≡◌}
use mathlib.Core.List.{List, [], ◌∷◌}
use Prim.Native.Nat.{ℕ, zero, suc}
use native.Mathlib.Omega.{arith}
use lib.ListN.{get_or, set}

-- what holds of the element put in at i, of what stands past the end, and of the element at j where that is another place, holds of
-- the element that is then at j
pub set_holds :
    {A : Type 0} (P : A → Type 0) (l : List A) (i : ℕ) (a d : A) (j : ℕ) → P a → P d → ((j ≡ i → ⊥) → P (get_or l j d)) → P (get_or (set l i a) j d)
set_holds P [] i a d j new past old = past
set_holds P (x ∷ xs) zero a d zero new past old = new
set_holds P (x ∷ xs) zero a d (suc j) new past old = old (λ e. omega arith)
set_holds P (x ∷ xs) (suc i) a d zero new past old = old (λ e. omega arith)
set_holds P (x ∷ xs) (suc i) a d (suc j) new past old = set_holds P xs i a d j new past (λ h. old (λ e. h (omega arith)))
