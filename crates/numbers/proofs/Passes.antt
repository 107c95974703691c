-- A pass over rows: `ok` says that the rows passed hold. Assumes nothing.
use mathlib.Core.Path.{◌≡◌, refl, sym, ap, ap₂, ◌∙◌}
use mathlib.Core.Bool.{Bool, true, ◌&&◌}
use mathlib.Core.List.{List, map}
use Prim.Native.Nat.{ℕ, ◌+◌, ◌≤◌}
use native.Mathlib.Omega.{arith}
use lib.ListN.{length, length-map}
use Rattle.numbers.specs.Below.{all_below}
use Rattle.numbers.proofs.Below.{all-next}

-- an array of structs has the length of the list that it is lowered to
pub mapped : (X Y : Type 0) (f : X → Y) (l : List X) (n : ℕ) → length (map f l) ≡ n → length l ≡ n
mapped X Y f l n e = sym (length-map l f) ∙ e

-- none is passed at the start
pub none_passed : (f : ℕ → Bool) → true ≡ all_below 0 f
unfolding all_below
none_passed f = refl

-- one more row is passed
pub one-passed : (f : ℕ → Bool) (i : ℕ) {x ok : Bool} → x ≡ f i → ok ≡ all_below i f → (x && ok) ≡ all_below (i + 1) f
one-passed f i e p = ap₂ ◌&&◌ e p ∙ sym (all-next i f)

-- all are passed
pub all-passed : (f : ℕ → Bool) (i n : ℕ) {ok : Bool} → ok ≡ all_below i f → i ≤ n → n ≤ i → ok ≡ all_below n f
all-passed f i n p a b = let e : i ≡ n = omega arith in p ∙ ap (λ (k : ℕ). all_below k f) e
