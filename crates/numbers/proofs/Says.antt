-- What a compound test says, both ways, from what its parts say. Assumes nothing.
use mathlib.Core.Path.{◌≡◌, ap}
use mathlib.Core.Bool.{Bool, true, not, ◌&&◌, ◌||◌}
use mathlib.Core.Logic.{◌↔◌, ⊎_elim}
use Prim.Native.Nat.{ℕ, ◌≤◌, ◌<◌}
use borrow.Author.Tests.{eqb-true, eq-eqb, leb-true, le-leb, ltb-true, ltb-false, lt-ltb, le-ltb, not-true}
use lib.Dec.{eqb, leb, ltb}
use Rattle.numbers.specs.Below.{all_below}
use Rattle.numbers.proofs.Bools.{and_left, and_right, and_both, or_left, or_right, or_elim, either, never}
use Rattle.numbers.proofs.Below.{all-each, each_all}

pub eqb_is : (a b : ℕ) → (eqb a b ≡ true) ↔ (a ≡ b)
eqb_is a b = (eqb-true a b, eq-eqb a b)

pub leb-is : (a b : ℕ) → (leb a b ≡ true) ↔ (a ≤ b)
leb-is a b = (leb-true a b, le-leb a b)

pub ltb-is : (a b : ℕ) → (ltb a b ≡ true) ↔ (a < b)
ltb-is a b = (ltb-true a b, lt-ltb a b)

-- a test of which nothing else is said
pub itself : (p : Bool) → (p ≡ true) ↔ (p ≡ true)
itself p = (λ e. e, λ e. e)

-- both hold
pub and_is : {p q : Bool} {A B : Type 0} → (p ≡ true) ↔ A → (q ≡ true) ↔ B → ((p && q) ≡ true) ↔ (A × B)
and_is {p} {q} f g = (λ e. (f.0 (and_left p q e), g.0 (and_right p q e)), λ w. and_both p q (f.1 w.0) (g.1 w.1))

-- it fails
pub not_is : {p : Bool} {A : Type 0} → (p ≡ true) ↔ A → (not p ≡ true) ↔ (A → ⊥)
not_is {p} f = (
  λ e a. never (f.1 a) (not-true p e),
  λ h. ⊎_elim (λ e. absurd (h (f.0 e))) (λ e. ap not e) (either p),
)

-- it holds from k on
pub from_is : {q : Bool} {A : Type 0} (k n : ℕ) → (q ≡ true) ↔ A → ((ltb n k || q) ≡ true) ↔ (k ≤ n → A)
from_is {q} k n f = (
  λ e h. f.0 (or_elim (ltb n k) q q e (λ l. absurd (never l (le-ltb n k h))) (λ x. x)),
  λ g. ⊎_elim (λ l. or_left (ltb n k) q l) (λ l. or_right (ltb n k) q (f.1 (g (ltb-false n k l)))) (either (ltb n k)),
)

-- each number below k passes
pub all-is : {f : ℕ → Bool} {P : ℕ → Type 0} (k : ℕ) → ((n : ℕ) → (f n ≡ true) ↔ P n) → (all_below k f ≡ true) ↔ ((n : ℕ) → n < k → P n)
all-is {f} k h = (λ e n l. (h n).0 (all-each k f e n l), λ g. each_all k f (λ n l. (h n).1 (g n l)))
