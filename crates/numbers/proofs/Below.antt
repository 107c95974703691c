-- The laws of `all_below` and `count_below`. Assumes nothing.
use mathlib.Core.Path.{◌≡◌, refl, sym, ap, ap₂, ◌∙◌}
use mathlib.Core.Bool.{Bool, true, false, cond, ◌||◌, ◌&&◌}
use mathlib.Core.Logic.{◌↔◌, ⊎_elim}
use Prim.Native.Nat.{ℕ, zero, suc, ◌+◌, ◌≤◌, ◌<◌, zero-le}
use native.Mathlib.Nat.{le_refl, le_of_suc-le-suc, not-suc-le-zero, eq-or-lt_of_le}
use native.Mathlib.Numerals.{add-one}
use native.Mathlib.Omega.{arith}
use Rattle.numbers.specs.Below.{all_below, any_below, count_below}
use Rattle.numbers.proofs.Bools.{and_left, and_right, and_both, or_left, or_right, or-either, never}

pub all-each : (k : ℕ) (f : ℕ → Bool) → all_below k f ≡ true → (n : ℕ) → n < k → f n ≡ true
unfolding all_below
all-each zero f e n h = absurd (not-suc-le-zero h)
all-each (suc k) f e n h =
    ⊎_elim
    (λ q. ap f q ∙ and_left (f k) (all_below k f) e)
    (λ l. all-each k f (and_right (f k) (all_below k f) e) n l)
    (eq-or-lt_of_le (le_of_suc-le-suc h))

pub each_all : (k : ℕ) (f : ℕ → Bool) → ((n : ℕ) → n < k → f n ≡ true) → all_below k f ≡ true
unfolding all_below
each_all zero f e = refl
each_all (suc k) f e = and_both (f k) (all_below k f) (e k (omega arith)) (each_all k f (λ n h. e n (omega arith)))

-- one number more, as a loop counts
pub all-next : (k : ℕ) (f : ℕ → Bool) → all_below (k + 1) f ≡ (f k && all_below k f)
unfolding all_below
all-next k f = ap (λ (n : ℕ). all_below n f) (add-one k)

pub any_next : (k : ℕ) (f : ℕ → Bool) → any_below (k + 1) f ≡ (f k || any_below k f)
unfolding any_below
any_next k f = ap (λ (n : ℕ). any_below n f) (add-one k)

-- f holds of some number below k exactly where there is one
pub any-is : (k : ℕ) (f : ℕ → Bool) → (any_below k f ≡ true) ↔ ((n : ℕ) × (n < k) × (f n ≡ true))
unfolding any_below
any-is k f = (found k, λ w. some k w.0 w.1 w.2)
  where
    found : (k : ℕ) → any_below k f ≡ true → (n : ℕ) × (n < k) × (f n ≡ true)
    found zero e = absurd (never e refl)
    found (suc k) e =
        ⊎_elim (λ h. (k, omega arith, h)) (λ h. let w = found k h in (w.0, omega (arith, w.1), w.2)) (or-either (f k) (any_below k f) e)

    some : (k n : ℕ) → n < k → f n ≡ true → any_below k f ≡ true
    some zero n h e = absurd (not-suc-le-zero h)
    some (suc k) n h e =
        ⊎_elim
        (λ q. or_left (f k) (any_below k f) (ap f (sym q) ∙ e))
        (λ l. or_right (f k) (any_below k f) (some k n l e))
        (eq-or-lt_of_le (le_of_suc-le-suc h))

pub all_same : (k : ℕ) (f g : ℕ → Bool) → ((n : ℕ) → n < k → f n ≡ g n) → all_below k f ≡ all_below k g
unfolding all_below
all_same zero f g e = refl
all_same (suc k) f g e = ap₂ ◌&&◌ (e k (omega arith)) (all_same k f g (λ n h. e n (omega arith)))

pub any_same : (k : ℕ) (f g : ℕ → Bool) → ((n : ℕ) → n < k → f n ≡ g n) → any_below k f ≡ any_below k g
unfolding any_below
any_same zero f g e = refl
any_same (suc k) f g e = ap₂ ◌||◌ (e k (omega arith)) (any_same k f g (λ n h. e n (omega arith)))

pub count_same : (k : ℕ) (f g : ℕ → Bool) → ((n : ℕ) → n < k → f n ≡ g n) → count_below k f ≡ count_below k g
unfolding count_below
count_same zero f g e = refl
count_same (suc k) f g e =
    ap₂ (λ (p : Bool) (x : ℕ). cond p 1 0 + x) (e k (omega arith)) (count_same k f g (λ n h. e n (omega arith)))

digit-le : (p q : Bool) → (p ≡ true → q ≡ true) → cond p 1 0 ≤ cond q 1 0
digit-le true true f = le_refl 1
digit-le true false f = absurd (never (f refl) refl)
digit-le false true f = zero-le
digit-le false false f = le_refl 0

-- what holds of more numbers has the greater count
pub count-le : (k : ℕ) (f g : ℕ → Bool) → ((n : ℕ) → f n ≡ true → g n ≡ true) → count_below k f ≤ count_below k g
unfolding count_below
count-le zero f g e = le_refl 0
count-le (suc k) f g e = omega (arith, digit-le (f k) (g k) (e k), count-le k f g e)

pub count-lt :
    (k : ℕ) (f g : ℕ → Bool) → ((n : ℕ) → f n ≡ true → g n ≡ true) → (m : ℕ) → m < k → f m ≡ false → g m ≡ true → count_below k f < count_below k g
unfolding count_below
count-lt zero f g e m h out within = absurd (not-suc-le-zero h)
count-lt (suc k) f g e m h out within =
    ⊎_elim
    (λ q.
    let none : ◌≡◌ {A = ℕ} (cond (f k) 1 0) 0 = ap (λ (b : Bool). cond {A = ℕ} b 1 0) (ap f (sym q) ∙ out) in
    let one : ◌≡◌ {A = ℕ} (cond (g k) 1 0) 1 = ap (λ (b : Bool). cond {A = ℕ} b 1 0) (ap g (sym q) ∙ within) in
    omega (arith, count-le k f g e))
    (λ l. omega (arith, digit-le (f k) (g k) (e k), count-lt k f g e m l out within))
    (eq-or-lt_of_le (le_of_suc-le-suc h))
