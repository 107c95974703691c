-- Truth values: what a yes of a compound test says of its parts. Assumes nothing.
use mathlib.Core.Path.{◌≡◌, refl, sym, ◌∙◌}
use mathlib.Core.Logic.{◌⊎◌, inl, inr}
use mathlib.Core.Bool.{Bool, true, false, not, cond, ◌&&◌, ◌||◌, true≢false}

pub and_left : (p q : Bool) → (p && q) ≡ true → p ≡ true
and_left true q e = refl
and_left false q e = e

pub and_right : (p q : Bool) → (p && q) ≡ true → q ≡ true
and_right true q e = e
and_right false q e = cc

pub and_both : (p q : Bool) → p ≡ true → q ≡ true → (p && q) ≡ true
and_both true q e f = f
and_both false q e f = e

pub or_left : (p q : Bool) → p ≡ true → (p || q) ≡ true
or_left true q e = refl
or_left false q e = cc

pub or_right : (p q : Bool) → q ≡ true → (p || q) ≡ true
or_right true q e = refl
or_right false q e = e

pub or_elim : (p q r : Bool) → (p || q) ≡ true → (p ≡ true → r ≡ true) → (q ≡ true → r ≡ true) → r ≡ true
or_elim true q r e f g = f refl
or_elim false q r e f g = g e

-- `not p || q` says that q holds where p does
pub implies : (p q : Bool) → (not p || q) ≡ true → p ≡ true → q ≡ true
implies true q e h = e
implies false q e h = cc

pub implied : (p q : Bool) → (p ≡ true → q ≡ true) → (not p || q) ≡ true
implied true q f = f refl
implied false q f = refl

-- two tests that hold together are one
pub both_ways : (p q : Bool) → (p ≡ true → q ≡ true) → (q ≡ true → p ≡ true) → p ≡ q
both_ways true q f g = sym (f refl)
both_ways false true f g = g refl
both_ways false false f g = refl

-- a test holds or fails
pub either : (p : Bool) → (p ≡ true) ⊎ (p ≡ false)
either true = inl refl
either false = inr refl

-- which of two tests held
pub or-either : (p q : Bool) → (p || q) ≡ true → (p ≡ true) ⊎ (q ≡ true)
or-either true q e = inl refl
or-either false q e = inr e

-- no test both holds and fails
pub never : {p : Bool} → p ≡ true → p ≡ false → ⊥
never e f = true≢false (sym e ∙ f)

-- what holds of both answers to a test holds of what it chooses
pub by-test : {A : Type 0} (P : A → Type 0) (b : Bool) {x y : A} → (b ≡ true → P x) → (b ≡ false → P y) → P (cond b x y)
by-test P true f g = f refl
by-test P false f g = g refl
