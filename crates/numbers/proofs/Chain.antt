-- A chain of refusals. A definition that refuses in a fixed order is a row of `cond test refusal rest`. These laws pass a test that
-- failed and stop at one that held, and the two sets answer the return of a function that makes the same tests in the same order:
-- `search steps` where the tests are the code's own, `search calls` where some are what a call answered. Assumes nothing.
use mathlib.Core.Path.{◌≡◌, sym, subst}
use mathlib.Core.Bool.{Bool, true, false, not, cond, ◌&&◌, ◌||◌}
use Prim.Native.Nat.{ℕ, ◌<◌, ◌≤◌}
use lib.Dec.{ltb}
use borrow.Author.Tests.{lt-ltb, le-ltb, le-leb, lt-leb, eq-eqb, ne_eqb}

-- the test failed: what is left decides
pub skip : {A : Type 0} {b : Bool} (x : A) {y r : A} → b ≡ false → r ≡ y → r ≡ cond b x y
skip {A} {b} x {y} {r} e q = subst (λ (t : Bool). r ≡ cond t x y) (sym e) q

-- the test held: this is the answer
pub hit : {A : Type 0} {b : Bool} {x r : A} (y : A) → b ≡ true → r ≡ x → r ≡ cond b x y
hit {A} {b} {x} {r} y e q = subst (λ (t : Bool). r ≡ cond t x y) (sym e) q

-- the same for a yes that has two grounds
pub or-hit : {p r : Bool} (q : Bool) → p ≡ true → r ≡ true → r ≡ (p || q)
or-hit {p} {r} q e h = subst (λ (t : Bool). r ≡ (t || q)) (sym e) h

pub or-skip : {p q r : Bool} → p ≡ false → r ≡ q → r ≡ (p || q)
or-skip {p} {q} {r} e h = subst (λ (t : Bool). r ≡ (t || q)) (sym e) h

-- the same for a yes that needs both
pub and-stop : {p r : Bool} (q : Bool) → p ≡ false → r ≡ false → r ≡ (p && q)
and-stop {p} {r} q e h = subst (λ (t : Bool). r ≡ (t && q)) (sym e) h

pub and-go : {p q r : Bool} → p ≡ true → r ≡ q → r ≡ (p && q)
and-go {p} {q} {r} e h = subst (λ (t : Bool). r ≡ (t && q)) (sym e) h

-- a test that is a call's answer a, of which the call's contract says that it is b
pub by-yes : {a b t : Bool} → a ≡ b → a ≡ t → b ≡ t
by-yes {a} {b} {t} e q = subst (λ (x : Bool). x ≡ t) e q

pub by-not : {a b t : Bool} → a ≡ b → not a ≡ t → not b ≡ t
by-not {a} {b} {t} e q = subst (λ (x : Bool). not x ≡ t) e q

-- the same where the call answers a number
pub by-lt : {a b : ℕ} (k : ℕ) → a ≡ b → k < a → ltb k b ≡ true
by-lt {a} {b} k e h = lt-ltb k b (subst (λ (x : ℕ). k < x) e h)

pub by-ge : {a b : ℕ} (k : ℕ) → a ≡ b → a ≤ k → ltb k b ≡ false
by-ge {a} {b} k e h = le-ltb k b (subst (λ (x : ℕ). x ≤ k) e h)

pub ruleset steps = (skip, hit, lt-ltb, le-ltb, le-leb, lt-leb, eq-eqb, ne_eqb)

pub ruleset calls = (skip, hit, lt-ltb, le-ltb, le-leb, lt-leb, eq-eqb, ne_eqb, by-yes, by-not, by-lt, by-ge)
