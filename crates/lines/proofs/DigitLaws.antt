-- Digits written and read back. Each rule is one test that antt computes over all values. Assumes nothing.
use mathlib.Core.Path.{◌≡◌, refl, ap₂, ◌∙◌}
use mathlib.Core.Bool.{not, ◌||◌}
use Prim.Native.Nat.{ℕ, ◌+◌, ◌*◌, ◌/◌, ◌%◌, ◌<◌}
use native.Mathlib.Nat.{mod-lt, div-add-mod'}
use native.Mathlib.Omega.{arith}
use borrow.Author.Tests.{eqb-true, lt-ltb}
use lib.Dec.{eqb, ltb, lit<}
use Rattle.numbers.specs.Below.{all_below}
use Rattle.numbers.proofs.Bools.{implies}
use Rattle.numbers.proofs.Below.{all-each}
use Rattle.lines.specs.Digits.{digit_of, glyph_of, digits_of}

-- a digit that was written has its value
pub digit_glyph : (v : ℕ) → v < 16 → digit_of (glyph_of v) ≡ v
unfolding all_below digit_of glyph_of
digit_glyph v h = eqb-true (digit_of (glyph_of v)) v (all-each 16 (λ u. eqb (digit_of (glyph_of u)) u) refl v h)

-- a byte with a value is the one that stands for it: two bytes never stand for one digit
pub glyph-digit : (b : ℕ) → b < 256 → digit_of b < 16 → glyph_of (digit_of b) ≡ b
unfolding all_below digit_of glyph_of
glyph-digit b h v =
    eqb-true (glyph_of (digit_of b)) b
    (implies (ltb (digit_of b) 16) (eqb (glyph_of (digit_of b)) b)
    (all-each 256 (λ a. not (ltb (digit_of a) 16) || eqb (glyph_of (digit_of a)) a) refl b h)
    (lt-ltb (digit_of b) 16 v))

-- the two digits of a byte, high first, are the byte
pub digits-byte : (b : ℕ) → b < 256 → digit_of (digits_of b).high * 16 + digit_of (digits_of b).low ≡ b
digits-byte b h =
    ap₂ (λ (x y : ℕ). x * 16 + y) (digit_glyph (b / 16) (omega arith)) (digit_glyph (b % 16) (mod-lt b (lit< tt))) ∙ div-add-mod' b 16
