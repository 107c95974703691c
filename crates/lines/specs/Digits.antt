-- "digits 0-9, A-F, two a byte, high first" (01, "Lines"). Bytes are numbers: `0` is 48, `9` is 57, `A` is 65, `F` is 70.
-- Assumes nothing.
use Rattle.std.specs.Prelude.{Bool, cond, ◌&&◌, ℕ, ◌+◌, ◌-◌, ◌/◌, ◌%◌, ltb, leb}
use Rattle.lines.specs.declared.digits.Digits.{Digits}

-- b lies in the range from a to e, both counted in
abbrev pub from_to : ℕ → ℕ → ℕ → Bool
from_to a e b = leb a b && leb b e

-- the value of the digit that the byte b stands for, "255 for no digit"
unfoldable pub digit_of : ℕ → ℕ
digit_of b = cond (from_to 48 57 b) (b - 48) (cond (from_to 65 70 b) (b - 65 + 10) 255)

-- the byte that stands for a digit of the value v
unfoldable pub glyph_of : ℕ → ℕ
glyph_of v = cond (ltb v 10) (48 + v) (65 + (v - 10))

-- the two digits of a byte
abbrev pub digits_of : ℕ → Digits
digits_of b = record { high = glyph_of (b / 16); low = glyph_of (b % 16) }
