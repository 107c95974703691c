use mathlib.Core.Path.{ap₂}
use Prim.Native.Nat.{ℕ}
use Rattle.lines.proofs.digits.digits_of.Goals as goal

pub returns : goal.returns
returns c = ap₂ (λ (h l : ℕ). record { high = h; low = l }) c.glyph.ensures c.glyph-2.ensures
