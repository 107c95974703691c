use mathlib.Core.Path.{ap₂}
use mathlib.Core.Bool.{◌&&◌}
use Prim.Native.Nat.{ℕ, ◌+◌, ◌*◌, ◌%◌}
use lib.Dec.{ltb}
use Rattle.lines.specs.declared.reader.ReadByte.{ReadByte}
use Rattle.lines.proofs.reader.pair_at.Goals as goal

-- the byte of two digits of these values
abbrev byte : ℕ → ℕ → ReadByte
byte high low = record { value = (high * 16 + low) % 256; digits = ltb high 16 && ltb low 16 }

pub returns : goal.returns
returns c = ap₂ byte c.digit_of-high.ensures c.digit_of-low.ensures
