use native.Mathlib.Omega.{arith}
use Rattle.numbers.proofs.Table.{entry}
use Rattle.lines.specs.Digits.{digit_of}
use Rattle.lines.proofs.digits.digit_of.Goals as goal

pub returns : goal.returns
unfolding digit_of
returns c = entry digit_of 256 c.args.b 0 (omega arith)
