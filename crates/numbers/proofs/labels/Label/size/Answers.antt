use native.Mathlib.Omega.{arith}
use Rattle.numbers.proofs.LabelCode.{ones-size}
use Rattle.numbers.proofs.labels.Label.size.Goals as goal

pub returns : goal.returns
returns c = ones-size c.args.self (omega arith)
