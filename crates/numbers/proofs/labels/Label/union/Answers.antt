use native.Mathlib.Omega.{arith}
use Rattle.numbers.proofs.LabelCode.{or-union}
use Rattle.numbers.proofs.labels.Label.union.Goals as goal

pub returns : goal.returns
returns c = or-union c.args.self c.args.b (omega arith) (omega arith)
