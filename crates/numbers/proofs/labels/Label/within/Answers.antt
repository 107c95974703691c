use native.Mathlib.Omega.{arith}
use Rattle.numbers.proofs.LabelCode.{and-within}
use Rattle.numbers.proofs.labels.Label.within.Goals as goal

pub returns : goal.returns
returns c = and-within c.args.self c.args.b (omega arith)
