use native.Mathlib.Omega.{arith}
use Rattle.numbers.proofs.LabelCode.{and-without, without-above}
use Rattle.numbers.proofs.labels.Label.without.Goals as goal

pub returns-then-from-lt-TAGS : goal.returns-then-from-lt-TAGS
returns-then-from-lt-TAGS c = and-without c.args.self c.args.t (omega arith) (omega (arith, c.from.ensures))

pub returns-else-from-lt-TAGS : goal.returns-else-from-lt-TAGS
returns-else-from-lt-TAGS c = without-above c.args.self c.args.t (omega arith) (omega (arith, c.from.ensures))
