use native.Mathlib.Omega.{arith}
use Rattle.numbers.proofs.LabelCode.{or-with, with-above}
use Rattle.numbers.proofs.labels.Label.with.Goals as goal

pub returns-then-from-lt-TAGS : goal.returns-then-from-lt-TAGS
returns-then-from-lt-TAGS c = or-with c.args.self c.args.t (omega arith) (omega (arith, c.from.ensures))

pub returns-else-from-lt-TAGS : goal.returns-else-from-lt-TAGS
returns-else-from-lt-TAGS c = with-above c.args.self c.args.t (omega arith) (omega (arith, c.from.ensures))
