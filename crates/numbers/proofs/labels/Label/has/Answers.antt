use Rattle.std.proofs.Common.{sym, ◌∙◌, arith}
use borrow.Author.Tests.{le-ltb}
use Rattle.numbers.proofs.LabelLaws.{member-above}
use Rattle.numbers.proofs.labels.Label.has.Goals as goal

pub returns-else-from-lt-TAGS : goal.returns-else-from-lt-TAGS
returns-else-from-lt-TAGS c =
    le-ltb c.from.result 64 c.if-from-lt-TAGS.false ∙ sym (member-above c.args.self (omega arith) c.args.t.0 (omega (arith, c.from.ensures)))
