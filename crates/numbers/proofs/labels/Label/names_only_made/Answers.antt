use Rattle.std.proofs.Common.{sym, ◌∙◌, arith}
use borrow.Author.Tests.{le-leb}
use Rattle.numbers.proofs.LabelLaws.{made_all}
use Rattle.numbers.proofs.LabelCode.{shr-made}
use Rattle.numbers.proofs.labels.Label.names_only_made.Goals as goal

pub returns-then-count-ge-TAGS : goal.returns-then-count-ge-TAGS
returns-then-count-ge-TAGS c =
    le-leb 64 c.args.count c.if-count-ge-TAGS.true ∙ sym (made_all c.args.self c.args.count c.if-count-ge-TAGS.true)

pub returns-else-count-ge-TAGS : goal.returns-else-count-ge-TAGS
returns-else-count-ge-TAGS c = shr-made c.args.self c.args.count (omega arith)
