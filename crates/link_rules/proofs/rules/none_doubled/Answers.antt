-- `link_rules::rules::none_doubled` meets its contract: its rows are empty. Assumes nothing.
use Rattle.link_rules.specs.LinkRules.{tag_in, from_in, to_in}
use Rattle.link_rules.specs.Filling.{row_of}
use Rattle.link_rules.proofs.RuleLaws.{marks-none}
use Rattle.link_rules.proofs.rules.none_doubled.Goals as goal

pub fill-requires-clause-filled : goal.fill-requires-clause-filled
fill-requires-clause-filled c = let l = c.args.list.now in (marks-none l row_of to_in 64, marks-none l tag_in from_in 1)
