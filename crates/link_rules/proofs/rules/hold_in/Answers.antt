-- `link_rules::rules::hold_in` meets its contract: its rows are empty. Assumes nothing.
use Rattle.std.proofs.Common.{arith}
use Rattle.link_rules.specs.LinkRules.{tag_in, from_in, to_in}
use Rattle.link_rules.specs.Filling.{row_of}
use Rattle.link_rules.proofs.RuleLaws.{marks-none}
use Rattle.link_rules.proofs.rules.hold_in.Goals as goal

pub whole_as_slice-hold : goal.whole_as_slice-hold
whole_as_slice-hold g c = omega (arith, c.requires.rooms.0, c.requires.rooms.1)

pub hold-requires-clause-filled : goal.hold-requires-clause-filled
hold-requires-clause-filled g c = let l = c.args.links.now in (marks-none l row_of to_in g.row.ROWS, marks-none l tag_in from_in g.row.ROOMS)
