use Rattle.link_rules.specs.Rows.{KeepsEndless}
use Rattle.link_rules.proofs.rows.strip.Given as goal

abbrev pub invariant-loop-alive : goal.invariant-loop-alive
invariant-loop-alive l = KeepsEndless l.rows l.at l.starts l.alive

abbrev pub decreases-loop-alive : goal.decreases-loop-alive
decreases-loop-alive l = l.alive
