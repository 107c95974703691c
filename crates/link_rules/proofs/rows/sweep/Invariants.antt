use Rattle.std.proofs.Common.{◌^◌, ◌<◌}
use Rattle.link_rules.proofs.RowLaws.{Sweeping}
use Rattle.link_rules.proofs.rows.sweep.Given as goal

abbrev pub invariant-loop-rest : goal.invariant-loop-rest
invariant-loop-rest l = (fits : l.alive < 2 ^ 64) × Sweeping l.rows l.at l.alive fits l.s l.rest

abbrev pub decreases-loop-rest : goal.decreases-loop-rest
decreases-loop-rest l = l.rest
