use lib.ListN.{take}
use Rattle.links.specs.Links.{links_from}
use Rattle.links.specs.Walk.{Rows}
use Rattle.links.proofs.walk.gather.Given as goal

abbrev pub invariant-loop-l : goal.invariant-loop-l
invariant-loop-l l = Rows (links_from l.base (take l.l-index l.links)) l.rows
