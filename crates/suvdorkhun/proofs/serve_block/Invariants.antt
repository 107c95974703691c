-- Each turn reads something of what is left.
use Rattle.std.proofs.Common.{length}
use Rattle.suvdorkhun.proofs.serve_block.Given as goal

abbrev pub decreases-loop-rest : goal.decreases-loop-rest
decreases-loop-rest l = length l.rest
