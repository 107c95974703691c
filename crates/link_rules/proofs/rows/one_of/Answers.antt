-- `link_rules::rows::one_of` meets its contract. Assumes nothing.
use Rattle.numbers.proofs.Sets.{lowest, highest}
use Rattle.link_rules.proofs.rows.one_of.Goals as goal

pub returns-then-down : goal.returns-then-down
returns-then-down c = highest 63 c.args.set c.ranges.set.fits c.requires

pub returns-else-down : goal.returns-else-down
returns-else-down c = lowest 64 c.args.set c.ranges.set.fits c.requires
