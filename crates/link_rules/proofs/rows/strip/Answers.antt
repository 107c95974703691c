-- `link_rules::rows::strip` meets its contract: the loop keeps every endless set. Assumes nothing.
use Rattle.link_rules.proofs.rows.strip.Goals as goal

pub loop-alive-preserved : goal.loop-alive-preserved
loop-alive-preserved c = λ u f g. c.sweep-next.ensures.kept u f (c.sweep-up.ensures.kept u f (c.loop-alive.invariant u f g))
