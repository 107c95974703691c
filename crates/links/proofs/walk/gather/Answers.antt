use Rattle.std.proofs.Common.{sym, subst, take, ◌+◌}
use Rattle.numbers.proofs.Chain.{by-yes}
use Rattle.links.specs.Links.{links_from}
use Rattle.links.specs.Walk.{Rows}
use Rattle.links.proofs.Gathering.{rows-past, rows-link}
use Rattle.links.proofs.walk.gather.Goals.{then-is_link_of, else-is_link_of}
use Rattle.links.proofs.walk.gather.Goals as goal

pub loop-l-init : goal.loop-l-init
unfolding links_from
loop-l-init c = c.requires.rows

pub loop-l-preserved : goal.loop-l-preserved
loop-l-preserved c = let a = c.args in
    let o = c.loop-l in
    let l = a.links.now in
    let fits = c.loop-l-test.true in
    let is = c.is_link_of.ensures in
    elim c.if-is_link_of.branch [
      | then-is_link_of w ↦ subst (Rows (links_from a.base (take (o.l-index + 1) l))) (sym w.rows-is) (rows-link a.base l o.rows o.l-index fits o.invariant (by-yes is w.if-is_link_of.true))
      | else-is_link_of w ↦ subst (Rows (links_from a.base (take (o.l-index + 1) l))) (sym w.rows-is) (rows-past a.base l o.rows o.l-index fits o.invariant (by-yes is w.if-is_link_of.false))
    ]
