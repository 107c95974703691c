-- `link_rules::rows::sweep` meets its contract: the loop is a pass under way. Assumes nothing.
use Rattle.std.proofs.Common.{ℕ, sym, subst}
use Rattle.link_rules.proofs.RowLaws.{less, less-lt, Sweeping, sweeping-goes, sweeping-stays}
use Rattle.link_rules.proofs.rows.sweep.Goals.{then-rows-at-eq0, else-rows-at-eq0}
use Rattle.link_rules.proofs.rows.sweep.Goals as goal

pub loop-rest-smaller : goal.loop-rest-smaller
loop-rest-smaller c = let one = c.one_of-p in
    let o = c.loop-rest in
    less-lt o.rest one.result o.invariant.1.rest-fits one.ensures.0 one.ensures.1

pub loop-rest-preserved : goal.loop-rest-preserved
loop-rest-preserved c = let a = c.args in
    let one = c.one_of-p in
    let p = one.result in
    let o = c.loop-rest in
    let fits = o.invariant.0 in (
      fits,
      elim c.if-rows-at-eq0.branch [
        | then-rows-at-eq0 w ↦ subst (λ (x : ℕ). Sweeping a.rows.now a.at a.alive fits x (less o.rest p)) (sym w.s-is)
            (sweeping-goes a.rows.now a.at a.alive fits o.s o.rest p o.invariant.1 one.ensures.0 one.ensures.1 w.if-rows-at-eq0.true)
        | else-rows-at-eq0 w ↦ subst (λ (x : ℕ). Sweeping a.rows.now a.at a.alive fits x (less o.rest p)) (sym w.s-is)
            (sweeping-stays a.rows.now a.at a.alive fits o.s o.rest p o.invariant.1 one.ensures.0 one.ensures.1 w.if-rows-at-eq0.false)
      ],
    )
