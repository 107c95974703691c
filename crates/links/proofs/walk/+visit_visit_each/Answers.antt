-- The two functions of the walk meet their contracts: unvisited principals fall with each visit, and the remaining links of a
-- principal with each turn. Assumes nothing.
use Rattle.std.proofs.Common.{◌≡◌, refl, sym, ◌∙◌, arith}
use lib.Count.{count_trailing_zeros}
use Rattle.links.proofs.WalkLaws.{left_le, left_lt, marked, marked-keeps, marked-there, met-one, meeting-none, meeting-next, meeting-all, next_low, next_of, next-new, next-falls}
use Rattle.links.proofs.walk.+visit_visit_each.Goals as goal

pub visit-visit_each-requires : goal.visit-visit_each-requires
visit-visit_each-requires t c =
    let a = c.args in
    let fewer = left_lt a.seen (marked a.seen a.p) a.p (marked-keeps a.seen a.p c.requires.0) c.requires.0 c.requires.1 (marked-there a.seen a.p c.requires.0) in
    (omega (arith, fewer), tt)

pub visit-returns : goal.visit-returns
visit-returns t c = let a = c.args in met-one a.rows.now a.seen a.p c.visit_each.result c.requires.0 c.visit_each.ensures

pub visit_each-loop-rest-init : goal.visit_each-loop-rest-init
visit_each-loop-rest-init t c = let a = c.args in (refl, c.ranges.seen.fits, meeting-none a.rows.now a.set a.seen)

pub visit_each-visit-s-requires : goal.visit_each-visit-s-requires
visit_each-visit-s-requires t c =
    let a = c.args in
    let o = c.loop-rest in
    let fewer = left_le a.seen o.s o.invariant.2.kept in
    let fits = c.ranges.set.fits in
    let some = c.loop-rest-test.true in (
      omega (arith, fewer),
      (next_low a.set o.s o.rest fits o.invariant.1 o.invariant.0 some, next-new a.set o.s o.rest fits o.invariant.1 o.invariant.0 some),
    )

pub visit_each-loop-rest-smaller : goal.visit_each-loop-rest-smaller
visit_each-loop-rest-smaller t c =
    let a = c.args in
    let o = c.loop-rest in
    next-falls a.set o.s o.rest c.ranges.set.fits o.invariant.1 o.invariant.0 c.loop-rest-test.true a.rows.now c.visit-s.result c.visit-s.ensures

pub visit_each-loop-rest-preserved : goal.visit_each-loop-rest-preserved
visit_each-loop-rest-preserved t c =
    let a = c.args in
    let o = c.loop-rest in
    let one = next_of a.set o.s o.rest c.ranges.set.fits o.invariant.1 o.invariant.0 c.loop-rest-test.true in
    (refl, omega (arith, c.visit-s.type_inv), meeting-next a.rows.now a.set a.seen o.s (count_trailing_zeros 64 o.rest) c.visit-s.result o.invariant.2 one c.visit-s.ensures)

pub visit_each-returns : goal.visit_each-returns
visit_each-returns t c =
    let a = c.args in
    let o = c.loop-rest in
    let none : o.rest ≡ 0 = omega arith in
    meeting-all a.rows.now a.set a.seen o.s c.ranges.set.fits o.invariant.1 (sym o.invariant.0 ∙ none) o.invariant.2
