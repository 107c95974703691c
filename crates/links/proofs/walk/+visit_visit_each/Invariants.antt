use Rattle.std.proofs.Common.{◌≡◌, ◌+◌, ◌-◌, ◌*◌, ◌^◌, ◌<◌, bit_and}
use Rattle.links.proofs.WalkLaws.{left, Meeting}
use Rattle.links.proofs.walk.+visit_visit_each.Given as goal

abbrev pub decreases-visit : goal.decreases-visit
decreases-visit l = 2 * left l.seen

abbrev pub decreases-visit_each : goal.decreases-visit_each
decreases-visit_each l = 2 * left l.seen + 1

abbrev pub invariant-visit_each-loop-rest : goal.invariant-visit_each-loop-rest
invariant-visit_each-loop-rest l =
    (l.rest ≡ bit_and l.set ((2 ^ 64 - 1) - l.s)) × (l.s < 2 ^ 64) × Meeting l.rows l.set l.seen l.s

abbrev pub decreases-visit_each-loop-rest : goal.decreases-visit_each-loop-rest
decreases-visit_each-loop-rest l = left l.s
