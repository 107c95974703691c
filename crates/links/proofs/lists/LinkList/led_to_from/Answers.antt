use mathlib.Core.Path.{ap, ◌∙◌}
use mathlib.Core.List.{List}
use native.Mathlib.Omega.{arith}
use lib.ListN.{take}
use Rattle.links.specs.Paths.{Link}
use Rattle.links.specs.Links.{links_from}
use Rattle.links.specs.Walk.{led_to_from}
use Rattle.links.proofs.Gathering.{rows_none}
use Rattle.links.proofs.LedTo.{links_from-low, met-is}
use Rattle.links.proofs.LinkLaws.{base-room, in_use}
use Rattle.links.proofs.lists.LinkList.led_to_from.Goals as goal

pub gather-requires : goal.gather-requires
gather-requires c = let base = c.base_of in
    record { base_low = base-room c.args.g base.result base.ensures (omega (arith, base.type_inv)); rows = rows_none }

pub returns : goal.returns
returns c = let a = c.args in
    let base = c.base_of in
    let n = c.used-in_use in
    let xs = take n.result a.self.places.now in
    met-is (links_from base.result xs) (links_from-low base.result xs) _ c.gather.ensures a.starts c.visit_each.result c.ranges.starts.fits (omega (arith, c.visit_each.type_inv)) c.visit_each.ensures
    ∙ ap (λ (ls : List Link). led_to_from ls a.starts) (in_use a.self.places.now a.self.used a.g base.result n.result base.ensures n.ensures)
