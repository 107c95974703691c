use mathlib.Core.Path.{ap, ◌∙◌}
use native.Mathlib.Omega.{arith}
use lib.ListN.{take}
use Rattle.numbers.proofs.Sets.{one_shl}
use Rattle.links.specs.Links.{base_of, links_in}
use Rattle.links.specs.Walk.{led_to_from}
use Rattle.links.proofs.LedTo.{links_from-low, led_to-one, led_to-none}
use Rattle.links.proofs.lists.LinkList.led_to.Goals as goal

pub returns-then-p-ge64 : goal.returns-then-p-ge64
returns-then-p-ge64 c = let a = c.args in
    led_to-none (links_in a.self.places.now a.self.used a.g) (links_from-low (base_of a.g) (take a.self.used a.self.places.now)) a.p.0 c.if-p-ge64.true

pub returns : goal.returns
returns c = let a = c.args in
    let ls = links_in a.self.places.now a.self.used a.g in
    c.led_to_from.ensures ∙ ap (led_to_from ls) (one_shl a.p.0 (omega arith))
    ∙ led_to-one ls (links_from-low (base_of a.g) (take a.self.used a.self.places.now)) a.p.0 (omega arith)
