use mathlib.Core.Path.{ap, ◌∙◌}
use Prim.Native.Nat.{ℕ}
use lib.ListN.{take}
use Rattle.numbers.specs.Sets.{contains}
use Rattle.links.specs.declared.lists.Graph.TheVariants.{Principals}
use Rattle.links.specs.Links.{links_in}
use Rattle.links.specs.Walk.{led_to_from}
use Rattle.links.specs.Authority.{links_of}
use Rattle.links.proofs.LedTo.{links_from-low}
use Rattle.links.proofs.AuthorityLaws.{two-walks}
use Rattle.links.proofs.authority.Leaves.acts_for_some.Goals as goal

pub returns : goal.returns
returns c = let a = c.args in
    let ls = links_in a.self.links.places.now a.self.links.used Principals in
    c.has.ensures
    ∙ ap (λ (s : ℕ). contains s a.p.0) (c.led_to_from.ensures ∙ ap (led_to_from ls) c.led_to-nodes.ensures)
    ∙ two-walks ls (links_of a.self.grants.places.now a.self.grants.used a.t) (links_from-low 0 (take a.self.links.used a.self.links.places.now)) a.t.root a.p
