use mathlib.Core.Bool.{Bool}
use mathlib.Core.Path.{◌≡◌, sym, subst}
use Rattle.links.specs.Links.{links_in}
use Rattle.links.proofs.CycleLaws.{closes_cycle-is}
use Rattle.links.proofs.lists.LinkList.closes_cycle.Goals as goal

pub returns : goal.returns
returns c = let a = c.args in
    subst (λ (b : Bool). c.leads.result ≡ b) (sym (closes_cycle-is (links_in a.self.places.now a.self.used a.g) a.p a.q)) c.leads.ensures
