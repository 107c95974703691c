use Rattle.std.proofs.Common.{ℕ, sym, ap, subst, ◌∙◌, take}
use borrow.Author.Tests.{eqb-true, eqb-false}
use Rattle.numbers.specs.Sets.{contains}
use Rattle.links.specs.Paths.{Path, here}
use Rattle.links.specs.Links.{base_of, links_in}
use Rattle.links.proofs.PathLaws.{leads-is}
use Rattle.links.proofs.LedTo.{links_from-low, contains-led_to}
use Rattle.links.proofs.lists.LinkList.leads.Goals as goal

pub returns-then-eq : goal.returns-then-eq
returns-then-eq c = let a = c.args in
    let ls = links_in a.self.places.now a.self.used a.g in
    let same = eqb-true a.p.0 a.q.0 (sym c.eq.ensures ∙ c.if-eq.true) in
    c.if-eq.true ∙ sym ((leads-is ls a.p.0 a.q.0).1 (subst (λ (x : ℕ). Path ls a.p.0 x) same here))

pub returns-else-eq : goal.returns-else-eq
returns-else-eq c = let a = c.args in
    let l = a.self.places.now in
    let other = eqb-false a.p.0 a.q.0 (sym c.eq.ensures ∙ c.if-eq.false) in
    c.has.ensures ∙ ap (λ (s : ℕ). contains s a.q.0) c.led_to.ensures
    ∙ contains-led_to (links_in l a.self.used a.g) (links_from-low (base_of a.g) (take a.self.used l)) a.p.0 a.q.0 other
