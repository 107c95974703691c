use Rattle.std.proofs.Common.{rules, ◌∙◌, take, map, eqb}
use borrow.Author.Tests.{tests}
use Rattle.std.proofs.lemmas.Iterator.{YieldsList-from_slice, YieldsList-from_map, YieldsList-from_take}
use Rattle.std.proofs.lemmas.Iterator.Search.{position_from_yields_List}
use Rattle.links.proofs.LinkLaws.{found_position}
use Rattle.records.proofs.lists.find.Goals as goal

-- std's search of the numbers is the search that the contract names
pub returns : goal.returns
returns g c =
    let a = c.args in
    let number = g.L.Link.number in
    let x = number a.l in
    position_from_yields_List (λ y. eqb y x) _ _ _ c.position.ensures.ran
    (YieldsList-from_take a.n (YieldsList-from_map _ number (YieldsList-from_slice a.links.now cc) (cc) (λ y r q k. search rules)) cc)
    (λ y b q k. search (rules, tests))
    ∙ found_position (take a.n (map number a.links.now)) x
