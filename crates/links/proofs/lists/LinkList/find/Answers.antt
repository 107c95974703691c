use Rattle.std.proofs.Common.{rules, ◌∙◌, take, eqb}
use borrow.Author.Tests.{tests}
use Rattle.std.proofs.lemmas.Iterator.{YieldsList-from_slice, YieldsList-from_take}
use Rattle.std.proofs.lemmas.Iterator.Search.{position_from_yields_List}
use Rattle.links.proofs.LinkLaws.{found_position}
use Rattle.links.proofs.lists.LinkList.find.Goals as goal

pub returns : goal.returns
returns c =
    let a = c.args in
    position_from_yields_List (λ y. eqb y a.x) _ _ _ c.position.ensures.ran (YieldsList-from_take a.self.used (YieldsList-from_slice a.self.places.now cc) cc) (λ x b q k. search (rules, tests))
    ∙ found_position (take a.self.used a.self.places.now) a.x
