use Rattle.std.proofs.Common.{rules, ◌∙◌, take, arith}
use borrow.Author.Tests.{tests}
use Rattle.std.proofs.lemmas.Iterator.{YieldsList-from_slice}
use Rattle.std.proofs.lemmas.Iterator.Search.{all_from_yields_List}
use Rattle.numbers.proofs.BelowLists.{all_first}
use Rattle.rules.specs.Tested.{pair_true, pairs_true}
use Rattle.rules.proofs.truth.pairs_true.Goals as goal

pub returns : goal.returns
unfolding pairs_true
returns c =
    let a = c.args in
    let t = a.t.now in
    let each = pair_true t.kinds a.links.now t.links a.grants.now t.grants in
    all_from_yields_List each _ _ _ c.all.ensures.ran (YieldsList-from_slice (take a.m.now.held a.m.now.pairs) cc) (λ x b q k. search (rules, tests))
    ∙ all_first each 0 a.m.now.pairs a.m.now.held (omega (arith, c.requires.within, c.requires.small))
