use mathlib.Core.Path.{◌∙◌}
use native.Mathlib.Omega.{arith}
use borrow.Author.Tests.{tests}
use lib.ListN.{take}
use Rattle.std.proofs.Common.{rules}
use Rattle.std.proofs.lemmas.Iterator.{YieldsList-from_slice}
use Rattle.std.proofs.lemmas.Iterator.Search.{all_from_yields_List}
use Rattle.numbers.proofs.BelowLists.{all_first}
use Rattle.memory_rules.specs.MemoryRules.{pair_made, pairs_made}
use Rattle.memory_rules.proofs.pairs_made.Goals as goal

pub returns : goal.returns
unfolding pairs_made
returns c =
    let a = c.args in
    all_from_yields_List (pair_made a.tags a.principals) _ _ c.all.result c.all.ensures.ran
    (YieldsList-from_slice (take a.n a.pairs.now) cc) (λ x b q k. search (rules, tests))
    ∙ all_first (pair_made a.tags a.principals) 0 a.pairs.now a.n (omega arith)
