use mathlib.Core.Path.{◌∙◌}
use native.Mathlib.Omega.{arith}
use borrow.Author.Tests.{tests}
use lib.Dec.{ltb}
use lib.ListN.{take}
use Rattle.std.proofs.Common.{rules}
use Rattle.std.proofs.lemmas.Iterator.{YieldsList-from_slice}
use Rattle.std.proofs.lemmas.Iterator.Search.{all_from_yields_List}
use Rattle.numbers.specs.declared.Principal.{Principal}
use Rattle.numbers.proofs.BelowLists.{all_first}
use Rattle.tables.specs.Things.{nobody}
use Rattle.thread_rules.specs.ThreadRules.{aside_made}
use Rattle.thread_rules.proofs.aside_made.Goals as goal

pub returns : goal.returns
unfolding aside_made
returns c = let a = c.args in
    all_from_yields_List (λ (p : Principal). ltb p.0 a.principals) _ _ c.all.result c.all.ensures.ran
    (YieldsList-from_slice (take a.n a.aside.now) cc) (λ x b q k. search (rules, tests))
    ∙ all_first (λ (p : Principal). ltb p.0 a.principals) nobody a.aside.now a.n (omega arith)
