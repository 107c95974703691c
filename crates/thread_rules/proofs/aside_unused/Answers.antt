use mathlib.Core.Path.{◌∙◌}
use native.Mathlib.Omega.{arith}
use borrow.Author.Tests.{tests}
use lib.Dec.{eqb}
use Rattle.std.proofs.Common.{rules}
use Rattle.std.proofs.lemmas.Iterator.{YieldsList-from_slice}
use Rattle.std.proofs.lemmas.Iterator.Adapters.{YieldsList-from_skip}
use Rattle.std.proofs.lemmas.Iterator.Search.{all_from_yields_List}
use Rattle.numbers.specs.Numbers.{public}
use Rattle.numbers.specs.declared.Principal.{Principal}
use Rattle.numbers.proofs.BelowLists.{all_past}
use Rattle.tables.specs.Things.{nobody}
use Rattle.thread_rules.specs.ThreadRules.{aside_unused}
use Rattle.thread_rules.proofs.aside_unused.Goals as goal

pub returns : goal.returns
unfolding aside_unused
returns c = let a = c.args in
    all_from_yields_List (λ (p : Principal). eqb p.0 public) _ _ c.all.result c.all.ensures.ran
    (YieldsList-from_skip a.n (YieldsList-from_slice a.aside.now (cc)) cc) (λ x b q k. search (rules, tests))
    ∙ all_past (λ (p : Principal). eqb p.0 public) nobody a.aside.now a.n 8 (omega arith)
