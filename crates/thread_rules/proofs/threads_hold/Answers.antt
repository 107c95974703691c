use mathlib.Core.Path.{◌∙◌}
use native.Mathlib.Omega.{arith}
use borrow.Author.Tests.{tests}
use Rattle.std.proofs.Common.{rules}
use Rattle.std.proofs.lemmas.Iterator.{YieldsList-from_slice}
use Rattle.std.proofs.lemmas.Iterator.Search.{all_from_yields_List}
use Rattle.numbers.proofs.BelowLists.{all_rows}
use Rattle.tables.specs.Things.{past_thread}
use Rattle.thread_rules.specs.ThreadRules.{thread_holds, threads_hold}
use Rattle.thread_rules.proofs.threads_hold.Goals as goal

pub returns : goal.returns
unfolding threads_hold
returns c = let a = c.args in
    all_from_yields_List (thread_holds a.principals a.tags) _ _ c.all.result c.all.ensures.ran
    (YieldsList-from_slice a.rows.now cc) (λ x b q k. search (rules, tests))
    ∙ all_rows (thread_holds a.principals a.tags) past_thread a.rows.now 16 (omega arith)
