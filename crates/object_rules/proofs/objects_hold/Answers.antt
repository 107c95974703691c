use mathlib.Core.Path.{◌∙◌}
use native.Mathlib.Omega.{arith}
use borrow.Author.Tests.{tests}
use Rattle.std.proofs.Common.{rules}
use Rattle.std.proofs.lemmas.Iterator.{YieldsList-from_slice}
use Rattle.std.proofs.lemmas.Iterator.Search.{all_from_yields_List}
use Rattle.numbers.proofs.BelowLists.{all_rows}
use Rattle.tables.specs.Things.{no_object}
use Rattle.object_rules.specs.ObjectRules.{object_holds, objects_hold}
use Rattle.object_rules.proofs.objects_hold.Goals as goal

pub returns : goal.returns
unfolding objects_hold
returns c = let a = c.args in
    all_from_yields_List (object_holds a.tags) _ _ c.all.result c.all.ensures.ran
    (YieldsList-from_slice a.rows.now cc) (λ x b q k. search (rules, tests))
    ∙ all_rows (object_holds a.tags) no_object a.rows.now 64 (omega arith)
