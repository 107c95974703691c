use mathlib.Core.Path.{refl, ◌∙◌}
use native.Mathlib.Omega.{arith}
use borrow.Author.Tests.{tests}
use Rattle.std.proofs.Common.{rules}
use Rattle.std.proofs.lemmas.Iterator.{YieldsList-from_range}
use Rattle.std.proofs.lemmas.Iterator.Search.{all_from_yields_List}
use Rattle.numbers.proofs.Below.{all_same}
use Rattle.numbers.proofs.BelowLists.{all_range}
use Rattle.tables.specs.Things.{tag_at}
use Rattle.tag_rules.specs.TagRules.{row_passes, tag_holds, tags_made}
use Rattle.tag_rules.proofs.TagRows.{row-passes}
use Rattle.tag_rules.proofs.tags_made.Goals as goal

pub returns : goal.returns
unfolding tags_made
returns c = let a = c.args in
    all_from_yields_List (row_passes a.principals a.rows.now) _ _ c.all.result c.all.ensures.ran
    (YieldsList-from_range 0 a.n a.n refl (omega arith)) (λ x b q k. search (rules, tests))
    ∙ all_range (row_passes a.principals a.rows.now) a.n
    ∙ all_same a.n (row_passes a.principals a.rows.now) (λ i. tag_holds a.principals a.n a.rows.now i (tag_at a.rows.now i)) (row-passes a.principals a.n a.rows.now)
