use mathlib.Core.Path.{◌∙◌}
use native.Mathlib.Omega.{arith}
use borrow.Author.Tests.{tests}
use Rattle.std.proofs.Common.{rules}
use Rattle.std.proofs.lemmas.Iterator.{YieldsList-from_slice}
use Rattle.std.proofs.lemmas.Iterator.Adapters.{YieldsList-from_skip}
use Rattle.std.proofs.lemmas.Iterator.Search.{all_from_yields_List}
use Rattle.numbers.proofs.BelowLists.{all_past}
use Rattle.tables.specs.Things.{no_tag}
use Rattle.tag_rules.specs.TagRules.{is_no_tag, tags_unused}
use Rattle.tag_rules.proofs.tags_unused.Goals as goal

pub returns : goal.returns
unfolding tags_unused
returns c = let a = c.args in
    all_from_yields_List is_no_tag _ _ c.all.result c.all.ensures.ran
    (YieldsList-from_skip a.n (YieldsList-from_slice a.rows.now (cc)) cc) (λ x b q k. search (rules, tests))
    ∙ all_past is_no_tag no_tag a.rows.now a.n 64 (omega arith)
