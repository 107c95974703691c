-- `link_rules::rules::none_cyclic` meets its contract: the fold is the test of each tag. Assumes nothing.
use Rattle.std.proofs.Common.{rules, refl, ◌∙◌, ◌&&◌, Bool, true, List, ℕ, ◌*◌, arith}
use borrow.Author.Tests.{tests}
use Rattle.std.specs.List.{range_with_len}
use Rattle.std.proofs.lemmas.Iterator.{YieldsList-from_range}
use Rattle.std.proofs.lemmas.Iterator.Consumers.{fold_from_yields_List}
use Rattle.numbers.proofs.BelowLists.{fold_all, all_range}
use Rattle.links.specs.Cycles.{no_cycle}
use Rattle.link_rules.specs.Rows.{row_links}
use Rattle.link_rules.proofs.rules.none_cyclic.Goals as goal

-- the rows of tag t
abbrev none : List ℕ → ℕ → Bool
none rows t = no_cycle (row_links rows (t * 64))

pub returns : goal.returns
returns c = let a = c.args in
    let ts = range_with_len 0 a.tags in
    fold_from_yields_List _ (λ ok t. ok && none a.rows.now t) true _ c.fold.ensures.ran (YieldsList-from_range 0 a.tags a.tags refl (omega arith)) (λ b x r q k. search (rules, tests))
    ∙ fold_all (none a.rows.now) ts ∙ all_range (none a.rows.now) a.tags
