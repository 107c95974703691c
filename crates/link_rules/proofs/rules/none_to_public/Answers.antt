-- `link_rules::rules::none_to_public` meets its contract: the fold is the test of each place. Assumes nothing.
use Rattle.std.proofs.Common.{rules, ◌∙◌, ◌&&◌, Bool, true, ℕ, ◌%◌, take, eqb}
use mathlib.Core.Bool.{not}
use borrow.Author.Tests.{tests}
use Rattle.std.proofs.lemmas.Iterator.{YieldsList-from_slice}
use Rattle.std.proofs.lemmas.Iterator.Consumers.{fold_from_yields_List}
use Rattle.numbers.proofs.BelowLists.{all_first, fold_all}
use Rattle.link_rules.specs.LinkRules.{none_to_public}
use Rattle.link_rules.proofs.rules.none_to_public.Goals as goal

abbrev test : ℕ → Bool
test x = not (eqb (x % 256) 0)

pub returns : goal.returns
unfolding none_to_public
returns c = let a = c.args in
    let xs = take a.n a.links.now in
    fold_from_yields_List _ (λ ok x. ok && test x) true _ c.fold.ensures.ran (YieldsList-from_slice xs cc) (λ b x r q k. search (rules, tests))
    ∙ fold_all test xs ∙ all_first test 0 a.links.now a.n c.requires
