-- `link_rules::rules::all_made` meets its contract: the fold is the test of each place. Assumes nothing.
use Rattle.std.proofs.Common.{rules, ◌∙◌, ◌&&◌, Bool, true, ℕ, take, ltb}
use borrow.Author.Tests.{tests}
use Rattle.std.proofs.Math.Bool.{and_assoc}
use Rattle.std.proofs.lemmas.Iterator.{YieldsList-from_slice}
use Rattle.std.proofs.lemmas.Iterator.Consumers.{fold_from_yields_List}
use Rattle.numbers.proofs.BelowLists.{all_first, fold_all}
use Rattle.link_rules.specs.LinkRules.{all_made, tag_in, from_in, to_in}
use Rattle.link_rules.proofs.rules.all_made.Goals as goal

-- the parts of a link's number are made
abbrev test : ℕ → ℕ → ℕ → Bool
test tags principals x = ltb (tag_in x) tags && (ltb (from_in x) principals && ltb (to_in x) principals)

pub returns : goal.returns
unfolding all_made
returns c = let a = c.args in
    let xs = take a.n a.links.now in
    fold_from_yields_List _ (λ ok x. ok && test a.tags a.principals x) true _ c.fold.ensures.ran (YieldsList-from_slice xs cc) (λ b x r q k. search (rules, tests, and_assoc))
    ∙ fold_all (test a.tags a.principals) xs ∙ all_first (test a.tags a.principals) 0 a.links.now a.n c.requires
