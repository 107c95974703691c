use mathlib.Core.Path.{refl, ◌∙◌}
use mathlib.Core.Bool.{Bool}
use Prim.Native.Nat.{ℕ, ◌+◌, ◌*◌}
use native.Mathlib.Omega.{arith}
use borrow.Author.Tests.{tests}
use Rattle.std.proofs.Common.{rules}
use Rattle.std.proofs.lemmas.Iterator.{YieldsList-from_range}
use Rattle.std.proofs.lemmas.Iterator.Search.{all_from_yields_List}
use Rattle.numbers.proofs.BelowLists.{all_range}
use Rattle.store_rules.specs.StoreRules.{place_holds, places_hold}
use Rattle.store_rules.proofs.places_hold.Goals as goal

pub returns : goal.returns
unfolding places_hold
returns c =
    let a = c.args in
    let each : ℕ → Bool = λ k. place_holds a.s.now (a.at + k * 33) in
    all_from_yields_List each _ _ c.all.result c.all.ensures.ran
    (YieldsList-from_range 0 a.n a.n refl (omega arith)) (λ x b q k. search (rules, tests))
    ∙ all_range each a.n
