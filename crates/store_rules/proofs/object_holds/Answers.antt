-- An object that uses no place has no message to ask for.
use mathlib.Core.Bool.{and-true}
use native.Mathlib.Nat.{add-zero}
use Rattle.numbers.specs.Below.{all_below}
use Rattle.store_rules.specs.StoreRules.{places_hold}
use Rattle.store_rules.proofs.object_holds.Goals as goal

pub returns-then-n-eq0 : goal.returns-then-n-eq0
unfolding places_hold all_below
returns-then-n-eq0 c = simp (c.zeros.ensures, c.if-n-eq0.true, and-true, add-zero)
