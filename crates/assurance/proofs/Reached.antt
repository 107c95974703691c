-- Every state reached from the fresh one by requests and clears breaks no rule of 9. Assumes nothing.
use mathlib.Core.Bool.{Bool}
use mathlib.Core.List.{List, [], ◌∷◌}
use Prim.Native.Nat.{ℕ, zero, suc}
use Rattle.assurance.specs.Runs.{Call, Machine, fresh, next, cleared_if, machines}
use Rattle.assurance.specs.Demands.{NoneBroken, NoRuleIsBroken}
use Rattle.assurance.proofs.Sound.{Sound}
use Rattle.assurance.proofs.Reference.{no-rule-broken}
use Rattle.assurance.proofs.Kept.{cleared-sound, next-sound}
use Rattle.assurance.proofs.Fresh.{fresh-sound}

none-broken : (z : Machine) → Sound z → (clears : ℕ → Bool) (cs : List Call) → NoneBroken (machines z clears cs)
unfolding NoneBroken machines
none-broken z sound clears [] = tt
none-broken z sound clears (c ∷ cs) =
    let y = cleared_if (clears zero) z in
    let s = cleared-sound z sound (clears zero) in
    (no-rule-broken y s, none-broken (next y c) (next-sound y s c) (λ n. clears (suc n)) cs)

pub no-rule-is-broken : NoRuleIsBroken
no-rule-is-broken size few clears calls = none-broken (fresh size) (fresh-sound size few) clears calls
