-- Pairs whose halves are made read as links of tag 0, each with its row. Assumes nothing.
use mathlib.Core.Path.{◌≡◌}
use mathlib.Core.Bool.{true}
use mathlib.Core.List.{List}
use Prim.Native.Nat.{ℕ, ◌/◌, ◌%◌, ◌≤◌}
use native.Mathlib.Omega.{arith}
use lib.ListN.{get_or}
use Rattle.numbers.proofs.Below.{all-each}
use Rattle.numbers.proofs.Says.{ltb-is, and_is}
use Rattle.link_rules.specs.Filling.{Placed}
use Rattle.link_rules.proofs.FillLaws.{tag-parts}
use Rattle.memory_rules.specs.MemoryRules.{pair_made, pairs_made}

pub pairs-placed : (l : List ℕ) (n tags principals : ℕ) → tags ≤ 64 → principals ≤ 64 → pairs_made l n tags principals ≡ true → Placed l n 1
unfolding pairs_made
pairs-placed l n tags principals h g e i low =
    let x = get_or l i 0 in
    let w = (and_is (ltb-is (x / 256) principals) (ltb-is (x % 256) tags)).0 (all-each n (λ k. pair_made tags principals (get_or l k 0)) e i low) in
    let parts = tag-parts x in
    (omega (arith, w.0, parts), omega (arith, w.0, parts), omega (arith, w.1))
