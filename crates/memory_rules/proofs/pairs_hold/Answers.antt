use mathlib.Core.Path.{◌≡◌}
use mathlib.Core.Bool.{true}
use native.Mathlib.Omega.{arith}
use Rattle.numbers.proofs.Chain.{by-yes}
use Rattle.memory_rules.specs.MemoryRules.{pairs_made}
use Rattle.memory_rules.proofs.Pairs.{pairs-placed}
use Rattle.memory_rules.proofs.pairs_hold.Goals.{then-pairs_made, else-pairs_made}
use Rattle.memory_rules.proofs.pairs_hold.Goals as goal

-- past the tests the pairs are made
pub none_doubled-requires : goal.none_doubled-requires
none_doubled-requires c =
    let a = c.args in
    let zeros = c.if-zeros.true in
    let made : pairs_made a.pairs.now a.n a.tags a.principals ≡ true =
    elim c.if-pairs_made.branch [
      | then-pairs_made w ↦ by-yes c.pairs_made.ensures w.if-pairs_made.true
      | else-pairs_made w ↦ let e = w.value-is in cc
    ] in
    (omega arith, pairs-placed a.pairs.now a.n a.tags a.principals c.requires.tags_bound.0 c.requires.tags_bound.1 made)
