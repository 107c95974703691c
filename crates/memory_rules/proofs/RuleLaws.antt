-- What the rules of the remembered answers say, one by one. Assumes nothing.
use mathlib.Core.Path.{◌≡◌}
use mathlib.Core.Bool.{true}
use mathlib.Core.Logic.{◌↔◌}
use Prim.Native.Nat.{ℕ, ◌≤◌, ◌<◌}
use lib.ListN.{get_or}
use Rattle.numbers.specs.Numbers.{most_remembered}
use Rattle.numbers.proofs.Says.{leb-is, itself, and_is, all-is}
use Rattle.link_rules.proofs.RuleLaws.{none_doubled-is}
use Rattle.store.proofs.StoreLaws.{zeros-from}
use Rattle.memory.specs.declared.Memory.{Memory}
use Rattle.memory.specs.Remembered.{Fits}
use Rattle.memory_rules.specs.MemoryRules.{pair_made, pairs_made, memory_holds}

module _ (m : Memory) (tags principals : ℕ) where
  -- a memory that obeys its rules, rule by rule
  pub record MemoryHolds : Type 0 where
    pub fits : Fits m
    pub made : (i : ℕ) → i < m.held → pair_made tags principals (get_or m.pairs i 0) ≡ true
    pub unused : (i : ℕ) → m.held ≤ i → i < most_remembered → get_or m.pairs i 0 ≡ 0
    pub doubled : (i j : ℕ) → i < j → j < m.held → get_or m.pairs i 0 ≡ get_or m.pairs j 0 → ⊥
    pub hits : m.hits ≤ m.questions

  pub memory_holds-is : (memory_holds m tags principals ≡ true) ↔ MemoryHolds
  unfolding pairs_made
  memory_holds-is =
      let sizes = and_is (leb-is m.size most_remembered) (leb-is m.held m.size) in
      let made = all-is m.held (λ i. itself (pair_made tags principals (get_or m.pairs i 0))) in
      let pairs = and_is made (and_is (zeros-from m.pairs m.held most_remembered) (none_doubled-is m.pairs m.held)) in
      let parts = and_is sizes (and_is pairs (leb-is m.hits m.questions)) in (
        λ e.
            let w = parts.0 e in
            record {
              fits = record { within = w.0.1; small = w.0.0 };
              made = w.1.0.0;
              unused = w.1.0.1.0;
              doubled = w.1.0.1.1;
              hits = w.1.1;
            },
        λ r. parts.1 ((r.fits.small, r.fits.within), ((r.made, (r.unused, r.doubled)), r.hits)),
      )
