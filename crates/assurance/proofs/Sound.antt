-- A machine that breaks no rule of 9: what stands between requests from the fresh state on. Assumes nothing.
use mathlib.Core.Path.{◌≡◌}
use mathlib.Core.Bool.{Bool}
use Prim.Native.Nat.{ℕ, ◌≤◌}
use lib.ListN.{length}
use Rattle.numbers.specs.Numbers.{most_threads, most_tags, most_objects, most_remembered, count_top}
use Rattle.memory.specs.Truth.{Truthful}
use Rattle.rules.specs.Tested.{pair_true}
use Rattle.rules.specs.Rules.{OnlyTruthBroken}
use Rattle.act.specs.World.{World}
use Rattle.assurance.specs.Runs.{Machine}

-- whether the pair's principal is authoritative for its tag
abbrev pub walk_in : World → ℕ → Bool
walk_in w x = pair_true w.tables.kinds w.links w.tables.links w.grants w.tables.grants x

-- the rules count no rows and do not bound the counters: in the code their types do
pub record Sized (z : Machine) : Type 0 where
  pub threads : length z.world.tables.threads ≡ most_threads
  pub kinds : length z.world.tables.kinds ≡ most_tags
  pub objects : length z.world.tables.objects ≡ most_objects
  pub pairs : length z.memory.pairs ≡ most_remembered
  pub hits : z.memory.hits ≤ count_top

pub record Sound (z : Machine) : Type 0 where
  pub sized : Sized z
  pub rules : OnlyTruthBroken z.world.tables z.memory z.world.links z.world.grants z.world.store
  pub truth : Truthful z.memory (walk_in z.world)
