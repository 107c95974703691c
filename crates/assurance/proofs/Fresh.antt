-- The fresh machine breaks no rule. Assumes nothing.
use mathlib.Core.Path.{◌≡◌, refl, ap, ◌∙◌}
use Prim.Native.Nat.{ℕ, ◌≤◌, ◌<◌}
use native.Mathlib.Omega.{arith}
use lib.ListN.{replicate, length-replicate, get_or-replicate}
use Rattle.numbers.specs.Numbers.{link_places, most_objects, most_remembered}
use Rattle.numbers.specs.Below.{all_below}
use Rattle.numbers.specs.Labels.{names_only_made}
use Rattle.numbers.proofs.Bools.{never}
use Rattle.links.specs.Paths.{joins}
use Rattle.links.specs.Links.{links_from, find_from}
use Rattle.store.specs.Store.{store_size, byte_at}
use Rattle.store_rules.specs.StoreRules.{places_used}
use Rattle.tables.specs.Rows.{what_of}
use Rattle.tables.specs.Things.{no_tag, no_object, object_at, fresh_tables}
use Rattle.tables.proofs.Said.{no-object-says}
use Rattle.state.specs.Start.{empty_memory}
use Rattle.link_rules.proofs.RuleLaws.{LinksHold}
use Rattle.thread_rules.specs.ThreadRules.{threads_hold, thread_holds, aside_made, aside_unused}
use Rattle.thread_rules.proofs.RuleLaws.{threads_hold-is}
use Rattle.object_rules.specs.ObjectRules.{objects_hold, object_holds}
use Rattle.object_rules.proofs.RuleLaws.{objects_hold-is}
use Rattle.kept.proofs.MemoryKept.{memory-fresh}
use Rattle.act.specs.World.{world_of}
use Rattle.assurance.specs.Runs.{fresh}
use Rattle.assurance.proofs.Sound.{Sound}
use Rattle.assurance.proofs.Worlds.{WorldHolds, all-rules}

-- a list of no links
no-links : (places tags : ℕ) → places ≡ link_places → tags ≤ 64 → LinksHold (replicate places 0) 0 tags 2
unfolding links_from joins
no-links places tags whole few =
    record {
      limits = record { whole = length-replicate places 0 ∙ whole; few = omega arith; tags-low = few; principals-low = omega arith };
      made = λ i h. absurd (omega arith);
      cycles = λ t h p q e way. never e refl;
      doubled = λ i j h k e. omega arith;
      to-public = λ i h e. omega arith;
    }

-- places of nothing are zero
zero-places : (n i : ℕ) → i < n → byte_at (replicate n 0) i ≡ 0
zero-places n i h = get_or-replicate n i 0 0 h

-- no object uses a place
no-places : (o : ℕ) → o < most_objects → places_used (what_of (object_at (replicate most_objects no_object) o)) ≡ 0
no-places o h = rw (get_or-replicate most_objects o no_object no_object h) (ap places_used no-object-says)

fresh_holds : (places bytes : ℕ) → places ≡ link_places → bytes ≡ store_size → WorldHolds (world_of fresh_tables (replicate places 0) (replicate places 0) (replicate bytes 0))
unfolding threads_hold thread_holds aside_made aside_unused what_of objects_hold object_holds all_below names_only_made
fresh_holds places bytes whole all =
    record {
      links = no-links places 1 whole (omega arith);
      grants = no-links places 0 whole (omega arith);
      two = omega arith;
      links-unused = λ i h k. zero-places places i (omega arith);
      grants-unused = λ i h k. zero-places places i (omega arith);
      tags =
          record {
            limit = omega arith;
            limits = λ i h. absurd (omega arith);
            roots = λ i h. absurd (omega arith);
            supertags = λ i h. absurd (omega arith);
            public-roots = λ i h e. omega arith;
            ranks = λ i h. absurd (omega arith);
            supertags-unused = λ i h. absurd (omega arith);
            unused = λ i h k. rw (get_or-replicate 64 i no_tag no_tag k) refl;
          };
      threads = (threads_hold-is 2 0 fresh_tables.threads).0 refl;
      objects = (objects_hold-is 0 fresh_tables.objects).0 refl;
      whole = length-replicate bytes 0 ∙ all;
      store =
          record {
            limits = λ o k h u. absurd (omega (arith, u, no-places o h));
            rests = λ o k i h u a b. absurd (omega (arith, u, no-places o h));
            unused = λ o i h a b. zero-places bytes _ (omega arith);
          };
    }

pub fresh-sound : (size : ℕ) → size ≤ most_remembered → Sound (fresh size)
unfolding find_from
fresh-sound size few =
    let w = fresh_holds link_places store_size refl refl in
    record {
      sized = record { threads = refl; kinds = refl; objects = refl; pairs = refl; hits = omega arith };
      rules = all-rules (fresh size).world (empty_memory size) w (memory-fresh size few);
      truth = λ x e. absurd (never e refl);
    }
