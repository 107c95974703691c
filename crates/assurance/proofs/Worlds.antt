-- The rules of 9 that speak of the world, table by table, apart from those of the memory. Assumes nothing.
use mathlib.Core.Path.{◌≡◌}
use Prim.Native.Nat.{ℕ, ◌≤◌, ◌<◌}
use lib.ListN.{length, get_or}
use Rattle.numbers.specs.Numbers.{link_places, most_threads, most_tags, most_objects}
use Rattle.link_rules.proofs.RuleLaws.{LinksHold}
use Rattle.store.specs.Store.{store_size}
use Rattle.memory.specs.declared.Memory.{Memory}
use Rattle.thread_rules.proofs.RuleLaws.{ThreadsHold}
use Rattle.tag_rules.proofs.RuleLaws.{TagsHold}
use Rattle.object_rules.proofs.RuleLaws.{ObjectsHold}
use Rattle.store_rules.proofs.RuleLaws.{StoreHolds}
use Rattle.memory_rules.proofs.RuleLaws.{MemoryHolds}
use Rattle.rules.specs.Rules.{OnlyTruthBroken}
use Rattle.rules.proofs.RuleLaws.{TablesHold, tables-hold, rules-but-truth}
use Rattle.act.specs.World.{World}

pub record WorldHolds (w : World) : Type 0 where
  pub links : LinksHold w.links w.tables.links 1 w.tables.principals
  pub grants : LinksHold w.grants w.tables.grants w.tables.tags w.tables.principals
  pub two : 2 ≤ w.tables.principals
  pub links-unused : (i : ℕ) → w.tables.links ≤ i → i < link_places → get_or w.links i 0 ≡ 0
  pub grants-unused : (i : ℕ) → w.tables.grants ≤ i → i < link_places → get_or w.grants i 0 ≡ 0
  pub tags : TagsHold w.tables.principals w.tables.tags w.tables.kinds
  pub threads : ThreadsHold w.tables.principals w.tables.tags w.tables.threads
  pub objects : ObjectsHold w.tables.tags w.tables.objects
  pub whole : length w.store ≡ store_size
  pub store : StoreHolds w.store w.tables.objects

-- the rules count no rows: in the code their arrays do
pub record SizedWorld (w : World) : Type 0 where
  pub threads : length w.tables.threads ≡ most_threads
  pub kinds : length w.tables.kinds ≡ most_tags
  pub objects : length w.tables.objects ≡ most_objects

module _ (w : World) (m : Memory) where
  abbrev Rules : Type 0
  Rules = OnlyTruthBroken w.tables m w.links w.grants w.store

  tables-rules : Rules → TablesHold w.tables m w.links w.grants w.store
  tables-rules r = (tables-hold w.tables m w.links w.grants w.store).0 ((rules-but-truth w.tables m w.links w.grants w.store).1 r)

  pub world-rules : Rules → WorldHolds w
  world-rules r =
      let h = tables-rules r in
      record {
        links = h.links;
        grants = h.grants;
        two = h.two;
        links-unused = h.links-unused;
        grants-unused = h.grants-unused;
        tags = h.tags;
        threads = h.threads;
        objects = h.objects;
        whole = h.whole;
        store = h.store;
      }

  pub memory-rules : Rules → MemoryHolds m w.tables.tags w.tables.principals
  memory-rules r = (tables-rules r).memory

  -- both together
  pub all-rules : WorldHolds w → MemoryHolds m w.tables.tags w.tables.principals → Rules
  all-rules h memory =
      (rules-but-truth w.tables m w.links w.grants w.store).0
      ((tables-hold w.tables m w.links w.grants w.store).1
      (record {
        links = h.links;
        grants = h.grants;
        two = h.two;
        links-unused = h.links-unused;
        grants-unused = h.grants-unused;
        tags = h.tags;
        threads = h.threads;
        objects = h.objects;
        whole = h.whole;
        store = h.store;
        memory = memory;
      }))
