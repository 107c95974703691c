-- The computed test of the rules of 9 (`Tested`) is the rules (`Rules`), one by one: the test goes table by table, and each rule
-- takes its part from every table that it speaks of. Assumes nothing.
use mathlib.Core.Path.{◌≡◌}
use mathlib.Core.Bool.{true}
use mathlib.Core.List.{List}
use mathlib.Core.Logic.Iff
use mathlib.Core.Logic.{◌↔◌}
use Prim.Native.Nat.{ℕ, ◌≤◌, ◌<◌}
use native.Mathlib.Omega.{arith}
use lib.Arith.{lt-one}
use lib.ListN.{length, get_or}
use Rattle.numbers.specs.Numbers.{link_places}
use Rattle.numbers.proofs.Says.{eqb_is, leb-is, itself, and_is, all-is}
use Rattle.link_rules.proofs.RuleLaws.{LinksHold, links_hold-is}
use Rattle.store.specs.Store.{store_size}
use Rattle.store.proofs.StoreLaws.{zeros-from}
use Rattle.memory.specs.declared.Memory.{Memory}
use Rattle.tables.specs.declared.Tables.{Tables}
use Rattle.thread_rules.proofs.RuleLaws.{ThreadsHold, threads_hold-is}
use Rattle.tag_rules.proofs.RuleLaws.{TagsHold, tags_hold-is}
use Rattle.object_rules.proofs.RuleLaws.{ObjectsHold, objects_hold-is}
use Rattle.store_rules.proofs.RuleLaws.{StoreHolds, store_holds-is}
use Rattle.memory_rules.proofs.RuleLaws.{MemoryHolds, memory_holds-is}
use Rattle.rules.specs.Tested.{hold_but_truth, pair_true, pairs_true, break_no_rule}
use Rattle.rules.specs.Rules.{OnlyTruthBroken, NoRuleBroken}

module _ (t : Tables) (m : Memory) (l g s : List ℕ) where
  -- every table obeys its rules
  pub record TablesHold : Type 0 where
    pub links : LinksHold l t.links 1 t.principals
    pub grants : LinksHold g t.grants t.tags t.principals
    pub two : 2 ≤ t.principals
    pub links-unused : (i : ℕ) → t.links ≤ i → i < link_places → get_or l i 0 ≡ 0
    pub grants-unused : (i : ℕ) → t.grants ≤ i → i < link_places → get_or g i 0 ≡ 0
    pub tags : TagsHold t.principals t.tags t.kinds
    pub threads : ThreadsHold t.principals t.tags t.threads
    pub objects : ObjectsHold t.tags t.objects
    pub whole : length s ≡ store_size
    pub store : StoreHolds s t.objects
    pub memory : MemoryHolds m t.tags t.principals

  -- the test says so
  pub tables-hold : (hold_but_truth t m l g s ≡ true) ↔ TablesHold
  tables-hold =
      let unused = and_is (zeros-from l t.links link_places) (zeros-from g t.grants link_places) in
      let grants = and_is (links_hold-is g t.grants t.tags t.principals) (and_is (leb-is 2 t.principals) unused) in
      let lists = and_is (links_hold-is l t.links 1 t.principals) grants in
      let others = and_is (threads_hold-is t.principals t.tags t.threads) (objects_hold-is t.tags t.objects) in
      let rows = and_is (tags_hold-is t.principals t.tags t.kinds) others in
      let messages = and_is (eqb_is (length s) store_size) (store_holds-is s t.objects) in
      let parts = and_is lists (and_is rows (and_is messages (memory_holds-is m t.tags t.principals))) in (
        λ e.
            let w = parts.0 e in
            record {
              links = w.0.0;
              grants = w.0.1.0;
              two = w.0.1.1.0;
              links-unused = w.0.1.1.1.0;
              grants-unused = w.0.1.1.1.1;
              tags = w.1.0.0;
              threads = w.1.0.1.0;
              objects = w.1.0.1.1;
              whole = w.1.1.0.0;
              store = w.1.1.0.1;
              memory = w.1.1.1;
            },
        λ r. parts.1 (
          (r.links, (r.grants, (r.two, (r.links-unused, r.grants-unused)))),
          ((r.tags, (r.threads, r.objects)), ((r.whole, r.store), r.memory)),
        ),
      )

  -- from the tables to the rules
  by-rules : TablesHold → OnlyTruthBroken t m l g s
  by-rules r =
      record {
        limits =
            record {
              principals = r.links.limits.principals-low;
              tags = r.tags.limit;
              links = r.links.limits.few;
              grants = r.grants.limits.few;
              threads = r.threads.limits;
              subtags = r.tags.limits;
              objects = r.objects.limits;
              messages = r.store.limits;
            };
        whole = record { links = r.links.limits.whole; grants = r.grants.limits.whole; store = r.whole };
        two = r.two;
        made =
            record {
              links = r.links.made;
              grants = r.grants.made;
              roots = r.tags.roots;
              supertags = r.tags.supertags;
              threads = r.threads.made;
              objects = r.objects.made;
              pairs = r.memory.made;
            };
        cycles = record { links = r.links.cycles 0 (omega arith); grants = r.grants.cycles };
        doubled = record { links = r.links.doubled; grants = r.grants.doubled };
        public-links = record { links = r.links.to-public; grants = r.grants.to-public };
        public-roots = r.tags.public-roots;
        subtags = r.tags.ranks;
        unused =
            record {
              links = r.links-unused;
              grants = r.grants-unused;
              tags = r.tags.unused;
              supertags = r.tags.supertags-unused;
              threads = r.threads.unused;
              objects = r.objects.unused;
              messages = r.store.rests;
              places = r.store.unused;
              pairs = r.memory.unused;
            };
        memory = record { size = r.memory.fits.small; held = r.memory.fits.within };
        pairs = r.memory.doubled;
        hits = r.memory.hits;
      }

  -- and back; every principal link is one of tag 0
  by-tables : OnlyTruthBroken t m l g s → TablesHold
  by-tables r =
      record {
        links =
            record {
              limits = record { whole = r.whole.links; few = r.limits.links; tags-low = omega arith; principals-low = r.limits.principals };
              made = r.made.links;
              cycles = λ i h. rw (lt-one h) r.cycles.links;
              doubled = r.doubled.links;
              to-public = r.public-links.links;
            };
        grants =
            record {
              limits = record { whole = r.whole.grants; few = r.limits.grants; tags-low = r.limits.tags; principals-low = r.limits.principals };
              made = r.made.grants;
              cycles = r.cycles.grants;
              doubled = r.doubled.grants;
              to-public = r.public-links.grants;
            };
        two = r.two;
        links-unused = r.unused.links;
        grants-unused = r.unused.grants;
        tags =
            record {
              limit = r.limits.tags;
              limits = r.limits.subtags;
              roots = r.made.roots;
              supertags = r.made.supertags;
              public-roots = r.public-roots;
              ranks = r.subtags;
              supertags-unused = r.unused.supertags;
              unused = r.unused.tags;
            };
        threads = record { limits = r.limits.threads; made = r.made.threads; unused = r.unused.threads };
        objects = record { limits = r.limits.objects; made = r.made.objects; unused = r.unused.objects };
        whole = r.whole.store;
        store = record { limits = r.limits.messages; rests = r.unused.messages; unused = r.unused.places };
        memory =
            record {
              fits = record { within = r.memory.held; small = r.memory.size };
              made = r.made.pairs;
              unused = r.unused.pairs;
              doubled = r.pairs;
              hits = r.hits;
            };
      }

  -- the test without the truth of remembered pairs
  pub rules-but-truth : (hold_but_truth t m l g s ≡ true) ↔ OnlyTruthBroken t m l g s
  rules-but-truth = Iff.trans tables-hold (by-rules, by-tables)

  -- and with it
  pub rules-are : (break_no_rule t m l g s ≡ true) ↔ NoRuleBroken t m l g s
  unfolding pairs_true
  rules-are =
      and_is rules-but-truth
      (all-is m.held (λ i. itself (pair_true t.kinds l t.links g t.grants (get_or m.pairs i 0))))
