-- The rules of 9 (01, "Refusal numbers"), one by one and in the order of 01's row, on tables t, the memory m, the lists l of principal
-- links and g of tag links, and the store s of messages. Every field is one sentence of a rule. Assumes nothing.
use Rattle.std.specs.Prelude.{◌≡◌, true, List, ℕ, ◌+◌, ◌*◌, ◌≤◌, ◌<◌, length, get_or}
use Rattle.numbers.specs.Numbers.{public, most_principals, most_tags, most_threads, most_objects, longest_message, link_places, most_remembered}
use Rattle.links.specs.declared.lists.Graph.TheVariants.{Principals, OfTag}
use Rattle.links.specs.Links.{links_in}
use Rattle.links.specs.Cycles.{NoCycle}
use Rattle.link_rules.specs.LinkRules.{to_in, made}
use Rattle.store.specs.Store.{place_size, object_size, store_size, byte_at}
use Rattle.memory.specs.declared.Memory.{Memory}
use Rattle.tables.specs.Rows.{rank_of, what_of}
use Rattle.tables.specs.Things.{thread_at, tag_at, object_at}
use Rattle.tables.specs.declared.Tables.{Tables}
use Rattle.tables.specs.declared.rows.ThreadRow.{ThreadRow}
use Rattle.tables.specs.declared.rows.TagRow.{TagRow}
use Rattle.tables.specs.declared.rows.ObjectRow.{ObjectRow}
use Rattle.thread_rules.specs.ThreadRules.{thread_in_limits, thread_made, thread_unused}
use Rattle.tag_rules.specs.TagRules.{tag_in_limits, supertag_unused, supertag_made, rank_holds, is_no_tag}
use Rattle.object_rules.specs.ObjectRules.{object_in_limits, object_made, object_unused}
use Rattle.store_rules.specs.StoreRules.{places_used}
use Rattle.memory_rules.specs.MemoryRules.{pair_made}
use Rattle.rules.specs.Tested.{pair_true}

module _ (t : Tables) (m : Memory) (l g s : List ℕ) where
  -- the rows of a thread, a tag and an object; where place k of an object begins; a remembered pair
  abbrev thread : ℕ → ThreadRow
  thread n = thread_at t.threads n

  abbrev tag : ℕ → TagRow
  tag i = tag_at t.kinds i

  abbrev object : ℕ → ObjectRow
  object o = object_at t.objects o

  abbrev places : ℕ → ℕ
  places o = places_used (what_of (object o))

  abbrev place : ℕ → ℕ → ℕ
  place o k = o * object_size + k * place_size

  abbrev pair : ℕ → ℕ
  pair i = get_or m.pairs i 0

  -- "a limit"
  pub record WithinLimits : Type 0 where
    pub principals : t.principals ≤ most_principals
    pub tags : t.tags ≤ most_tags
    pub links : t.links ≤ link_places
    pub grants : t.grants ≤ link_places
    pub threads : (n : ℕ) → n < most_threads → thread_in_limits (thread n) ≡ true
    pub subtags : (i : ℕ) → i < t.tags → tag_in_limits (tag i) ≡ true
    pub objects : (o : ℕ) → o < most_objects → object_in_limits (object o) ≡ true
    pub messages : (o k : ℕ) → o < most_objects → k < places o → byte_at s (place o k) ≤ longest_message

  -- "or a lent list of other than 256 places", and the store of messages likewise
  pub record WholeLists : Type 0 where
    pub links : length l ≡ link_places
    pub grants : length g ≡ link_places
    pub store : length s ≡ store_size

  -- "under 2 principals"
  abbrev pub TwoPrincipals : Type 0
  TwoPrincipals = 2 ≤ t.principals

  -- "an unmade number": anywhere one stands
  pub record AllMade : Type 0 where
    pub links : (i : ℕ) → i < t.links → made l 1 t.principals i ≡ true
    pub grants : (i : ℕ) → i < t.grants → made g t.tags t.principals i ≡ true
    pub roots : (i : ℕ) → i < t.tags → (tag i).root.0 < t.principals
    pub supertags : (i : ℕ) → i < t.tags → supertag_made t.tags (rank_of (tag i)) ≡ true
    pub threads : (n : ℕ) → n < most_threads → thread_made t.principals t.tags (thread n) ≡ true
    pub objects : (o : ℕ) → o < most_objects → object_made t.tags (object o) ≡ true
    pub pairs : (i : ℕ) → i < m.held → pair_made t.tags t.principals (pair i) ≡ true

  -- "a cycle": of principal links, or of one tag's recorded links
  pub record NoCycles : Type 0 where
    pub links : NoCycle (links_in l t.links Principals)
    pub grants : (i : ℕ) → i < t.tags → NoCycle (links_in g t.grants (OfTag (record { 0 = i })))

  -- "a doubled link"
  pub record NoneDoubled : Type 0 where
    pub links : (i j : ℕ) → i < j → j < t.links → get_or l i 0 ≡ get_or l j 0 → ⊥
    pub grants : (i j : ℕ) → i < j → j < t.grants → get_or g i 0 ≡ get_or g j 0 → ⊥

  -- "a link to the public"
  pub record NoneToPublic : Type 0 where
    pub links : (i : ℕ) → i < t.links → to_in (get_or l i 0) ≡ public → ⊥
    pub grants : (i : ℕ) → i < t.grants → to_in (get_or g i 0) ≡ public → ⊥

  -- "a public root"
  abbrev pub NoPublicRoot : Type 0
  NoPublicRoot = (i : ℕ) → i < t.tags → (tag i).root.0 ≡ public → ⊥

  -- "a subtag of a subtag or of a later tag"
  abbrev pub SubtagsOfSupertags : Type 0
  SubtagsOfSupertags = (i : ℕ) → i < t.tags → rank_holds t.kinds i (rank_of (tag i)) ≡ true

  -- "nonzero unused place"
  pub record UnusedZero : Type 0 where
    pub links : (i : ℕ) → t.links ≤ i → i < link_places → get_or l i 0 ≡ 0
    pub grants : (i : ℕ) → t.grants ≤ i → i < link_places → get_or g i 0 ≡ 0
    pub tags : (i : ℕ) → t.tags ≤ i → i < most_tags → is_no_tag (tag i) ≡ true
    pub supertags : (i : ℕ) → i < t.tags → supertag_unused (tag i) ≡ true
    pub threads : (n : ℕ) → n < most_threads → thread_unused (thread n) ≡ true
    pub objects : (o : ℕ) → o < most_objects → object_unused (object o) ≡ true
    -- what follows a message in its place, and the places that an object does not use
    pub messages : (o k i : ℕ) → o < most_objects → k < places o → byte_at s (place o k) ≤ i → i < longest_message → byte_at s (place o k + 1 + i) ≡ 0
    pub places : (o i : ℕ) → o < most_objects → places o * place_size ≤ i → i < object_size → byte_at s (o * object_size + i) ≡ 0
    pub pairs : (i : ℕ) → m.held ≤ i → i < most_remembered → pair i ≡ 0

  -- "over 64 or over-size memory"
  pub record MemoryInSize : Type 0 where
    pub size : m.size ≤ most_remembered
    pub held : m.held ≤ m.size

  -- "a remembered pair doubled"
  abbrev pub NoPairDoubled : Type 0
  NoPairDoubled = (i j : ℕ) → i < j → j < m.held → pair i ≡ pair j → ⊥

  -- "or untrue": its principal is authoritative for its tag, both being made (`AllMade`)
  abbrev pub NoPairUntrue : Type 0
  NoPairUntrue = (i : ℕ) → i < m.held → pair_true t.kinds l t.links g t.grants (pair i) ≡ true

  -- "hits above questions"
  abbrev pub HitsAmongQuestions : Type 0
  HitsAmongQuestions = m.hits ≤ m.questions

  -- all rules but the truth of remembered pairs, which the step behind the check of 9 does without
  pub record OnlyTruthBroken : Type 0 where
    pub limits : WithinLimits
    pub whole : WholeLists
    pub two : TwoPrincipals
    pub made : AllMade
    pub cycles : NoCycles
    pub doubled : NoneDoubled
    pub public-links : NoneToPublic
    pub public-roots : NoPublicRoot
    pub subtags : SubtagsOfSupertags
    pub unused : UnusedZero
    pub memory : MemoryInSize
    pub pairs : NoPairDoubled
    pub hits : HitsAmongQuestions

  -- all rules
  abbrev pub NoRuleBroken : Type 0
  NoRuleBroken = OnlyTruthBroken × NoPairUntrue
