-- The rules of 9 (`Rules`) as one computed test: table by table, each by the tests that speak of it (`LinkRules`, `ThreadRules`,
-- `TagRules`, `ObjectRules`, `StoreRules`, `MemoryRules`). The law `rules-are` says that the test is the rules. Assumes nothing.
use Rattle.std.specs.Prelude.{Bool, ◌&&◌, List, ℕ, ◌-◌, ◌/◌, ◌%◌, eqb, leb, length, get_or}
use Rattle.numbers.specs.Below.{all_below}
use Rattle.numbers.specs.Numbers.{link_places}
use Rattle.links.specs.declared.lists.Graph.TheVariants.{Principals}
use Rattle.links.specs.Links.{links_in}
use Rattle.links.specs.Authority.{authoritative}
use Rattle.link_rules.specs.LinkRules.{links_hold}
use Rattle.store.specs.Store.{zeros, store_size}
use Rattle.memory.specs.declared.Memory.{Memory}
use Rattle.tables.specs.Things.{lineage_of}
use Rattle.tables.specs.declared.Tables.{Tables}
use Rattle.tables.specs.declared.rows.ThreadRow.{ThreadRow}
use Rattle.tables.specs.declared.rows.TagRow.{TagRow}
use Rattle.tables.specs.declared.rows.ObjectRow.{ObjectRow}
use Rattle.thread_rules.specs.ThreadRules.{threads_hold}
use Rattle.tag_rules.specs.TagRules.{tags_hold}
use Rattle.object_rules.specs.ObjectRules.{objects_hold}
use Rattle.store_rules.specs.StoreRules.{store_holds}
use Rattle.memory_rules.specs.MemoryRules.{memory_holds}

-- both lists of links, "under 2 principals", and "nonzero unused place" of the lists
abbrev pub lists_hold : List ℕ → ℕ → List ℕ → ℕ → ℕ → ℕ → Bool
lists_hold l n g k tags principals =
    links_hold l n 1 principals
    && (links_hold g k tags principals && (leb 2 principals && (zeros l n (link_places - n) && zeros g k (link_places - k))))

-- the rows
abbrev pub rows_hold : List TagRow → List ThreadRow → List ObjectRow → ℕ → ℕ → Bool
rows_hold kinds threads objects tags principals =
    tags_hold principals tags kinds && (threads_hold principals tags threads && objects_hold tags objects)

-- the store of messages: its length, and what stands in it
abbrev pub messages_hold : List ℕ → List ObjectRow → Bool
messages_hold s objects = eqb (length s) store_size && store_holds s objects

-- the tables break no rule, but perhaps the truth of remembered pairs
abbrev pub hold_but_truth : Tables → Memory → List ℕ → List ℕ → List ℕ → Bool
hold_but_truth t m l g s =
    lists_hold l t.links g t.grants t.tags t.principals
    && (rows_hold t.kinds t.threads t.objects t.tags t.principals
    && (messages_hold s t.objects && memory_holds m t.tags t.principals))

-- the pair's principal is authoritative for its tag
abbrev pub pair_true : List TagRow → List ℕ → ℕ → List ℕ → ℕ → ℕ → Bool
pair_true kinds l n g k x =
    authoritative (links_in l n Principals) g k (lineage_of kinds (record { 0 = x % 256 })) (record { 0 = x / 256 % 256 })

-- "a remembered pair .. untrue": none of those held is
unfoldable pub pairs_true : Tables → Memory → List ℕ → List ℕ → Bool
pairs_true t m l g = all_below m.held (λ i. pair_true t.kinds l t.links g t.grants (get_or m.pairs i 0))

-- the tables break no rule
abbrev pub break_no_rule : Tables → Memory → List ℕ → List ℕ → List ℕ → Bool
break_no_rule t m l g s = hold_but_truth t m l g s && pairs_true t m l g
