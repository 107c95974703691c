-- All that the three demands compare: the tables, the two lists of links and the store of messages. The memory stands beside it.
-- Assumes nothing.
use Rattle.std.specs.Prelude.{List, ℕ}
use Rattle.tables.specs.declared.Tables.{Tables}
use Rattle.tables.specs.declared.rows.ThreadRow.{ThreadRow}
use Rattle.lent.specs.declared.Counts.{Counts}
use Rattle.frames.specs.Requests.{thread_of}
use Rattle.outcomes.specs.declared.Outcome.{Outcome}
use Rattle.answers.specs.Answers.{Ready}
use Rattle.apply.specs.Apply.{apply_list, count_after, apply_store, apply_rows, ListFits, StoreFits, RowFits}

pub record World : Type 0 where
  pub tables : Tables
  pub links : List ℕ
  pub grants : List ℕ
  pub store : List ℕ

-- the tables t with the lists l of principal links and g of tag links, and the store s
abbrev pub world_of : Tables → List ℕ → List ℕ → List ℕ → World
world_of t l g s = record { tables = t; links = l; grants = g; store = s }

-- the counts of links in use
abbrev pub with_counts : Tables → ℕ → ℕ → Tables
with_counts t n k =
    record { principals = t.principals; links = n; tags = t.tags; grants = k; threads = t.threads; kinds = t.kinds; objects = t.objects }

-- the tables once what frame f came to is carried out
abbrev pub applied_tables : Tables → List ℕ → Outcome → Tables
applied_tables t f o =
    with_counts (apply_rows t (thread_of f).0 o.rows) (count_after o.links t.links) (count_after o.grants t.grants)

-- what frame f came to is carried out
abbrev pub applied : World → List ℕ → Outcome → World
applied w f o =
    record {
      tables = applied_tables w.tables f o;
      links = apply_list o.links w.tables.links w.links;
      grants = apply_list o.grants w.tables.grants w.grants;
      store = apply_store o.store f w.store;
    }

-- there is room for what is new, what changes is there, and so is the message of an answer: with these counts, the caller's own row,
-- the store b and the frame f
pub record HasRoom (c : Counts) (own : ThreadRow) (b f : List ℕ) (o : Outcome) : Type 0 where
  pub rows : RowFits c.principals c.tags (thread_of f).0 own o.rows
  pub links : ListFits o.links c.links
  pub grants : ListFits o.grants c.grants
  pub store : StoreFits o.store f b
  pub answer : Ready f b o.answer
