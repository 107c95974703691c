-- What a change of the rows writes into the tables: at most one row, and the counts. Assumes nothing.
use Rattle.std.specs.Prelude.{List, ℕ, ◌+◌, set}
use Rattle.tables.specs.declared.Tables.{Tables}
use Rattle.tables.specs.declared.rows.ThreadRow.{ThreadRow}
use Rattle.tables.specs.declared.rows.TagRow.{TagRow}
use Rattle.tables.specs.declared.rows.ObjectRow.{ObjectRow}
use Rattle.tables.specs.Things.{no_thread}
use Rattle.lent.specs.declared.Counts.{Counts}
use Rattle.outcomes.specs.declared.RowChange.{RowChange}
use Rattle.outcomes.specs.declared.RowChange.TheVariants as rows
use Rattle.apply.specs.declared.rows.RowWrite.{RowWrite}
use Rattle.apply.specs.declared.rows.RowWrite.TheVariants.{Keep, Thread, Tag, Object}
use Rattle.apply.specs.declared.rows.Writes.{Writes}
use Rattle.apply.specs.Apply.{labelled, forked, called, back_from}

-- ---- the rows of threads, tags and objects once one is written

abbrev pub threads_after : RowWrite → List ThreadRow → List ThreadRow
threads_after Keep l = l
threads_after (Thread n r) l = set l n r
threads_after (Tag n r) l = l
threads_after (Object n r) l = l

abbrev pub kinds_after : RowWrite → List TagRow → List TagRow
kinds_after Keep l = l
kinds_after (Thread n r) l = l
kinds_after (Tag n r) l = set l n r
kinds_after (Object n r) l = l

abbrev pub objects_after : RowWrite → List ObjectRow → List ObjectRow
objects_after Keep l = l
objects_after (Thread n r) l = l
objects_after (Tag n r) l = l
objects_after (Object n r) l = set l n r

abbrev pub rows_after : Tables → RowWrite → Tables
rows_after t w =
    record {
      principals = t.principals;
      links = t.links;
      tags = t.tags;
      grants = t.grants;
      threads = threads_after w t.threads;
      kinds = kinds_after w t.kinds;
      objects = objects_after w t.objects;
    }

-- the tables once all of it is written
abbrev pub written : Tables → Writes → Tables
written t w =
    record {
      principals = w.counts.principals;
      links = w.counts.links;
      tags = w.counts.tags;
      grants = w.counts.grants;
      threads = threads_after w.row t.threads;
      kinds = kinds_after w.row t.kinds;
      objects = objects_after w.row t.objects;
    }

abbrev pub of_row : RowWrite → Counts → Writes
of_row r c = record { row = r; counts = c }

-- the caller has the number n and the row own
module _ (n : ℕ) (own : ThreadRow) (c : Counts) where
  abbrev pub row_writes : RowChange → Writes
  row_writes rows.Keep = of_row Keep c
  row_writes rows.NewPrincipal = of_row Keep (record { principals = c.principals + 1; links = c.links; tags = c.tags; grants = c.grants })
  row_writes (rows.NewTag r) = of_row (Tag c.tags r) (record { principals = c.principals; links = c.links; tags = c.tags + 1; grants = c.grants })
  row_writes (rows.Labels l) = of_row (Thread n (labelled own l)) c
  row_writes (rows.NewThread k p) = of_row (Thread k (forked own p)) c
  row_writes rows.End = of_row (Thread n no_thread) c
  row_writes (rows.Call p) = of_row (Thread n (called own p)) c
  row_writes rows.Return = of_row (Thread n (back_from own)) c
  row_writes (rows.Object o r) = of_row (Object o r) c
