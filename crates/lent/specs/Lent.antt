-- Parts of a state, read and replaced. A row's number past the last replaces nothing: `set` leaves a list alone past its end. Assumes nothing.
use Rattle.std.specs.Prelude.{ℕ, set}
use Rattle.memory.specs.declared.Note.{Note}
use Rattle.memory.specs.Notes.{noted}
use Rattle.tables.specs.declared.Tables.{Tables}
use Rattle.tables.specs.declared.rows.ThreadRow.{ThreadRow}
use Rattle.tables.specs.declared.rows.TagRow.{TagRow}
use Rattle.tables.specs.declared.rows.ObjectRow.{ObjectRow}
use Rattle.state.specs.declared.State.{State}
use Rattle.lent.specs.declared.Counts.{Counts}

abbrev pub counts_of : Tables → Counts
counts_of t = record { principals = t.principals; links = t.links; tags = t.tags; grants = t.grants }

-- the state with other tables
abbrev pub tables_put : State → Tables → State
tables_put s t = record { tables = t; memory = s.memory }

-- with n written into its memory
abbrev pub note_put : State → Note → State
note_put s n = record { tables = s.tables; memory = noted s.memory n }

-- with row n of a table replaced
module _ (s : State) where
  abbrev t : Tables
  t = s.tables

  abbrev pub thread_put : ℕ → ThreadRow → State
  thread_put n r =
      tables_put s
      (record { principals = t.principals; links = t.links; tags = t.tags; grants = t.grants; threads = set t.threads n r; kinds = t.kinds; objects = t.objects })

  abbrev pub tag_put : ℕ → TagRow → State
  tag_put n r =
      tables_put s
      (record { principals = t.principals; links = t.links; tags = t.tags; grants = t.grants; threads = t.threads; kinds = set t.kinds n r; objects = t.objects })

  abbrev pub object_put : ℕ → ObjectRow → State
  object_put n r =
      tables_put s
      (record { principals = t.principals; links = t.links; tags = t.tags; grants = t.grants; threads = t.threads; kinds = t.kinds; objects = set t.objects n r })

  -- and with other counts
  abbrev pub counts_put : Counts → State
  counts_put c =
      tables_put s
      (record { principals = c.principals; links = c.links; tags = c.tags; grants = c.grants; threads = t.threads; kinds = t.kinds; objects = t.objects })
