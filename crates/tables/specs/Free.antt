-- "New threads and objects take the lowest free number, freed ones included" (01); none where each is taken. Assumes nothing.
use Rattle.std.specs.Prelude.{Option, not, List, ℕ, position}
use Rattle.tables.specs.declared.rows.ThreadRow.{ThreadRow}
use Rattle.tables.specs.declared.rows.ObjectRow.{ObjectRow}
use Rattle.tables.specs.Rows.{is_live, is_free, what_of}

-- the lowest thread number that is not live
abbrev pub free_thread : List ThreadRow → Option ℕ
free_thread rows = position (λ r. not (is_live r.live)) rows

-- the lowest object number that is free
abbrev pub free_object : List ObjectRow → Option ℕ
free_object rows = position (λ r. is_free (what_of r)) rows
