-- What a host is told of a list of lines: all that the run gives but the state and the lists, which stay inside. Assumes nothing.
use Rattle.tables.specs.Rows.{flag_of}
use Rattle.session.specs.declared.Ran.{Ran}
use Rattle.suvdorkhun_c.specs.declared.Listed.{Listed}

abbrev pub listed : Ran → Listed
listed r = record { status = r.status; complete = flag_of r.complete; read = r.read; written = r.written }
