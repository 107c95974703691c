-- The single-request entry with the lists lent as records (01: "a list of link records that the caller lends, 256 places each"): it is
-- the request on the numbers of their links. Assumes nothing.
use Rattle.std.specs.Prelude.{cond, List, map, ℕ, eqb, replicate}
use Rattle.numbers.specs.Numbers.{link_places}
use Rattle.records.specs.declared.principals.PrincipalLink.{PrincipalLink}
use Rattle.records.specs.declared.tags.TagLink.{TagLink}
use Rattle.records.specs.Records.{principal_number, principal_link, tag_number, tag_link}
use Rattle.state.specs.declared.State.{State}
use Rattle.act.specs.Step.{Replied, After}
use Rattle.monitor.specs.Monitor.{requested}
use Rattle.entry.specs.declared.Reply.{Reply}
use Rattle.entry.specs.declared.Lists.{Lists}

-- the state s, the records ys of principal links and zs of tag links, the store b, the frame f, the answer buffer a
abbrev pub over_records : State → List PrincipalLink → List TagLink → List ℕ → List ℕ → List ℕ → After
over_records s ys zs b f a = requested s (map principal_number ys) (map tag_number zs) b f a

-- what it gives beside the state, the lists and the lent buffers
abbrev pub reply_in : Replied → Reply
reply_in r = record { status = r.status; written = r.written }

-- no links: "Unused places are zero"
abbrev pub no_links : Lists
no_links = record { links = replicate link_places (principal_link 0); grants = replicate link_places (tag_link 0) }

-- the records of the lists that it leaves
abbrev pub lists_of : After → Lists
lists_of r = record { links = map principal_link r.links; grants = map tag_link r.grants }

-- ---- how it is come to

-- none of a list that is not whole is handed on
abbrev pub whole_places : ℕ → ℕ
whole_places n = cond (eqb n link_places) link_places 0
