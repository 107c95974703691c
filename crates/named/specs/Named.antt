-- Refusal 3 (01, "Refusal numbers"): "an operand names no principal, tag or object, an object of another kind, a subtag in 06, or a label with an unmade tag".
-- Assumes nothing.
use Rattle.std.specs.Prelude.{Bool, true, false, not, ◌&&◌, ltb}
use Rattle.numbers.specs.declared.Principal.{Principal}
use Rattle.numbers.specs.declared.Tag.{Tag}
use Rattle.numbers.specs.Labels.{names_only_made}
use Rattle.links.specs.declared.authority.Lineage.{Lineage}
use Rattle.links.specs.declared.authority.Lineage.TheVariants.{Supertag, Subtag}
use Rattle.tables.specs.Rows.{is_free, what_of}
use Rattle.tables.specs.declared.rows.What.{What}
use Rattle.tables.specs.declared.rows.What.TheVariants as what
use Rattle.frames.specs.declared.requests.AuthorityRequest.{AuthorityRequest}
use Rattle.frames.specs.declared.requests.AuthorityRequest.TheVariants.{NewPrincipal, Delegate, Revoke, ActsFor, NewTag, NewSubtag, Grant, Ungrant, Authoritative}
use Rattle.frames.specs.declared.requests.ThreadRequest.{ThreadRequest}
use Rattle.frames.specs.declared.requests.ThreadRequest.TheVariants.{IntoSecrecy, OutOfSecrecy, IntoIntegrity, OutOfIntegrity, Fork, End, Call, Return}
use Rattle.frames.specs.declared.requests.ObjectRequest.{ObjectRequest}
use Rattle.frames.specs.declared.requests.ObjectRequest.TheVariants.{New, Delete, ReadCell, WriteCell, Put, Get, Lock, Unlock}
use Rattle.frames.specs.declared.requests.Request.{Request}
use Rattle.frames.specs.declared.requests.Request.TheVariants.{OfAuthority, OfThread, OfObject, OfOutside}
use Rattle.sight.specs.declared.Sight.{Sight}

abbrev pub principal_made : Sight → Principal → Bool
principal_made s p = ltb p.0 s.principals

abbrev pub tag_made : Sight → Tag → Bool
tag_made s t = ltb t.0 s.tags

abbrev pub is_supertag : Lineage → Bool
is_supertag (Supertag t) = true
is_supertag (Subtag t above) = false

abbrev pub is_cell : What → Bool
is_cell what.Free = false
is_cell what.Cell = true
is_cell (what.Queue held) = false
is_cell (what.Lock locked) = false

abbrev pub is_queue : What → Bool
is_queue what.Free = false
is_queue what.Cell = false
is_queue (what.Queue held) = true
is_queue (what.Lock locked) = false

abbrev pub is_lock : What → Bool
is_lock what.Free = false
is_lock what.Cell = false
is_lock (what.Queue held) = false
is_lock (what.Lock locked) = true

abbrev pub authority_named : Sight → AuthorityRequest → Bool
authority_named s NewPrincipal = true
authority_named s (Delegate p q) = principal_made s p && principal_made s q
authority_named s (Revoke p q) = principal_made s p && principal_made s q
authority_named s (ActsFor p q) = principal_made s p && principal_made s q
authority_named s NewTag = true
authority_named s (NewSubtag t) = tag_made s t && is_supertag s.lineage
authority_named s (Grant t p q) = tag_made s t && (principal_made s p && principal_made s q)
authority_named s (Ungrant t p q) = tag_made s t && (principal_made s p && principal_made s q)
authority_named s (Authoritative t) = tag_made s t

abbrev pub thread_named : Sight → ThreadRequest → Bool
thread_named s (IntoSecrecy t) = tag_made s t
thread_named s (OutOfSecrecy t) = tag_made s t
thread_named s (IntoIntegrity t) = tag_made s t
thread_named s (OutOfIntegrity t) = tag_made s t
thread_named s (Fork p) = principal_made s p
thread_named s End = true
thread_named s (Call p) = principal_made s p
thread_named s Return = true

abbrev pub object_fits : Sight → ObjectRequest → Bool
object_fits s (New k l) = names_only_made l.secrecy s.tags && names_only_made l.integrity s.tags
object_fits s (Delete o) = not (is_free (what_of s.object))
object_fits s (ReadCell o) = is_cell (what_of s.object)
object_fits s (WriteCell o m) = is_cell (what_of s.object)
object_fits s (Put o m) = is_queue (what_of s.object)
object_fits s (Get o) = is_queue (what_of s.object)
object_fits s (Lock o) = is_lock (what_of s.object)
object_fits s (Unlock o) = is_lock (what_of s.object)

abbrev pub named : Sight → Request → Bool
named s (OfAuthority r) = authority_named s r
named s (OfThread r) = thread_named s r
named s (OfObject r) = object_fits s r
named s (OfOutside r) = true
