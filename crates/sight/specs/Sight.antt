-- What a request sees of the tables before the links are asked: who asks, with which labels, how much room there is, and the tag and
-- the object that it names (01, "Requests"). Assumes nothing.
use Rattle.std.specs.Prelude.{Bool, true, false, cond, List, ℕ, Option, None}
use Rattle.numbers.specs.declared.Tag.{Tag}
use Rattle.numbers.specs.declared.Object.{Object}
use Rattle.numbers.specs.declared.Thread.{Thread}
use Rattle.tables.specs.Rows.{is_live}
use Rattle.tables.specs.declared.Tables.{Tables}
use Rattle.tables.specs.declared.rows.ThreadRow.{ThreadRow}
use Rattle.tables.specs.declared.rows.TagRow.{TagRow}
use Rattle.tables.specs.declared.rows.ObjectRow.{ObjectRow}
use Rattle.lent.specs.declared.Counts.{Counts}
use Rattle.tables.specs.Things.{thread_at, object_at, lineage_of, lineage_in}
use Rattle.tables.specs.Free.{free_thread, free_object}
use Rattle.frames.specs.declared.requests.AuthorityRequest.{AuthorityRequest}
use Rattle.frames.specs.declared.requests.AuthorityRequest.TheVariants.{NewPrincipal, Delegate, Revoke, ActsFor, NewTag, NewSubtag, Grant, Ungrant, Authoritative}
use Rattle.frames.specs.declared.requests.ThreadRequest.{ThreadRequest}
use Rattle.frames.specs.declared.requests.ThreadRequest.TheVariants.{IntoSecrecy, OutOfSecrecy, IntoIntegrity, OutOfIntegrity, Fork, End, Call, Return}
use Rattle.frames.specs.declared.requests.ObjectRequest.{ObjectRequest}
use Rattle.frames.specs.declared.requests.ObjectRequest.TheVariants.{New, Delete, ReadCell, WriteCell, Put, Get, Lock, Unlock}
use Rattle.frames.specs.declared.requests.Request.{Request}
use Rattle.frames.specs.declared.requests.Request.TheVariants.{OfAuthority, OfThread, OfObject, OfOutside}
use Rattle.sight.specs.declared.Caller.{Caller}
use Rattle.sight.specs.declared.Sight.{Sight}

-- a number that names nothing
abbrev pub no_number : ℕ
no_number = 255

-- ---- the tag that a request names

abbrev pub authority_tag : AuthorityRequest → Tag
authority_tag NewPrincipal = record { 0 = no_number }
authority_tag (Delegate p q) = record { 0 = no_number }
authority_tag (Revoke p q) = record { 0 = no_number }
authority_tag (ActsFor p q) = record { 0 = no_number }
authority_tag NewTag = record { 0 = no_number }
authority_tag (NewSubtag t) = t
authority_tag (Grant t p q) = t
authority_tag (Ungrant t p q) = t
authority_tag (Authoritative t) = t

abbrev pub thread_tag : ThreadRequest → Tag
thread_tag (IntoSecrecy t) = t
thread_tag (OutOfSecrecy t) = t
thread_tag (IntoIntegrity t) = t
thread_tag (OutOfIntegrity t) = t
thread_tag (Fork p) = record { 0 = no_number }
thread_tag End = record { 0 = no_number }
thread_tag (Call p) = record { 0 = no_number }
thread_tag Return = record { 0 = no_number }

abbrev pub tag_named : Request → Tag
tag_named (OfAuthority r) = authority_tag r
tag_named (OfThread r) = thread_tag r
tag_named (OfObject r) = record { 0 = no_number }
tag_named (OfOutside r) = record { 0 = no_number }

-- ---- and the object

abbrev pub object_of : ObjectRequest → Object
object_of (New k l) = record { 0 = no_number }
object_of (Delete o) = o
object_of (ReadCell o) = o
object_of (WriteCell o m) = o
object_of (Put o m) = o
object_of (Get o) = o
object_of (Lock o) = o
object_of (Unlock o) = o

abbrev pub object_named : Request → Object
object_named (OfAuthority r) = record { 0 = no_number }
object_named (OfThread r) = record { 0 = no_number }
object_named (OfObject r) = object_of r
object_named (OfOutside r) = record { 0 = no_number }

-- ---- the number that a new thread or object would take: "the lowest free number, freed ones included"; none where each is taken

abbrev pub is_fork : ThreadRequest → Bool
is_fork (IntoSecrecy t) = false
is_fork (OutOfSecrecy t) = false
is_fork (IntoIntegrity t) = false
is_fork (OutOfIntegrity t) = false
is_fork (Fork p) = true
is_fork End = false
is_fork (Call p) = false
is_fork Return = false

abbrev pub is_new : ObjectRequest → Bool
is_new (New k l) = true
is_new (Delete o) = false
is_new (ReadCell o) = false
is_new (WriteCell o m) = false
is_new (Put o m) = false
is_new (Get o) = false
is_new (Lock o) = false
is_new (Unlock o) = false

abbrev pub forks : Request → Bool
forks (OfAuthority r) = false
forks (OfThread r) = is_fork r
forks (OfObject r) = false
forks (OfOutside r) = false

abbrev pub makes_object : Request → Bool
makes_object (OfAuthority r) = false
makes_object (OfThread r) = false
makes_object (OfObject r) = is_new r
makes_object (OfOutside r) = false

abbrev pub free_for : Tables → Request → Option ℕ
free_for t r = cond (forks r) (free_thread t.threads) (cond (makes_object r) (free_object t.objects) None)

-- ---- who asks

abbrev pub caller_in : ThreadRow → Caller
caller_in r = record { live = is_live r.live; principal = r.principal; labels = r.labels; calls = r.calls }

abbrev pub caller_of : List ThreadRow → Thread → Caller
caller_of threads n = caller_in (thread_at threads n.0)

-- ---- the whole

abbrev pub sight_of : Tables → Thread → Request → Sight
sight_of t n r =
    record {
      caller = caller_of t.threads n;
      principals = t.principals;
      tags = t.tags;
      links = t.links;
      grants = t.grants;
      lineage = lineage_of t.kinds (tag_named r);
      object = object_at t.objects (object_named r).0;
      free = free_for t r;
    }

-- ---- the same from what was read of the tables: the rows of its thread, its tag, that tag's supertag and its object, and the counts

abbrev pub seen_in : Request → ThreadRow → TagRow → TagRow → ObjectRow → Counts → Option ℕ → Sight
seen_in r row tag above object counts free =
    record {
      caller = caller_in row;
      principals = counts.principals;
      tags = counts.tags;
      links = counts.links;
      grants = counts.grants;
      lineage = lineage_in (tag_named r) tag above;
      object = object;
      free = free;
    }
