-- What a decision's changes do to the lists, the store and the rows (01, "Requests", the column "done"). Assumes nothing.
use Rattle.std.specs.Prelude.{List, ℕ, ◌+◌, ◌-◌, ◌≤◌, ◌<◌, length, get_or, set, replicate}
use Rattle.numbers.specs.declared.Principal.{Principal}
use Rattle.numbers.specs.declared.flow.LabelPair.{LabelPair}
use Rattle.numbers.specs.Numbers.{link_places, most_threads, most_put_aside, most_tags, most_principals, most_objects, longest_message}
use Rattle.links.specs.Links.{appended, removed}
use Rattle.store.specs.Store.{place_size, object_size, put, took_first, cleared}
use Rattle.tables.specs.declared.Tables.{Tables}
use Rattle.tables.specs.declared.rows.ThreadRow.{ThreadRow}
use Rattle.tables.specs.declared.rows.TagRow.{TagRow}
use Rattle.tables.specs.declared.rows.ObjectRow.{ObjectRow}
use Rattle.tables.specs.Things.{nobody, no_thread, thread_at}
use Rattle.answers.specs.Answers.{given_by}
use Rattle.outcomes.specs.declared.ListChange.{ListChange}
use Rattle.outcomes.specs.declared.ListChange.TheVariants as list
use Rattle.outcomes.specs.declared.StoreChange.{StoreChange}
use Rattle.outcomes.specs.declared.StoreChange.TheVariants as store
use Rattle.outcomes.specs.declared.RowChange.{RowChange}
use Rattle.outcomes.specs.declared.RowChange.TheVariants as rows

-- ---- a list of links, of which n places are in use, and its count

abbrev pub apply_list : ListChange → ℕ → List ℕ → List ℕ
apply_list list.Keep n l = l
apply_list (list.Append x) n l = appended l n x
apply_list (list.Remove i) n l = removed l n i

abbrev pub count_after : ListChange → ℕ → ℕ
count_after list.Keep n = n
count_after (list.Append x) n = n + 1
count_after (list.Remove i) n = n - 1

-- a link more has its place, and one fewer was there
abbrev pub ListFits : ListChange → ℕ → Type 0
ListFits list.Keep n = Unit
ListFits (list.Append x) n = n < link_places
ListFits (list.Remove i) n = (i < n) × (n ≤ link_places)

-- ---- the store; a message put is one of the frame f

abbrev pub apply_store : StoreChange → List ℕ → List ℕ → List ℕ
apply_store store.Keep f s = s
apply_store (store.Put at m) f s = put s at (given_by f m)
apply_store (store.TakeFirst at) f s = took_first s at
apply_store (store.Free at) f s = cleared s at object_size

-- the message is there and no longer than a message may be, and so is its place; or the object's 8 places are there
abbrev pub StoreFits : StoreChange → List ℕ → List ℕ → Type 0
StoreFits store.Keep f s = Unit
StoreFits (store.Put at m) f s = (m.at + m.len ≤ length f) × (m.len ≤ longest_message) × (at + place_size ≤ length s)
StoreFits (store.TakeFirst at) f s = at + object_size ≤ length s
StoreFits (store.Free at) f s = at + object_size ≤ length s

-- ---- the rows

abbrev pub with_thread : Tables → ℕ → ThreadRow → Tables
with_thread t n r =
    record { principals = t.principals; links = t.links; tags = t.tags; grants = t.grants; threads = set t.threads n r; kinds = t.kinds; objects = t.objects }

-- 01: one principal more
abbrev pub with_principal : Tables → Tables
with_principal t =
    record { principals = t.principals + 1; links = t.links; tags = t.tags; grants = t.grants; threads = t.threads; kinds = t.kinds; objects = t.objects }

-- 05, 06: "new .. tags take the next number"
abbrev pub with_tag : Tables → TagRow → Tables
with_tag t r =
    record { principals = t.principals; links = t.links; tags = t.tags + 1; grants = t.grants; threads = t.threads; kinds = set t.kinds t.tags r; objects = t.objects }

abbrev pub with_object : Tables → ℕ → ObjectRow → Tables
with_object t o r =
    record { principals = t.principals; links = t.links; tags = t.tags; grants = t.grants; threads = t.threads; kinds = t.kinds; objects = set t.objects o r }

-- 0A to 0D: the row's labels change
abbrev pub labelled : ThreadRow → LabelPair → ThreadRow
labelled r l = record { live = r.live; principal = r.principal; labels = l; calls = r.calls; aside = r.aside }

-- 0E: "copy of labels, principal P, nothing put aside"
abbrev pub forked : ThreadRow → Principal → ThreadRow
forked r p = record { live = 1; principal = p; labels = r.labels; calls = 0; aside = replicate 8 nobody }

-- 10: "caller put aside, runs as P"
abbrev pub called : ThreadRow → Principal → ThreadRow
called r p = record { live = r.live; principal = p; labels = r.labels; calls = r.calls + 1; aside = set r.aside r.calls r.principal }

-- 11: "last one put aside is back; labels stay"
abbrev pub back_from : ThreadRow → ThreadRow
back_from r =
    record {
      live = r.live;
      principal = get_or r.aside (r.calls - 1) nobody;
      labels = r.labels;
      calls = r.calls - 1;
      aside = set r.aside (r.calls - 1) nobody;
    }

-- n is the caller's number
module _ (t : Tables) (n : ℕ) where
  abbrev pub own : ThreadRow
  own = thread_at t.threads n

  abbrev pub apply_rows : RowChange → Tables
  apply_rows rows.Keep = t
  apply_rows rows.NewPrincipal = with_principal t
  apply_rows (rows.NewTag r) = with_tag t r
  apply_rows (rows.Labels l) = with_thread t n (labelled own l)
  apply_rows (rows.NewThread k p) = with_thread t k (forked own p)
  -- 0F: "thread freed"
  apply_rows rows.End = with_thread t n no_thread
  apply_rows (rows.Call p) = with_thread t n (called own p)
  apply_rows rows.Return = with_thread t n (back_from own)
  apply_rows (rows.Object o r) = with_object t o r

-- there is room for what is new, and what changes is there: so many principals and tags are made, and the caller has the number n and
-- the row r
module _ (principals tags n : ℕ) (r : ThreadRow) where
  abbrev pub RowFits : RowChange → Type 0
  RowFits rows.Keep = Unit
  RowFits rows.NewPrincipal = principals < most_principals
  RowFits (rows.NewTag x) = tags < most_tags
  RowFits (rows.Labels l) = n < most_threads
  RowFits (rows.NewThread k p) = (k < most_threads) × (n < most_threads)
  RowFits rows.End = n < most_threads
  RowFits (rows.Call p) = (n < most_threads) × (r.calls < most_put_aside)
  RowFits rows.Return = (n < most_threads) × (0 < r.calls) × (r.calls ≤ most_put_aside)
  RowFits (rows.Object o x) = o < most_objects
