-- Kinds 12 to 1B (01, "Requests"): their rows' refusals in order, and what is done. s is what the request sees. Assumes nothing.
use Rattle.std.specs.Prelude.{true, false, cond, ℕ, Option, Some, None, ◌+◌, ◌-◌, leb, ltb}
use Rattle.numbers.specs.declared.Object.{Object}
use Rattle.numbers.specs.declared.flow.LabelPair.{LabelPair}
use Rattle.numbers.specs.Numbers.{most_objects, most_queued}
use Rattle.store.specs.Store.{place_at}
use Rattle.tables.specs.Rows.{held_in, is_locked, what_of, object_row}
use Rattle.tables.specs.Things.{no_object}
use Rattle.tables.specs.declared.rows.What.{What}
use Rattle.tables.specs.declared.rows.What.TheVariants as what
use Rattle.frames.specs.declared.requests.Span.{Span}
use Rattle.frames.specs.declared.requests.ObjectKind.{ObjectKind}
use Rattle.frames.specs.declared.requests.ObjectKind.TheVariants as kind
use Rattle.frames.specs.declared.requests.ObjectRequest.{ObjectRequest}
use Rattle.frames.specs.declared.requests.ObjectRequest.TheVariants.{New, Delete, ReadCell, WriteCell, Put, Get, Lock, Unlock}
use Rattle.frames.specs.declared.requests.OutsideRequest.{OutsideRequest}
use Rattle.frames.specs.declared.requests.OutsideRequest.TheVariants.{SendOut, BringIn}
use Rattle.answers.specs.declared.Answer.{Answer}
use Rattle.answers.specs.declared.Answer.TheVariants.{Done, Value, Kept, Given}
use Rattle.answers.specs.declared.Refusal.TheVariants.{Full, Empty}
use Rattle.sight.specs.declared.Sight.{Sight}
use Rattle.outcomes.specs.declared.Outcome.{Outcome}
use Rattle.outcomes.specs.declared.ListChange.TheVariants as list
use Rattle.outcomes.specs.declared.StoreChange.{StoreChange}
use Rattle.outcomes.specs.declared.StoreChange.TheVariants as store
use Rattle.outcomes.specs.declared.RowChange.{RowChange}
use Rattle.outcomes.specs.declared.RowChange.TheVariants as rows
use Rattle.outcomes.specs.Outcomes.{rows_changed, refused}

-- the store and the rows change, and neither list does
abbrev pub object_changed : Answer → StoreChange → RowChange → Outcome
object_changed a s r = record { answer = a; links = list.Keep; grants = list.Keep; store = s; rows = r }

-- "empty or unlocked"
abbrev pub empty_of : ObjectKind → What
empty_of kind.Cell = what.Cell
empty_of kind.Queue = what.Queue 0
empty_of kind.Lock = what.Lock false

-- 12, where this number is the lowest free: "64 objects 7"; "empty or unlocked; answers number"
abbrev pub made_at : ObjectKind → LabelPair → Option ℕ → Outcome
made_at k l None = refused Full
made_at k l (Some n) =
    cond (leb most_objects n) (refused Full)
    (rows_changed (Value n) (rows.Object n (object_row (empty_of k) l)))

module _ (s : Sight) where
  -- how many messages the object holds
  abbrev pub held : ℕ
  held = held_in (what_of s.object)

  -- the object's row, with its labels as they are
  abbrev pub now_is : Object → What → RowChange
  now_is o w = rows.Object o.0 (object_row w s.object.labels)

  -- 12
  unfoldable pub new_object : ObjectKind → LabelPair → Outcome
  new_object k l = made_at k l s.free

  -- 16: "8 held 7"; "appended"
  unfoldable pub put : Object → Span → Outcome
  put o m =
      cond (leb most_queued held) (refused Full)
      (object_changed Done (store.Put (place_at o.0 held) m) (now_is o (what.Queue (held + 1))))

  -- 17: "empty 8"; "first message, removed"
  unfoldable pub get : Object → Outcome
  get o =
      cond (ltb held 1) (refused Empty)
      (object_changed (Kept (place_at o.0 0)) (store.TakeFirst (place_at o.0 0)) (now_is o (what.Queue (held - 1))))

  -- 18: "held 8"; "held"
  unfoldable pub lock : Object → Outcome
  lock o = cond (is_locked (what_of s.object)) (refused Empty) (rows_changed Done (now_is o (what.Lock true)))

  abbrev pub decide_object : ObjectRequest → Outcome
  decide_object (New k l) = new_object k l
  -- 13: "freed"
  decide_object (Delete o) = object_changed Done (store.Free (place_at o.0 0)) (rows.Object o.0 no_object)
  -- 14: "the message"
  decide_object (ReadCell o) = rows_changed (Kept (place_at o.0 0)) rows.Keep
  -- 15: "replaced"
  decide_object (WriteCell o m) = object_changed Done (store.Put (place_at o.0 0) m) rows.Keep
  decide_object (Put o m) = put o m
  decide_object (Get o) = get o
  decide_object (Lock o) = lock o
  -- 19: "unlocked; done either way"
  decide_object (Unlock o) = rows_changed Done (now_is o (what.Lock false))

-- 1A, 1B: "the message"
abbrev pub decide_outside : OutsideRequest → Outcome
decide_outside (SendOut m) = rows_changed (Given m) rows.Keep
decide_outside (BringIn m) = rows_changed (Given m) rows.Keep
