-- What is known of what kinds 12 to 19 come to: each outcome with the facts that its row's tests have shown. The laws above match on
-- it and never unfold the tests. Assumes nothing.
use mathlib.Core.Path.{◌≡◌, refl, ap, ◌∙◌}
use mathlib.Core.Bool.{Bool, true, false}
use Prim.Native.Nat.{ℕ, ◌+◌, ◌-◌, ◌<◌}
use lib.Dec.{leb, ltb}
use borrow.Author.Tests.{leb-false, ltb-false, not-true}
use Rattle.std.specs.Prelude.{Option, Some, None}
use Rattle.numbers.specs.declared.Object.{Object}
use Rattle.numbers.specs.declared.flow.LabelPair.{LabelPair}
use Rattle.numbers.specs.Labels.{names_only_made}
use Rattle.numbers.specs.Numbers.{most_objects, most_queued}
use Rattle.numbers.proofs.Bools.{and_left, and_right, by-test}
use Rattle.store.specs.Store.{place_at}
use Rattle.tables.specs.Rows.{is_free, held_in, is_locked, what_of, object_row}
use Rattle.tables.specs.Things.{no_object}
use Rattle.tables.specs.declared.rows.What.{What}
use Rattle.tables.specs.declared.rows.What.TheVariants as what
use Rattle.frames.specs.declared.requests.Span.{Span}
use Rattle.frames.specs.declared.requests.ObjectKind.{ObjectKind}
use Rattle.frames.specs.declared.requests.ObjectRequest.{ObjectRequest}
use Rattle.frames.specs.declared.requests.ObjectRequest.TheVariants.{New, Delete, ReadCell, WriteCell, Put, Get, Lock, Unlock}
use Rattle.answers.specs.declared.Answer.TheVariants.{Done, Value, Kept}
use Rattle.answers.specs.declared.Refusal.{Refusal}
use Rattle.answers.specs.declared.Refusal.TheVariants.{Full, Empty}
use Rattle.sight.specs.declared.Sight.{Sight}
use Rattle.named.specs.Named.{is_cell, is_queue, is_lock, object_fits}
use Rattle.outcomes.specs.declared.Outcome.{Outcome}
use Rattle.outcomes.specs.declared.StoreChange.TheVariants as store
use Rattle.outcomes.specs.declared.RowChange.TheVariants as rows
use Rattle.outcomes.specs.Outcomes.{rows_changed, refused}
use Rattle.decide_objects.specs.Objects.{object_changed, empty_of, now_is, made_at, new_object, put, get, lock, decide_object}

-- what is a cell is nothing else
is-cell : (w : What) → is_cell w ≡ true → w ≡ what.Cell
is-cell what.Free e = cc
is-cell what.Cell e = refl
is-cell (what.Queue held) e = cc
is-cell (what.Lock locked) e = cc

-- what is a queue holds so many
is-queue : (w : What) → is_queue w ≡ true → w ≡ what.Queue (held_in w)
is-queue what.Free e = cc
is-queue what.Cell e = cc
is-queue (what.Queue held) e = refl
is-queue (what.Lock locked) e = cc

-- what is a lock is held or not
is-lock : (w : What) → is_lock w ≡ true → w ≡ what.Lock (is_locked w)
is-lock what.Free e = cc
is-lock what.Cell e = cc
is-lock (what.Queue held) e = cc
is-lock (what.Lock locked) e = refl

-- a new object has the number that is free, if one is
by-free :
    (P : Outcome → Type 0) (k : ObjectKind) (l : LabelPair) (x : Option ℕ) →
    P (refused Full) →
    ((n : ℕ) → x ≡ Some n → n < most_objects → P (rows_changed (Value n) (rows.Object n (object_row (empty_of k) l)))) →
    P (made_at k l x)
by-free P k l None full one = full
by-free P k l (Some n) full one = by-test P (leb most_objects n) (λ e. full) (λ room. one n refl (leb-false most_objects n room))

module _ (s : Sight) where
  -- what the object is that the request names
  abbrev is : What
  is = what_of s.object

  pub data ObjectComes : ObjectRequest → Outcome → Type 0 where
    stops : {r : ObjectRequest} (x : Refusal) → ObjectComes r (refused x)
    makes :
        {k : ObjectKind} {l : LabelPair} (n : ℕ) →
        names_only_made l.secrecy s.tags ≡ true →
        names_only_made l.integrity s.tags ≡ true →
        s.free ≡ Some n →
        n < most_objects →
        ObjectComes (New k l) (rows_changed (Value n) (rows.Object n (object_row (empty_of k) l)))
    deletes : {o : Object} → is_free is ≡ false → ObjectComes (Delete o) (object_changed Done (store.Free (place_at o.0 0)) (rows.Object o.0 no_object))
    reads : {o : Object} → is ≡ what.Cell → ObjectComes (ReadCell o) (rows_changed (Kept (place_at o.0 0)) rows.Keep)
    writes : {o : Object} {m : Span} → is ≡ what.Cell → ObjectComes (WriteCell o m) (object_changed Done (store.Put (place_at o.0 0) m) rows.Keep)
    puts :
        {o : Object} {m : Span} (held : ℕ) →
        is ≡ what.Queue held →
        held < most_queued →
        ObjectComes (Put o m) (object_changed Done (store.Put (place_at o.0 held) m) (now_is s o (what.Queue (held + 1))))
    gets :
        {o : Object} (held : ℕ) →
        is ≡ what.Queue held →
        0 < held →
        ObjectComes (Get o) (object_changed (Kept (place_at o.0 0)) (store.TakeFirst (place_at o.0 0)) (now_is s o (what.Queue (held - 1))))
    locks : {o : Object} → is ≡ what.Lock false → ObjectComes (Lock o) (rows_changed Done (now_is s o (what.Lock true)))
    unlocks : {o : Object} (locked : Bool) → is ≡ what.Lock locked → ObjectComes (Unlock o) (rows_changed Done (now_is s o (what.Lock false)))

  -- a request that names an object of its kind comes to one of these
  pub object-comes : (r : ObjectRequest) → object_fits s r ≡ true → ObjectComes r (decide_object s r)
  unfolding new_object put get lock
  object-comes (New k l) fits =
      let S = names_only_made l.secrecy s.tags in
      let I = names_only_made l.integrity s.tags in
      by-free (ObjectComes (New k l)) k l s.free (stops Full) (λ n. makes n (and_left S I fits) (and_right S I fits))
  object-comes (Delete o) fits = deletes (not-true (is_free is) fits)
  object-comes (ReadCell o) fits = reads (is-cell is fits)
  object-comes (WriteCell o m) fits = writes (is-cell is fits)
  object-comes (Put o m) fits =
      by-test (ObjectComes (Put o m)) (leb most_queued (held_in is)) (λ e. stops Full)
      (λ room. puts (held_in is) (is-queue is fits) (leb-false most_queued (held_in is) room))
  object-comes (Get o) fits =
      by-test (ObjectComes (Get o)) (ltb (held_in is) 1) (λ e. stops Empty)
      (λ some. gets (held_in is) (is-queue is fits) (ltb-false (held_in is) 1 some))
  object-comes (Lock o) fits =
      by-test (ObjectComes (Lock o)) (is_locked is) (λ e. stops Empty) (λ out. locks (is-lock is fits ∙ ap what.Lock out))
  object-comes (Unlock o) fits = unlocks (is_locked is) (is-lock is fits)
