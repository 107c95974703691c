-- Kinds 12 to 19 keep the rules of the world. Assumes nothing.
use mathlib.Core.Path.{◌≡◌, refl}
use mathlib.Core.Bool.{true, false}
use mathlib.Core.List.{List}
use Prim.Native.Nat.{ℕ, ◌+◌, ◌-◌, ◌≤◌, ◌<◌}
use native.Mathlib.Omega.{arith}
use borrow.Author.Tests.{le-leb, leb-true}
use lib.ListN.{length, set}
use Rattle.std.specs.Prelude.{Some}
use Rattle.std.proofs.lemmas.List.Quantifiers.{position-Some}
use Rattle.numbers.specs.Numbers.{most_objects, most_queued, longest_message}
use Rattle.numbers.specs.declared.Object.{Object}
use Rattle.numbers.specs.declared.flow.LabelPair.{LabelPair}
use Rattle.numbers.proofs.Bools.{and_right}
use Rattle.store.specs.Store.{store_size}
use Rattle.store.proofs.Over.{part_length}
use Rattle.tables.specs.Rows.{is_free, what_of, object_row}
use Rattle.tables.specs.Fields.{labels_made}
use Rattle.tables.specs.declared.Tables.{Tables}
use Rattle.tables.specs.declared.rows.ObjectRow.{ObjectRow}
use Rattle.tables.specs.declared.rows.What.{What}
use Rattle.tables.specs.declared.rows.What.TheVariants as what
use Rattle.tables.specs.Things.{no_object, object_at}
use Rattle.tables.specs.Free.{free_object}
use Rattle.tables.proofs.Among.{used-among}
use Rattle.frames.specs.Requests.{thread_of}
use Rattle.frames.specs.declared.requests.Span.{Span}
use Rattle.frames.specs.declared.requests.ObjectKind.{ObjectKind}
use Rattle.frames.specs.declared.requests.ObjectKind.TheVariants as kind
use Rattle.frames.specs.declared.requests.ObjectRequest.{ObjectRequest}
use Rattle.frames.specs.declared.requests.Request.TheVariants.{OfObject}
use Rattle.frames.proofs.Spans.{SpanFits, ObjectSpans}
use Rattle.answers.specs.Answers.{given_by}
use Rattle.sight.specs.Sight.{sight_of}
use Rattle.outcomes.specs.declared.Outcome.{Outcome}
use Rattle.object_rules.specs.ObjectRules.{what_in_limits, object_numbers_in_limits}
use Rattle.object_rules.proofs.RuleLaws.{ObjectsHold}
use Rattle.store_rules.proofs.RuleLaws.{StoreHolds}
use Rattle.decide_objects.specs.Objects.{empty_of}
use Rattle.decide.proofs.ObjectComes as comes
use Rattle.apply.specs.Apply.{with_object}
use Rattle.act.specs.World.{World, world_of, applied}
use Rattle.kept.proofs.ObjectsKept.{object-freed, object-put, object-changed}
use Rattle.kept.proofs.StoreKept.{store-new, store-freed, store-written, store-put, store-taken, store-locked, store-whole-put, store-whole-taken, store-whole-freed}
use Rattle.kept.proofs.LabelsKept.{labels-are}
use Rattle.assurance.proofs.Worlds.{WorldHolds, SizedWorld}

-- a new object is within its limits, and is in use
new-fits : (k : ObjectKind) → what_in_limits (empty_of k) ≡ true
new-fits kind.Cell = refl
new-fits kind.Queue = refl
new-fits kind.Lock = refl

new-used : (k : ObjectKind) → is_free (empty_of k) ≡ false
new-used kind.Cell = refl
new-used kind.Queue = refl
new-used kind.Lock = refl

-- the tables with these rows of objects
abbrev with_objects : Tables → List ObjectRow → Tables
with_objects t now =
    record { principals = t.principals; links = t.links; tags = t.tags; grants = t.grants; threads = t.threads; kinds = t.kinds; objects = now }

-- the message of a frame is no longer than a message may be
message-short : (f : List ℕ) (m : Span) → SpanFits f m → length (given_by f m) ≤ longest_message
message-short f m fits = omega (arith, part_length f m.at m.len fits.there, fits.short)

module _ (w : World) (holds : WorldHolds w) (sized : SizedWorld w) (f : List ℕ) where
  abbrev rows : List ObjectRow
  rows = w.tables.objects

  abbrev s : List ℕ
  s = w.store

  -- an object in use is one of the 64
  in_use : (o : Object) (x : What) → what_of (object_at rows o.0) ≡ x → is_free x ≡ false → o.0 < most_objects
  in_use o x e used = omega (arith, used-among rows o.0 (rw e used), sized.objects)

  -- the rows of objects and the store change; the rest stays
  objects-changed :
      (now : List ObjectRow) (b : List ℕ) → ObjectsHold w.tables.tags now → length b ≡ store_size → StoreHolds b now →
      WorldHolds (world_of (with_objects w.tables now) w.links w.grants b)
  objects-changed now b objects whole store =
      record {
        links = holds.links;
        grants = holds.grants;
        two = holds.two;
        links-unused = holds.links-unused;
        grants-unused = holds.grants-unused;
        tags = holds.tags;
        threads = holds.threads;
        objects = objects;
        whole = whole;
        store = store;
      }

  -- 12
  object-made :
      (k : ObjectKind) (l : LabelPair) (n : ℕ) → labels_made w.tables.tags l ≡ true → free_object rows ≡ Some n →
      WorldHolds (world_of (with_object w.tables n (object_row (empty_of k) l)) w.links w.grants s)
  object-made k l n made free =
      let is = position-Some (λ (x : ObjectRow). is_free (what_of x)) rows n no_object free in
      objects-changed (set rows n (object_row (empty_of k) l)) s
      (object-put holds.objects n (empty_of k) l (new-used k) (new-fits k) made)
      holds.whole
      (store-new sized.objects holds.whole holds.store (omega (arith, is.0, sized.objects)) (empty_of k) l is.1)

  pub object-keeps : {r : ObjectRequest} {o : Outcome} → ObjectSpans f r → comes.ObjectComes (sight_of w.tables (thread_of f) (OfObject r)) r o → WorldHolds (applied w f o)
  object-keeps spans (comes.stops x) = holds
  object-keeps spans (comes.makes {k} {l} n a b free room) = object-made k l n ((labels-are w.tables.tags l).1 (a, b)) free
  object-keeps spans (comes.deletes {o} used) =
      let low = in_use o _ refl used in
      objects-changed _ _ (object-freed holds.objects o.0) (store-whole-freed s holds.whole low) (store-freed sized.objects holds.whole holds.store low)
  object-keeps spans (comes.reads e) = holds
  object-keeps spans (comes.writes {o} {m} e) =
      let low = in_use o what.Cell e refl in
      let short = message-short f m spans in
      let first : 0 < most_queued = omega arith in
      objects-changed rows _ holds.objects (store-whole-put s holds.whole low (given_by f m) first short) (store-written sized.objects holds.whole holds.store low (given_by f m) e short)
  object-keeps spans (comes.puts {o} {m} held e room) =
      let low = in_use o (what.Queue held) e refl in
      let short = message-short f m spans in
      objects-changed _ _
      (object-changed holds.objects (what.Queue (held + 1)) low (rw e refl) refl (le-leb (held + 1) most_queued (omega (arith, room))))
      (store-whole-put s holds.whole low (given_by f m) room short)
      (store-put sized.objects holds.whole holds.store low (given_by f m) (object_at rows o.0).labels e room short)
  object-keeps spans (comes.gets {o} held e some) =
      let low = in_use o (what.Queue held) e refl in
      let limits = and_right (object_numbers_in_limits (object_at rows o.0)) _ (holds.objects.limits o.0 low) in
      let fits = leb-true held most_queued (rw e at limits) in
      objects-changed _ _
      (object-changed holds.objects (what.Queue (held - 1)) low (rw e refl) refl (le-leb (held - 1) most_queued (omega (arith, fits))))
      (store-whole-taken s holds.whole low)
      (store-taken sized.objects holds.whole holds.store low (object_at rows o.0).labels e fits)
  object-keeps spans (comes.locks {o} e) =
      let low = in_use o (what.Lock false) e refl in
      objects-changed _ s (object-changed holds.objects (what.Lock true) low (rw e refl) refl refl) holds.whole (store-locked sized.objects holds.whole holds.store low true (object_at rows o.0).labels e)
  object-keeps spans (comes.unlocks {o} locked e) =
      let low = in_use o (what.Lock locked) e refl in
      objects-changed _ s (object-changed holds.objects (what.Lock false) low (rw e refl) refl refl) holds.whole (store-locked sized.objects holds.whole holds.store low false (object_at rows o.0).labels e)
