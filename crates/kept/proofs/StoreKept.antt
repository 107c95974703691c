-- The store of messages obeys its rules of 9 beside the rows of objects, after each change that a request makes. Assumes nothing.
use mathlib.Core.Path.{◌≡◌, refl, sym, ap, ◌∙◌, subst}
use mathlib.Core.Bool.{Bool, true}
use mathlib.Core.List.{List, []}
use mathlib.Core.Logic.{◌⊎◌, inl, inr, ⊎_elim}
use Prim.Native.Nat.{ℕ, ◌+◌, ◌*◌, ◌-◌, ◌/◌, ◌%◌, ◌≤◌, ◌<◌}
use native.Mathlib.Nat.{div-add-mod', mod-lt}
use native.Mathlib.Omega.{arith}
use borrow.Author.Tests.{ltb-true, ltb-false}
use lib.Dec.{ltb}
use lib.ListN.{length, set, get_or-eq_default}
use lib.Seq.{get_or-set_same, get_or-set_other, set-get_or}
use Rattle.numbers.specs.declared.flow.LabelPair.{LabelPair}
use Rattle.numbers.specs.Numbers.{longest_message, most_objects, most_queued}
use Rattle.numbers.proofs.Bools.{either}
use Rattle.store.specs.Store.{place_size, object_size, store_size, place_at, byte_at, put, took_first, cleared}
use Rattle.store.proofs.StoreLaws.{put-length, put_first, put-else, put_rest, took-length, took-byte, took-last, took-else, cleared-length, cleared-else, zeros-is, zeros-cleared}
use Rattle.tables.specs.Rows.{is_free, what_of, object_row}
use Rattle.tables.specs.Things.{no_object, object_at}
use Rattle.tables.specs.declared.rows.ObjectRow.{ObjectRow}
use Rattle.tables.specs.declared.rows.What.{What}
use Rattle.tables.specs.declared.rows.What.TheVariants.{Free, Cell, Queue, Lock}
use Rattle.tables.proofs.Said.{what-said, no-object-says}
use Rattle.store_rules.specs.StoreRules.{places_used}
use Rattle.store_rules.proofs.RuleLaws.{StoreHolds}

-- ---- one place of the store

-- a lies below b, or not
below-or-from : (a b : ℕ) → (a < b) ⊎ (b ≤ a)
below-or-from a b = ⊎_elim (λ e. inl (ltb-true a b e)) (λ e. inr (ltb-false a b e)) (either (ltb a b))

-- q is one of the n numbers from a on, or it lies before or after them
among-or-not : (q a n : ℕ) → ((a ≤ q) × (q < a + n)) ⊎ ((q < a) ⊎ (a + n ≤ q))
among-or-not q a n = ⊎_elim (λ b. inr (inl b)) (λ f. ⊎_elim (λ b. inl (f, b)) (λ g. inr (inr g)) (below-or-from q (a + n))) (below-or-from q a)

-- a place obeys the rules: its message is within the limit, and zeros follow it
record PlaceHolds (s : List ℕ) (at : ℕ) : Type 0 where
  limit : byte_at s at ≤ longest_message
  rest : (i : ℕ) → byte_at s at ≤ i → i < longest_message → byte_at s (at + 1 + i) ≡ 0

-- so does a place of the same bytes
place_same :
    {s : List ℕ} {k : ℕ} (t : List ℕ) (j : ℕ) → PlaceHolds s k → ((i : ℕ) → i < place_size → byte_at t (j + i) ≡ byte_at s (k + i)) → PlaceHolds t j
place_same {s} {k} t j p f =
    let x : j ≡ j + 0 = omega arith in
    let y : k + 0 ≡ k = omega arith in
    let e : byte_at t j ≡ byte_at s k = ap (byte_at t) x ∙ f 0 (omega arith) ∙ ap (byte_at s) y in
    record {
      limit = omega (arith, p.limit);
      rest = λ i a b.
          let x : j + 1 + i ≡ j + (i + 1) = omega arith in
          let y : k + (i + 1) ≡ k + 1 + i = omega arith in
          ap (byte_at t) x ∙ f (i + 1) (omega arith) ∙ ap (byte_at s) y ∙ p.rest i (omega arith) b;
    }

-- and a place of zeros
place-zero : (t : List ℕ) (j : ℕ) → ((i : ℕ) → i < place_size → byte_at t (j + i) ≡ 0) → PlaceHolds t j
place-zero t j f = place_same {s = []} {k = 0} t j (record { limit = omega arith; rest = λ i a b. refl }) f

-- and the place where a message was put
place-put : (s : List ℕ) (at : ℕ) (m : List ℕ) → length m ≤ longest_message → at + place_size ≤ length s → PlaceHolds (put s at m) at
place-put s at m short room =
    record {
      limit = omega (arith, put_first s at m room);
      rest = λ i a. put_rest s at m i room (omega (arith, put_first s at m room));
    }

-- ---- one object of the store

-- object o, which uses n places, obeys the rules
record ObjectStored (s : List ℕ) (o n : ℕ) : Type 0 where
  used : (k : ℕ) → k < n → k < most_queued → PlaceHolds s (place_at o k)
  unused : (i : ℕ) → n * place_size ≤ i → i < object_size → byte_at s (place_at o 0 + i) ≡ 0

-- then each of its places does, in use or not
each-place : {s : List ℕ} {o n : ℕ} → ObjectStored s o n → (k : ℕ) → k < most_queued → PlaceHolds s (place_at o k)
each-place {s} {o} {n} stored k few =
    ⊎_elim
    (λ u. stored.used k u few)
    (λ f.
    place-zero s (place_at o k)
    (λ i b. let e : place_at o k + i ≡ place_at o 0 + (k * place_size + i) = omega arith in ap (byte_at s) e ∙ stored.unused (k * place_size + i) (omega arith) (omega arith)))
    (below-or-from k n)

-- a free number uses no place
free-none : (w : What) → is_free w ≡ true → places_used w ≡ 0
free-none Free e = refl
free-none Cell e = cc
free-none (Queue held) e = cc
free-none (Lock locked) e = cc

module _ {s : List ℕ} {rows : List ObjectRow} (holds : StoreHolds s rows) where
  -- the rules of the store, of one object
  stored : (o : ℕ) → o < most_objects → ObjectStored s o (places_used (what_of (object_at rows o)))
  stored o low =
      record {
        used = λ k u few. record { limit = holds.limits o k low u; rest = λ i. holds.rests o k i low u };
        unused = λ i f b. let e : place_at o 0 + i ≡ o * object_size + i = omega arith in ap (byte_at s) e ∙ holds.unused o i low f b;
      }

  -- each place obeys them, however far from its object's first (these rules alone do not bound what a queue holds): it is
  -- another object's, or past the end
  any_place : (o k : ℕ) → length s ≡ store_size → PlaceHolds s (place_at o k)
  any_place o k whole =
      let p = o + k / 8 in
      let less : k % 8 < 8 = mod-lt k (omega arith) in
      let e : place_at p (k % 8) ≡ place_at o k = omega (arith, div-add-mod' k 8) in
      ⊎_elim
      (λ low. subst (PlaceHolds s) e (each-place (stored p low) (k % 8) less))
      (λ high. place-zero s (place_at o k) (λ i b. get_or-eq_default s 0 (omega arith)))
      (below-or-from p most_objects)

-- ---- the store keeps its length

module _ (s : List ℕ) {o : ℕ} (whole : length s ≡ store_size) (low : o < most_objects) where
  -- 15, 16
  pub store-whole-put : (m : List ℕ) {k : ℕ} → k < most_queued → length m ≤ longest_message → length (put s (place_at o k) m) ≡ store_size
  store-whole-put m {k} few short = put-length s (place_at o k) m short (omega arith) ∙ whole

  -- 17
  pub store-whole-taken : length (took_first s (place_at o 0)) ≡ store_size
  store-whole-taken = took-length s (place_at o 0) (omega arith) ∙ whole

  -- 13
  pub store-whole-freed : length (cleared s (place_at o 0) object_size) ≡ store_size
  store-whole-freed = cleared-length s (place_at o 0) object_size (omega arith) ∙ whole

-- ---- the store and the rows after a change of object o

module _ {s : List ℕ} {rows : List ObjectRow} {o : ℕ} (size : length rows ≡ most_objects) (whole : length s ≡ store_size) (holds : StoreHolds s rows) (low : o < most_objects) where
  -- they obey their rules if the object does by its new row, and the bytes of all others are as they were
  changed :
      (s2 : List ℕ) (r : ObjectRow) → ObjectStored s2 o (places_used (what_of r))
      → ((i : ℕ) → (i < place_at o 0) ⊎ (place_at o 0 + object_size ≤ i) → byte_at s2 i ≡ byte_at s i) → StoreHolds s2 (set rows o r)
  changed s2 r own else =
      record {
        limits = λ p k h u. (place p k).limit;
        rests = λ p k i h u. (place p k).rest i;
        unused = λ p i h a b. ⊎_elim (λ w. same p i (omega arith) a b) (λ w. other p i h w a b) (among-or-not p o 1);
      }
    where
      -- a place is one of the object's 8, or its bytes are as they were
      place : (p k : ℕ) → PlaceHolds s2 (place_at p k)
      place p k =
          let q = p * 8 + k in
          ⊎_elim
          (λ w. let e : place_at o (q - o * 8) ≡ place_at p k = omega arith in subst (PlaceHolds s2) e (each-place own (q - o * 8) (omega arith)))
          (λ w.
          place_same s2 (place_at p k) (any_place holds p k whole)
          (λ i b. else (place_at p k + i) (⊎_elim (λ c. inl (omega arith)) (λ c. inr (omega arith)) w)))
          (among-or-not q (o * 8) 8)

      -- how many places an object uses now
      uses : ℕ → ℕ
      uses p = places_used (what_of (object_at (set rows o r) p))

      -- the unused bytes of the object itself
      same : (p i : ℕ) → o ≡ p → uses p * place_size ≤ i → i < object_size → byte_at s2 (p * object_size + i) ≡ 0
      same p i e a b =
          let x : p * object_size + i ≡ place_at o 0 + i = omega arith in
          let n : uses p ≡ places_used (what_of r) = ap uses (sym e) ∙ ap (λ (x : ObjectRow). places_used (what_of x)) (get_or-set_same rows o r no_object (omega arith)) in
          ap (byte_at s2) x ∙ own.unused i (omega arith) b

      -- and those of another
      other : (p i : ℕ) → p < most_objects → (p < o) ⊎ (o + 1 ≤ p) → uses p * place_size ≤ i → i < object_size → byte_at s2 (p * object_size + i) ≡ 0
      other p i h w a b =
          let n : uses p ≡ places_used (what_of (object_at rows p)) =
          ap (λ (x : ObjectRow). places_used (what_of x)) (get_or-set_other rows o p r no_object (λ e. ⊎_elim (λ c. omega arith) (λ c. omega arith) w)) in
          else (p * object_size + i) (⊎_elim (λ c. inl (omega arith)) (λ c. inr (omega arith)) w) ∙ holds.unused p i h (omega arith) b

  -- the store is as it was, and the object uses as many places or more
  same_store : (r : ObjectRow) → places_used (what_of (object_at rows o)) ≤ places_used (what_of r) → StoreHolds s (set rows o r)
  same_store r more =
      let own = stored holds o low in
      changed s r (record { used = λ k u. each-place own k; unused = λ i f. own.unused i (omega arith) }) (λ i w. refl)

  -- a message is put at one of its places, and the object uses that one and as many as before or more
  message-put :
      (m : List ℕ) (k : ℕ) (r : ObjectRow) → length m ≤ longest_message → k < most_queued → places_used (what_of (object_at rows o)) ≤ places_used (what_of r)
      → k < places_used (what_of r) → StoreHolds (put s (place_at o k) m) (set rows o r)
  message-put m k r short few more new =
      changed (put s (place_at o k) m) r
      (record {
        used = λ j u b. ⊎_elim (λ w. same j (omega arith)) (λ w. other j b w) (among-or-not j k 1);
        unused = λ i f b. kept (place_at o 0 + i) (inr (omega arith)) ∙ (stored holds o low).unused i (omega arith) b;
      })
      (λ i w. kept i (⊎_elim (λ c. inl (omega arith)) (λ c. inr (omega arith)) w))
    where
      -- the bytes outside the place are as they were
      kept : (i : ℕ) → (i < place_at o k) ⊎ (place_at o k + place_size ≤ i) → byte_at (put s (place_at o k) m) i ≡ byte_at s i
      kept i w = put-else s (place_at o k) m i short (omega arith) w

      -- the place itself
      same : (j : ℕ) → k ≡ j → PlaceHolds (put s (place_at o k) m) (place_at o j)
      same j e = subst (λ (n : ℕ). PlaceHolds (put s (place_at o k) m) (place_at o n)) e (place-put s (place_at o k) m short (omega arith))

      -- and the object's others
      other : (j : ℕ) → j < most_queued → (j < k) ⊎ (k + 1 ≤ j) → PlaceHolds (put s (place_at o k) m) (place_at o j)
      other j b w =
          place_same (put s (place_at o k) m) (place_at o j) (each-place (stored holds o low) j b)
          (λ i c. kept (place_at o j + i) (⊎_elim (λ d. inl (omega arith)) (λ d. inr (omega arith)) w))

  -- 12: a new object takes a free number, whose places are zero: a new cell has the empty message
  pub store-new : (x : What) (l : LabelPair) → is_free (what_of (object_at rows o)) ≡ true → StoreHolds s (set rows o (object_row x l))
  store-new x l free = same_store (object_row x l) (omega (arith, free-none (what_of (object_at rows o)) free))

  -- 13: an object is deleted
  pub store-freed : StoreHolds (cleared s (place_at o 0) object_size) (set rows o no_object)
  store-freed =
      let at = place_at o 0 in
      let room : at + object_size ≤ length s = omega arith in
      changed (cleared s at object_size) no_object
      (record { used = λ k u. absurd (omega (arith, ap places_used no-object-says)); unused = λ i f. (zeros-is (cleared s at object_size) at object_size).0 (zeros-cleared s at object_size room) i })
      (λ i. cleared-else s at object_size i room)

  -- 15: a message is written into a cell; the rows stay
  pub store-written : (m : List ℕ) → what_of (object_at rows o) ≡ Cell → length m ≤ longest_message → StoreHolds (put s (place_at o 0) m) rows
  store-written m is short =
      let r = object_at rows o in
      let n : places_used (what_of r) ≡ 1 = ap places_used is in
      subst (StoreHolds (put s (place_at o 0) m)) (set-get_or rows o no_object) (message-put m 0 r short (omega arith) (omega arith) (omega arith))

  -- 16: a message is put into a queue
  pub store-put :
      (m : List ℕ) (l : LabelPair) {held : ℕ} → what_of (object_at rows o) ≡ Queue held → held < most_queued → length m ≤ longest_message
      → StoreHolds (put s (place_at o held) m) (set rows o (object_row (Queue (held + 1)) l))
  store-put m l {held} is room short =
      let n : places_used (what_of (object_at rows o)) ≡ held = ap places_used is in
      let r : ObjectRow = object_row (Queue (held + 1)) l in
      let more : places_used (what_of r) ≡ held + 1 = ap places_used (what-said (Queue (held + 1)) l) in
      message-put m held r short room (omega arith) (omega arith)

  -- 17: a queue's first message is taken
  pub store-taken :
      (l : LabelPair) {held : ℕ} → what_of (object_at rows o) ≡ Queue held → held ≤ most_queued
      → StoreHolds (took_first s (place_at o 0)) (set rows o (object_row (Queue (held - 1)) l))
  store-taken l {held} is fits =
      let at = place_at o 0 in
      let room : at + object_size ≤ length s = omega arith in
      let own = stored holds o low in
      let n : places_used (what_of (object_at rows o)) ≡ held = ap places_used is in
      let r : ObjectRow = object_row (Queue (held - 1)) l in
      let fewer : places_used (what_of r) ≡ held - 1 = ap places_used (what-said (Queue (held - 1)) l) in
      changed (took_first s at) r
      (record {
        used = λ k u few.
            place_same (took_first s at) (place_at o k) (each-place own (k + 1) (omega arith))
            (λ i b.
            let x : place_at o k + i ≡ at + (k * place_size + i) = omega arith in
            let y : at + place_size + (k * place_size + i) ≡ place_at o (k + 1) + i = omega arith in
            ap (byte_at (took_first s at)) x ∙ took-byte s at (k * place_size + i) room (omega arith) ∙ ap (byte_at s) y);
        unused = λ i f b.
            ⊎_elim
            (λ c.
            let x : at + place_size + i ≡ at + (i + place_size) = omega arith in
            took-byte s at i room c ∙ ap (byte_at s) x ∙ own.unused (i + place_size) (omega arith) (omega arith))
            (λ c. took-last s at i room c b)
            (below-or-from i 231);
      })
      (λ i. took-else s at i room)

  -- 18, 19: a lock, which uses no place, is locked or unlocked
  pub store-locked : (b : Bool) (l : LabelPair) {a : Bool} → what_of (object_at rows o) ≡ Lock a → StoreHolds s (set rows o (object_row (Lock b) l))
  store-locked b l is = same_store (object_row (Lock b) l) (omega (arith, ap places_used is))
