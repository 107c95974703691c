-- The rows of objects obey their rules of 9 after each change that a request makes. Assumes nothing.
use mathlib.Core.Path.{◌≡◌, refl}
use mathlib.Core.Bool.{true, false, ◌||◌}
use mathlib.Core.List.{List}
use Prim.Native.Nat.{ℕ, ◌≤◌, ◌<◌}
use lib.ListN.{set}
use Rattle.numbers.specs.Numbers.{most_objects}
use Rattle.numbers.specs.declared.flow.LabelPair.{LabelPair}
use Rattle.numbers.proofs.Bools.{or_left, or_right, or_elim, never}
use Rattle.tables.specs.Rows.{is_free, what_of, object_row}
use Rattle.tables.specs.Things.{no_object, object_at}
use Rattle.tables.specs.declared.rows.ObjectRow.{ObjectRow}
use Rattle.tables.specs.declared.rows.What.{What}
use Rattle.tables.specs.declared.rows.What.TheVariants.{Free, Cell, Queue, Lock}
use Rattle.tables.specs.Fields.{labels_made}
use Rattle.object_rules.specs.ObjectRules.{what_in_limits, object_in_limits, object_made, object_unused}
use Rattle.object_rules.proofs.RuleLaws.{ObjectsHold}
use Rattle.kept.proofs.LabelsKept.{labels-more}
use Rattle.kept.proofs.Setting.{set_holds}

-- a row that was made to say something has its numbers in limits, and zeros where nothing belongs
built-limits : (x : What) (l : LabelPair) → what_in_limits x ≡ true → object_in_limits (object_row x l) ≡ true
unfolding what_of
built-limits Free l e = refl
built-limits Cell l e = refl
built-limits (Queue held) l e = e
built-limits (Lock true) l e = refl
built-limits (Lock false) l e = refl

built-unused : (x : What) (l : LabelPair) → is_free x ≡ false → object_unused (object_row x l) ≡ true
unfolding what_of
built-unused Free l e = cc
built-unused Cell l e = refl
built-unused (Queue held) l e = refl
built-unused (Lock true) l e = refl
built-unused (Lock false) l e = refl

module _ {tags : ℕ} {rows : List ObjectRow} (holds : ObjectsHold tags rows) where
  -- tags are made
  pub objects-more : {tags2 : ℕ} → tags ≤ tags2 → ObjectsHold tags2 rows
  objects-more {tags2} h =
      record {
        limits = holds.limits;
        made = λ o low.
            let r = object_at rows o in
            let now = labels_made tags2 r.labels in
            or_elim (is_free (what_of r)) (labels_made tags r.labels) (is_free (what_of r) || now) (holds.made o low)
            (or_left (is_free (what_of r)) now) (λ e. or_right (is_free (what_of r)) now (labels-more r.labels e h));
        unused = holds.unused;
      }

  -- a row is put that obeys the rules
  object-set :
      (o : ℕ) (r : ObjectRow) → object_in_limits r ≡ true → object_made tags r ≡ true → object_unused r ≡ true → ObjectsHold tags (set rows o r)
  unfolding what_of
  object-set o r limit made unused =
      record {
        limits = λ n low. set_holds (λ (x : ObjectRow). object_in_limits x ≡ true) rows o r no_object n limit refl (λ h. holds.limits n low);
        made = λ n low. set_holds (λ (x : ObjectRow). object_made tags x ≡ true) rows o r no_object n made refl (λ h. holds.made n low);
        unused = λ n low. set_holds (λ (x : ObjectRow). object_unused x ≡ true) rows o r no_object n unused refl (λ h. holds.unused n low);
      }

  -- a number is freed
  pub object-freed : (o : ℕ) → ObjectsHold tags (set rows o no_object)
  unfolding what_of
  object-freed o = object-set o no_object refl refl refl

  -- an object's row is made anew, for a thing in use with made labels
  pub object-put :
      (o : ℕ) (x : What) (l : LabelPair) → is_free x ≡ false → what_in_limits x ≡ true → labels_made tags l ≡ true → ObjectsHold tags (set rows o (object_row x l))
  object-put o x l used limit made =
      object-set o (object_row x l) (built-limits x l limit) (or_right (is_free (what_of (object_row x l))) (labels_made tags l) made) (built-unused x l used)

  -- an object in use becomes another thing in use, and keeps its labels
  pub object-changed :
      {o : ℕ} (x : What) → o < most_objects → is_free (what_of (object_at rows o)) ≡ false → is_free x ≡ false → what_in_limits x ≡ true
      → ObjectsHold tags (set rows o (object_row x (object_at rows o).labels))
  object-changed {o} x low was now limit =
      let l = (object_at rows o).labels in
      let made = or_elim (is_free (what_of (object_at rows o))) (labels_made tags l) (labels_made tags l) (holds.made o low) (λ e. absurd (never e was)) (λ e. e) in
      object-put o x l now limit made
