-- What the rules of objects say, one by one. Assumes nothing.
use mathlib.Core.Path.{◌≡◌, refl}
use mathlib.Core.Bool.{Bool, true, false, not, cond, ◌||◌}
use mathlib.Core.List.{List}
use mathlib.Core.Logic.{◌↔◌}
use Prim.Native.Nat.{ℕ, ◌<◌}
use Rattle.numbers.specs.Numbers.{most_objects}
use Rattle.numbers.proofs.Says.{itself, and_is, all-is}
use Rattle.tables.specs.Fields.{labels_made, labels_empty}
use Rattle.tables.specs.Rows.{is_free, what_of}
use Rattle.tables.specs.Things.{object_at}
use Rattle.tables.specs.declared.rows.ObjectRow.{ObjectRow}
use Rattle.object_rules.specs.ObjectRules.{object_in_limits, object_made, numbers_unused, object_unused, object_holds, objects_hold}

-- an object in use has made labels, and a free one empty ones
labels-are : (free made empty : Bool) → (cond free empty made ≡ true) ↔ (((free || made) ≡ true) × ((not free || empty) ≡ true))
labels-are true made empty = (λ e. (refl, e), λ w. w.1)
labels-are false made empty = (λ e. (e, refl), λ w. w.0)

object_holds-is :
    (tags : ℕ) (r : ObjectRow)
    → (object_holds tags r ≡ true) ↔ ((object_in_limits r ≡ true) × ((object_made tags r ≡ true) × (object_unused r ≡ true)))
unfolding object_holds
object_holds-is tags r =
    let free = is_free (what_of r) in
    let unused = numbers_unused (what_of r) r in
    let labels = labels-are free (labels_made tags r.labels) (labels_empty r.labels) in
    let parts = and_is (itself (object_in_limits r)) (and_is (itself unused) labels) in
    let both = and_is (itself unused) (itself (not free || labels_empty r.labels)) in (
      λ e. let w = parts.0 e in (w.0, (w.1.1.0, both.1 (w.1.0, w.1.1.1))),
      λ w. let u = both.0 w.1.1 in parts.1 (w.0, (u.0, (w.1.0, u.1))),
    )

-- objects that obey their rules, rule by rule
pub record ObjectsHold (tags : ℕ) (rows : List ObjectRow) : Type 0 where
  pub limits : (o : ℕ) → o < most_objects → object_in_limits (object_at rows o) ≡ true
  pub made : (o : ℕ) → o < most_objects → object_made tags (object_at rows o) ≡ true
  pub unused : (o : ℕ) → o < most_objects → object_unused (object_at rows o) ≡ true

pub objects_hold-is : (tags : ℕ) (rows : List ObjectRow) → (objects_hold tags rows ≡ true) ↔ ObjectsHold tags rows
unfolding objects_hold
objects_hold-is tags rows =
    let parts = all-is most_objects (λ o. object_holds-is tags (object_at rows o)) in (
      λ e. let w = parts.0 e in record { limits = λ o h. (w o h).0; made = λ o h. (w o h).1.0; unused = λ o h. (w o h).1.1 },
      λ r. parts.1 (λ o h. (r.limits o h, (r.made o h, r.unused o h))),
    )
