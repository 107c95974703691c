-- The rules of 9 that speak of objects (01, "Refusal numbers"), each a test on one row, in the order of 01. What a row says is
-- `Rows`'s. Assumes nothing.
use Rattle.std.specs.Prelude.{Bool, true, not, cond, ◌&&◌, ◌||◌, List, ℕ, eqb, leb}
use Rattle.numbers.specs.Below.{all_below}
use Rattle.numbers.specs.Numbers.{most_objects, lock, most_queued}
use Rattle.numbers.specs.declared.flow.LabelPair.{LabelPair}
use Rattle.tables.specs.Fields.{is_flag, labels_made, labels_empty}
use Rattle.tables.specs.Rows.{is_live, is_free, what_of}
use Rattle.tables.specs.Things.{object_at}
use Rattle.tables.specs.declared.rows.ObjectRow.{ObjectRow}
use Rattle.tables.specs.declared.rows.What.{What}
use Rattle.tables.specs.declared.rows.What.TheVariants.{Free, Cell, Queue, Lock}

-- "a limit"
abbrev pub what_in_limits : What → Bool
what_in_limits Free = true
what_in_limits Cell = true
what_in_limits (Queue held) = leb held most_queued
what_in_limits (Lock locked) = true

-- the flags, and the kind of an object in use
abbrev pub object_numbers_in_limits : ObjectRow → Bool
object_numbers_in_limits r = is_flag r.live && (not (is_live r.live) || (is_flag r.locked && leb r.kind lock))

abbrev pub object_in_limits : ObjectRow → Bool
object_in_limits r = object_numbers_in_limits r && what_in_limits (what_of r)

-- "an unmade number"
abbrev pub object_made : ℕ → ObjectRow → Bool
object_made tags r = is_free (what_of r) || labels_made tags r.labels

-- "nonzero unused place": `held` of what is no queue, `locked` of what is no lock, `kind` of a free one
abbrev pub numbers_unused : What → ObjectRow → Bool
numbers_unused Free r = eqb r.kind 0 && (eqb r.held 0 && eqb r.locked 0)
numbers_unused Cell r = eqb r.held 0 && eqb r.locked 0
numbers_unused (Queue held) r = eqb r.locked 0
numbers_unused (Lock locked) r = eqb r.held 0

-- and the labels of a free one
abbrev pub object_unused : ObjectRow → Bool
object_unused r = numbers_unused (what_of r) r && (not (is_free (what_of r)) || labels_empty r.labels)

module _ (tags : ℕ) where
  -- "an unmade number", "nonzero unused place"
  abbrev pub what_labels : What → LabelPair → Bool
  what_labels w l = cond (is_free w) (labels_empty l) (labels_made tags l)

  unfoldable pub object_holds : ObjectRow → Bool
  object_holds r = object_in_limits r && (numbers_unused (what_of r) r && what_labels (what_of r) r.labels)

  unfoldable pub objects_hold : List ObjectRow → Bool
  objects_hold rows = all_below most_objects (λ o. object_holds (object_at rows o))
