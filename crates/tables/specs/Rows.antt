-- What a row of plain numbers says, and the row that says it (01, "Things and numbers"). Every row says something: a flag is set
-- unless it is 0, and an object of a kind over 1 is a lock. That no other numbers stand in a row is a rule of 9 (`ThreadRules`,
-- `TagRules`, `ObjectRules`). Assumes nothing.
use Rattle.std.specs.Prelude.{Bool, true, false, not, cond, ℕ, eqb}
use Rattle.numbers.specs.Numbers.{cell, queue, lock}
use Rattle.numbers.specs.declared.Principal.{Principal}
use Rattle.numbers.specs.declared.Tag.{Tag}
use Rattle.numbers.specs.declared.flow.LabelPair.{LabelPair}
use Rattle.tables.specs.declared.rows.TagRow.{TagRow}
use Rattle.tables.specs.declared.rows.Rank.{Rank}
use Rattle.tables.specs.declared.rows.Rank.TheVariants.{Supertag, SubtagOf}
use Rattle.tables.specs.declared.rows.ObjectRow.{ObjectRow}
use Rattle.tables.specs.declared.rows.What.{What}
use Rattle.tables.specs.declared.rows.What.TheVariants.{Free, Cell, Queue, Lock}

-- a flag: 1 for yes and 0 for no; any number but 0 is read as yes
abbrev pub flag_of : Bool → ℕ
flag_of set = cond set 1 0

abbrev pub is_set : ℕ → Bool
is_set flag = not (eqb flag 0)

abbrev pub is_live : ℕ → Bool
is_live live = is_set live

-- ---- tags

-- "each a supertag or a subtag of one supertag"
unfoldable pub rank_of : TagRow → Rank
rank_of r = cond (is_set r.subtag) (SubtagOf r.supertag) Supertag

-- whether it is a subtag, and of which tag; 0 where of none
abbrev pub is_subtag : Rank → Bool
is_subtag Supertag = false
is_subtag (SubtagOf t) = true

abbrev pub supertag_in : Rank → Tag
supertag_in Supertag = record { 0 = 0 }
supertag_in (SubtagOf t) = t

-- the row of a tag of this rank
abbrev pub tag_row : Principal → Rank → TagRow
tag_row root k = record { root = root; subtag = flag_of (is_subtag k); supertag = supertag_in k }

-- ---- objects

-- "of kind 0 cell, 1 queue, 2 lock"
unfoldable pub what_of : ObjectRow → What
what_of r =
    cond (is_live r.live)
    (cond (eqb r.kind cell) Cell (cond (eqb r.kind queue) (Queue r.held) (Lock (is_set r.locked))))
    Free

abbrev pub is_free : What → Bool
is_free Free = true
is_free Cell = false
is_free (Queue held) = false
is_free (Lock locked) = false

-- the number of its kind; 0 where there is none
abbrev pub kind_in : What → ℕ
kind_in Free = 0
kind_in Cell = cell
kind_in (Queue held) = queue
kind_in (Lock locked) = lock

-- how many messages a queue holds, and whether a lock is held
abbrev pub held_in : What → ℕ
held_in Free = 0
held_in Cell = 0
held_in (Queue held) = held
held_in (Lock locked) = 0

abbrev pub is_locked : What → Bool
is_locked Free = false
is_locked Cell = false
is_locked (Queue held) = false
is_locked (Lock locked) = locked

-- the row of an object that is this
abbrev pub object_row : What → LabelPair → ObjectRow
object_row w l = record { live = flag_of (not (is_free w)); kind = kind_in w; held = held_in w; locked = flag_of (is_locked w); labels = l }
