-- A row built to say something says it; the row of nothing says nothing. Assumes nothing.
use mathlib.Core.Path.{◌≡◌, refl}
use mathlib.Core.Bool.{true, false}
use Rattle.numbers.specs.declared.Principal.{Principal}
use Rattle.numbers.specs.declared.flow.LabelPair.{LabelPair}
use Rattle.tables.specs.declared.rows.Rank.{Rank}
use Rattle.tables.specs.declared.rows.Rank.TheVariants.{Supertag, SubtagOf}
use Rattle.tables.specs.declared.rows.What.{What}
use Rattle.tables.specs.declared.rows.What.TheVariants.{Free, Cell, Queue, Lock}
use Rattle.tables.specs.Rows.{rank_of, tag_row, what_of, object_row}
use Rattle.tables.specs.Things.{no_tag, no_object}

pub rank-said : (root : Principal) (k : Rank) → rank_of (tag_row root k) ≡ k
unfolding rank_of
rank-said root Supertag = refl
rank-said root (SubtagOf t) = refl

pub what-said : (w : What) (l : LabelPair) → what_of (object_row w l) ≡ w
unfolding what_of
what-said Free l = refl
what-said Cell l = refl
what-said (Queue held) l = refl
what-said (Lock true) l = refl
what-said (Lock false) l = refl

pub no-tag-says : rank_of no_tag ≡ Supertag
unfolding rank_of
no-tag-says = refl

pub no-object-says : what_of no_object ≡ Free
unfolding what_of
no-object-says = refl
