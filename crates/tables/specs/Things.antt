-- "Things and numbers" (01): what a row of nothing is, and the fresh tables. Assumes nothing.
use Rattle.std.specs.Prelude.{List, [], ◌∷◌, ℕ, get_or, replicate}
use Rattle.numbers.specs.declared.Principal.{Principal}
use Rattle.numbers.specs.declared.Tag.{Tag}
use Rattle.numbers.specs.declared.flow.LabelPair.{LabelPair}
use Rattle.numbers.specs.Numbers.{public, office, most_tags}
use Rattle.links.specs.declared.authority.Rooted.{Rooted}
use Rattle.links.specs.declared.authority.Lineage.{Lineage}
use Rattle.links.specs.declared.authority.Lineage.TheVariants as lineage
use Rattle.tables.specs.declared.rows.ThreadRow.{ThreadRow}
use Rattle.tables.specs.declared.rows.TagRow.{TagRow}
use Rattle.tables.specs.declared.rows.Rank.{Rank}
use Rattle.tables.specs.declared.rows.Rank.TheVariants.{Supertag, SubtagOf}
use Rattle.tables.specs.declared.rows.ObjectRow.{ObjectRow}
use Rattle.tables.specs.declared.Tables.{Tables}
use Rattle.tables.specs.Rows.{rank_of}

-- principal 0, which fills the places that are not in use
abbrev pub nobody : Principal
nobody = record { 0 = public }

abbrev pub no_labels : LabelPair
no_labels = record { secrecy = record { 0 = 0 }; integrity = record { 0 = 0 } }

-- "Unused places are zero": the row of a thread that is not live, of a tag not made, of a free object number
abbrev pub no_thread : ThreadRow
no_thread = record { live = 0; principal = nobody; labels = no_labels; calls = 0; aside = replicate 8 nobody }

abbrev pub no_tag : TagRow
no_tag = record { root = nobody; subtag = 0; supertag = record { 0 = 0 } }

abbrev pub no_object : ObjectRow
no_object = record { live = 0; kind = 0; held = 0; locked = 0; labels = no_labels }

-- the row of a number; past the last there is a row of nothing
abbrev pub past_thread : ThreadRow
past_thread = record { live = 0; principal = nobody; labels = no_labels; calls = 0; aside = [] }

abbrev pub thread_at : List ThreadRow → ℕ → ThreadRow
thread_at rows n = get_or rows n past_thread

abbrev pub tag_at : List TagRow → ℕ → TagRow
tag_at rows n = get_or rows n no_tag

abbrev pub object_at : List ObjectRow → ℕ → ObjectRow
object_at rows n = get_or rows n no_object

-- "thread 0 live, principal 1, empty labels"
abbrev pub office_thread : ThreadRow
office_thread = record { live = 1; principal = record { 0 = office }; labels = no_labels; calls = 0; aside = replicate 8 nobody }

-- "Fresh: principals 0 and 1, no links, tags or objects"
abbrev pub fresh_tables : Tables
fresh_tables =
    record {
      principals = 2;
      links = 0;
      tags = 0;
      grants = 0;
      threads = office_thread ∷ replicate 15 no_thread;
      kinds = replicate 64 no_tag;
      objects = replicate 64 no_object;
    }

-- a tag and "a root principal, its maker"
abbrev pub rooted_at : List TagRow → Tag → Rooted
rooted_at kinds t = record { tag = t; root = (tag_at kinds t.0).root }

-- "each a supertag or a subtag of one supertag"
abbrev pub lineage_by : List TagRow → Tag → Rank → Lineage
lineage_by kinds t Supertag = lineage.Supertag (rooted_at kinds t)
lineage_by kinds t (SubtagOf above) = lineage.Subtag (rooted_at kinds t) (rooted_at kinds above)

abbrev pub lineage_of : List TagRow → Tag → Lineage
lineage_of kinds t = lineage_by kinds t (rank_of (tag_at kinds t.0))

-- ---- the same, read row by row

-- the number of a tag's supertag; a supertag has none
abbrev pub supertag_of : Rank → ℕ
supertag_of Supertag = most_tags
supertag_of (SubtagOf above) = above.0

-- of tag t, made by p, under a supertag made by q
abbrev pub lineage_from : Tag → Principal → Principal → Rank → Lineage
lineage_from t p q Supertag = lineage.Supertag (record { tag = t; root = p })
lineage_from t p q (SubtagOf above) = lineage.Subtag (record { tag = t; root = p }) (record { tag = above; root = q })

-- of tag t with this row, under a supertag with the row above
abbrev pub lineage_in : Tag → TagRow → TagRow → Lineage
lineage_in t row above = lineage_from t row.root above.root (rank_of row)
