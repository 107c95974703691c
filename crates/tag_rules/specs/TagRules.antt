-- The rules of 9 that speak of tags (01, "Refusal numbers"), each a test on one row, in the order of 01. What a row says is `Rows`'s.
-- Assumes nothing.
use Rattle.std.specs.Prelude.{Bool, true, false, not, cond, ◌&&◌, ◌||◌, List, ℕ, eqb, ltb, leb}
use Rattle.numbers.specs.Below.{all_below}
use Rattle.numbers.specs.Numbers.{public, most_tags}
use Rattle.numbers.specs.declared.Principal.{Principal}
use Rattle.tables.specs.Fields.{is_flag}
use Rattle.tables.specs.Rows.{is_set, rank_of}
use Rattle.tables.specs.Things.{tag_at}
use Rattle.tables.specs.declared.rows.TagRow.{TagRow}
use Rattle.tables.specs.declared.rows.Rank.{Rank}
use Rattle.tables.specs.declared.rows.Rank.TheVariants.{Supertag, SubtagOf}

abbrev pub is_supertag : Rank → Bool
is_supertag Supertag = true
is_supertag (SubtagOf t) = false

abbrev pub is_no_tag : TagRow → Bool
is_no_tag r = eqb r.root.0 public && (eqb r.subtag 0 && eqb r.supertag.0 0)

-- "a limit"
abbrev pub tag_in_limits : TagRow → Bool
tag_in_limits r = is_flag r.subtag

-- "nonzero unused place": a tag that is no subtag has no supertag
abbrev pub supertag_unused : TagRow → Bool
supertag_unused r = is_set r.subtag || eqb r.supertag.0 0

-- "an unmade number", of the supertag
abbrev pub supertag_made : ℕ → Rank → Bool
supertag_made tags Supertag = true
supertag_made tags (SubtagOf t) = ltb t.0 tags

-- "a subtag of a subtag or of a later tag": tag i, of this rank, is not
abbrev pub rank_holds : List TagRow → ℕ → Rank → Bool
rank_holds rows i Supertag = true
rank_holds rows i (SubtagOf t) = ltb t.0 i && is_supertag (rank_of (tag_at rows t.0))

-- the numbers of a tag that is made
abbrev pub tag_numbers_hold : TagRow → Bool
tag_numbers_hold r = tag_in_limits r && supertag_unused r

-- with "an unmade number", "a public root", "a subtag of a subtag or of a later tag": tag i, which is made, obeys them
abbrev pub tag_holds : ℕ → ℕ → List TagRow → ℕ → TagRow → Bool
tag_holds principals tags rows i r =
    tag_numbers_hold r
    && ((ltb r.root.0 principals && supertag_made tags (rank_of r)) && (not (eqb r.root.0 public) && rank_holds rows i (rank_of r)))

unfoldable pub tags_made : ℕ → List TagRow → ℕ → Bool
tags_made principals rows tags = all_below tags (λ i. tag_holds principals tags rows i (tag_at rows i))

-- "nonzero unused place"
unfoldable pub tags_unused : List TagRow → ℕ → Bool
tags_unused rows tags = all_below most_tags (λ i. ltb i tags || is_no_tag (tag_at rows i))

-- with "a limit"
abbrev pub tags_hold : ℕ → ℕ → List TagRow → Bool
tags_hold principals tags rows = leb tags most_tags && (tags_made principals rows tags && tags_unused rows tags)

-- a made tag's row is tested by its root and by another row: "an unmade number", "a public root"
abbrev pub root_holds : ℕ → Principal → Bool
root_holds principals root = ltb root.0 principals && not (eqb root.0 public)

-- the row that must be a supertag's: that of the supertag where it is an earlier tag, else tag i's own
abbrev pub above_of : Rank → ℕ → ℕ
above_of Supertag i = i
above_of (SubtagOf t) i = cond (ltb t.0 i) t.0 i

-- row i, of a tag that is made, passes the code's tests
abbrev pub row_passes : ℕ → List TagRow → ℕ → Bool
row_passes principals rows i =
    let r = tag_at rows i in
    tag_numbers_hold r && (root_holds principals r.root && is_supertag (rank_of (tag_at rows (above_of (rank_of r) i))))
