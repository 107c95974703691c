-- A lineage read row by row is the lineage that the tables say. Assumes nothing.
use mathlib.Core.Path.{◌≡◌, refl, ap, ◌∙◌}
use mathlib.Core.List.{List}
use Prim.Native.Nat.{ℕ}
use Rattle.numbers.specs.declared.Tag.{Tag}
use Rattle.links.specs.declared.authority.Lineage.{Lineage}
use Rattle.tables.specs.declared.rows.TagRow.{TagRow}
use Rattle.tables.specs.declared.rows.Rank.{Rank}
use Rattle.tables.specs.declared.rows.Rank.TheVariants.{Supertag, SubtagOf}
use Rattle.tables.specs.Rows.{rank_of}
use Rattle.tables.specs.Things.{tag_at, supertag_of, lineage_from, lineage_in, lineage_by, lineage_of}

module _ (kinds : List TagRow) (t : Tag) where
  by_rank : (k : Rank) → lineage_from t (tag_at kinds t.0).root (tag_at kinds (supertag_of k)).root k ≡ lineage_by kinds t k
  by_rank Supertag = refl
  by_rank (SubtagOf above) = refl

  pub lineage-read : {row above : TagRow} {n : ℕ} → row ≡ tag_at kinds t.0 → n ≡ supertag_of (rank_of row) → above ≡ tag_at kinds n → lineage_in t row above ≡ lineage_of kinds t
  lineage-read {row} {above} {n} e i d =
      ap (lineage_in t row) (d ∙ ap (tag_at kinds) i) ∙ ap {B = Lineage} (λ (r : TagRow). lineage_in t r (tag_at kinds (supertag_of (rank_of r)))) e ∙ by_rank (rank_of (tag_at kinds t.0))
