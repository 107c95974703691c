-- What the rules of tags say, one by one. Assumes nothing.
use mathlib.Core.Path.{◌≡◌}
use mathlib.Core.Bool.{true}
use mathlib.Core.List.{List}
use mathlib.Core.Logic.{◌↔◌}
use Prim.Native.Nat.{ℕ, ◌≤◌, ◌<◌}
use Rattle.numbers.specs.Numbers.{public, most_tags}
use Rattle.numbers.proofs.Says.{eqb_is, leb-is, ltb-is, itself, and_is, not_is, from_is, all-is}
use Rattle.tables.specs.Rows.{rank_of}
use Rattle.tables.specs.Things.{tag_at}
use Rattle.tables.specs.declared.rows.TagRow.{TagRow}
use Rattle.tag_rules.specs.TagRules.{tag_in_limits, supertag_unused, supertag_made, rank_holds, is_no_tag, tag_holds, tags_made, tags_unused, tags_hold}

tag_holds-is :
    (principals tags : ℕ) (rows : List TagRow) (i : ℕ) (r : TagRow)
    → (tag_holds principals tags rows i r ≡ true)
    ↔ (((tag_in_limits r ≡ true) × (supertag_unused r ≡ true))
    × (((r.root.0 < principals) × (supertag_made tags (rank_of r) ≡ true)) × ((r.root.0 ≡ public → ⊥) × (rank_holds rows i (rank_of r) ≡ true))))
tag_holds-is principals tags rows i r =
    and_is (and_is (itself (tag_in_limits r)) (itself (supertag_unused r)))
    (and_is (and_is (ltb-is r.root.0 principals) (itself (supertag_made tags (rank_of r))))
    (and_is (not_is (eqb_is r.root.0 public)) (itself (rank_holds rows i (rank_of r)))))

-- tags that obey their rules, rule by rule
pub record TagsHold (principals tags : ℕ) (rows : List TagRow) : Type 0 where
  pub limit : tags ≤ most_tags
  pub limits : (i : ℕ) → i < tags → tag_in_limits (tag_at rows i) ≡ true
  pub roots : (i : ℕ) → i < tags → (tag_at rows i).root.0 < principals
  pub supertags : (i : ℕ) → i < tags → supertag_made tags (rank_of (tag_at rows i)) ≡ true
  pub public-roots : (i : ℕ) → i < tags → (tag_at rows i).root.0 ≡ public → ⊥
  pub ranks : (i : ℕ) → i < tags → rank_holds rows i (rank_of (tag_at rows i)) ≡ true
  pub supertags-unused : (i : ℕ) → i < tags → supertag_unused (tag_at rows i) ≡ true
  pub unused : (i : ℕ) → tags ≤ i → i < most_tags → is_no_tag (tag_at rows i) ≡ true

pub tags_hold-is : (principals tags : ℕ) (rows : List TagRow) → (tags_hold principals tags rows ≡ true) ↔ TagsHold principals tags rows
unfolding tags_made tags_unused
tags_hold-is principals tags rows =
    let made = all-is tags (λ i. tag_holds-is principals tags rows i (tag_at rows i)) in
    let unused = all-is most_tags (λ i. from_is tags i (itself (is_no_tag (tag_at rows i)))) in
    let parts = and_is (leb-is tags most_tags) (and_is made unused) in (
      λ e.
          let w = parts.0 e in
          record {
            limit = w.0;
            limits = λ i h. (w.1.0 i h).0.0;
            roots = λ i h. (w.1.0 i h).1.0.0;
            supertags = λ i h. (w.1.0 i h).1.0.1;
            public-roots = λ i h. (w.1.0 i h).1.1.0;
            ranks = λ i h. (w.1.0 i h).1.1.1;
            supertags-unused = λ i h. (w.1.0 i h).0.1;
            unused = λ i h k. w.1.1 i k h;
          },
      λ r. parts.1 (
        r.limit,
        (
          λ i h. ((r.limits i h, r.supertags-unused i h), ((r.roots i h, r.supertags i h), (r.public-roots i h, r.ranks i h))),
          λ i k h. r.unused i h k,
        ),
      ),
    )
