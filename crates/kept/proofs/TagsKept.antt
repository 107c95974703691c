-- The rows of tags that obey their rules of 9 still do when a principal or a tag more is made. Assumes nothing.
use mathlib.Core.Path.{◌≡◌, refl}
use mathlib.Core.Bool.{true}
use mathlib.Core.List.{List}
use mathlib.Core.Logic.{⊎_elim}
use Prim.Native.Nat.{ℕ, ◌+◌, ◌≤◌, ◌<◌}
use native.Mathlib.Nat.{eq-or-lt_of_le}
use native.Mathlib.Omega.{arith}
use borrow.Author.Tests.{ltb-true, lt-ltb}
use lib.Dec.{ltb}
use lib.ListN.{length, set}
use lib.Seq.{get_or-set_same, get_or-set_other}
use Rattle.numbers.specs.Numbers.{public, most_tags}
use Rattle.numbers.specs.declared.Principal.{Principal}
use Rattle.numbers.specs.declared.Tag.{Tag}
use Rattle.numbers.proofs.Bools.{and_left}
use Rattle.tables.specs.Rows.{rank_of, tag_row}
use Rattle.tables.specs.declared.rows.TagRow.{TagRow}
use Rattle.tables.specs.declared.rows.Rank.{Rank}
use Rattle.tables.specs.declared.rows.Rank.TheVariants.{Supertag, SubtagOf}
use Rattle.tables.specs.Things.{no_tag, tag_at}
use Rattle.tables.proofs.Said.{rank-said}
use Rattle.tag_rules.specs.TagRules.{is_supertag, tag_in_limits, supertag_unused, supertag_made, rank_holds}
use Rattle.tag_rules.proofs.RuleLaws.{TagsHold}

-- more principals are made
pub tags-more :
    {principals principals2 tags : ℕ} {rows : List TagRow} → TagsHold principals tags rows → principals ≤ principals2 → TagsHold principals2 tags rows
tags-more w h =
    record {
      limit = w.limit;
      limits = w.limits;
      roots = λ i l. omega (arith, w.roots i l);
      supertags = w.supertags;
      public-roots = w.public-roots;
      ranks = w.ranks;
      supertags-unused = w.supertags-unused;
      unused = w.unused;
    }

-- a supertag is an earlier tag
pub supertag-earlier : (rows : List TagRow) (i : ℕ) (u : Tag) → rank_holds rows i (SubtagOf u) ≡ true → u.0 < i
supertag-earlier rows i u e = ltb-true u.0 i (and_left (ltb u.0 i) (is_supertag (rank_of (tag_at rows u.0))) e)

-- the supertag of tag i is an earlier tag, and so made where i is at most the count
rank-made : (rows : List TagRow) (i n : ℕ) (k : Rank) → i ≤ n → rank_holds rows i k ≡ true → supertag_made n k ≡ true
rank-made rows i n Supertag h e = refl
rank-made rows i n (SubtagOf t) h e = lt-ltb t.0 n (omega (arith, supertag-earlier rows i t e))

module _ (tags : ℕ) (rows : List TagRow) (row : TagRow) where
  -- a new row at `tags` leaves the ranks of the tags up to it as they were
  rank-kept : (i : ℕ) (k : Rank) → i ≤ tags → rank_holds rows i k ≡ true → rank_holds (set rows tags row) i k ≡ true
  rank-kept i Supertag h e = refl
  rank-kept i (SubtagOf t) h e =
      let low = supertag-earlier rows i t e in rw (get_or-set_other rows tags t.0 row no_tag (λ q. omega arith)) e

  -- what holds of the new row and of each before it holds of each row up to the new one
  tags-each :
      (P : ℕ → TagRow → Type 0) → tags < length rows → P tags row → ((i : ℕ) → i < tags → P i (tag_at rows i)) → (i : ℕ) → i < tags + 1
      → P i (tag_at (set rows tags row) i)
  tags-each P room new old i h =
      ⊎_elim
      (λ (q : i ≡ tags). rw (q, get_or-set_same rows tags row no_tag) new)
      (λ (l : i < tags). rw (get_or-set_other rows tags i row no_tag (λ q. omega arith)) (old i l))
      (eq-or-lt_of_le (omega arith))

-- the numbers of a row that was made for a rank
built-holds : (root : Principal) (k : Rank) → (tag_in_limits (tag_row root k) ≡ true) × (supertag_unused (tag_row root k) ≡ true)
built-holds root Supertag = (refl, refl)
built-holds root (SubtagOf t) = (refl, refl)

-- 05, 06: a tag more, at the next number
pub tag-added :
    {principals tags : ℕ} {rows : List TagRow} (root : Principal) (k : Rank) → TagsHold principals tags rows → length rows ≡ most_tags → tags < most_tags
    → root.0 < principals → (root.0 ≡ public → ⊥) → rank_holds rows tags k ≡ true → TagsHold principals (tags + 1) (set rows tags (tag_row root k))
tag-added {principals} {tags} {rows} root k w long room made not-public rank =
    let row = tag_row root k in
    let new = set rows tags row in
    let each =
    tags-each tags rows row
    (λ i r.
    ((tag_in_limits r ≡ true) × (supertag_unused r ≡ true))
    × ((r.root.0 < principals) × ((r.root.0 ≡ public → ⊥) × (rank_holds new i (rank_of r) ≡ true))))
    (omega arith)
    (built-holds root k, (made, (not-public, rw rank-said (rank-kept tags rows row tags k (omega arith) rank))))
    (λ i l. (
      (w.limits i l, w.supertags-unused i l),
      (w.roots i l, (w.public-roots i l, rank-kept tags rows row i (rank_of (tag_at rows i)) (omega arith) (w.ranks i l))),
    )) in
    record {
      limit = omega arith;
      limits = λ i l. (each i l).0.0;
      roots = λ i l. (each i l).1.0;
      supertags = λ i l. rank-made new i (tags + 1) (rank_of (tag_at new i)) (omega arith) (each i l).1.1.1;
      public-roots = λ i l. (each i l).1.1.0;
      ranks = λ i l. (each i l).1.1.1;
      supertags-unused = λ i l. (each i l).0.1;
      unused = λ i l m. rw (get_or-set_other rows tags i row no_tag (λ q. omega arith)) (w.unused i (omega arith) m);
    }
