-- What a request adds takes no authority away: what the walk said of a made pair it says afterwards too, unless a link was removed.
-- Assumes nothing.
use mathlib.Core.Path.{◌≡◌, refl, ap, ap₂, ◌∙◌}
use mathlib.Core.Bool.{Bool, true, ◌||◌}
use mathlib.Core.List.{List}
use mathlib.Core.Logic.{◌⊎◌, inl, inr}
use Prim.Native.Nat.{ℕ, ◌+◌, ◌/◌, ◌%◌, ◌<◌}
use native.Mathlib.Omega.{arith}
use borrow.Author.Tests.{ltb-true}
use lib.Dec.{ltb}
use lib.ListN.{length, set}
use lib.Seq.{get_or-set_other}
use Rattle.numbers.specs.declared.Tag.{Tag}
use Rattle.numbers.proofs.Bools.{and_right, by-test}
use Rattle.links.specs.declared.authority.Lineage.TheVariants as lineage
use Rattle.links.specs.declared.lists.Graph.TheVariants.{Principals}
use Rattle.links.specs.Links.{appended}
use Rattle.links.proofs.ListLaws.{appended-among}
use Rattle.links.proofs.AuthorityLaws.{authoritative-grows}
use Rattle.memory_rules.specs.MemoryRules.{pair_made}
use Rattle.tables.specs.Rows.{rank_of}
use Rattle.tables.specs.declared.rows.TagRow.{TagRow}
use Rattle.tables.specs.declared.rows.Rank.{Rank}
use Rattle.tables.specs.declared.rows.Rank.TheVariants.{Supertag, SubtagOf}
use Rattle.tables.specs.Things.{no_tag, tag_at, rooted_at, lineage_by, lineage_of}
use Rattle.tag_rules.specs.TagRules.{rank_holds}
use Rattle.frames.specs.Requests.{thread_of}
use Rattle.frames.specs.declared.requests.AuthorityRequest.{AuthorityRequest}
use Rattle.frames.specs.declared.requests.Request.TheVariants.{OfAuthority}
use Rattle.sight.specs.Sight.{sight_of}
use Rattle.outcomes.specs.declared.Outcome.{Outcome}
use Rattle.rules.specs.Tested.{pair_true}
use Rattle.decide.proofs.AuthorityComes as comes
use Rattle.kept.proofs.TagsKept.{supertag-earlier}
use Rattle.act.specs.World.{World, applied}
use Rattle.act.specs.Step.{removes}
use Rattle.assurance.proofs.Sound.{walk_in}
use Rattle.assurance.proofs.Worlds.{WorldHolds}

-- ---- a tag more leaves the lineage of the others as it was

module _ (kinds : List TagRow) (n : ℕ) (row : TagRow) where
  root-same : (t : Tag) → t.0 < n → rooted_at (set kinds n row) t ≡ rooted_at kinds t
  root-same t low = ap (λ (r : TagRow). record { tag = t; root = r.root }) (get_or-set_other kinds n t.0 row no_tag (λ e. omega arith))

  by_rank : (t : Tag) (r : Rank) → t.0 < n → rank_holds kinds t.0 r ≡ true → lineage_by (set kinds n row) t r ≡ lineage_by kinds t r
  by_rank t Supertag low ranked = ap lineage.Supertag (root-same t low)
  by_rank t (SubtagOf u) low ranked =
      let below = supertag-earlier kinds t.0 u ranked in
      ap₂ lineage.Subtag (root-same t low) (root-same u (omega (arith, below, low)))

  lineage-same : (t : Tag) → t.0 < n → rank_holds kinds t.0 (rank_of (tag_at kinds t.0)) ≡ true → lineage_of (set kinds n row) t ≡ lineage_of kinds t
  lineage-same t low ranked =
      ap (λ (r : TagRow). lineage_by (set kinds n row) t (rank_of r)) (get_or-set_other kinds n t.0 row no_tag (λ e. omega arith))
      ∙ by_rank t (rank_of (tag_at kinds t.0)) low ranked

-- ---- what the walk says of a pair

module _ (w : World) (holds : WorldHolds w) (f : List ℕ) (x : ℕ) (made : pair_made w.tables.tags w.tables.principals x ≡ true) (yes-before : walk_in w x ≡ true) where
  abbrev tag : Tag
  tag = record { 0 = x % 256 }

  tag-low : x % 256 < w.tables.tags
  tag-low = ltb-true _ w.tables.tags (and_right (ltb (x / 256) w.tables.principals) (ltb (x % 256) w.tables.tags) made)

  -- one more principal link
  links-grow : (y : ℕ) → w.tables.links < length w.links → pair_true w.tables.kinds (appended w.links w.tables.links y) (w.tables.links + 1) w.grants w.tables.grants x ≡ true
  links-grow y room =
      authoritative-grows _ _ w.grants w.grants w.tables.grants w.tables.grants (appended-among w.links w.tables.links y Principals room) (λ g p q e. e) (lineage_of w.tables.kinds tag) _ yes-before

  -- one more tag link
  grants-grow : (y : ℕ) → w.tables.grants < length w.grants → pair_true w.tables.kinds w.links w.tables.links (appended w.grants w.tables.grants y) (w.tables.grants + 1) x ≡ true
  grants-grow y room =
      authoritative-grows _ _ w.grants _ w.tables.grants (w.tables.grants + 1) (λ p q e. e) (λ g. appended-among w.grants w.tables.grants y g room) (lineage_of w.tables.kinds tag) _ yes-before

  -- one more tag
  tags-grow : (row : TagRow) → pair_true (set w.tables.kinds w.tables.tags row) w.links w.tables.links w.grants w.tables.grants x ≡ true
  tags-grow row = rw (lineage-same w.tables.kinds w.tables.tags row tag tag-low (holds.tags.ranks (x % 256) tag-low)) yes-before

  -- a link was removed, or the walk says what it said
  pub authority-grows :
      {allowed : Bool} {r : AuthorityRequest} {o : Outcome} →
      comes.AuthorityComes (sight_of w.tables (thread_of f) (OfAuthority r)) w.links w.grants allowed r o →
      ((removes o.links || removes o.grants) ≡ true) ⊎ (walk_in (applied w f o) x ≡ true)
  authority-grows (comes.stops y) = inr yes-before
  authority-grows (comes.makes-principal a few room) = inr (links-grow _ (omega (arith, room, holds.links.limits.whole)))
  authority-grows (comes.had-link a) = inr yes-before
  authority-grows (comes.gives-link a b c d e room) = inr (links-grow _ (omega (arith, room, holds.links.limits.whole)))
  authority-grows (comes.has-no-link a) = inr yes-before
  authority-grows (comes.takes-link i e) = inl refl
  authority-grows (comes.tells-acts-for b) = inr (by-test (λ o. walk_in (applied w f o) x ≡ true) b (λ e. yes-before) (λ e. yes-before))
  authority-grows (comes.makes-tag a room) = inr (tags-grow _)
  authority-grows (comes.makes-subtag a b c room) = inr (tags-grow _)
  authority-grows (comes.had-grant a) = inr yes-before
  authority-grows (comes.gives-grant a b c d e h i room) = inr (grants-grow _ (omega (arith, room, holds.grants.limits.whole)))
  authority-grows (comes.has-no-grant a) = inr yes-before
  authority-grows (comes.takes-grant i e) = inl refl
  authority-grows {allowed} comes.tells = inr (by-test (λ o. walk_in (applied w f o) x ≡ true) allowed (λ e. yes-before) (λ e. yes-before))
