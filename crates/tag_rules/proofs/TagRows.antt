-- A row of a tag is tested by the row above it: that of an earlier supertag, or its own. Assumes nothing.
use mathlib.Core.Path.{◌≡◌, refl, ap, ◌∙◌}
use mathlib.Core.Bool.{Bool, true, not, ◌&&◌}
use mathlib.Core.List.{List}
use mathlib.Core.Logic.{⊎_elim}
use Prim.Native.Nat.{ℕ, ◌<◌, ◌≤◌}
use native.Mathlib.Omega.{arith}
use borrow.Author.Tests.{lt-ltb, ltb-true}
use lib.Dec.{eqb, ltb}
use Rattle.numbers.specs.Numbers.{public}
use Rattle.numbers.proofs.Bools.{and_left, and_right, and_both, both_ways, either}
use Rattle.tables.specs.Rows.{rank_of}
use Rattle.tables.specs.Things.{tag_at}
use Rattle.tables.specs.declared.rows.TagRow.{TagRow}
use Rattle.tables.specs.declared.rows.Rank.{Rank}
use Rattle.tables.specs.declared.rows.Rank.TheVariants.{Supertag, SubtagOf}
use Rattle.tag_rules.specs.TagRules.{is_supertag, supertag_made, rank_holds, tag_numbers_hold, tag_holds, root_holds, above_of, row_passes}

-- it is not a later row
pub above-le : (k : Rank) (i : ℕ) → above_of k i ≤ i
above-le Supertag i = omega arith
above-le (SubtagOf t) i = ⊎_elim (λ h. rw h (omega (arith, ltb-true t.0 i h))) (λ h. rw h (omega arith)) (either (ltb t.0 i))

-- it is a supertag's exactly when the tag is no subtag of a subtag or of a later tag
pub rank-above :
    (rows : List TagRow) (i : ℕ) (k : Rank) → rank_of (tag_at rows i) ≡ k → is_supertag (rank_of (tag_at rows (above_of k i))) ≡ rank_holds rows i k
rank-above rows i Supertag e = ap is_supertag e
rank-above rows i (SubtagOf t) e =
    ⊎_elim (λ h. rw h refl) (λ h. rw h (ap is_supertag e)) (either (ltb t.0 i))

-- an earlier tag is a made one
made-above : (rows : List TagRow) (tags i : ℕ) → i < tags → (k : Rank) → rank_holds rows i k ≡ true → supertag_made tags k ≡ true
made-above rows tags i l Supertag h = refl
made-above rows tags i l (SubtagOf t) h =
    lt-ltb t.0 tags (omega (arith, ltb-true t.0 i (and_left (ltb t.0 i) (is_supertag (rank_of (tag_at rows t.0))) h)))

-- what follows from one of the tests need not be tested
absorbed : (a s n r : Bool) → (r ≡ true → s ≡ true) → ((a && n) && r) ≡ ((a && s) && (n && r))
absorbed a s n r f =
    both_ways ((a && n) && r) ((a && s) && (n && r))
    (λ h.
    let an = and_left (a && n) r h in
    let z = and_right (a && n) r h in
    and_both (a && s) (n && r) (and_both a s (and_left a n an) (f z)) (and_both n r (and_right a n an) z))
    (λ h.
    let nr = and_right (a && s) (n && r) h in
    and_both (a && n) r (and_both a n (and_left a s (and_left (a && s) (n && r) h)) (and_left n r nr)) (and_right n r nr))

-- the row of a made tag obeys the rules exactly when it passes the code's tests
pub row-passes :
    (principals tags : ℕ) (rows : List TagRow) (i : ℕ) → i < tags → row_passes principals rows i ≡ tag_holds principals tags rows i (tag_at rows i)
row-passes principals tags rows i l =
    let r = tag_at rows i in
    let k = rank_of r in
    ap (λ (b : Bool). tag_numbers_hold r && b)
    (ap (λ (b : Bool). root_holds principals r.root && b) (rank-above rows i k refl)
    ∙ absorbed (ltb r.root.0 principals) (supertag_made tags k) (not (eqb r.root.0 public)) (rank_holds rows i k) (made-above rows tags i l k))
