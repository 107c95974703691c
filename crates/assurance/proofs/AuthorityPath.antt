-- Each authority answer is yes exactly when the papers' path exists over the leaves, for every list of requests from the fresh state.
-- Assumes nothing.
use mathlib.Core.Path.{◌≡◌, refl, sym, ap, subst, ◌∙◌}
use mathlib.Core.Bool.{Bool, true, false, not}
use mathlib.Core.List.{List, [], ◌∷◌}
use mathlib.Core.Logic.{◌⊎◌, ◌↔◌, inl, inr, ⊎_elim}
use Prim.Native.Nat.{ℕ, zero, suc, ◌<◌}
use native.Mathlib.Omega.{arith}
use borrow.Author.Tests.{ltb-true}
use lib.Dec.{ltb}
use lib.ListN.{length}
use Rattle.numbers.specs.declared.Principal.{Principal}
use Rattle.numbers.specs.declared.Tag.{Tag}
use Rattle.numbers.proofs.Bools.{and_right, either, never}
use Rattle.links.specs.declared.lists.Graph.TheVariants.{Principals}
use Rattle.links.specs.Paths.{Link}
use Rattle.links.specs.Links.{links_in}
use Rattle.links.specs.Authority.{ActsForSome, Authoritative, authoritative}
use Rattle.links.proofs.PathLaws.{path-grows}
use Rattle.links.proofs.AuthorityLaws.{RootsMade, authoritative-is}
use Rattle.tables.specs.Rows.{rank_of, is_subtag, supertag_in}
use Rattle.tables.specs.declared.Tables.{Tables}
use Rattle.tables.specs.declared.rows.Rank.{Rank}
use Rattle.tables.specs.declared.rows.Rank.TheVariants.{Supertag, SubtagOf}
use Rattle.tables.specs.Things.{tag_at, lineage_by, lineage_of}
use Rattle.tag_rules.specs.TagRules.{supertag_made}
use Rattle.frames.specs.Requests.{thread_of, request_of}
use Rattle.sight.specs.Sight.{tag_named}
use Rattle.act.specs.World.{World}
use Rattle.act.specs.Step.{After, asks_one, seen, walked}
use Rattle.monitor.specs.Monitor.{shortest_buffer}
use Rattle.monitor.proofs.Entering.{when-short}
use Rattle.kept.proofs.LinksKept.{of_tag}
use Rattle.assurance.specs.Runs.{Call, Machine, fresh, entered, world_after, next, cleared_if}
use Rattle.assurance.specs.Leaves.{Known, Made, runner, at_first}
use Rattle.assurance.specs.Demands.{PathFrom, LeavesReach, answer_in, PathDecides, PathsDecide, learns, AuthorityIsThePath}
use Rattle.assurance.proofs.Sound.{Sound}
use Rattle.assurance.proofs.Worlds.{WorldHolds, SizedWorld, world-rules}
use Rattle.assurance.proofs.Questions.{gives, tag-made}
use Rattle.assurance.proofs.Reference.{answers-as-walk, enters-step}
use Rattle.assurance.proofs.Kept.{cleared-sound, next-sound}
use Rattle.assurance.proofs.Fresh.{fresh-sound}
use Rattle.assurance.proofs.LeafLists.{Same, same_back}
use Rattle.assurance.proofs.Knows.{Knows, fresh-known}
use Rattle.assurance.proofs.LeavesKept.{outcome-learns}

-- ---- paths

-- the same links give the same paths
acts-over : {ls ms gs hs : List Link} {root p : Principal} → Same ls ms → Same gs hs → ActsForSome ls gs root p → ActsForSome ms hs root p
acts-over f g w =
    record {
      node = w.node;
      counted = path-grows (λ a b e. sym (g.joined a b) ∙ e) w.counted;
      acts = path-grows (λ a b e. sym (f.joined a b) ∙ e) w.acts;
    }

module _ (k : Known) (w : World) (holds : WorldHolds w) (knows : Knows k w) (p : Principal) where
  abbrev t : Tables
  t = w.tables

  -- the principal links
  abbrev between : List Link
  between = links_in w.links t.links Principals

  -- a path from the maker of tag u
  own-path : (u : ℕ) → u < t.tags → PathFrom k u p.0 ↔ ActsForSome between (of_tag w.grants t.grants u) (tag_at t.kinds u).root p
  own-path u low =
      rw (knows.tags u low) (acts-over knows.links (knows.grants u), acts-over (same_back knows.links) (same_back (knows.grants u)))

  -- p is authoritative for tag u, where r is its rank; the leaves of tag u reach p, where m says what it is
  abbrev Walked : Tag → Rank → Type 0
  Walked u r = Authoritative between w.grants t.grants (lineage_by t.kinds u r) p

  abbrev Reached : Tag → Bool → ℕ → Type 0
  Reached u is_subtag above = PathFrom k u.0 p.0 ⊎ ((is_subtag ≡ true) × PathFrom k above p.0)

  by_rank : (u : Tag) → u.0 < t.tags → (r : Rank) → supertag_made t.tags r ≡ true → Walked u r ↔ Reached u (is_subtag r) (supertag_in r).0
  by_rank u low Supertag e =
      let own = own-path u.0 low in
      (λ x. inl (own.1 x), λ x. ⊎_elim own.0 (λ y. absurd (never y.0 refl)) x)
  by_rank u low (SubtagOf above) e =
      let own = own-path u.0 low in
      let over = own-path above.0 (ltb-true above.0 t.tags e) in
      (λ x. ⊎_elim (λ y. inl (own.1 y)) (λ y. inr (refl, over.1 y)) x, λ x. ⊎_elim (λ y. inl (own.0 y)) (λ y. inr (over.0 y.1)) x)

  -- a made tag's root is made, and so is that of its supertag
  root-low : (u : ℕ) → u < t.tags → (tag_at t.kinds u).root.0 < 64
  root-low u low = omega (arith, holds.tags.roots u low, holds.links.limits.principals-low)

  roots-made : (u : Tag) → u.0 < t.tags → (r : Rank) → supertag_made t.tags r ≡ true → RootsMade (lineage_by t.kinds u r)
  roots-made u low Supertag e = root-low u.0 low
  roots-made u low (SubtagOf above) e = (root-low u.0 low, root-low above.0 (ltb-true above.0 t.tags e))

  -- the walk says yes exactly where the leaves reach
  walk-reaches : (u : Tag) → u.0 < t.tags → (authoritative between w.grants t.grants (lineage_of t.kinds u) p ≡ true) ↔ LeavesReach k u.0 p.0
  walk-reaches u low =
      let r = rank_of (tag_at t.kinds u.0) in
      let made = holds.tags.supertags u.0 low in
      let walk = authoritative-is between w.grants t.grants (lineage_by t.kinds u r) p (roots-made u low r made) in
      let reach = subst (λ (m : Made). Walked u r ↔ Reached u m.is_subtag m.above) (sym (knows.tags u.0 low)) (by_rank u low r made) in
      (λ e. reach.0 (walk.0 e), λ x. walk.1 (reach.1 x))

-- ---- one request of a sound machine

module _ (z : Machine) (sound : Sound z) (k : Known) (knows : Knows k z.world) (c : Call) where
  abbrev w : World
  w = z.world

  abbrev f : List ℕ
  f = c.frame

  -- it breaks no rule
  holds : WorldHolds w
  holds = world-rules w z.memory sound.rules

  -- its authority answer
  path-decides : PathDecides z k c
  path-decides asking =
      let reached = and_right (not (ltb (length c.buffer) shortest_buffer)) (asks_one w.tables w.links w.grants f) asking in
      let s = seen w.tables w.links w.grants f in
      let same : answer_in z c ≡ walked s w.links w.grants (request_of f) = answers-as-walk z sound f ∙ rw reached in
      let n = (thread_of f).0 in
      let runs : runner (k.runs n) ≡ s.caller.principal.0 = ap runner (knows.runs n (gives z sound f reached).0).list in
      let reach = walk-reaches k w holds knows s.caller.principal (tag_named (request_of f)) (tag-made z sound f reached) in
      rw (same, runs) reach

  -- what is known after it
  next-knows : Knows (learns k c (entered z c)) (next z c).world
  next-knows =
      let sized : SizedWorld w = record { threads = sound.sized.threads; kinds = sound.sized.kinds; objects = sound.sized.objects } in
      let P : After → Type 0 = λ r. Knows (learns k c r) (world_after r) in
      ⊎_elim
      (λ e. subst P (when-short (record { tables = w.tables; memory = z.memory }) w.links w.grants w.store f c.buffer e) knows)
      (λ e. subst P (sym (enters-step z sound c e)) (outcome-learns k w holds sized knows f c.buffer (answer_in z c)))
      (either (ltb (length c.buffer) shortest_buffer))

-- ---- a list of requests

-- clearing leaves the world
cleared-knows : (clear : Bool) (z : Machine) {k : Known} → Knows k z.world → Knows k (cleared_if clear z).world
cleared-knows true z knows = knows
cleared-knows false z knows = knows

-- each answer is the path, whatever was cleared
paths-decide : (z : Machine) → Sound z → (k : Known) → Knows k z.world → (clears : ℕ → Bool) (cs : List Call) → PathsDecide z k clears cs
unfolding PathsDecide
paths-decide z sound k knows clears [] = tt
paths-decide z sound k knows clears (c ∷ cs) =
    let y = cleared_if (clears zero) z in
    let s = cleared-sound z sound (clears zero) in
    let h = cleared-knows (clears zero) z knows in
    (path-decides y s k h c, paths-decide (next y c) (next-sound y s c) (learns k c (entered y c)) (next-knows y s k h c) (λ n. clears (suc n)) cs)

pub authority-is-the-path : AuthorityIsThePath
authority-is-the-path size few clears calls = paths-decide (fresh size) (fresh-sound size few) at_first (fresh-known size) clears calls
