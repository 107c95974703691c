-- The public is authoritative for nothing, so who is allowed is not the public. Assumes nothing.
use mathlib.Core.Path.{◌≡◌, sym, ap, ap₂, ◌∙◌}
use mathlib.Core.Bool.{true, false, ◌||◌}
use mathlib.Core.List.{List}
use mathlib.Core.Logic.{⊎_elim}
use Prim.Native.Nat.{ℕ, ◌<◌}
use native.Mathlib.Omega.{arith}
use lib.ListN.{take, length-take}
use lib.Seq.{get_or-take}
use Rattle.numbers.specs.Numbers.{public}
use Rattle.numbers.specs.declared.Principal.{Principal}
use Rattle.numbers.specs.declared.Tag.{Tag}
use Rattle.numbers.proofs.Bools.{never, either}
use Rattle.links.specs.declared.lists.Graph.{Graph}
use Rattle.links.specs.declared.lists.Graph.TheVariants.{Principals, OfTag}
use Rattle.links.specs.Paths.{joins}
use Rattle.links.specs.Links.{base_of, links_in}
use Rattle.links.specs.Authority.{links_of, acts_for_some, authoritative}
use Rattle.links.proofs.LinkLaws.{joins-number}
use Rattle.links.proofs.AuthorityLaws.{public-has-none}
use Rattle.link_rules.specs.LinkRules.{at, to_in}
use Rattle.tables.specs.Rows.{rank_of}
use Rattle.tables.specs.declared.rows.Rank.{Rank}
use Rattle.tables.specs.declared.rows.Rank.TheVariants.{Supertag, SubtagOf}
use Rattle.tables.specs.Things.{tag_at, rooted_at, lineage_by, lineage_of}
use Rattle.tag_rules.specs.TagRules.{rank_holds}
use Rattle.kept.proofs.TagsKept.{supertag-earlier}
use Rattle.act.specs.World.{World}
use Rattle.assurance.proofs.Worlds.{WorldHolds}

-- no link of any graph of a list leads to the public
none-to-public : (l : List ℕ) (n : ℕ) → ((i : ℕ) → i < n → to_in (at l i) ≡ public → ⊥) → (g : Graph) (q : ℕ) → joins (links_in l n g) q public ≡ false
none-to-public l n none g q =
    ⊎_elim
    (λ e.
    let w = joins-number (base_of g) (take n l) q public e in
    let low : w.0 < n = omega (arith, w.1, length-take n l) in
    absurd (none w.0 low (ap to_in (sym (get_or-take n l w.0 0 low)) ∙ w.2.far)))
    (λ e. e)
    (either (joins (links_in l n g) q public))

module _ (w : World) (holds : WorldHolds w) where
  -- who acts for a counted node of a made tag is not the public
  node-not-public : (t : Tag) → t.0 < w.tables.tags → (p : Principal) → p.0 ≡ public → acts_for_some (links_in w.links w.tables.links Principals) (links_of w.grants w.tables.grants (rooted_at w.tables.kinds t)) (rooted_at w.tables.kinds t).root p ≡ false
  node-not-public t made p e =
      public-has-none _ _ (rooted_at w.tables.kinds t).root p (none-to-public w.links w.tables.links holds.links.to-public Principals)
      (none-to-public w.grants w.tables.grants holds.grants.to-public (OfTag t)) (holds.tags.public-roots t.0 made) e

  -- nor is who is authoritative for one
  by_rank : (t : Tag) (r : Rank) → t.0 < w.tables.tags → rank_holds w.tables.kinds t.0 r ≡ true → (p : Principal) → p.0 ≡ public → authoritative (links_in w.links w.tables.links Principals) w.grants w.tables.grants (lineage_by w.tables.kinds t r) p ≡ false
  by_rank t Supertag made ranked p e = node-not-public t made p e
  by_rank t (SubtagOf u) made ranked p e =
      let low = supertag-earlier w.tables.kinds t.0 u ranked in
      ap₂ ◌||◌ (node-not-public t made p e) (node-not-public u (omega (arith, made, low)) p e)

  pub allowed-not-public : (t : Tag) → t.0 < w.tables.tags → (p : Principal) → authoritative (links_in w.links w.tables.links Principals) w.grants w.tables.grants (lineage_of w.tables.kinds t) p ≡ true → p.0 ≡ public → ⊥
  allowed-not-public t made p allowed e = never allowed (by_rank t (rank_of (tag_at w.tables.kinds t.0)) made (holds.tags.ranks t.0 made) p e)
