-- What the rules of a list of links say, one by one, and rows with nothing in them. Assumes nothing.
use mathlib.Core.Path.{◌≡◌}
use mathlib.Core.Bool.{true}
use mathlib.Core.List.{List}
use mathlib.Core.Logic.{◌↔◌}
use Prim.Native.Nat.{ℕ, ◌≤◌, ◌<◌}
use native.Mathlib.Nat.{lt_of_lt_of_le}
use borrow.Author.Tests.{eqb-true, eq-eqb}
use lib.Dec.{eqb}
use lib.ListN.{length, replicate}
use Rattle.numbers.specs.Below.{any_below}
use Rattle.numbers.specs.Numbers.{public}
use Rattle.numbers.proofs.Below.{all-each, any-is}
use Rattle.numbers.proofs.Says.{eqb_is, leb-is, ltb-is, itself, and_is, not_is, all-is}
use Rattle.links.specs.declared.lists.Graph.TheVariants.{OfTag}
use Rattle.links.specs.Links.{links_in}
use Rattle.links.specs.Cycles.{NoCycle}
use Rattle.links.proofs.CycleLaws.{no_cycle-is}
use Rattle.links.proofs.Gathering.{none-marked}
use Rattle.link_rules.specs.LinkRules.{tag_in, from_in, to_in, at, made, in_limits, all_made, none_cyclic, none_doubled, none_to_public, links_hold}
use Rattle.link_rules.specs.Filling.{Placed, Marks}

-- within its limits a list has 256 places, and no count lies
pub record Limits (places n tags principals : ℕ) : Type 0 where
  pub whole : places ≡ 256
  pub few : n ≤ 256
  pub tags-low : tags ≤ 64
  pub principals-low : principals ≤ 64

pub limits-is : (places n tags principals : ℕ) → (in_limits places n tags principals ≡ true) ↔ Limits places n tags principals
limits-is places n tags principals =
    let parts = and_is (eqb_is places 256) (and_is (leb-is n 256) (and_is (leb-is tags 64) (leb-is principals 64))) in (
      λ e. let w = parts.0 e in record { whole = w.0; few = w.1.0; tags-low = w.1.1.0; principals-low = w.1.1.1 },
      λ r. parts.1 (r.whole, (r.few, (r.tags-low, r.principals-low))),
    )

-- no number stands at two places
pub none_doubled-is : (l : List ℕ) (n : ℕ) → (none_doubled l n ≡ true) ↔ ((i j : ℕ) → i < j → j < n → at l i ≡ at l j → ⊥)
unfolding none_doubled
none_doubled-is l n =
    let parts = all-is n (λ j. not_is (any-is j (λ i. eqb (at l i) (at l j)))) in (
      λ e i j h k q. parts.0 e j k (i, h, eq-eqb (at l i) (at l j) q),
      λ f. parts.1 (λ j k w. f w.0 j w.1 k (eqb-true (at l w.0) (at l j) w.2)),
    )

-- a list of links that obeys its rules, rule by rule
pub record LinksHold (l : List ℕ) (n tags principals : ℕ) : Type 0 where
  pub limits : Limits (length l) n tags principals
  pub made : (i : ℕ) → i < n → made l tags principals i ≡ true
  pub cycles : (t : ℕ) → t < tags → NoCycle (links_in l n (OfTag (record { 0 = t })))
  pub doubled : (i j : ℕ) → i < j → j < n → at l i ≡ at l j → ⊥
  pub to-public : (i : ℕ) → i < n → to_in (at l i) ≡ public → ⊥

pub links_hold-is : (l : List ℕ) (n tags principals : ℕ) → (links_hold l n tags principals ≡ true) ↔ LinksHold l n tags principals
unfolding all_made none_cyclic none_to_public
links_hold-is l n tags principals =
    let all_made = all-is n (λ i. itself (made l tags principals i)) in
    let none-cyclic = all-is tags (λ t. no_cycle-is (links_in l n (OfTag (record { 0 = t })))) in
    let none-public = all-is n (λ i. not_is (eqb_is (to_in (at l i)) public)) in
    let links = and_is (and_is none-cyclic (none_doubled-is l n)) none-public in
    let parts = and_is (limits-is (length l) n tags principals) (and_is all_made links) in (
      λ e.
          let w = parts.0 e in
          record { limits = w.0; made = w.1.0; cycles = w.1.1.0.0; doubled = w.1.1.0.1; to-public = w.1.1.1 },
      λ r. parts.1 (r.limits, (r.made, ((r.cycles, r.doubled), r.to-public))),
    )

-- made numbers have their rows
pub made-placed : (l : List ℕ) (n tags principals rooms : ℕ) → tags ≤ rooms → principals ≤ 64 → all_made l n tags principals ≡ true → Placed l n rooms
unfolding all_made
made-placed l n tags principals rooms h g e i low =
    let x = at l i in
    let parts = and_is (ltb-is (tag_in x) tags) (and_is (ltb-is (from_in x) principals) (ltb-is (to_in x) principals)) in
    let w = parts.0 (all-each n (made l tags principals) e i low) in
    (lt_of_lt_of_le w.0 h, lt_of_lt_of_le w.1.0 g, lt_of_lt_of_le w.1.1 g)

-- rows of zeros hold no links
pub marks-none : (l : List ℕ) (key mark : ℕ → ℕ) (k : ℕ) → Marks l 0 key mark (replicate k 0)
unfolding any_below
marks-none l key mark k = none-marked k
