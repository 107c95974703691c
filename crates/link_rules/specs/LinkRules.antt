-- The rules of 9 that speak of link lists (01, "Refusal numbers"), each a test on a list of which the first n places are in use.
-- A principal link is read as a link of tag 0, so that both lists have one set of rules. Assumes nothing.
use Rattle.std.specs.Prelude.{Bool, not, ◌&&◌, List, ℕ, ◌/◌, ◌%◌, eqb, ltb, leb, length, get_or}
use Rattle.numbers.specs.Below.{all_below, any_below}
use Rattle.numbers.specs.Numbers.{public, link_places, most_tags, most_principals}
use Rattle.links.specs.declared.lists.Graph.TheVariants.{OfTag}
use Rattle.links.specs.Links.{links_in}
use Rattle.links.specs.Cycles.{no_cycle}

-- the three parts of a link's number
abbrev pub tag_in : ℕ → ℕ
tag_in x = x / 65536

abbrev pub from_in : ℕ → ℕ
from_in x = x / 256 % 256

abbrev pub to_in : ℕ → ℕ
to_in x = x % 256

-- what stands at place i
abbrev pub at : List ℕ → ℕ → ℕ
at l i = get_or l i 0

-- the ends of the link at place i are made, and so is its tag
abbrev pub made : List ℕ → ℕ → ℕ → ℕ → Bool
made l tags principals i = ltb (tag_in (at l i)) tags && (ltb (from_in (at l i)) principals && ltb (to_in (at l i)) principals)

-- it does not lead to the public
abbrev pub not_to_public : List ℕ → ℕ → Bool
not_to_public l i = not (eqb (to_in (at l i)) public)

-- "a limit, or a lent list of other than 256 places"
abbrev pub in_limits : ℕ → ℕ → ℕ → ℕ → Bool
in_limits places n tags principals =
    eqb places link_places && (leb n link_places && (leb tags most_tags && leb principals most_principals))

module _ (l : List ℕ) (n : ℕ) where
  -- "an unmade number"
  unfoldable pub all_made : ℕ → ℕ → Bool
  all_made tags principals = all_below n (made l tags principals)

  -- "a cycle": of one tag's recorded links
  unfoldable pub none_cyclic : ℕ → Bool
  none_cyclic tags = all_below tags (λ t. no_cycle (links_in l n (OfTag (record { 0 = t }))))

  -- "a doubled link"
  unfoldable pub none_doubled : Bool
  none_doubled = all_below n (λ j. not (any_below j (λ i. eqb (at l i) (at l j))))

  -- "a link to the public"
  unfoldable pub none_to_public : Bool
  none_to_public = all_below n (not_to_public l)

  -- all of them; a list of principal links is one of a single tag
  abbrev pub links_hold : ℕ → ℕ → Bool
  links_hold tags principals =
      in_limits (length l) n tags principals && (all_made tags principals && (none_cyclic tags && none_doubled && none_to_public))
