-- "Who may do what" (01), in its words and as it computes: ls are the principal links, gs those of one tag. Assumes nothing.
use Rattle.std.specs.Prelude.{Bool, ◌&&◌, ◌||◌, List, ◌⊎◌, ℕ}
use Rattle.numbers.specs.declared.Principal.{Principal}
use Rattle.numbers.specs.Below.{any_below}
use Rattle.links.specs.declared.lists.Graph.TheVariants.{OfTag}
use Rattle.links.specs.declared.authority.Rooted.{Rooted}
use Rattle.links.specs.declared.authority.Lineage.{Lineage}
use Rattle.links.specs.declared.authority.Lineage.TheVariants.{Supertag, Subtag}
use Rattle.links.specs.Paths.{Link, Path, leads}
use Rattle.links.specs.Links.{links_in}

-- ---- as 01 words it

-- "P acts for Q when a path of zero or more principal links leads from Q to P."
abbrev pub ActsFor : List Link → Principal → Principal → Type 0
ActsFor ls p q = Path ls q.0 p.0

-- "P is a counted node of a tag when a path of zero or more of that tag's links leads there from its root."
abbrev pub CountedNode : List Link → Principal → Principal → Type 0
CountedNode gs root p = Path gs root.0 p.0

-- "P acts for some counted node of it"
pub record ActsForSome (ls gs : List Link) (root p : Principal) : Type 0 where
  pub node : Principal
  pub counted : CountedNode gs root node
  pub acts : ActsFor ls p node

-- the links of a tag, in a list of which the first m places are in use
abbrev pub links_of : List ℕ → ℕ → Rooted → List Link
links_of l m r = links_in l m (OfTag r.tag)

-- "P is authoritative for a tag when P acts for some counted node of it, or, for a subtag, of its supertag."
abbrev pub Authoritative : List Link → List ℕ → ℕ → Lineage → Principal → Type 0
Authoritative ls l m (Supertag t) p = ActsForSome ls (links_of l m t) t.root p
Authoritative ls l m (Subtag t above) p =
    ActsForSome ls (links_of l m t) t.root p ⊎ ActsForSome ls (links_of l m above) above.root p

-- ---- as it computes

abbrev pub acts_for : List Link → Principal → Principal → Bool
acts_for ls p q = leads ls q.0 p.0

abbrev pub counted_node : List Link → Principal → Principal → Bool
counted_node gs root p = leads gs root.0 p.0

-- principals are at most 64
unfoldable pub acts_for_some : List Link → List Link → Principal → Principal → Bool
acts_for_some ls gs root p = any_below 64 (λ node. leads gs root.0 node && leads ls node p.0)

abbrev pub authoritative : List Link → List ℕ → ℕ → Lineage → Principal → Bool
authoritative ls l m (Supertag t) p = acts_for_some ls (links_of l m t) t.root p
authoritative ls l m (Subtag t above) p =
    acts_for_some ls (links_of l m t) t.root p || acts_for_some ls (links_of l m above) above.root p
