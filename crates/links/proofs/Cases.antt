-- Cases near the edges (01), computed from the definitions: 1, 6 and 7, and what 3 and 5 say of the list of links.
-- Assumes nothing.
use mathlib.Core.Path.{◌≡◌, refl}
use mathlib.Core.Bool.{true, false}
use mathlib.Core.List.{List, [], ◌∷◌}
use Prim.Native.Nat.{ℕ}
use lib.ListN.{take, replicate}
use Rattle.numbers.specs.declared.Principal.{Principal}
use Rattle.numbers.specs.Below.{any_below}
use Rattle.std.specs.Prelude.{Some, None}
use Rattle.links.specs.declared.authority.Rooted.{Rooted}
use Rattle.links.specs.declared.authority.Lineage.TheVariants.{Supertag, Subtag}
use Rattle.links.specs.Paths.{leads}
use Rattle.links.specs.Links.{links_from, link_number, find_in, find_from, appended, removed, gap_closed}
use Rattle.links.specs.Authority.{acts_for, acts_for_some, authoritative}

person : ℕ → Principal
person n = record { 0 = n }

tag : ℕ → ℕ → Rooted
tag t root = record { tag = record { 0 = t }; root = record { 0 = root } }

-- 1: "Principal 5 acts for 5 with no links."
case-1 : acts_for [] (person 5) (person 5) ≡ true
unfolding leads person
case-1 = refl

-- the number of a principal link, or of one of tag 0
link : ℕ → ℕ → ℕ
link p q = link_number 0 (record { 0 = p }) (record { 0 = q })

-- 3: "Delegating the same link twice: done, one link": after the first time the link is found, and so is not appended again.
-- 5: "Revoking an absent link": it is not found, and so nothing is taken out.
once : List ℕ
once = appended (replicate 256 0) 0 (link 1 2)

case-3 : find_in (take 1 once) (link 1 2) ≡ Some 0
unfolding once link find_from
case-3 = refl

case-5 : find_in (take 1 once) (link 2 1) ≡ None
unfolding once link find_from
case-5 = refl

-- 6: "Grant by 1 to 2, by 2 to 3, ungrant 1 to 2: 3 loses authority; granting 1 to 2 again restores it."
case-6-granted : authoritative [] (link 1 2 ∷ link 2 3 ∷ []) 2 (Supertag (tag 0 1)) (person 3) ≡ true
unfolding leads person tag link acts_for_some any_below links_from
case-6-granted = refl

case-6-withdrawn : authoritative [] (removed (link 1 2 ∷ link 2 3 ∷ []) 2 0) 1 (Supertag (tag 0 1)) (person 3) ≡ false
unfolding leads person tag link acts_for_some any_below links_from gap_closed
case-6-withdrawn = refl

case-6-restored : authoritative [] (link 2 3 ∷ link 1 2 ∷ []) 2 (Supertag (tag 0 1)) (person 3) ≡ true
unfolding leads person tag link acts_for_some any_below links_from
case-6-restored = refl

-- 7: "The supertag's holder is authoritative for the subtag; one granted only the subtag is not for the supertag."
-- Tag 1 is a subtag of tag 0; 1 made both, 2 holds the supertag by a grant, 3 the subtag.
holds : List ℕ
holds = link_number 0 (record { 0 = 1 }) (record { 0 = 2 }) ∷ link_number 256 (record { 0 = 1 }) (record { 0 = 3 }) ∷ []

case-7-above : authoritative [] holds 2 (Subtag (tag 1 1) (tag 0 1)) (person 2) ≡ true
unfolding leads person tag holds acts_for_some any_below links_from
case-7-above = refl

case-7-below : authoritative [] holds 2 (Supertag (tag 0 1)) (person 3) ≡ false
unfolding leads person tag holds acts_for_some any_below links_from
case-7-below = refl
