-- The lent lists (01, "Things and numbers"): "Principal links (from, to) and tag links (tag, from, to): a list of link records that
-- the caller lends .. in order of acceptance". Here a record is one number: P * 256 + Q for a principal link (P, Q), and
-- (T * 256 + P) * 256 + Q for a link (T, P, Q) of a tag. Assumes nothing.
use Rattle.std.specs.Prelude.{Bool, cond, ◌&&◌, List, [], ◌∷◌, ◌++◌, ℕ, suc, ◌+◌, ◌-◌, ◌*◌, ◌/◌, ◌%◌, min, eqb, ltb, leb, length, take, drop, set}
use Rattle.numbers.specs.declared.Principal.{Principal}
use Rattle.std.specs.Prelude.{Option, Some, None, is_some}
use Rattle.links.specs.declared.lists.Graph.{Graph}
use Rattle.links.specs.declared.lists.Graph.TheVariants.{Principals, OfTag}
use Rattle.links.specs.Paths.{Link}

-- x is a link of the graph with this base, and both ends name principals
abbrev pub is_link_of : ℕ → ℕ → Bool
is_link_of base x = leb base (x / 256) && (ltb (x / 256) (base + 64) && ltb (x % 256) 64)

-- the links of a graph among these numbers, in their order
unfoldable pub links_from : ℕ → List ℕ → List Link
links_from base [] = []
links_from base (x ∷ xs) =
    cond (is_link_of base x) (record { from = x / 256 - base; to = x % 256 } ∷ links_from base xs) (links_from base xs)

-- where a graph's numbers start
abbrev pub base_of : Graph → ℕ
base_of Principals = 0
base_of (OfTag t) = t.0 * 256

-- the links of a graph in a list of which the first n places are in use
abbrev pub links_in : List ℕ → ℕ → Graph → List Link
links_in l n g = links_from (base_of g) (take n l)

-- the number of a link
abbrev pub link_number : ℕ → Principal → Principal → ℕ
link_number base p q = (base + p.0) * 256 + q.0

-- the first place of x, counted from i
unfoldable pub find_from : ℕ → List ℕ → ℕ → Option ℕ
find_from i [] x = None
find_from i (y ∷ ys) x = cond (eqb y x) (Some i) (find_from (suc i) ys x)

-- the first place of x
abbrev pub find_in : List ℕ → ℕ → Option ℕ
find_in ys x = find_from 0 ys x

-- x stands among the first n places
abbrev pub stands : List ℕ → ℕ → ℕ → Bool
stands l n x = is_some (find_in (take n l) x)

-- "in order of acceptance": x at place n, where there is one
abbrev pub appended : {A : Type 0} → List A → ℕ → A → List A
appended l n x = cond (ltb n (length l)) (set l n x) l

-- "A removal closes the gap": of the first n places, the one at i is gone, and the last becomes zero, which is z
unfoldable pub gap_closed : {A : Type 0} → A → List A → ℕ → ℕ → List A
gap_closed z l n i = cond (ltb i (min n (length l))) (take i l ++ (drop (suc i) (take n l) ++ (z ∷ drop n l))) l

abbrev pub removed : List ℕ → ℕ → ℕ → List ℕ
removed l n i = gap_closed 0 l n i
