-- Cycles (01: "a cycle" among the rules of 9; "P = Q or a path Q to P: 6"). Assumes nothing.
use Rattle.std.specs.Prelude.{◌≡◌, Bool, true, not, ◌&&◌, ◌||◌, List, [], ◌∷◌, ℕ, eqb}
use Rattle.numbers.specs.declared.Principal.{Principal}
use Rattle.links.specs.Paths.{Link, joins, Path, leads}

-- no link has a path back, from its far end to its near end
abbrev pub NoCycle : List Link → Type 0
NoCycle ls = (p q : ℕ) → joins ls p q ≡ true → Path ls q p → ⊥

-- f holds of every link
unfoldable pub every_link : (Link → Bool) → List Link → Bool
every_link f [] = true
every_link f (l ∷ ls) = f l && every_link f ls

-- the same, computed
unfoldable pub no_cycle : List Link → Bool
no_cycle ls = every_link (λ l. not (leads ls l.to l.from)) ls

-- a new link from P to Q would close one: "P = Q or a path Q to P"
abbrev pub closes_cycle : List Link → Principal → Principal → Bool
closes_cycle ls p q = eqb p.0 q.0 || leads ls q.0 p.0
