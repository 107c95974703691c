-- Links as rows of bits: "bit Q of row P for the link P to Q". The 64 rows of a graph stand in a list from a place on.
-- Assumes nothing.
use Rattle.std.specs.Prelude.{◌≡◌, true, cond, List, [], ◌∷◌, ◌++◌, ℕ, zero, suc, ◌+◌, ◌≤◌, ◌<◌, get_or}
use Rattle.numbers.specs.Sets.{contains}
use Rattle.links.specs.Paths.{Link}

-- the row of p, where the rows start at a
abbrev pub row : List ℕ → ℕ → ℕ → ℕ
row rows a p = get_or rows (a + p) 0

-- the links from p to those below k that are in its row
unfoldable pub links_to : ℕ → ℕ → ℕ → List Link
links_to p bits zero = []
links_to p bits (suc k) = cond (contains bits k) (record { from = p; to = k } ∷ links_to p bits k) (links_to p bits k)

-- the links of the first k rows
unfoldable pub links_up_to : List ℕ → ℕ → ℕ → List Link
links_up_to rows a zero = []
links_up_to rows a (suc k) = links_to k (row rows a k) 64 ++ links_up_to rows a k

-- the links of the 64 rows
abbrev pub row_links : List ℕ → ℕ → List Link
row_links rows a = links_up_to rows a 64

-- s has everyone whose row is not empty
abbrev pub Leaving : List ℕ → ℕ → ℕ → Type 0
Leaving rows a s = (p q : ℕ) → p < 64 → contains (row rows a p) q ≡ true → contains s p ≡ true

-- ---- what the stripping of principals that lead nowhere promises

-- who is in s has a link to one in s: one can go on for ever
abbrev pub Endless : List ℕ → ℕ → ℕ → Type 0
Endless rows a s = (p : ℕ) → contains s p ≡ true → (q : ℕ) × (contains (row rows a p) q ≡ true) × (contains s q ≡ true)

-- every endless set of principals within s is within r
abbrev pub KeepsEndless : List ℕ → ℕ → ℕ → ℕ → Type 0
KeepsEndless rows a s r =
    (u : ℕ) → Endless rows a u → ((p : ℕ) → contains u p ≡ true → contains s p ≡ true) → (p : ℕ) → contains u p ≡ true → contains r p ≡ true

-- r is what one pass leaves of s: no more, all that is endless, and the whole only where that is endless
pub record Swept (rows : List ℕ) (a s r : ℕ) : Type 0 where
  pub fewer : r ≤ s
  pub kept : KeepsEndless rows a s r
  pub calm : r ≡ s → Endless rows a s

-- r is what no pass takes anything from any more: the largest endless set within s
pub record Stripped (rows : List ℕ) (a s r : ℕ) : Type 0 where
  pub endless : Endless rows a r
  pub kept : KeepsEndless rows a s r
