-- What the two functions of the walk promise each other. A set of principals is one number (`contains`). Assumes nothing.
use Rattle.std.specs.Prelude.{◌≡◌, true, false, ◌&&◌, List, ◌⊎◌, ℕ, length, get_or}
use Rattle.numbers.specs.Below.{any_below}
use Rattle.numbers.specs.Sets.{contains, set_of}
use Rattle.links.specs.Paths.{Link, joins, Path, leads}

-- all of s is in r
abbrev pub Within : ℕ → ℕ → Type 0
Within s r = (q : ℕ) → contains s q ≡ true → contains r q ≡ true

-- what is new in r was reached from one of a set
abbrev pub Sound : List Link → ℕ → ℕ → ℕ → Type 0
Sound ls set s r = (q : ℕ) → contains r q ≡ true → (contains s q ≡ true) ⊎ ((a : ℕ) × (contains set a ≡ true) × Path ls a q)

-- what is new in r has the far ends of its links in r
abbrev pub Closed : List Link → ℕ → ℕ → Type 0
Closed ls s r = (a b : ℕ) → contains s a ≡ false → contains r a ≡ true → joins ls a b ≡ true → contains r b ≡ true

-- rows of bits hold these links: bit q of row p for the link from p to q
pub record Rows (ls : List Link) (rows : List ℕ) : Type 0 where
  pub size : length rows ≡ 64
  pub bits : (p q : ℕ) → contains (get_or rows p 0) q ≡ joins ls p q

-- r is what is seen after each of a set was visited, where s was seen before
pub record Met (rows : List ℕ) (set s r : ℕ) : Type 0 where
  pub kept : Within s r
  pub there : Within set r
  pub sound : (ls : List Link) → Rows ls rows → Sound ls set s r
  pub closed : (ls : List Link) → Rows ls rows → Closed ls s r

-- what paths lead to from p, a set of principals
unfoldable pub led_to : List Link → ℕ → ℕ
led_to ls p = set_of 64 (leads ls p)

-- what paths lead to from some principal of s
unfoldable pub led_to_from : List Link → ℕ → ℕ
led_to_from ls s = set_of 64 (λ q. any_below 64 (λ p. contains s p && leads ls p q))
