-- What the private functions of the list test promise each other: rows of bits that hold the links of a list, 64 rows a tag.
-- Assumes nothing.
use Rattle.std.specs.Prelude.{◌≡◌, ◌&&◌, List, ℕ, ◌+◌, ◌*◌, ◌<◌, eqb, get_or}
use Rattle.numbers.specs.Below.{any_below}
use Rattle.numbers.specs.Sets.{contains}
use Rattle.link_rules.specs.LinkRules.{tag_in, from_in, to_in, at}

-- the row of a link
abbrev pub row_of : ℕ → ℕ
row_of x = tag_in x * 64 + from_in x

module _ (l : List ℕ) (n : ℕ) where
  -- every link has its row among those of so many tags
  abbrev pub Placed : ℕ → Type 0
  Placed tags = (i : ℕ) → i < n → (tag_in (at l i) < tags) × (from_in (at l i) < 64) × (to_in (at l i) < 64)

  -- number q is marked in row k exactly where one of the links says so
  abbrev pub Marks : (ℕ → ℕ) → (ℕ → ℕ) → List ℕ → Type 0
  Marks key mark rows = (k q : ℕ) → contains (get_or rows k 0) q ≡ any_below n (λ j. eqb (key (at l j)) k && eqb (mark (at l j)) q)

  -- the rows hold the links, and the starts their near ends
  abbrev pub Filled : List ℕ → List ℕ → Type 0
  Filled rows starts = Marks row_of to_in rows × Marks tag_in from_in starts
