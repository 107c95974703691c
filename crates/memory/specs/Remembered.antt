-- "Remembered answers" (01). Assumes nothing.
use Rattle.std.specs.Prelude.{Bool, true, false, cond, List, [], ◌∷◌, ◌++◌, ℕ, suc, ◌+◌, ◌*◌, ◌≤◌, eqb, length, take, drop, replicate}
use Rattle.numbers.specs.declared.Principal.{Principal}
use Rattle.numbers.specs.declared.Tag.{Tag}
use Rattle.numbers.specs.Numbers.{one_more, most_remembered}
use Rattle.links.specs.Links.{stands}
use Rattle.memory.specs.declared.Memory.{Memory}

-- a pair (principal, tag) as one number
abbrev pub pair_of : Principal → Tag → ℕ
pair_of p t = p.0 * 256 + t.0

-- "Memory holds at most M pairs": the rules of 9 that the functions here rely on
pub record Fits (m : Memory) : Type 0 where
  pub within : m.held ≤ m.size
  pub small : m.size ≤ most_remembered

-- the pairs held, "latest first"
abbrev pub held_pairs : Memory → List ℕ
held_pairs m = take m.held m.pairs

-- the pair is held
abbrev pub holds : Memory → ℕ → Bool
holds m x = stands m.pairs m.held x

-- the list without its first x
unfoldable pub without : ℕ → List ℕ → List ℕ
without x [] = []
without x (y ∷ l) = cond (eqb y x) l (y ∷ without x l)

-- m with these pairs held
abbrev pub holding : Memory → List ℕ → Memory
holding m l = record { size = m.size; held = length l; pairs = l ++ drop (length l) m.pairs; questions = m.questions; hits = m.hits }

-- "the pair goes to the front and anything beyond M falls off"
unfoldable pub remembered : Memory → ℕ → Memory
remembered m x = holding m (take m.size (x ∷ without x (held_pairs m)))

-- no pair is held; the size and the counters stay
abbrev pub emptied : Memory → Memory
emptied m = record { size = m.size; held = 0; pairs = replicate 64 0; questions = m.questions; hits = m.hits }

-- a question is counted, and where the pair is held a hit too
abbrev pub counted : Memory → Bool → Memory
counted m held =
    record { size = m.size; held = m.held; pairs = m.pairs; questions = one_more m.questions; hits = cond held (one_more m.hits) m.hits }

-- what a question gives: the yes or no, and the memory after it
pub record Asked : Type 0 where
  pub yes : Bool
  pub memory : Memory

-- a question about the pair x, where the walk would answer so: "If the pair is held it is a hit, and the yes is the memory's,
-- with no walk; otherwise the walk answers .. On yes the pair goes to the front ..; on no the memory stays."
abbrev pub answered : Memory → ℕ → Bool → Asked
answered m x walk =
    cond (holds m x) (record { yes = true; memory = remembered (counted m true) x })
    (cond walk (record { yes = true; memory = remembered (counted m false) x })
    (record { yes = false; memory = counted m false }))

-- ---- how a pair comes to the front

-- the first k places moved on by one, and x before them
abbrev pub slid : ℕ → ℕ → List ℕ → List ℕ
slid k x p = x ∷ (take k p ++ drop (suc k) p)
