-- What is read and written of a memory in place: its numbers, and what a question leaves to write. Assumes nothing.
use Rattle.std.specs.Prelude.{Bool, true, false, cond, List, ℕ, ◌+◌, ◌-◌, ltb, length, replicate, Option, Some, None}
use Rattle.numbers.specs.Numbers.{one_more, most_remembered}
use Rattle.memory.specs.declared.Memory.{Memory}
use Rattle.memory.specs.declared.Tally.{Tally}
use Rattle.memory.specs.declared.PairChange.{PairChange}
use Rattle.memory.specs.declared.PairChange.TheVariants.{Keep, Front, Clear}
use Rattle.memory.specs.declared.Note.{Note}
use Rattle.memory.specs.declared.Verdict.{Verdict}
use Rattle.memory.specs.Remembered.{slid}

-- the numbers of a memory beside its pairs
abbrev pub tally_of : Memory → Tally
tally_of m = record { size = m.size; held = m.held; questions = m.questions; hits = m.hits }

-- the pairs p after a change of them: as they are, with x brought to the front from place k, or cleared; from a place past the last
-- none is brought
unfoldable pub renewed : PairChange → List ℕ → List ℕ
renewed Keep p = p
renewed (Front k x) p = cond (ltb k (length p)) (slid k x p) p
renewed Clear p = replicate 64 0

-- the memory m once n is written into it
abbrev pub noted : Memory → Note → Memory
noted m n = record { size = m.size; held = n.held; pairs = renewed n.pairs m.pairs; questions = n.questions; hits = n.hits }

-- all pairs are cleared instead
abbrev pub wiped : Note → Note
wiped n = record { held = 0; questions = n.questions; hits = n.hits; pairs = Clear }

-- ---- what a question leaves to write, in a memory of these numbers

module _ (t : Tally) where
  -- nothing
  abbrev pub as_is : Note
  as_is = record { held = t.held; questions = t.questions; hits = t.hits; pairs = Keep }

  -- the question counted: so many pairs are held then, with so many hits, and this becomes of the pairs
  abbrev pub counting : ℕ → ℕ → PairChange → Note
  counting held hits c = record { held = held; questions = one_more t.questions; hits = hits; pairs = c }

  -- "On yes the pair goes to the front and anything beyond M falls off": from its own place, where it is held, and then it is a hit;
  -- else from behind the last pair, or from the last one's place
  abbrev pub brought : Option ℕ → ℕ → Note
  brought (Some k) x = counting t.held (one_more t.hits) (Front k x)
  brought None x =
      cond (ltb t.held t.size) (counting (t.held + 1) t.hits (Front t.held x))
      (cond (ltb t.held 1) (counting t.held t.hits Keep)
      (counting t.held t.hits (Front (t.held - 1) x)))

  -- of the pair that is held at a place, or at none, where the walk would answer so; "on no the memory stays"
  abbrev pub judged_at : Option ℕ → ℕ → Bool → Verdict
  judged_at (Some k) x walk = record { yes = true; note = brought (Some k) x }
  judged_at None x walk =
      cond walk (record { yes = true; note = brought None x })
      (record { yes = false; note = counting t.held t.hits Keep })

-- a place of the memory; past the last no pair is held
abbrev pub among_places : Option ℕ → Option ℕ
among_places (Some k) = cond (ltb k most_remembered) (Some k) None
among_places None = None

-- of any place: one past the last is none
abbrev pub judged : Tally → Option ℕ → ℕ → Bool → Verdict
judged t k x walk = judged_at t (among_places k) x walk
