-- The rules of 9 that speak of the remembered answers (01, "Refusal numbers"), but for their truth. Assumes nothing.
use Rattle.std.specs.Prelude.{Bool, ◌&&◌, List, ℕ, ◌/◌, ◌%◌, ◌-◌, ltb, leb, get_or}
use Rattle.numbers.specs.Below.{all_below}
use Rattle.numbers.specs.Numbers.{most_remembered}
use Rattle.link_rules.specs.LinkRules.{none_doubled}
use Rattle.store.specs.Store.{zeros}
use Rattle.memory.specs.declared.Memory.{Memory}

-- "an unmade number": neither half of the pair is one
abbrev pub pair_made : ℕ → ℕ → ℕ → Bool
pair_made tags principals x = ltb (x / 256) principals && ltb (x % 256) tags

unfoldable pub pairs_made : List ℕ → ℕ → ℕ → ℕ → Bool
pairs_made l n tags principals = all_below n (λ i. pair_made tags principals (get_or l i 0))

-- "over 64 or over-size memory"
abbrev pub size_holds : ℕ → ℕ → Bool
size_holds size held = leb size most_remembered && leb held size

-- with "nonzero unused place" and "a remembered pair doubled"
abbrev pub pairs_hold : List ℕ → ℕ → ℕ → ℕ → Bool
pairs_hold l n tags principals = pairs_made l n tags principals && (zeros l n (most_remembered - n) && none_doubled l n)

-- all of them, with "hits above questions"
abbrev pub memory_holds : Memory → ℕ → ℕ → Bool
memory_holds m tags principals =
    size_holds m.size m.held && (pairs_hold m.pairs m.held tags principals && leb m.hits m.questions)
