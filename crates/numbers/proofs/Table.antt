-- A table's rule, shown at once: the table is the list of the rule's values, which antt computes entry by entry, and one law reads the
-- rule at each place off that list. The entries are of any type. Assumes nothing.
use mathlib.Core.Path.{◌≡◌, ap, ◌∙◌}
use mathlib.Core.List.{List, [], ◌∷◌}
use Prim.Native.Nat.{ℕ, zero, suc, ◌+◌, ◌<◌}
use native.Mathlib.Nat.{add-zero, zero-add, add-suc, suc-add, le_of_suc-le-suc, not-suc-le-zero}
use mathlib.Core.Path.{sym}
use lib.ListN.{get_or}

module _ {A : Type 0} (f : ℕ → A) where
  -- the n values of f from i on
  abbrev pub values : ℕ → ℕ → List A
  values i zero = []
  values i (suc n) = f i ∷ values (suc i) n

  from : (n i k : ℕ) (d : A) → k < n → get_or (values i n) k d ≡ f (i + k)
  from zero i k d h = absurd (not-suc-le-zero h)
  from (suc n) i zero d h = ap f (sym (add-zero i))
  from (suc n) i (suc k) d h = from n (suc i) k d (le_of_suc-le-suc h) ∙ ap f (suc-add i k ∙ sym (add-suc i k))

  -- what stands at place k of a table of n entries whose rule is f
  pub entry : (n k : ℕ) (d : A) → k < n → get_or (values 0 n) k d ≡ f k
  entry n k d h = from n 0 k d h ∙ ap f (zero-add k)
