-- A label: "a set of tags, one 64-bit number per label; tag n has weight 2^n" (01, "Things and numbers").
-- Each operation is given by the tags of its result, numbers below 64. Assumes nothing.
use Rattle.std.specs.Prelude.{Bool, not, ◌&&◌, ◌||◌, ℕ, eqb, ltb}
use Rattle.numbers.specs.declared.Tag.{Tag}
use Rattle.numbers.specs.declared.labels.Label.{Label}
use Rattle.numbers.specs.Below.{all_below, count_below}
use Rattle.numbers.specs.Sets.{contains, set_of}

-- tag number n is in l
abbrev pub member : Label → ℕ → Bool
member l n = contains l.0 n

-- the label of those tags that f picks
abbrev pub label_of : (ℕ → Bool) → Label
label_of f = record { 0 = set_of 64 f }

-- t is in l
abbrev pub has : Label → Tag → Bool
has l t = member l t.0

-- l has no tag
abbrev pub is_empty : Label → Bool
is_empty l = eqb l.0 0

-- a and b are the same label
abbrev pub same_as : Label → Label → Bool
same_as a b = eqb a.0 b.0

-- every tag of a is in b
unfoldable pub within : Label → Label → Bool
within a b = all_below 64 (λ n. not (member a n) || member b n)

-- the tags of l, and t
unfoldable pub with_tag : Label → Tag → Label
with_tag l t = label_of (λ n. member l n || eqb n t.0)

-- the tags of l that are not t
unfoldable pub without_tag : Label → Tag → Label
without_tag l t = label_of (λ n. member l n && not (eqb n t.0))

-- the tags of a, and those of b
unfoldable pub union : Label → Label → Label
union a b = label_of (λ n. member a n || member b n)

-- every tag of l is made, where the made ones are those below count
unfoldable pub names_only_made : Label → ℕ → Bool
names_only_made l count = all_below 64 (λ n. not (member l n) || ltb n count)

-- how many tags l has
unfoldable pub size : Label → ℕ
size l = count_below 64 (member l)
