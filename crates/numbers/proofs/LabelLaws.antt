-- The laws of labels that every crate above cites: which tags each operation leaves, and `within` and `names_only_made` in the words
-- of sets. Nobody above unfolds the definitions. Assumes nothing.
use mathlib.Core.Path.{◌≡◌, refl, sym, ap, ◌∙◌, subst}
use mathlib.Core.Bool.{Bool, true, false, not, ◌&&◌, ◌||◌}
use mathlib.Core.Logic.{◌↔◌}
use Prim.Native.Nat.{ℕ, ◌%◌, ◌^◌, ◌≤◌, ◌<◌}
use native.Mathlib.Nat.{mod-lt, lt_of_lt_of_le, lt_of_le_of_lt, mod-le}
use native.Mathlib.Omega.{arith}
use borrow.Author.Tests.{eqb-true, eq-eqb, ltb-true, ltb-false, lt-ltb}
use lib.Dec.{eqb, ltb}
use lib.Pow.{pow_pos, pow_mono}
use Rattle.numbers.specs.declared.Tag.{Tag}
use Rattle.numbers.specs.declared.labels.Label.{Label}
use Rattle.numbers.specs.Sets.{contains}
use Rattle.numbers.specs.Labels.{member, label_of, is_empty, same_as, within, with_tag, without_tag, union, names_only_made}
use Rattle.numbers.proofs.Bools.{and_left, or_left, or_right, or_elim, implies, implied, both_ways, never}
use Rattle.numbers.proofs.Below.{all-each, each_all}
use Rattle.numbers.proofs.Sets.{contains-above, contains-mod, same-members, contains-set_of, set_of-lt}

-- what the code knows of every label: it is one 64-bit number
abbrev pub Is64Bit : Label → Type 0
Is64Bit l = l.0 < 2 ^ 64

-- ---- extensionality

-- two labels with the same tags are the same label
pub same-tags : (a b : Label) → Is64Bit a → Is64Bit b → ((n : ℕ) → n < 64 → member a n ≡ member b n) → a ≡ b
same-tags a b ha hb e = ap (λ (x : ℕ). record { 0 = x }) (same-members 64 a.0 b.0 ha hb e)

pub same_as-is : (a b : Label) → (same_as a b ≡ true) ↔ (a ≡ b)
same_as-is a b = (λ e. ap (λ (x : ℕ). record { 0 = x }) (eqb-true a.0 b.0 e), λ e. eq-eqb a.0 b.0 (ap (λ (l : Label). l.0) e))

-- ---- the tags of each result

pub label_of-fits : (f : ℕ → Bool) → Is64Bit (label_of f)
label_of-fits f = set_of-lt 64 f

pub member-label_of : (f : ℕ → Bool) (n : ℕ) → n < 64 → member (label_of f) n ≡ f n
member-label_of f n h = contains-set_of 64 f n h

-- no label has a tag of 64 or more
pub member-above : (l : Label) → Is64Bit l → (n : ℕ) → 64 ≤ n → member l n ≡ false
member-above l fits n h = contains-above l.0 n (lt_of_lt_of_le fits (pow_mono h))

pub member-with : (l : Label) (t : Tag) (n : ℕ) → n < 64 → member (with_tag l t) n ≡ (member l n || eqb n t.0)
unfolding with_tag
member-with l t n h = member-label_of (λ m. member l m || eqb m t.0) n h

pub member-without : (l : Label) (t : Tag) (n : ℕ) → n < 64 → member (without_tag l t) n ≡ (member l n && not (eqb n t.0))
unfolding without_tag
member-without l t n h = member-label_of (λ m. member l m && not (eqb m t.0)) n h

pub member_union : (a b : Label) (n : ℕ) → n < 64 → member (union a b) n ≡ (member a n || member b n)
unfolding union
member_union a b n h = member-label_of (λ m. member a m || member b m) n h

pub member-empty : (l : Label) → is_empty l ≡ true → (n : ℕ) → member l n ≡ false
member-empty l e n = contains-above l.0 n (subst (λ (x : ℕ). x < 2 ^ n) (sym (eqb-true l.0 0 e)) (pow_pos n))

-- a label is empty exactly where it has no tag
pub empty-is : (l : Label) → Is64Bit l → (is_empty l ≡ true) ↔ ((n : ℕ) → n < 64 → member l n ≡ false)
empty-is l fits = (
  λ e n h. member-empty l e n,
  λ f. eq-eqb l.0 0 (same-members 64 l.0 0 fits (pow_pos 64) (λ n h. f n h ∙ sym (contains-above 0 n (pow_pos n)))),
)

-- ---- within

pub within-is : (a b : Label) → (within a b ≡ true) ↔ ((n : ℕ) → n < 64 → member a n ≡ true → member b n ≡ true)
unfolding within
within-is a b = (
  λ e n h. implies (member a n) (member b n) (all-each 64 (λ m. not (member a m) || member b m) e n h),
  λ f. each_all 64 (λ m. not (member a m) || member b m) (λ n h. implied (member a n) (member b n) (f n h)),
)

pub within-refl : (a : Label) → within a a ≡ true
within-refl a = (within-is a a).1 (λ n h m. m)

pub within-trans : (a b c : Label) → within a b ≡ true → within b c ≡ true → within a c ≡ true
within-trans a b c p q = (within-is a c).1 (λ n h m. (within-is b c).0 q n h ((within-is a b).0 p n h m))

pub within-antisym : (a b : Label) → Is64Bit a → Is64Bit b → within a b ≡ true → within b a ≡ true → a ≡ b
within-antisym a b ha hb p q =
    same-tags a b ha hb (λ n h. both_ways (member a n) (member b n) ((within-is a b).0 p n h) ((within-is b a).0 q n h))

pub without-within : (l : Label) (t : Tag) → within (without_tag l t) l ≡ true
without-within l t =
    (within-is (without_tag l t) l).1 (λ n h m. and_left (member l n) (not (eqb n t.0)) (sym (member-without l t n h) ∙ m))

-- ---- union: the least label that both lie within

pub union_left : (a b : Label) → within a (union a b) ≡ true
union_left a b = (within-is a (union a b)).1 (λ n h m. member_union a b n h ∙ or_left (member a n) (member b n) m)

pub union_right : (a b : Label) → within b (union a b) ≡ true
union_right a b = (within-is b (union a b)).1 (λ n h m. member_union a b n h ∙ or_right (member a n) (member b n) m)

pub union-least : (a b c : Label) → within a c ≡ true → within b c ≡ true → within (union a b) c ≡ true
union-least a b c p q =
    (within-is (union a b) c).1
    (λ n h m. or_elim (member a n) (member b n) (member c n) (sym (member_union a b n h) ∙ m) ((within-is a c).0 p n h) ((within-is b c).0 q n h))

-- ---- made tags

pub made-is : (l : Label) (count : ℕ) → (names_only_made l count ≡ true) ↔ ((n : ℕ) → n < 64 → member l n ≡ true → n < count)
unfolding names_only_made
made-is l count = (
  λ e n h m. ltb-true n count (implies (member l n) (ltb n count) (all-each 64 (λ i. not (member l i) || ltb i count) e n h) m),
  λ f. each_all 64 (λ i. not (member l i) || ltb i count) (λ n h. implied (member l n) (ltb n count) (λ m. lt-ltb n count (f n h m))),
)

-- a label's tags are all below count exactly where the label is below 2 ^ count; from 64 on that says nothing
pub made-below : (l : Label) (count : ℕ) → Is64Bit l → names_only_made l count ≡ ltb l.0 (2 ^ count)
made-below l count fits = both_ways (names_only_made l count) (ltb l.0 (2 ^ count)) there back
  where
    -- the tags from count on are none, so the label is its own remainder
    tag : names_only_made l count ≡ true → (n : ℕ) → n < 64 → (p : Bool) → ltb n count ≡ p → (q : Bool) → member l n ≡ q → member l n ≡ contains (l.0 % 2 ^ count) n
    tag e n h true g q m = sym (contains-mod l.0 count n (ltb-true n count g))
    tag e n h false g true m = let low : n < count = (made-is l count).0 e n h m in let high : count ≤ n = ltb-false n count g in absurd (omega arith)
    tag e n h false g false m = m ∙ sym (contains-above (l.0 % 2 ^ count) n (lt_of_lt_of_le (mod-lt l.0 (pow_pos count)) (pow_mono (ltb-false n count g))))

    there : names_only_made l count ≡ true → ltb l.0 (2 ^ count) ≡ true
    there e =
        let itself : l.0 ≡ l.0 % 2 ^ count =
        same-members 64 l.0 (l.0 % 2 ^ count) fits (lt_of_le_of_lt (mod-le l.0 (2 ^ count)) fits) (λ n h. tag e n h (ltb n count) refl (member l n) refl) in
        lt-ltb l.0 (2 ^ count) (subst (λ (x : ℕ). x < 2 ^ count) (sym itself) (mod-lt l.0 (pow_pos count)))

    below : ltb l.0 (2 ^ count) ≡ true → (n : ℕ) → member l n ≡ true → (p : Bool) → ltb n count ≡ p → n < count
    below e n m true g = ltb-true n count g
    below e n m false g =
        absurd (never m (contains-above l.0 n (lt_of_lt_of_le (ltb-true l.0 (2 ^ count) e) (pow_mono (ltb-false n count g)))))

    back : ltb l.0 (2 ^ count) ≡ true → names_only_made l count ≡ true
    back e = (made-is l count).1 (λ n h m. below e n m (ltb n count) refl)

pub made_all : (l : Label) (count : ℕ) → 64 ≤ count → names_only_made l count ≡ true
made_all l count h = (made-is l count).1 (λ n g m. omega arith)

pub made_more : (l : Label) (j k : ℕ) → j ≤ k → names_only_made l j ≡ true → names_only_made l k ≡ true
made_more l j k h e = (made-is l k).1 (λ n g m. let low : n < j = (made-is l j).0 e n g m in omega arith)

pub made-within : (a b : Label) (count : ℕ) → within a b ≡ true → names_only_made b count ≡ true → names_only_made a count ≡ true
made-within a b count p e = (made-is a count).1 (λ n h m. (made-is b count).0 e n h ((within-is a b).0 p n h m))

pub made-with : (l : Label) (t : Tag) (count : ℕ) → t.0 < count → names_only_made l count ≡ true → names_only_made (with_tag l t) count ≡ true
made-with l t count h e =
    (made-is (with_tag l t) count).1
    (λ n g m.
    ltb-true n count
    (or_elim (member l n) (eqb n t.0) (ltb n count) (sym (member-with l t n g) ∙ m)
    (λ own. lt-ltb n count ((made-is l count).0 e n g own))
    (λ new. lt-ltb n count (subst (λ (x : ℕ). x < count) (sym (eqb-true n t.0 new)) h))))
