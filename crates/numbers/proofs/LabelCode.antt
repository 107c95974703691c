-- What each operation of the code leaves, as the definitions say it: `a | b` is the union, `a & b == a` is within, and so on.
-- Each is shown by its tags. Assumes nothing.
use mathlib.Core.Path.{◌≡◌, refl, sym, ap, ap₂, ◌∙◌, subst}
use mathlib.Core.Bool.{Bool, true, false, cond, not, ◌&&◌, ◌||◌, or-false, and-true}
use Prim.Native.Nat.{ℕ, zero, suc, ◌+◌, ◌-◌, ◌*◌, ◌/◌, ◌%◌, ◌^◌, ◌≤◌, ◌<◌}
use native.Mathlib.Nat.{mod-lt, mod-eq_of_lt, div-eq_of_lt, lt_of_le_of_lt}
use native.Mathlib.Numerals.{one-add}
use native.Mathlib.Omega.{arith}
use borrow.Author.Tests.{eqb-true, eq-eqb, ne_eqb, ltb-true, lt-ltb}
use lib.Dec.{eqb, ltb, lit<}
use lib.Arith.{lt-one}
use lib.Bits.{bit_and, bit_or, and_le_l, or_lt}
use lib.Count.{ones, ones_cat}
use lib.Pow.{pow_pos, pow-lt, split, shr_lt}
use Rattle.numbers.specs.declared.Tag.{Tag}
use Rattle.numbers.specs.declared.labels.Label.{Label}
use Rattle.numbers.specs.Below.{count_below}
use Rattle.numbers.specs.Sets.{contains}
use Rattle.numbers.specs.Labels.{member, label_of, within, with_tag, without_tag, union, names_only_made, size}
use Rattle.numbers.proofs.Bools.{and_right, both_ways}
use Rattle.numbers.proofs.Below.{count_same}
use Rattle.numbers.proofs.Sets.{shr_zero, digit, one_shl, contains-add, contains-and, contains-or, contains-not, contains-one, contains-mod, same-members, is-set_of}
use Rattle.numbers.proofs.LabelLaws.{Is64Bit, within-is, made-below}

-- a label is the one that f picks if it has those tags
is-label_of : (x : ℕ) (f : ℕ → Bool) → x < 2 ^ 64 → ((n : ℕ) → n < 64 → contains x n ≡ f n) → record { 0 = x } ≡ label_of f
is-label_of x f h e = ap (λ (y : ℕ). record { 0 = y }) (is-set_of 64 x f h e)

module _ (l : Label) (t : Tag) (fits : Is64Bit l) where
  pub or-with : t.0 < 64 → record { 0 = bit_or l.0 ((1 * 2 ^ t.0) % 2 ^ 64) } ≡ with_tag l t
  unfolding with_tag
  or-with h =
      is-label_of (bit_or l.0 ((1 * 2 ^ t.0) % 2 ^ 64)) (λ n. member l n || eqb n t.0)
      (or_lt 64 l.0 ((1 * 2 ^ t.0) % 2 ^ 64) fits (mod-lt (1 * 2 ^ t.0) (pow_pos 64))) (λ n g. contains-add l.0 t.0 h n)

  pub with-above : 64 ≤ t.0 → l ≡ with_tag l t
  unfolding with_tag
  with-above h =
      is-label_of l.0 (λ n. member l n || eqb n t.0) fits
      (λ n g. sym (ap (λ (p : Bool). member l n || p) (ne_eqb n t.0 (λ e. omega arith)) ∙ or-false (member l n)))

  pub and-without : t.0 < 64 → record { 0 = bit_and l.0 ((2 ^ 64 - 1) - (1 * 2 ^ t.0) % 2 ^ 64) } ≡ without_tag l t
  unfolding without_tag
  and-without h =
      ap (λ (w : ℕ). record { 0 = bit_and l.0 ((2 ^ 64 - 1) - w) }) (one_shl t.0 h)
      ∙ is-label_of (bit_and l.0 ((2 ^ 64 - 1) - 2 ^ t.0)) (λ n. member l n && not (eqb n t.0)) (lt_of_le_of_lt (and_le_l l.0 ((2 ^ 64 - 1) - 2 ^ t.0)) fits)
      (λ n g. contains-and l.0 ((2 ^ 64 - 1) - 2 ^ t.0) n
      ∙ ap (λ (p : Bool). member l n && p) (contains-not 64 (2 ^ t.0) n (pow-lt h) g ∙ ap not (contains-one t.0 n)))

  pub without-above : 64 ≤ t.0 → l ≡ without_tag l t
  unfolding without_tag
  without-above h =
      is-label_of l.0 (λ n. member l n && not (eqb n t.0)) fits
      (λ n g. sym (ap (λ (p : Bool). member l n && not p) (ne_eqb n t.0 (λ e. omega arith)) ∙ and-true (member l n)))

pub or-union : (a b : Label) → Is64Bit a → Is64Bit b → record { 0 = bit_or a.0 b.0 } ≡ union a b
unfolding union
or-union a b ha hb = is-label_of (bit_or a.0 b.0) (λ n. member a n || member b n) (or_lt 64 a.0 b.0 ha hb) (λ n h. contains-or a.0 b.0 n)

absorb : (p q : Bool) → (p ≡ true → q ≡ true) → (p && q) ≡ p
absorb true q f = f refl
absorb false q f = refl

pub and-within : (a b : Label) → Is64Bit a → eqb (bit_and a.0 b.0) a.0 ≡ within a b
and-within a b ha = both_ways (eqb (bit_and a.0 b.0) a.0) (within a b) there back
  where
    there : eqb (bit_and a.0 b.0) a.0 ≡ true → within a b ≡ true
    there e =
        (within-is a b).1
        (λ n h m. and_right (member a n) (member b n) (sym (contains-and a.0 b.0 n) ∙ ap (λ (x : ℕ). contains x n) (eqb-true (bit_and a.0 b.0) a.0 e) ∙ m))

    back : within a b ≡ true → eqb (bit_and a.0 b.0) a.0 ≡ true
    back e =
        eq-eqb (bit_and a.0 b.0) a.0
        (same-members 64 (bit_and a.0 b.0) a.0 (lt_of_le_of_lt (and_le_l a.0 b.0) ha) ha
        (λ n h. contains-and a.0 b.0 n ∙ absorb (member a n) (member b n) ((within-is a b).0 e n h)))

pub shr-made : (l : Label) (count : ℕ) → Is64Bit l → eqb (l.0 / 2 ^ count) 0 ≡ names_only_made l count
shr-made l count fits = both_ways (eqb (l.0 / 2 ^ count) 0) (ltb l.0 (2 ^ count)) there back ∙ sym (made-below l count fits)
  where
    there : eqb (l.0 / 2 ^ count) 0 ≡ true → ltb l.0 (2 ^ count) ≡ true
    there e = lt-ltb l.0 (2 ^ count) (shr_zero l.0 count (eqb-true (l.0 / 2 ^ count) 0 e))

    back : ltb l.0 (2 ^ count) ≡ true → eqb (l.0 / 2 ^ count) 0 ≡ true
    back e = eq-eqb (l.0 / 2 ^ count) 0 (div-eq_of_lt (ltb-true l.0 (2 ^ count) e))

-- a binary digit as a truth value, and as the number of its ones
digit-is : (x : ℕ) → x % 2 ≡ cond (eqb (x % 2) 1) 1 0
digit-is x = digit (λ y. y ≡ cond (eqb y 1) 1 0) refl refl (x % 2) (mod-lt x (lit< tt))

ones-digit : (x : ℕ) → x < 2 → ones x ≡ x
unfolding ones
ones-digit x h = digit (λ y. ones y ≡ y) refl refl x h

ones-count : (k x : ℕ) → x < 2 ^ k → ones x ≡ count_below k (contains x)
unfolding count_below ones
ones-count zero x h = ap ones (lt-one h)
ones-count (suc k) x h =
    let top : x / 2 ^ k < 2 = shr_lt 1 k (subst (λ (m : ℕ). x < 2 ^ m) (sym (one-add k)) h) in
    let digit : ones (x / 2 ^ k) ≡ cond (contains x k) 1 0 = ones-digit (x / 2 ^ k) top ∙ sym (mod-eq_of_lt top) ∙ digit-is (x / 2 ^ k) in
    ap ones (sym (split x k)) ∙ ones_cat k (x / 2 ^ k) (x % 2 ^ k) (mod-lt x (pow_pos k))
    ∙ ap₂ (λ (a b : ℕ). a + b) digit
    (ones-count k (x % 2 ^ k) (mod-lt x (pow_pos k)) ∙ count_same k (contains (x % 2 ^ k)) (contains x) (λ n g. contains-mod x k n g))

pub ones-size : (l : Label) → Is64Bit l → ones l.0 ≡ size l
unfolding size
ones-size l fits = ones-count 64 l.0 fits
