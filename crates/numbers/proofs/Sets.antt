-- Sets of numbers as one number: what the machine's operations do to the members. Assumes nothing.
use mathlib.Core.Path.{◌≡◌, refl, sym, ap, ◌∙◌, subst}
use mathlib.Core.Bool.{Bool, true, false, cond, not, ◌&&◌, ◌||◌}
use mathlib.Core.Logic.{◌⊎◌, inl, inr, ⊎_elim}
use Prim.Native.Nat.{ℕ, zero, suc, ◌+◌, ◌-◌, ◌*◌, ◌/◌, ◌%◌, ◌^◌, ◌<◌, ◌≤◌}
use native.Mathlib.Nat.{div-lt_iff_lt-mul, mod-lt, div-one, div-div-eq-div-mul, pow-succ', pow-suc, zero-div, le_of_suc-le-suc, not-suc-le-zero, mul-div_cancel, div-eq_of_lt, zero-add, one-mul, eq-or-lt_of_le, lt_of_lt_of_le, mod-eq_of_lt}
use native.Mathlib.Omega.{arith}
use borrow.Author.Tests.{eq-eqb, ne_eqb, leb-true, leb-false}
use native.Mathlib.Numerals.{one-add}
use lib.Dec.{eqb, eqb-suc-zero, eqb-zero-suc, eqb-suc-suc, lit<, leb}
use lib.Arith.{lt-one}
use lib.Pow.{pow_pos, field, mod-mod-pow, shl_exact, pow_mono, pow-lt, shr_lt}
use lib.Bits.{bit_and, bit_or, and_shr, and_mod, or_shr, or_mod, or_shifted, and_mask}
use lib.Count.{count_trailing_zeros, count_leading_zeros, under, leading_top}
use Rattle.numbers.proofs.Bools.{either}
use Rattle.numbers.specs.Sets.{contains, set_of}

-- a binary digit is 0 or 1, so what holds of both holds of it
pub digit : (P : ℕ → Type 0) → P 0 → P 1 → (x : ℕ) → x < 2 → P x
digit P p q zero h = p
digit P p q (suc zero) h = q
digit P p q (suc (suc x)) h = absurd (not-suc-le-zero (le_of_suc-le-suc (le_of_suc-le-suc h)))

digits : (P : ℕ → ℕ → Type 0) → P 0 0 → P 0 1 → P 1 0 → P 1 1 → (x y : ℕ) → P (x % 2) (y % 2)
digits P a b c d x y =
    digit (λ u. P u (y % 2)) (digit (P 0) a b (y % 2) (mod-lt y (lit< tt))) (digit (P 1) c d (y % 2) (mod-lt y (lit< tt))) (x % 2) (mod-lt x (lit< tt))

pub contains-and : (a b n : ℕ) → contains (bit_and a b) n ≡ (contains a n && contains b n)
contains-and a b n =
    ap (λ (x : ℕ). eqb x 1) (ap (λ (x : ℕ). x % 2) (and_shr a b n) ∙ and_mod (a / 2 ^ n) (b / 2 ^ n) 1)
    ∙ digits (λ x y. eqb (bit_and x y) 1 ≡ (eqb x 1 && eqb y 1)) refl refl refl refl (a / 2 ^ n) (b / 2 ^ n)

pub contains-or : (a b n : ℕ) → contains (bit_or a b) n ≡ (contains a n || contains b n)
contains-or a b n =
    ap (λ (x : ℕ). eqb x 1) (ap (λ (x : ℕ). x % 2) (or_shr a b n) ∙ or_mod (a / 2 ^ n) (b / 2 ^ n) 1)
    ∙ digits (λ x y. eqb (bit_or x y) 1 ≡ (eqb x 1 || eqb y 1)) refl refl refl refl (a / 2 ^ n) (b / 2 ^ n)

contains-zero : (a : ℕ) → contains a 0 ≡ eqb (a % 2) 1
contains-zero a = ap (λ (x : ℕ). eqb (x % 2) 1) (div-one a)

contains-suc : (a n : ℕ) → contains a (suc n) ≡ contains (a / 2) n
contains-suc a n =
    ap (λ (x : ℕ). eqb (x % 2) 1) (ap (λ (x : ℕ). a / x) (pow-succ' 2 n) ∙ sym (div-div-eq-div-mul a 2 (2 ^ n)))

same-digit : (x y : ℕ) → eqb (x % 2) 1 ≡ eqb (y % 2) 1 → x % 2 ≡ y % 2
same-digit x y = digits (λ u v. eqb u 1 ≡ eqb v 1 → u ≡ v) (λ e. refl) (λ e. cc) (λ e. cc) (λ e. refl) x y

-- sets below 2 ^ k with the same members are the same number
pub same-members : (k a b : ℕ) → a < 2 ^ k → b < 2 ^ k → ((n : ℕ) → n < k → contains a n ≡ contains b n) → a ≡ b
same-members zero a b ha hb e = lt-one ha ∙ sym (lt-one hb)
same-members (suc k) a b ha hb e =
    let low : a % 2 ≡ b % 2 = same-digit a b (sym (contains-zero a) ∙ e 0 (omega arith) ∙ contains-zero b) in
    let high : a / 2 ≡ b / 2 =
    same-members k (a / 2) (b / 2) (omega (arith, pow-suc 2 k)) (omega (arith, pow-suc 2 k))
    (λ n h. sym (contains-suc a n) ∙ e (suc n) (omega arith) ∙ contains-suc b n) in
    omega arith

-- the complement in k digits
pub contains-not : (k a n : ℕ) → a < 2 ^ k → n < k → contains ((2 ^ k - 1) - a) n ≡ not (contains a n)
contains-not zero a n ha h = absurd (not-suc-le-zero h)
contains-not (suc k) a zero ha h =
    let low : ((2 ^ suc k - 1) - a) % 2 ≡ 1 - a % 2 = omega (arith, pow-suc 2 k) in
    contains-zero ((2 ^ suc k - 1) - a) ∙ ap (λ (x : ℕ). eqb x 1) low
    ∙ digit (λ x. eqb (1 - x) 1 ≡ not (eqb x 1)) refl refl (a % 2) (mod-lt a (lit< tt)) ∙ ap not (sym (contains-zero a))
contains-not (suc k) a (suc n) ha h =
    let half : ((2 ^ suc k - 1) - a) / 2 ≡ (2 ^ k - 1) - a / 2 = omega (arith, pow-suc 2 k) in
    contains-suc ((2 ^ suc k - 1) - a) n ∙ ap (λ (x : ℕ). contains x n) half
    ∙ contains-not k (a / 2) n (omega (arith, pow-suc 2 k)) (le_of_suc-le-suc h) ∙ ap not (sym (contains-suc a n))

-- one number alone
pub contains-one : (t n : ℕ) → contains (2 ^ t) n ≡ eqb n t
contains-one zero zero = refl
contains-one zero (suc n) = contains-suc 1 n ∙ ap (λ (x : ℕ). eqb (x % 2) 1) (zero-div (2 ^ n)) ∙ sym (eqb-suc-zero n)
contains-one (suc t) zero =
    let even : 2 ^ suc t % 2 ≡ 0 = omega (arith, pow-suc 2 t) in
    contains-zero (2 ^ suc t) ∙ ap (λ (x : ℕ). eqb x 1) even ∙ sym (eqb-zero-suc t)
contains-one (suc t) (suc n) =
    contains-suc (2 ^ suc t) n ∙ ap (λ (x : ℕ). contains x n) (ap (λ (x : ℕ). x / 2) (pow-suc 2 t) ∙ mul-div_cancel (2 ^ t) (lit< tt))
    ∙ contains-one t n ∙ sym (eqb-suc-suc n t)

-- no member above
pub contains-above : (x n : ℕ) → x < 2 ^ n → contains x n ≡ false
contains-above x n h = ap (λ (y : ℕ). eqb (y % 2) 1) (div-eq_of_lt h)

-- the members below k are those of the remainder
pub contains-mod : (x k n : ℕ) → n < k → contains (x % 2 ^ k) n ≡ contains x n
contains-mod x k n h =
    let j : ℕ = k - suc n in
    let e : k ≡ (j + 1) + n = omega arith in
    ap (λ (y : ℕ). eqb y 1)
    (ap (λ (m : ℕ). x % 2 ^ m / 2 ^ n % 2) e ∙ ap (λ (y : ℕ). y % 2) (field x (j + 1) n) ∙ mod-mod-pow (x / 2 ^ n) j 1)

pub set_of-lt : (k : ℕ) (f : ℕ → Bool) → set_of k f < 2 ^ k
unfolding set_of
set_of-lt zero f = lit< tt
set_of-lt (suc k) f = pick (f k) (set_of-lt k f)
  where
    pick : (p : Bool) → set_of k f < 2 ^ k → cond p (2 ^ k) 0 + set_of k f < 2 ^ suc k
    pick true ih = omega (arith, pow-suc 2 k)
    pick false ih = omega (arith, pow-suc 2 k)

-- a number put above a set below 2 ^ k
contains-top : (k x n : ℕ) → x < 2 ^ k → contains (2 ^ k + x) n ≡ (eqb n k || contains x n)
contains-top k x n h =
    let joined : bit_or (2 ^ k) x ≡ 2 ^ k + x = subst (λ (y : ℕ). bit_or y x ≡ y + x) (one-mul (2 ^ k)) (or_shifted 1 k x h) in
    ap (λ (y : ℕ). contains y n) (sym joined) ∙ contains-or (2 ^ k) x n ∙ ap (λ (p : Bool). p || contains x n) (contains-one k n)

-- the members of `set_of k f` are those that f picks
pub contains-set_of : (k : ℕ) (f : ℕ → Bool) (n : ℕ) → n < k → contains (set_of k f) n ≡ f n
unfolding set_of
contains-set_of zero f n h = absurd (not-suc-le-zero h)
contains-set_of (suc k) f n h = pick (f k) refl (eq-or-lt_of_le (le_of_suc-le-suc h)) (contains-set_of k f n)
  where
    top : contains (2 ^ k + set_of k f) n ≡ (eqb n k || contains (set_of k f) n)
    top = contains-top k (set_of k f) n (set_of-lt k f)

    pick : (p : Bool) → f k ≡ p → (n ≡ k) ⊎ (n < k) → (n < k → contains (set_of k f) n ≡ f n) → contains (cond p (2 ^ k) 0 + set_of k f) n ≡ f n
    pick true e (inl q) ih = top ∙ ap (λ (p : Bool). p || contains (set_of k f) n) (eq-eqb n k q) ∙ sym e ∙ ap f (sym q)
    pick true e (inr l) ih = top ∙ ap (λ (p : Bool). p || contains (set_of k f) n) (ne_eqb n k (λ q. omega arith)) ∙ ih l
    pick false e (inl q) ih =
        ap (λ (x : ℕ). contains x n) (zero-add (set_of k f))
        ∙ contains-above (set_of k f) n (subst (λ (m : ℕ). set_of k f < 2 ^ m) (sym q) (set_of-lt k f)) ∙ sym e ∙ ap f (sym q)
    pick false e (inr l) ih = ap (λ (x : ℕ). contains x n) (zero-add (set_of k f)) ∙ ih l

-- so a number below 2 ^ k whose members are those that f picks is that set
pub is-set_of : (k x : ℕ) (f : ℕ → Bool) → x < 2 ^ k → ((n : ℕ) → n < k → contains x n ≡ f n) → x ≡ set_of k f
is-set_of k x f h e = same-members k x (set_of k f) h (set_of-lt k f) (λ n l. e n l ∙ sym (contains-set_of k f n l))

-- ---- the code's own words for a set x below 2 ^ 64 and a number n below 64

-- `1 << n`
pub one_shl : (n : ℕ) → n < 64 → (1 * 2 ^ n) % 2 ^ 64 ≡ 2 ^ n
one_shl n h = shl_exact 1 n 64 (lit< tt) (omega arith) ∙ one-mul (2 ^ n)

-- `(x >> n) & 1 == 1`
pub contains-test : (x n : ℕ) → eqb (bit_and (x / 2 ^ n) 1) 1 ≡ contains x n
contains-test x n = ap (λ (y : ℕ). eqb y 1) (and_mask (x / 2 ^ n) 1)

-- `(x >> n) & 1 == 0`
pub contains-test-not : (x n : ℕ) → eqb (bit_and (x / 2 ^ n) 1) 0 ≡ not (contains x n)
contains-test-not x n =
    ap (λ (y : ℕ). eqb y 0) (and_mask (x / 2 ^ n) 1) ∙ digit (λ d. eqb d 0 ≡ not (eqb d 1)) refl refl (x / 2 ^ n % 2) (mod-lt (x / 2 ^ n) (lit< tt))

-- `x | (1 << t)`
pub contains-add : (x t : ℕ) → t < 64 → (n : ℕ) → contains (bit_or x ((1 * 2 ^ t) % 2 ^ 64)) n ≡ (contains x n || eqb n t)
contains-add x t h n =
    ap (λ (w : ℕ). contains (bit_or x w) n) (one_shl t h) ∙ contains-or x (2 ^ t) n ∙ ap (λ (p : Bool). contains x n || p) (contains-one t n)

-- nothing is left above k
pub shr_zero : (x k : ℕ) → x / 2 ^ k ≡ 0 → x < 2 ^ k
shr_zero x k e = subst (λ (y : ℕ). x < y) (one-mul (2 ^ k)) ((div-lt_iff_lt-mul (pow_pos k)).0 (subst (λ (y : ℕ). y < 1) (sym e) (lit< tt)))

-- `x & !y`
pub contains-less : (x y : ℕ) → x < 2 ^ 64 → y < 2 ^ 64 → (n : ℕ) → contains (bit_and x ((2 ^ 64 - 1) - y)) n ≡ (contains x n && not (contains y n))
contains-less x y x_Fits y-fits n =
    contains-and x ((2 ^ 64 - 1) - y) n
    ∙ ⊎_elim
    (λ g.
    let out : contains x n ≡ false = contains-above x n (lt_of_lt_of_le x_Fits (pow_mono (leb-true 64 n g))) in
    ap (λ (b : Bool). b && contains ((2 ^ 64 - 1) - y) n) out ∙ sym (ap (λ (b : Bool). b && not (contains y n)) out))
    (λ g. ap (λ (b : Bool). contains x n && b) (contains-not 64 y n y-fits (leb-false 64 n g)))
    (either (leb 64 n))

-- `x & !(1 << t)`
pub contains-take : (x t : ℕ) → x < 2 ^ 64 → t < 64 → (n : ℕ) → contains (bit_and x ((2 ^ 64 - 1) - (1 * 2 ^ t) % 2 ^ 64)) n ≡ (contains x n && not (eqb n t))
contains-take x t fits h n =
    ap (λ (w : ℕ). contains (bit_and x ((2 ^ 64 - 1) - w)) n) (one_shl t h) ∙ contains-less x (2 ^ t) fits (pow-lt h) n
    ∙ ap (λ (b : Bool). contains x n && not b) (contains-one t n)

-- ---- a member of a set that is not empty

-- its lowest: `u64::trailing_zeros(x)`
pub lowest : (k x : ℕ) → x < 2 ^ k → 0 < x → (count_trailing_zeros k x < k) × (contains x (count_trailing_zeros k x) ≡ true)
unfolding count_trailing_zeros
lowest zero x h g = absurd (omega arith)
lowest (suc k) x h g =
    digit (λ d. x % 2 ≡ d → (under d (count_trailing_zeros k (x / 2)) < suc k) × (contains x (under d (count_trailing_zeros k (x / 2))) ≡ true))
    (λ e.
    let half = lowest k (x / 2) (omega (arith, pow-suc 2 k)) (omega arith) in
    (omega (arith, half.0), contains-suc x (count_trailing_zeros k (x / 2)) ∙ half.1))
    (λ e. (omega arith, contains-zero x ∙ eq-eqb (x % 2) 1 e))
    (x % 2) (mod-lt x (lit< tt)) refl

-- its highest: `63 - u64::leading_zeros(x)`
pub highest : (k x : ℕ) → x < 2 ^ suc k → 0 < x → (k - count_leading_zeros (suc k) x < suc k) × (contains x (k - count_leading_zeros (suc k) x) ≡ true)
highest k x h g =
    let top = leading_top (suc k) x g h in
    let j : ℕ = top.0 in
    let place : k - count_leading_zeros (suc k) x ≡ j = omega (arith, top.1) in (
      omega (arith, top.1),
      subst (λ (m : ℕ). contains x m ≡ true) (sym place)
          (eq-eqb (x / 2 ^ j % 2) 1
          (mod-eq_of_lt (top_lt top)
          ∙ digit (λ d. x / 2 ^ j ≡ d → d ≡ 1) (λ e. absurd (omega (arith, shr_zero x j e, top.2))) (λ e. refl) (x / 2 ^ j) (top_lt top) refl)),
    )
  where
    top_lt : (t : (i : ℕ) × (count_leading_zeros (suc k) x + suc i ≡ suc k) × (2 ^ i ≤ x) × (x < 2 ^ suc i)) → x / 2 ^ t.0 < 2
    top_lt t = shr_lt 1 t.0 (subst (λ (m : ℕ). x < 2 ^ m) (sym (one-add t.0)) t.3)
