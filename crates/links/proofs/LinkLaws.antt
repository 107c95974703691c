-- A list of numbers and the links in it: a link stands in `links_from base xs` exactly where one of the numbers says so. Assumes nothing.
use mathlib.Core.Path.{◌≡◌, refl, sym, ap, ap₂, subst, ◌∙◌}
use mathlib.Core.Bool.{true, false, cond, ◌&&◌}
use mathlib.Core.List.{List, [], ◌∷◌}
use mathlib.Core.Logic.{⊎_elim}
use Prim.Native.Nat.{ℕ, zero, suc, ◌+◌, ◌-◌, ◌/◌, ◌%◌, ◌^◌, ◌≤◌, ◌<◌, min}
use native.Mathlib.Nat.{le_of_suc-le-suc, not-suc-le-zero}
use native.Mathlib.Numerals.{add-one}
use native.Mathlib.Omega.{arith}
use borrow.Author.Tests.{leb-true, leb-false, ltb-true, le-leb, lt-ltb}
use lib.Dec.{eqb, ltb, leb}
use lib.ListN.{length, get_or, take, drop, length-take, drop_of_length-le}
use lib.Seq.{take_all, take-length}
use Rattle.numbers.proofs.Bools.{and_left, and_right, and_both, either, never}
use Rattle.links.specs.Paths.{Link, joins}
use Rattle.std.specs.List.{position, position_from}
use Rattle.std.proofs.lemmas.Iterator.Adapters.{position_from-zero}
use Rattle.std.specs.Prelude.{Some}
use Rattle.links.specs.declared.lists.Graph.{Graph}
use Rattle.links.specs.declared.lists.Graph.TheVariants.{Principals, OfTag}
use Rattle.links.specs.Links.{is_link_of, links_from, base_of, links_in, find_from, find_in}
use Rattle.links.proofs.PathLaws.{joins-head, joins-tail, joins-cases}

-- the number x is the link from p to q of the graph with this base
pub record Names (base x p q : ℕ) : Type 0 where
  pub near : x / 256 ≡ base + p
  pub far : x % 256 ≡ q
  pub from_low : p < 64
  pub to_low : q < 64

names-test : {base x p q : ℕ} → Names base x p q → is_link_of base x ≡ true
names-test {base} {x} {p} {q} w =
    and_both (leb base (x / 256)) (ltb (x / 256) (base + 64) && ltb (x % 256) 64) (le-leb base (x / 256) (omega (arith, w.near)))
    (and_both (ltb (x / 256) (base + 64)) (ltb (x % 256) 64) (lt-ltb (x / 256) (base + 64) (omega (arith, w.near, w.from_low)))
    (lt-ltb (x % 256) 64 (omega (arith, w.far, w.to_low))))

pub test-names : (base x : ℕ) → is_link_of base x ≡ true → Names base x (x / 256 - base) (x % 256)
test-names base x e =
    let low : base ≤ x / 256 = leb-true base (x / 256) (and_left (leb base (x / 256)) (ltb (x / 256) (base + 64) && ltb (x % 256) 64) e) in
    let rest : (ltb (x / 256) (base + 64) && ltb (x % 256) 64) ≡ true = and_right (leb base (x / 256)) (ltb (x / 256) (base + 64) && ltb (x % 256) 64) e in
    let high : x / 256 < base + 64 = ltb-true (x / 256) (base + 64) (and_left (ltb (x / 256) (base + 64)) (ltb (x % 256) 64) rest) in
    let far : x % 256 < 64 = ltb-true (x % 256) 64 (and_right (ltb (x / 256) (base + 64)) (ltb (x % 256) 64) rest) in
    record { near = omega arith; far = refl; from_low = omega arith; to_low = far }

-- the link that a number names
abbrev pub said : ℕ → ℕ → Link
said base x = record { from = x / 256 - base; to = x % 256 }

module _ (base x : ℕ) (xs : List ℕ) where
  pub links_from-in : is_link_of base x ≡ true → links_from base (x ∷ xs) ≡ said base x ∷ links_from base xs
  unfolding links_from
  links_from-in e = rw e

  pub links_from-out : is_link_of base x ≡ false → links_from base (x ∷ xs) ≡ links_from base xs
  unfolding links_from
  links_from-out e = rw e

tail-joins : (base x : ℕ) (xs : List ℕ) (p q : ℕ) → joins (links_from base xs) p q ≡ true → joins (links_from base (x ∷ xs)) p q ≡ true
tail-joins base x xs p q e =
    ⊎_elim
    (λ t. subst (λ (ls : List Link). joins ls p q ≡ true) (sym (links_from-in base x xs t)) (joins-tail (said base x) (links_from base xs) p q e))
    (λ t. subst (λ (ls : List Link). joins ls p q ≡ true) (sym (links_from-out base x xs t)) e)
    (either (is_link_of base x))

-- a number that names a link puts it into the list
pub number-joins : (base : ℕ) (xs : List ℕ) (i p q : ℕ) → i < length xs → Names base (get_or xs i 0) p q → joins (links_from base xs) p q ≡ true
number-joins base [] i p q h w = absurd (not-suc-le-zero h)
number-joins base (x ∷ xs) zero p q h w =
    let from : x / 256 - base ≡ p = omega (arith, w.near) in
    subst (λ (ls : List Link). joins ls p q ≡ true) (sym (links_from-in base x xs (names-test w)))
    (subst (λ (a : ℕ). joins (said base x ∷ links_from base xs) a q ≡ true) from
    (subst (λ (b : ℕ). joins (said base x ∷ links_from base xs) (x / 256 - base) b ≡ true) w.far (joins-head (said base x) (links_from base xs))))
number-joins base (x ∷ xs) (suc i) p q h w = tail-joins base x xs p q (number-joins base xs i p q (le_of_suc-le-suc h) w)

-- and every link of the list is named by one of the numbers
pub joins-number : (base : ℕ) (xs : List ℕ) (p q : ℕ) → joins (links_from base xs) p q ≡ true → (i : ℕ) × (i < length xs) × Names base (get_or xs i 0) p q
unfolding joins links_from
joins-number base [] p q e = absurd (never e refl)
joins-number base (x ∷ xs) p q e =
    ⊎_elim
    (λ t.
    ⊎_elim
    (λ h. (0, omega arith, subst (λ (a : ℕ). Names base x a q) h.0 (subst (λ (b : ℕ). Names base x (x / 256 - base) b) h.1 (test-names base x t))))
    (λ h. later (joins-number base xs p q h))
    (joins-cases (said base x) (links_from base xs) p q (subst (λ (ls : List Link). joins ls p q ≡ true) (links_from-in base x xs t) e)))
    (λ t. later (joins-number base xs p q (subst (λ (ls : List Link). joins ls p q ≡ true) (links_from-out base x xs t) e)))
    (either (is_link_of base x))
  where
    later : (i : ℕ) × (i < length xs) × Names base (get_or xs i 0) p q → (i : ℕ) × (i < length (x ∷ xs)) × Names base (get_or (x ∷ xs) i 0) p q
    later w = (suc w.0, omega (arith, w.1), w.2)

-- ---- the places in use, and where a graph's numbers start

-- a count over the number of places is as good as that number
pub take-used : {A : Type 0} (l : List A) (n : ℕ) → take (min n (length l)) l ≡ take n l
take-used l n =
    ⊎_elim
    (λ t. ap (λ (k : ℕ). take k l) (let e : min n (length l) ≡ n = omega (arith, leb-true n (length l) t) in e))
    (λ t.
    let more : length l < n = leb-false n (length l) t in
    ap (λ (k : ℕ). take k l) (let e : min n (length l) ≡ length l = omega arith in e) ∙ take-length l ∙ sym (take_all n l (omega arith)))
    (either (leb n (length l)))

pub drop-used : {A : Type 0} (l : List A) (n : ℕ) → drop (min n (length l)) l ≡ drop n l
drop-used l n =
    ⊎_elim
    (λ t. ap (λ (k : ℕ). drop k l) (let e : min n (length l) ≡ n = omega (arith, leb-true n (length l) t) in e))
    (λ t.
    let more : length l < n = leb-false n (length l) t in
    drop_of_length-le l {i = min n (length l)} (omega arith) ∙ sym (drop_of_length-le l {i = n} (omega arith)))
    (either (leb n (length l)))

-- what the code reads, from the base and the places it worked out
pub in_use : (l : List ℕ) (n : ℕ) (g : Graph) (base k : ℕ) → base ≡ base_of g → k ≡ min n (length l) → links_from base (take k l) ≡ links_in l n g
in_use l n g base k e f = ap₂ links_from e (ap (λ (j : ℕ). take j l) f ∙ take-used l n)

-- a base that is one 32-bit number leaves room for a principal
room : (g : Graph) → base_of g < 2 ^ 32 → base_of g + 64 < 4294967296
room Principals h = omega arith
room (OfTag t) h = omega arith

pub base-room : (g : Graph) (base : ℕ) → base ≡ base_of g → base < 2 ^ 32 → base + 64 < 4294967296
base-room g base e h = subst (λ (b : ℕ). b + 64 < 4294967296) (sym e) (room g (subst (λ (b : ℕ). b < 2 ^ 32) e h))

-- ---- a search

from_position : (i : ℕ) (ys : List ℕ) (x : ℕ) → find_from i ys x ≡ position_from (λ y. eqb y x) i ys
unfolding find_from
from_position i [] x = refl
from_position i (y ∷ ys) x = ap (cond (eqb y x) (Some i)) (from_position (suc i) ys x ∙ ap (λ (j : ℕ). position_from (λ z. eqb z x) j ys) (sym (add-one i)))

-- it is std's
pub found_position : (ys : List ℕ) (x : ℕ) → position (λ y. eqb y x) ys ≡ find_in ys x
found_position ys x = position_from-zero (λ y. eqb y x) ys ∙ sym (from_position 0 ys x)

-- what is found is among the places searched
found_among : (i : ℕ) (ys : List ℕ) (x j : ℕ) → find_from i ys x ≡ Some j → j < i + length ys
unfolding find_from
found_among i [] x j e = absurd (let z : ◌≡◌ {A = ℕ} 0 1 = cc in omega arith)
found_among i (y ∷ ys) x j e =
    ⊎_elim
    (λ t. let z : i ≡ j = cc in omega arith)
    (λ t. omega (arith, found_among (suc i) ys x j (rw t at e)))
    (either (eqb y x))

-- so it is at one of the places in use
pub found-used : (l : List ℕ) (n x i : ℕ) → find_in (take n l) x ≡ Some i → i < n
found-used l n x i e = omega (arith, found_among 0 (take n l) x i e, length-take n l)
