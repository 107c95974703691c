-- Rows of bits: those of nothing, one mark more, and the rows of a list of links place by place. Assumes nothing.
use mathlib.Core.Path.{◌≡◌, refl, sym, ap, ap₂, subst, ◌∙◌}
use mathlib.Core.Bool.{Bool, true, false, ◌&&◌, ◌||◌, or_comm}
use mathlib.Core.List.{List, [], ◌∷◌, ◌++◌, append-nil}
use mathlib.Core.Logic.{⊎_elim}
use Prim.Native.Nat.{ℕ, ◌+◌, ◌-◌, ◌*◌, ◌/◌, ◌%◌, ◌^◌, ◌≤◌, ◌<◌}
use native.Mathlib.Numerals.{add-one}
use borrow.Author.Tests.{eqb-true, eqb-false, eq-eqb, leb-true, leb-false}
use lib.Bits.{bit_or}
use lib.Dec.{eqb, leb}
use lib.ListN.{length, get_or, set, take, replicate, length-set, length-replicate, get_or-replicate, get_or-eq_default}
use lib.Pow.{pow_pos}
use lib.Seq.{take-suc, get_or-set_same, get_or-set_other}
use Rattle.numbers.specs.Sets.{contains}
use Rattle.numbers.proofs.Bools.{both_ways, either}
use Rattle.numbers.proofs.Sets.{contains-above, contains-add}
use Rattle.links.specs.Paths.{Link, joins}
use Rattle.links.specs.Links.{is_link_of, links_from}
use Rattle.links.specs.Walk.{Rows}
use Rattle.links.proofs.LinkLaws.{said, test-names}
use Rattle.links.proofs.ListLaws.{joins-append, links_from-append, one_link, no-link}

-- ---- any rows

abbrev zeros : ℕ → List ℕ
zeros k = replicate k 0

all-zero : (k j : ℕ) → get_or (zeros k) j 0 ≡ 0
all-zero k j =
    ⊎_elim
    (λ t. get_or-eq_default (zeros k) 0 {n = j} (subst (λ (m : ℕ). m ≤ j) (sym (length-replicate k 0)) (leb-true k j t)))
    (λ t. get_or-replicate k j 0 0 (leb-false k j t))
    (either (leb k j))

-- nothing is marked in rows of zeros
pub none-marked : (k j q : ℕ) → contains (get_or (zeros k) j 0) q ≡ false
none-marked k j q = ap (λ (x : ℕ). contains x q) (all-zero k j) ∙ contains-above 0 q (pow_pos q)

-- a row with one more mark
abbrev pub with_mark : List ℕ → ℕ → ℕ → List ℕ
with_mark rows k q = set rows k (bit_or (get_or rows k 0) ((1 * 2 ^ q) % 2 ^ 64))

same_test : (a b : ℕ) → eqb a b ≡ eqb b a
same_test a b = both_ways (eqb a b) (eqb b a) (λ e. eq-eqb b a (sym (eqb-true a b e))) (λ e. eq-eqb a b (sym (eqb-true b a e)))

pub mark-there : (rows : List ℕ) (k q : ℕ) → k < length rows → q < 64 → (j r : ℕ) → contains (get_or (with_mark rows k q) j 0) r ≡ (contains (get_or rows j 0) r || (eqb k j && eqb q r))
mark-there rows k q h low j r =
    let next = bit_or (get_or rows k 0) ((1 * 2 ^ q) % 2 ^ 64) in
    ⊎_elim
    (λ t.
    let e : k ≡ j = eqb-true k j t in
    ap (λ (n : ℕ). contains (get_or (with_mark rows k q) n 0) r) (sym e)
    ∙ ap (λ (y : ℕ). contains y r) (get_or-set_same rows k next 0 h)
    ∙ contains-add (get_or rows k 0) q low r
    ∙ ap₂ ◌||◌ (ap (λ (n : ℕ). contains (get_or rows n 0) r) e) (same_test r q)
    ∙ ap (λ (b : Bool). contains (get_or rows j 0) r || (b && eqb q r)) (sym t))
    (λ t.
    ap (λ (y : ℕ). contains y r) (get_or-set_other rows k j next 0 (λ e. eqb-false k j t (sym e)))
    ∙ or_comm false (contains (get_or rows j 0) r)
    ∙ ap (λ (b : Bool). contains (get_or rows j 0) r || (b && eqb q r)) (sym t))
    (either (eqb k j))

-- ---- the rows of a list of links

pub rows_none : Rows [] (replicate 64 0)
unfolding joins
rows_none = record { size = refl; bits = none-marked 64 }

module _ (base : ℕ) (l rows : List ℕ) (i : ℕ) (h : i < length l) (w : Rows (links_from base (take i l)) rows) where
  abbrev x : ℕ
  x = get_or l i 0

  one_more : links_from base (take (i + 1) l) ≡ links_from base (take i l) ++ links_from base (x ∷ [])
  one_more = ap (λ (k : ℕ). links_from base (take k l)) (add-one i) ∙ ap (links_from base) (take-suc l i 0 h) ∙ links_from-append base (take i l) (x ∷ [])

  -- the next number is that of no link of the graph
  pub rows-past : is_link_of base x ≡ false → Rows (links_from base (take (i + 1) l)) rows
  rows-past e =
      subst (λ (ls : List Link). Rows ls rows)
      (sym (one_more ∙ ap (λ (ls : List Link). links_from base (take i l) ++ ls) (no-link base x e) ∙ append-nil (links_from base (take i l)))) w

  -- it is that of one
  pub rows-link : is_link_of base x ≡ true → Rows (links_from base (take (i + 1) l)) (with_mark rows (x / 256 - base) (x % 256))
  unfolding joins
  rows-link e =
      let names = test-names base x e in
      let before = links_from base (take i l) in
      record {
        size = length-set rows (x / 256 - base) _ ∙ w.size;
        bits = λ p q.
            mark-there rows (x / 256 - base) (x % 256) (subst (λ (n : ℕ). x / 256 - base < n) (sym w.size) names.from_low) names.to_low p q
            ∙ ap₂ ◌||◌ (w.bits p q) (or_comm false (eqb (x / 256 - base) p && eqb (x % 256) q))
            ∙ sym (joins-append before (said base x ∷ []) p q)
            ∙ ap (λ (ls : List Link). joins ls p q) (sym (one_more ∙ ap (λ (ls : List Link). before ++ ls) (one_link base x e)));
      }
