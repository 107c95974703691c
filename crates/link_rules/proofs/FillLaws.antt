-- Filling rows with links, one after the other: what is marked then, and that a mark met again is a link met again. Assumes nothing.
use mathlib.Core.Path.{◌≡◌, sym, ap, ap₂, subst, ◌∙◌}
use mathlib.Core.Bool.{Bool, true, not, ◌&&◌, ◌||◌, or_comm}
use mathlib.Core.List.{List}
use Prim.Native.Nat.{ℕ, ◌+◌, ◌*◌, ◌/◌, ◌^◌, ◌<◌, ◌≤◌}
use native.Mathlib.Nat.{div-add-mod', div-div-eq-div-mul, mod-lt}
use native.Mathlib.Omega.{arith}
use borrow.Author.Tests.{eqb-true, eq-eqb}
use lib.Bits.{bit_and}
use lib.Dec.{eqb, lit<}
use lib.ListN.{length, get_or, take}
use lib.Seq.{get_or-take, length-take-le}
use Rattle.std.proofs.Math.Bool.{and_comm}
use Rattle.numbers.specs.Below.{all_below, any_below}
use Rattle.numbers.specs.Sets.{contains}
use Rattle.numbers.proofs.Bools.{and_left, and_right, and_both, both_ways}
use Rattle.numbers.proofs.Below.{all-next, any_next, any_same, any-is, all_same}
use Rattle.numbers.proofs.Sets.{contains-test-not}
use Rattle.links.proofs.PathLaws.{Among}
use Rattle.links.proofs.LinkLaws.{Names, number-joins, joins-number}
use Rattle.links.proofs.CycleLaws.{no_cycle-same}
use Rattle.links.proofs.Gathering.{with_mark, mark-there}
use Rattle.link_rules.proofs.RowLaws.{bit-joins, joins-bit}
use Rattle.link_rules.specs.Rows.{row, row_links, Leaving}
use Rattle.links.specs.Cycles.{no_cycle}
use Rattle.links.specs.Links.{links_in}
use Rattle.links.specs.Paths.{Link}
use Rattle.links.specs.declared.lists.Graph.TheVariants.{OfTag}
use Rattle.link_rules.specs.LinkRules.{tag_in, from_in, to_in, at, none_doubled, none_cyclic}
use Rattle.link_rules.specs.Filling.{row_of, Placed, Marks, Filled}

module _ (l : List ℕ) (i : ℕ) (key mark : ℕ → ℕ) (rows : List ℕ) (w : Marks l i key mark rows) where
  pub marks-next : key (at l i) < length rows → mark (at l i) < 64 → Marks l (i + 1) key mark (with_mark rows (key (at l i)) (mark (at l i)))
  marks-next h low k q =
      mark-there rows (key (at l i)) (mark (at l i)) h low k q
      ∙ ap (λ (b : Bool). b || said i) (w k q)
      ∙ or_comm (any_below i said) (said i)
      ∙ sym (any_next i said)
    where
      said : ℕ → Bool
      said j = eqb (key (at l j)) k && eqb (mark (at l j)) q

-- ---- a link met again

-- a number is its three parts
pub tag-parts : (x : ℕ) → x / 256 ≡ tag_in x * 256 + from_in x
tag-parts x = sym (div-add-mod' (x / 256) 256) ∙ ap (λ (t : ℕ). t * 256 + from_in x) (div-div-eq-div-mul x 256 256)

parts : (x : ℕ) → x ≡ (tag_in x * 256 + from_in x) * 256 + to_in x
parts x = sym (div-add-mod' x 256) ∙ ap (λ (k : ℕ). k * 256 + to_in x) (tag-parts x)

two_digits : (a b c d : ℕ) → b < 256 → d < 64 → a * 256 + b ≡ c * 256 + d → (a ≡ c) × (b ≡ d)
two_digits a b c d hb hd e = (omega arith, omega arith)

-- the row and the far end say which link it is
pub row-parts : (t p u q : ℕ) → p < 64 → q < 64 → t * 64 + p ≡ u * 64 + q → (t ≡ u) × (p ≡ q)
row-parts t p u q hp hq e = (omega arith, omega arith)

place-unique : (x y : ℕ) → from_in x < 64 → from_in y < 64 → row_of x ≡ row_of y → to_in x ≡ to_in y → x ≡ y
place-unique x y hx hy e f =
    let same = row-parts (tag_in x) (from_in x) (tag_in y) (from_in y) hx hy e in
    parts x ∙ ap₂ (λ (k q : ℕ). k * 256 + q) (ap₂ (λ (t p : ℕ). t * 256 + p) same.0 same.1) f ∙ sym (parts y)

module _ (l : List ℕ) (n i tags : ℕ) (placed : Placed l n tags) (h : i < n) (rows : List ℕ) (w : Marks l i row_of to_in rows) where
  -- a mark that is there was made by the same link
  again : contains (get_or rows (row_of (at l i)) 0) (to_in (at l i)) ≡ any_below i (λ j. eqb (at l j) (at l i))
  again =
      w (row_of (at l i)) (to_in (at l i))
      ∙ any_same i (λ j. eqb (row_of (at l j)) (row_of (at l i)) && eqb (to_in (at l j)) (to_in (at l i))) (λ j. eqb (at l j) (at l i))
      (λ j g.
      both_ways (eqb (row_of (at l j)) (row_of (at l i)) && eqb (to_in (at l j)) (to_in (at l i))) (eqb (at l j) (at l i))
      (λ e.
      eq-eqb (at l j) (at l i)
      (place-unique (at l j) (at l i) (placed j (omega arith)).1 (placed i h).1
      (eqb-true (row_of (at l j)) (row_of (at l i)) (and_left (eqb (row_of (at l j)) (row_of (at l i))) (eqb (to_in (at l j)) (to_in (at l i))) e))
      (eqb-true (to_in (at l j)) (to_in (at l i)) (and_right (eqb (row_of (at l j)) (row_of (at l i))) (eqb (to_in (at l j)) (to_in (at l i))) e))))
      (λ e.
      let same : at l j ≡ at l i = eqb-true (at l j) (at l i) e in
      and_both (eqb (row_of (at l j)) (row_of (at l i))) (eqb (to_in (at l j)) (to_in (at l i)))
      (eq-eqb (row_of (at l j)) (row_of (at l i)) (ap row_of same)) (eq-eqb (to_in (at l j)) (to_in (at l i)) (ap to_in same))))

  -- so the code's test of the bit is the rule
  pub doubled-next : (ok : Bool) → ok ≡ none_doubled l i → (ok && eqb (bit_and (get_or rows (row_of (at l i)) 0 / 2 ^ to_in (at l i)) 1) 0) ≡ none_doubled l (i + 1)
  unfolding none_doubled
  doubled-next ok e =
      and_comm ok (eqb (bit_and (get_or rows (row_of (at l i)) 0 / 2 ^ to_in (at l i)) 1) 0)
      ∙ ap₂ ◌&&◌ (contains-test-not (get_or rows (row_of (at l i)) 0) (to_in (at l i)) ∙ ap not again) e
      ∙ sym (all-next i (λ j. not (any_below j (λ k. eqb (at l k) (at l j)))))

-- ---- what filled rows say of the list

module _ (l : List ℕ) (n tags : ℕ) (rows starts : List ℕ) (fits : n ≤ length l) (placed : Placed l n tags) (w : Filled l n rows starts) (t : ℕ) where
  abbrev of-list : List Link
  of-list = links_in l n (OfTag (record { 0 = t }))

  -- the number at place j is the link from p to q of tag t
  abbrev Says : ℕ → ℕ → ℕ → Type 0
  Says j p q = (tag_in (at l j) ≡ t) × (from_in (at l j) ≡ p) × (to_in (at l j) ≡ q)

  bit-says : (p q : ℕ) → p < 64 → contains (row rows (t * 64) p) q ≡ true → (j : ℕ) × (j < n) × Says j p q
  bit-says p q h e =
      let found = (any-is n (λ i. eqb (row_of (at l i)) (t * 64 + p) && eqb (to_in (at l i)) q)).0 (sym (w.0 (t * 64 + p) q) ∙ e) in
      let j = found.0 in
      let place = eqb-true (row_of (at l j)) (t * 64 + p) (and_left (eqb (row_of (at l j)) (t * 64 + p)) (eqb (to_in (at l j)) q) found.2) in
      let same = row-parts (tag_in (at l j)) (from_in (at l j)) t p (placed j found.1).1 h place in
      (j, found.1, (same.0, same.1, eqb-true (to_in (at l j)) q (and_right (eqb (row_of (at l j)) (t * 64 + p)) (eqb (to_in (at l j)) q) found.2)))

  -- the starts have every principal whose row is not empty
  pub filled-leaving : Leaving rows (t * 64) (get_or starts t 0)
  filled-leaving p q h e =
      let m = bit-says p q h e in
      let j = m.0 in
      w.1 t p
      ∙ (any-is n (λ i. eqb (tag_in (at l i)) t && eqb (from_in (at l i)) p)).1
      (j, m.1, and_both (eqb (tag_in (at l j)) t) (eqb (from_in (at l j)) p) (eq-eqb (tag_in (at l j)) t m.2.0) (eq-eqb (from_in (at l j)) p m.2.1))

  row-among : Among (row_links rows (t * 64)) of-list
  row-among p q e =
      let bit = joins-bit rows (t * 64) p q e in
      let m = bit-says p q bit.0 bit.2 in
      let j = m.0 in
      let near : at l j / 256 ≡ t * 256 + p = tag-parts (at l j) ∙ ap₂ (λ (a b : ℕ). a * 256 + b) m.2.0 m.2.1 in
      number-joins (t * 256) (take n l) j p q (subst (λ (k : ℕ). j < k) (sym (length-take-le n l fits)) m.1)
      (subst (λ (y : ℕ). Names (t * 256) y p q) (sym (get_or-take n l j 0 m.1)) (record { near = near; far = m.2.2; from_low = bit.0; to_low = bit.1 }))

  list-among : Among of-list (row_links rows (t * 64))
  list-among p q e =
      let m = joins-number (t * 256) (take n l) p q e in
      let j = m.0 in
      let low : j < n = subst (λ (k : ℕ). j < k) (length-take-le n l fits) m.1 in
      let said : Names (t * 256) (at l j) p q = subst (λ (y : ℕ). Names (t * 256) y p q) (get_or-take n l j 0 low) m.2 in
      let parts : tag_in (at l j) * 256 + from_in (at l j) ≡ t * 256 + p = sym (tag-parts (at l j)) ∙ said.near in
      let byte : from_in (at l j) < 256 = mod-lt (at l j / 256) (lit< tt) in
      let tag : tag_in (at l j) ≡ t = (two_digits (tag_in (at l j)) (from_in (at l j)) t p byte said.from_low parts).0 in
      let from : from_in (at l j) ≡ p = (two_digits (tag_in (at l j)) (from_in (at l j)) t p byte said.from_low parts).1 in
      bit-joins rows (t * 64) p q said.from_low said.to_low
      (w.0 (t * 64 + p) q
      ∙ (any-is n (λ i. eqb (row_of (at l i)) (t * 64 + p) && eqb (to_in (at l i)) q)).1 (
        j,
        low,
        and_both (eqb (row_of (at l j)) (t * 64 + p)) (eqb (to_in (at l j)) q) (eq-eqb (row_of (at l j)) (t * 64 + p) (ap₂ (λ (a b : ℕ). a * 64 + b) tag from))
            (eq-eqb (to_in (at l j)) q said.far),
      ))

  pub filled-no_cycle : no_cycle (row_links rows (t * 64)) ≡ no_cycle of-list
  filled-no_cycle = no_cycle-same (row_links rows (t * 64)) of-list row-among list-among

-- so the rows have no cycle exactly where no tag's links have one
pub filled_none :
    (l : List ℕ) (n tags rooms : ℕ) (rows starts : List ℕ) → n ≤ length l → Placed l n rooms → Filled l n rows starts →
    all_below tags (λ t. no_cycle (row_links rows (t * 64))) ≡ none_cyclic l n tags
unfolding none_cyclic
filled_none l n tags rooms rows starts fits placed w =
    all_same tags (λ t. no_cycle (row_links rows (t * 64))) (λ t. no_cycle (links_in l n (OfTag (record { 0 = t })))) (λ t h. filled-no_cycle l n rooms rows starts fits placed w t)
