-- Rows of bits: which links they hold, and why stripping the principals that lead nowhere finds every cycle and nothing else.
-- Assumes nothing.
use mathlib.Core.Path.{◌≡◌, refl, sym, ap, subst, ◌∙◌}
use mathlib.Core.Bool.{Bool, true, false, not, cond, ◌&&◌, and-true, and-false}
use mathlib.Core.List.{List, ◌∷◌}
use mathlib.Core.Logic.{⊎_elim}
use Prim.Native.Nat.{ℕ, zero, suc, ◌-◌, ◌*◌, ◌%◌, ◌^◌, ◌≤◌, ◌<◌, zero-le}
use native.Mathlib.Nat.{eq-or-lt_of_le, le_of_suc-le-suc, le_trans, lt_of_le_of_lt, lt-suc_self, not-suc-le-zero}
use native.Mathlib.Omega.{arith}
use borrow.Author.Tests.{eqb-true, eqb-false, eq-eqb, ne_eqb}
use lib.Arith.{lt_of_le-ne}
use lib.Bits.{bit_and, and_le_l, and_le_r}
use lib.Count.{count_trailing_zeros}
use lib.Dec.{eqb}
use lib.Pow.{pow_pos}
use Rattle.numbers.specs.Below.{any_below, count_below}
use Rattle.numbers.specs.Sets.{contains, set_of}
use Rattle.numbers.proofs.Bools.{and_left, and_right, and_both, both_ways, either, or-either, or_left, or_right, never}
use Rattle.numbers.proofs.Below.{any-is, count-lt}
use Rattle.numbers.proofs.Sets.{contains-and, contains-above, contains-set_of, contains-take, set_of-lt, lowest}
use Rattle.links.specs.Paths.{Link, joins, Path, here, along, leads}
use Rattle.links.specs.Cycles.{NoCycle, no_cycle}
use Rattle.link_rules.specs.Rows.{row, Leaving, links_to, links_up_to, row_links, Endless, KeepsEndless, Stripped}
use Rattle.links.proofs.PathLaws.{joins-head, joins-tail, joins-cases, path-joined, path-one, leads-is}
use Rattle.links.proofs.ListLaws.{joins-append}
use Rattle.links.proofs.CycleLaws.{no_cycle-is}
use Rattle.links.proofs.LedTo.{high-out}

-- ---- the links of rows

module _ (p bits : ℕ) where
  to-joins : (k q : ℕ) → q < k → contains bits q ≡ true → joins (links_to p bits k) p q ≡ true
  unfolding links_to
  to-joins zero q h e = absurd (not-suc-le-zero h)
  to-joins (suc k) q h e =
      ⊎_elim
      (λ t.
      subst (λ (b : Bool). joins (cond b (record { from = p; to = k } ∷ links_to p bits k) (links_to p bits k)) p q ≡ true) (sym t)
      (⊎_elim
      (λ x. subst (λ (y : ℕ). joins (record { from = p; to = k } ∷ links_to p bits k) p y ≡ true) (sym x) (joins-head (record { from = p; to = k }) (links_to p bits k)))
      (λ x. joins-tail (record { from = p; to = k }) (links_to p bits k) p q (to-joins k q x e))
      (eq-or-lt_of_le (le_of_suc-le-suc h))))
      (λ t.
      subst (λ (b : Bool). joins (cond b (record { from = p; to = k } ∷ links_to p bits k) (links_to p bits k)) p q ≡ true) (sym t)
      (⊎_elim (λ x. absurd (never (subst (λ (y : ℕ). contains bits y ≡ true) x e) t)) (λ x. to-joins k q x e) (eq-or-lt_of_le (le_of_suc-le-suc h))))
      (either (contains bits k))

  joins-to : (k a b : ℕ) → joins (links_to p bits k) a b ≡ true → (a ≡ p) × (b < k) × (contains bits b ≡ true)
  unfolding links_to joins
  joins-to zero a b e = absurd (never e refl)
  joins-to (suc k) a b e =
      ⊎_elim
      (λ t.
      ⊎_elim
      (λ x. (sym x.0, omega (arith, x.1), subst (λ (y : ℕ). contains bits y ≡ true) x.1 t))
      (λ x. let w = joins-to k a b x in (w.0, omega (arith, w.1), w.2))
      (joins-cases (record { from = p; to = k }) (links_to p bits k) a b
      (subst (λ (c : Bool). joins (cond c (record { from = p; to = k } ∷ links_to p bits k) (links_to p bits k)) a b ≡ true) t e)))
      (λ t.
      let w = joins-to k a b (subst (λ (c : Bool). joins (cond c (record { from = p; to = k } ∷ links_to p bits k) (links_to p bits k)) a b ≡ true) t e) in
      (w.0, omega (arith, w.1), w.2))
      (either (contains bits k))

module _ (rows : List ℕ) (a : ℕ) where
  rows-joins : (k p q : ℕ) → p < k → q < 64 → contains (row rows a p) q ≡ true → joins (links_up_to rows a k) p q ≡ true
  unfolding links_up_to
  rows-joins zero p q h g e = absurd (not-suc-le-zero h)
  rows-joins (suc k) p q h g e =
      let own = joins (links_to k (row rows a k) 64) p q in
      let older = joins (links_up_to rows a k) p q in
      joins-append (links_to k (row rows a k) 64) (links_up_to rows a k) p q
      ∙ ⊎_elim
      (λ x. or_left own older (subst (λ (y : ℕ). joins (links_to y (row rows a y) 64) p q ≡ true) x (to-joins p (row rows a p) 64 q g e)))
      (λ x. or_right own older (rows-joins k p q x g e))
      (eq-or-lt_of_le (le_of_suc-le-suc h))

  joins-rows : (k p q : ℕ) → joins (links_up_to rows a k) p q ≡ true → (p < k) × (q < 64) × (contains (row rows a p) q ≡ true)
  unfolding links_up_to joins
  joins-rows zero p q e = absurd (never e refl)
  joins-rows (suc k) p q e =
      ⊎_elim
      (λ x.
      let w = joins-to k (row rows a k) 64 p q x in
      (omega (arith, w.0), w.1, subst (λ (y : ℕ). contains (row rows a y) q ≡ true) (sym w.0) w.2))
      (λ x. let w = joins-rows k p q x in (omega (arith, w.0), w.1, w.2))
      (or-either (joins (links_to k (row rows a k) 64) p q) (joins (links_up_to rows a k) p q) (sym (joins-append (links_to k (row rows a k) 64) (links_up_to rows a k) p q) ∙ e))

  -- a link stands in the rows exactly where its bit is set
  pub bit-joins : (p q : ℕ) → p < 64 → q < 64 → contains (row rows a p) q ≡ true → joins (row_links rows a) p q ≡ true
  bit-joins p q h g e = rows-joins 64 p q h g e

  pub joins-bit : (p q : ℕ) → joins (row_links rows a) p q ≡ true → (p < 64) × (q < 64) × (contains (row rows a p) q ≡ true)
  joins-bit p q e = joins-rows 64 p q e

-- ---- one pass

-- x less p, as the code takes it
abbrev pub less : ℕ → ℕ → ℕ
less x p = bit_and x ((2 ^ 64 - 1) - (1 * 2 ^ p) % 2 ^ 64)

module _ (x p : ℕ) (fits : x < 2 ^ 64) (h : p < 64) where
  pub less_other : (q : ℕ) → (q ≡ p → ⊥) → contains (less x p) q ≡ contains x q
  less_other q other = contains-take x p fits h q ∙ ap (λ (b : Bool). contains x q && not b) (ne_eqb q p other) ∙ and-true (contains x q)

  pub less-gone : contains (less x p) p ≡ false
  less-gone = contains-take x p fits h p ∙ ap (λ (b : Bool). contains x p && not b) (eq-eqb p p refl) ∙ and-false (contains x p)

  pub less-within : (q : ℕ) → contains (less x p) q ≡ true → contains x q ≡ true
  less-within q e = and_left (contains x q) (not (eqb q p)) (sym (contains-take x p fits h q) ∙ e)

  pub less-lt : contains x p ≡ true → less x p < x
  less-lt e = lt_of_le-ne (and_le_l x ((2 ^ 64 - 1) - (1 * 2 ^ p) % 2 ^ 64)) (λ same. never (ap (λ (y : ℕ). contains y p) same ∙ e) less-gone)

module _ (rows : List ℕ) (a alive : ℕ) (fits : alive < 2 ^ 64) where
  -- a pass is under way: s is left, and rest is still to be looked at
  pub record Sweeping (s rest : ℕ) : Type 0 where
    pub fewer : s ≤ alive
    pub rest-fits : rest < 2 ^ 64
    pub ahead : (p : ℕ) → contains rest p ≡ true → contains alive p ≡ true
    pub kept : KeepsEndless rows a alive s
    pub looked :
        s ≡ alive → (p : ℕ) → contains alive p ≡ true → contains rest p ≡ false → (q : ℕ) × (contains (row rows a p) q ≡ true) × (contains alive q ≡ true)

  module _ (s rest p : ℕ) (w : Sweeping s rest) (h : p < 64) (there : contains rest p ≡ true) where
    s-fits : s < 2 ^ 64
    s-fits = lt_of_le_of_lt w.fewer fits

    rest-less : less rest p < 2 ^ 64
    rest-less = lt_of_le_of_lt (and_le_l rest ((2 ^ 64 - 1) - (1 * 2 ^ p) % 2 ^ 64)) w.rest-fits

    -- p leads to none that is left, and goes; no endless set had it
    pub sweeping-goes : bit_and (row rows a p) s ≡ 0 → Sweeping (less s p) (less rest p)
    sweeping-goes none = record {
      fewer = le_trans (and_le_l s ((2 ^ 64 - 1) - (1 * 2 ^ p) % 2 ^ 64)) w.fewer;
      rest-fits = rest-less;
      ahead = λ q e. w.ahead q (less-within rest p w.rest-fits h q e);
      kept = λ u f g q e. less_other s p s-fits h q (λ x. stuck u f g (subst (λ (y : ℕ). contains u y ≡ true) x e)) ∙ w.kept u f g q e;
      looked = λ same q e out. absurd (never (ap (λ (y : ℕ). contains y p) same ∙ w.ahead p there) (less-gone s p s-fits h));
    }
      where
        stuck : (u : ℕ) → Endless rows a u → ((q : ℕ) → contains u q ≡ true → contains alive q ≡ true) → contains u p ≡ true → ⊥
        stuck u f g e =
            let next = f p e in
            let both = contains-and (row rows a p) s next.0 ∙ and_both (contains (row rows a p) next.0) (contains s next.0) next.1 (w.kept u f g next.0 next.2) in
            never (sym (ap (λ (x : ℕ). contains x next.0) none) ∙ both) (contains-above 0 next.0 (pow_pos next.0))

    -- p leads to one that is left, and stays
    pub sweeping-stays : (bit_and (row rows a p) s ≡ 0 → ⊥) → Sweeping s (less rest p)
    sweeping-stays some = record {
      fewer = w.fewer;
      rest-fits = rest-less;
      ahead = λ q e. w.ahead q (less-within rest p w.rest-fits h q e);
      kept = w.kept;
      looked = λ same q e out.
          ⊎_elim
          (λ x. subst (λ (y : ℕ). (z : ℕ) × (contains (row rows a y) z ≡ true) × (contains alive z ≡ true)) (sym (eqb-true q p x)) (onward same))
          (λ x. w.looked same q e (sym (less_other rest p w.rest-fits h q (eqb-false q p x)) ∙ out))
          (either (eqb q p));
    }
      where
        onward : s ≡ alive → (z : ℕ) × (contains (row rows a p) z ≡ true) × (contains alive z ≡ true)
        onward same =
            let both = bit_and (row rows a p) s in
            let found = lowest 64 both (lt_of_le_of_lt (and_le_r (row rows a p) s) s-fits) (lt_of_le-ne zero-le (λ e. some (sym e))) in
            let z = count_trailing_zeros 64 both in
            let e = sym (contains-and (row rows a p) s z) ∙ found.1 in
            (z, and_left (contains (row rows a p) z) (contains s z) e, subst (λ (y : ℕ). contains y z ≡ true) same (and_right (contains (row rows a p) z) (contains s z) e))

-- ---- what is left goes round

module _ (rows : List ℕ) (a starts r : ℕ) (fits : r < 2 ^ 64) (w : Stripped rows a starts r) (all : Leaving rows a starts) where
  abbrev ls : List Link
  ls = row_links rows a

  -- with no cycle, the principals that one leads to get fewer with each link
  round : NoCycle ls → (m p : ℕ) → contains r p ≡ true → count_below 64 (leads ls p) < m → ⊥
  round none zero p e h = omega arith
  round none (suc m) p e h =
      let next = w.endless p e in
      let q = next.0 in
      let link = bit-joins rows a p q (high-out r p fits e) (high-out r q fits next.2) next.1 in
      let back : leads ls q p ≡ false = ⊎_elim (λ x. absurd (none p q link ((leads-is ls q p).0 x))) (λ x. x) (either (leads ls q p)) in
      let fewer =
      count-lt 64 (leads ls q) (leads ls p) (λ x g. (leads-is ls p x).1 (along q link ((leads-is ls q x).0 g))) p (high-out r p fits e) back ((leads-is ls p p).1 here) in
      round none m q next.2 (omega arith)

  -- those that a way leads back to
  abbrev on_cycle : ℕ → Bool
  on_cycle p = any_below 64 (λ q. contains (row rows a p) q && leads ls q p)

  cyclic : (p q : ℕ) → joins ls p q ≡ true → Path ls q p → contains (set_of 64 on_cycle) p ≡ true
  cyclic p q e path =
      let bit = joins-bit rows a p q e in
      contains-set_of 64 on_cycle p bit.0
      ∙ (any-is 64 (λ x. contains (row rows a p) x && leads ls x p)).1 (q, bit.1, and_both (contains (row rows a p) q) (leads ls q p) bit.2 ((leads-is ls q p).1 path))

  cycles-endless : Endless rows a (set_of 64 on_cycle)
  cycles-endless p e =
      let low = high-out (set_of 64 on_cycle) p (set_of-lt 64 on_cycle) e in
      let found = (any-is 64 (λ x. contains (row rows a p) x && leads ls x p)).0 (sym (contains-set_of 64 on_cycle p low) ∙ e) in
      let q = found.0 in
      let bit = and_left (contains (row rows a p) q) (leads ls q p) found.2 in
      let link = bit-joins rows a p q low found.1 bit in
      (q, bit, onward q link ((leads-is ls q p).0 (and_right (contains (row rows a p) q) (leads ls q p) found.2)))
    where
      onward : (q : ℕ) → joins ls p q ≡ true → Path ls q p → contains (set_of 64 on_cycle) q ≡ true
      onward q link here = cyclic q q link here
      onward q link (along z first rest) = cyclic q z first (path-joined rest (path-one link))

  pub stripped-is : eqb r 0 ≡ no_cycle ls
  stripped-is = both_ways (eqb r 0) (no_cycle ls) there back
    where
      there : eqb r 0 ≡ true → no_cycle ls ≡ true
      there e =
          (no_cycle-is ls).1
          (λ p q h path.
          never
          (w.kept (set_of 64 on_cycle) cycles-endless (λ x g. let next = cycles-endless x g in all x next.0 (high-out (set_of 64 on_cycle) x (set_of-lt 64 on_cycle) g) next.1) p (cyclic p q h path))
          (ap (λ (x : ℕ). contains x p) (eqb-true r 0 e) ∙ contains-above 0 p (pow_pos p)))

      back : no_cycle ls ≡ true → eqb r 0 ≡ true
      back e =
          ⊎_elim (λ x. x)
          (λ x.
          let found = lowest 64 r fits (lt_of_le-ne zero-le (λ z. eqb-false r 0 x (sym z))) in
          absurd (round ((no_cycle-is ls).0 e) (suc (count_below 64 (leads ls (count_trailing_zeros 64 r)))) (count_trailing_zeros 64 r) found.1 (lt-suc_self (count_below 64 (leads ls (count_trailing_zeros 64 r))))))
          (either (eqb r 0))
