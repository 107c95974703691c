-- The walk over rows of bits: what a visit adds to what was seen. Assumes nothing.
use mathlib.Core.Path.{◌≡◌, refl, sym, ap, subst, ◌∙◌}
use mathlib.Core.Bool.{true, false, not, ◌&&◌}
use mathlib.Core.List.{List}
use mathlib.Core.Logic.{◌⊎◌, inl, inr, ⊎_elim}
use Prim.Native.Nat.{ℕ, ◌-◌, ◌*◌, ◌%◌, ◌^◌, ◌≤◌, ◌<◌}
use native.Mathlib.Nat.{lt_of_le_of_lt}
use borrow.Author.Tests.{eqb-true, eq-eqb, not-true}
use lib.Bits.{bit_and, bit_or, and_le_l}
use lib.Count.{count_trailing_zeros}
use lib.Dec.{eqb}
use lib.ListN.{get_or}
use lib.Pow.{pow_pos}
use Rattle.numbers.specs.Below.{count_below}
use Rattle.numbers.specs.Sets.{contains}
use Rattle.numbers.proofs.Bools.{and_left, and_right, and_both, or_left, or_right, or-either, either, never}
use Rattle.numbers.proofs.Below.{count-le, count-lt}
use Rattle.numbers.proofs.Sets.{contains-add, contains-above, contains-less, contains-one, lowest}
use Rattle.links.specs.Paths.{Link, joins, Path, here, along}
use Rattle.links.specs.Walk.{Within, Sound, Closed, Rows, Met}

-- ---- how many principals are not seen yet

pub left : ℕ → ℕ
left s = count_below 64 (λ q. not (contains s q))

unseen : (s r : ℕ) → Within s r → (q : ℕ) → not (contains r q) ≡ true → not (contains s q) ≡ true
unseen s r f q e = ⊎_elim (λ h. absurd (never (f q h) (not-true (contains r q) e))) (λ h. ap not h) (either (contains s q))

pub left_le : (s r : ℕ) → Within s r → left r ≤ left s
unfolding left
left_le s r f = count-le 64 (λ q. not (contains r q)) (λ q. not (contains s q)) (unseen s r f)

pub left_lt : (s r p : ℕ) → Within s r → p < 64 → contains s p ≡ false → contains r p ≡ true → left r < left s
unfolding left
left_lt s r p f h out in-r = count-lt 64 (λ q. not (contains r q)) (λ q. not (contains s q)) (unseen s r f) p h (ap not in-r) (ap not out)

-- ---- the mark of a principal

-- s with p marked
abbrev pub marked : ℕ → ℕ → ℕ
marked s p = bit_or s ((1 * 2 ^ p) % 2 ^ 64)

module _ (s p : ℕ) (h : p < 64) where
  pub marked-keeps : Within s (marked s p)
  marked-keeps q e = contains-add s p h q ∙ or_left (contains s q) (eqb q p) e

  pub marked-there : contains (marked s p) p ≡ true
  marked-there = contains-add s p h p ∙ or_right (contains s p) (eqb p p) (eq-eqb p p refl)

  marked-only : (q : ℕ) → contains (marked s p) q ≡ true → (contains s q ≡ true) ⊎ (q ≡ p)
  marked-only q e = ⊎_elim (λ x. inl x) (λ x. inr (eqb-true q p x)) (or-either (contains s q) (eqb q p) (sym (contains-add s p h q) ∙ e))

-- ---- what is added stays closed

pub closed-trans : (ls : List Link) (s r t : ℕ) → Closed ls s r → Within r t → Closed ls r t → Closed ls s t
closed-trans ls s r t f g h a b out in-t e =
    ⊎_elim (λ x. g b (f a b out x e)) (λ x. h a b x in-t e) (either (contains r a))

module _ (rows : List ℕ) where
  -- ---- one principal: it is marked, and the far ends of its links are visited

  pub met-one : (s p r : ℕ) → p < 64 → Met rows (get_or rows p 0) (marked s p) r → Met rows (2 ^ p) s r
  met-one s p r h w = record {
    kept = λ q e. w.kept q (marked-keeps s p h q e);
    there = λ q e. subst (λ (z : ℕ). contains r z ≡ true) (sym (alone q e)) (w.kept p (marked-there s p h));
    sound = λ ls m q e.
        ⊎_elim
        (λ x. ⊎_elim (λ y. inl y) (λ y. inr (p, self, subst (λ (z : ℕ). Path ls p z) (sym y) here)) (marked-only s p h q x))
        (λ x. inr (p, self, along x.0 (sym (m.bits p x.0) ∙ x.1) x.2))
        (w.sound ls m q e);
    closed = λ ls m a b out in-r e.
        ⊎_elim
        (λ x.
        ⊎_elim (λ y. absurd (never y out))
        (λ y. w.there b (m.bits p b ∙ subst (λ (z : ℕ). joins ls z b ≡ true) y e))
        (marked-only s p h a x))
        (λ x. w.closed ls m a b x in-r e)
        (either (contains (marked s p) a));
  }
    where
      self : contains (2 ^ p) p ≡ true
      self = contains-one p p ∙ eq-eqb p p refl

      alone : (q : ℕ) → contains (2 ^ p) q ≡ true → q ≡ p
      alone q e = eqb-true q p (sym (contains-one p q) ∙ e)

  -- ---- each of a set, one after the other

  -- some of the set were visited, and now s is seen
  pub record Meeting (set seen s : ℕ) : Type 0 where
    pub kept : Within seen s
    pub sound : (ls : List Link) → Rows ls rows → Sound ls set seen s
    pub closed : (ls : List Link) → Rows ls rows → Closed ls seen s

  module _ (set seen : ℕ) where
    pub meeting-none : Meeting set seen seen
    meeting-none = record { kept = λ q e. e; sound = λ ls m q e. inl e; closed = λ ls m a b out in-s e. absurd (never in-s out) }

    pub meeting-next : (s p r : ℕ) → Meeting set seen s → contains set p ≡ true → Met rows (2 ^ p) s r → Meeting set seen r
    meeting-next s p r w one v = record {
      kept = λ q e. v.kept q (w.kept q e);
      sound = λ ls m q e.
          ⊎_elim (w.sound ls m q)
          (λ x. inr (x.0, subst (λ (z : ℕ). contains set z ≡ true) (sym (eqb-true x.0 p (sym (contains-one p x.0) ∙ x.1))) one, x.2))
          (v.sound ls m q e);
      closed = λ ls m. closed-trans ls seen s r (w.closed ls m) v.kept (v.closed ls m);
    }

    -- none is left
    pub meeting-all : (s : ℕ) → set < 2 ^ 64 → s < 2 ^ 64 → bit_and set ((2 ^ 64 - 1) - s) ≡ 0 → Meeting set seen s → Met rows set seen s
    meeting-all s set-fits s-fits done w = record {
      kept = w.kept;
      there = λ q e.
          ⊎_elim (λ x. x)
          (λ x.
          absurd
          (never
          (contains-less set s set-fits s-fits q ∙ and_both (contains set q) (not (contains s q)) e (ap not x))
          (ap (λ (y : ℕ). contains y q) done ∙ contains-above 0 q (pow_pos q))))
          (either (contains s q));
      sound = w.sound;
      closed = w.closed;
    }

-- ---- the next to be visited: the lowest that is left

module _ (set s rest : ℕ) (set-fits : set < 2 ^ 64) (s-fits : s < 2 ^ 64) (left_over : rest ≡ bit_and set ((2 ^ 64 - 1) - s)) (some : 0 < rest) where
  abbrev next : ℕ
  next = count_trailing_zeros 64 rest

  found : (next < 64) × ((contains set next && not (contains s next)) ≡ true)
  found =
      let fits : rest < 2 ^ 64 = subst (λ (x : ℕ). x < 2 ^ 64) (sym left_over) (lt_of_le_of_lt (and_le_l set ((2 ^ 64 - 1) - s)) set-fits) in
      let low = lowest 64 rest fits some in
      (low.0, sym (ap (λ (x : ℕ). contains x next) left_over ∙ contains-less set s set-fits s-fits next) ∙ low.1)

  pub next_low : next < 64
  next_low = found.0

  pub next_of : contains set next ≡ true
  next_of = and_left (contains set next) (not (contains s next)) found.1

  pub next-new : contains s next ≡ false
  next-new = not-true (contains s next) (and_right (contains set next) (not (contains s next)) found.1)

  -- with its visit fewer are unseen
  pub next-falls : (rows : List ℕ) (r : ℕ) → Met rows (2 ^ next) s r → left r < left s
  next-falls rows r w = left_lt s r next w.kept next_low next-new (w.there next (contains-one next next ∙ eq-eqb next next refl))
