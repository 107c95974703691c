-- What the walk has seen at its end is what paths lead to. Assumes nothing.
use mathlib.Core.Path.{◌≡◌, refl, sym, subst, ◌∙◌}
use mathlib.Core.Bool.{Bool, true, false, ◌&&◌}
use mathlib.Core.List.{List}
use mathlib.Core.Logic.{◌⊎◌, inl, inr, ⊎_elim}
use Prim.Native.Nat.{ℕ, ◌^◌, ◌≤◌, ◌<◌}
use native.Mathlib.Nat.{lt_of_lt_of_le}
use native.Mathlib.Omega.{arith}
use borrow.Author.Tests.{eqb-true, eq-eqb, leb-true, leb-false}
use lib.Dec.{leb}
use lib.Pow.{pow_pos, pow_mono}
use Rattle.numbers.specs.Below.{any_below}
use Rattle.numbers.specs.Sets.{contains, set_of}
use Rattle.numbers.proofs.Bools.{and_left, and_right, and_both, both_ways, either, never}
use Rattle.numbers.proofs.Below.{any-is}
use Rattle.numbers.proofs.Sets.{contains-above, contains-one, contains-set_of, set_of-lt, is-set_of}
use Rattle.links.specs.Paths.{Link, joins, Path, here, along, leads}
use Rattle.links.specs.Links.{links_from}
use Rattle.links.specs.Walk.{Closed, Rows, Met, led_to, led_to_from}
use Rattle.links.proofs.PathLaws.{leads-is}
use Rattle.links.proofs.LinkLaws.{joins-number}

-- both ends of every link name principals
abbrev pub LowEnds : List Link → Type 0
LowEnds ls = (p q : ℕ) → joins ls p q ≡ true → (p < 64) × (q < 64)

pub links_from-low : (base : ℕ) (xs : List ℕ) → LowEnds (links_from base xs)
links_from-low base xs p q e = let w = joins-number base xs p q e in (w.2.from_low, w.2.to_low)

none : (q : ℕ) → contains 0 q ≡ false
none q = contains-above 0 q (pow_pos q)

-- no number of 64 or more is in a set
pub high-out : (s q : ℕ) → s < 2 ^ 64 → contains s q ≡ true → q < 64
high-out s q h e =
    ⊎_elim
    (λ t. absurd (never e (contains-above s q (lt_of_lt_of_le h (pow_mono (leb-true 64 q t))))))
    (λ t. leb-false 64 q t)
    (either (leb 64 q))

-- the members of `set_of 64 f` are all that f picks, if it picks none of 64 or more
contains-all : (f : ℕ → Bool) (q : ℕ) → (64 ≤ q → f q ≡ false) → contains (set_of 64 f) q ≡ f q
contains-all f q g =
    ⊎_elim
    (λ t. contains-above (set_of 64 f) q (lt_of_lt_of_le (set_of-lt 64 f) (pow_mono (leb-true 64 q t))) ∙ sym (g (leb-true 64 q t)))
    (λ t. contains-set_of 64 f q (leb-false 64 q t))
    (either (leb 64 q))

module _ (ls : List Link) (low : LowEnds ls) where
  -- a path that goes anywhere goes between principals
  pub path-low : {p q : ℕ} → Path ls p q → (p ≡ q) ⊎ ((p < 64) × (q < 64))
  path-low here = inl refl
  path-low (along {p} {r} q e w) =
      inr ((low p q e).0, ⊎_elim (λ x. subst (λ (z : ℕ). z < 64) x (low p q e).1) (λ x. x.1) (path-low w))

  -- a set that nothing leads out of holds all that paths lead to from one of its members
  along-closed : (s : ℕ) → Closed ls 0 s → {p q : ℕ} → Path ls p q → contains s p ≡ true → contains s q ≡ true
  along-closed s f here e = e
  along-closed s f (along {p} q h w) e = along-closed s f w (f p q (none p) e h)

  -- nobody is led to another but from one principal to another
  none-far : (p q : ℕ) → ((p < 64) × (q < 64) → ⊥) → (p ≡ q → ⊥) → leads ls p q ≡ false
  none-far p q high other =
      ⊎_elim (λ e. absurd (⊎_elim other high (path-low ((leads-is ls p q).0 e)))) (λ e. e) (either (leads ls p q))

  -- whether q is led to from another principal p
  pub contains-led_to : (p q : ℕ) → (p ≡ q → ⊥) → contains (led_to ls p) q ≡ leads ls p q
  unfolding led_to
  contains-led_to p q other = contains-all (leads ls p) q (λ h. none-far p q (λ x. omega (arith, x.1)) other)

  -- ---- from a set of principals

  -- what is seen after each of starts was visited
  pub met-is : (rows : List ℕ) → Rows ls rows → (starts r : ℕ) → starts < 2 ^ 64 → r < 2 ^ 64 → Met rows starts 0 r → r ≡ led_to_from ls starts
  unfolding led_to_from
  met-is rows m starts r fits r-fits w =
      is-set_of 64 r (λ q. any_below 64 (from q)) r-fits (λ q h. both_ways (contains r q) (any_below 64 (from q)) (out q) (into q))
    where
      from : ℕ → ℕ → Bool
      from q a = contains starts a && leads ls a q

      out : (q : ℕ) → contains r q ≡ true → any_below 64 (from q) ≡ true
      out q e =
          ⊎_elim
          (λ x. absurd (never x (none q)))
          (λ x.
          (any-is 64 (from q)).1 (x.0, high-out starts x.0 fits x.1, and_both (contains starts x.0) (leads ls x.0 q) x.1 ((leads-is ls x.0 q).1 x.2)))
          (w.sound ls m q e)

      into : (q : ℕ) → any_below 64 (from q) ≡ true → contains r q ≡ true
      into q e =
          let x = (any-is 64 (from q)).0 e in
          along-closed r (w.closed ls m) ((leads-is ls x.0 q).0 (and_right (contains starts x.0) (leads ls x.0 q) x.2))
          (w.there x.0 (and_left (contains starts x.0) (leads ls x.0 q) x.2))

  -- from one principal
  pub led_to-one : (p : ℕ) → p < 64 → led_to_from ls (2 ^ p) ≡ led_to ls p
  unfolding led_to led_to_from
  led_to-one p h =
      is-set_of 64 (set_of 64 some) (leads ls p) (set_of-lt 64 some)
      (λ q l. contains-set_of 64 some q l ∙ both_ways (some q) (leads ls p q) (out q) (into q))
    where
      some : ℕ → Bool
      some q = any_below 64 (λ a. contains (2 ^ p) a && leads ls a q)

      out : (q : ℕ) → some q ≡ true → leads ls p q ≡ true
      out q e =
          let x = (any-is 64 (λ a. contains (2 ^ p) a && leads ls a q)).0 e in
          subst (λ (z : ℕ). leads ls z q ≡ true)
          (eqb-true x.0 p (sym (contains-one p x.0) ∙ and_left (contains (2 ^ p) x.0) (leads ls x.0 q) x.2))
          (and_right (contains (2 ^ p) x.0) (leads ls x.0 q) x.2)

      into : (q : ℕ) → leads ls p q ≡ true → some q ≡ true
      into q e =
          (any-is 64 (λ a. contains (2 ^ p) a && leads ls a q)).1
          (p, h, and_both (contains (2 ^ p) p) (leads ls p q) (contains-one p p ∙ eq-eqb p p refl) e)

  -- and from what is none
  pub led_to-none : (p : ℕ) → 64 ≤ p → 0 ≡ led_to ls p
  unfolding led_to
  led_to-none p h =
      is-set_of 64 0 (leads ls p) (pow_pos 64) (λ q l. none q ∙ sym (none-far p q (λ x. omega (arith, x.0)) (λ e. omega (arith, e))))

  -- whether q is led to from some principal of a set
  pub contains-led_to_from : (s q : ℕ) → contains (led_to_from ls s) q ≡ any_below 64 (λ p. contains s p && leads ls p q)
  unfolding led_to_from
  contains-led_to_from s q = contains-all (λ r. any_below 64 (λ p. contains s p && leads ls p r)) q none
    where
      none : 64 ≤ q → any_below 64 (λ p. contains s p && leads ls p q) ≡ false
      none h =
          ⊎_elim
          (λ e.
          let w = (any-is 64 (λ p. contains s p && leads ls p q)).0 e in
          absurd (never (and_right (contains s w.0) (leads ls w.0 q) w.2) (none-far w.0 q (λ x. omega (arith, x.1)) (λ x. omega (arith, w.1)))))
          (λ e. e)
          (either (any_below 64 (λ p. contains s p && leads ls p q)))
