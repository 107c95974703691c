-- Lists of leaves: when two hold the same links, and what a leave more or withdrawn does to them. Assumes nothing.
use mathlib.Core.Path.{◌≡◌, refl, sym, ap, ap₂, ◌∙◌}
use mathlib.Core.Bool.{Bool, true, false, not, ◌&&◌, ◌||◌}
use mathlib.Core.List.{List, [], ◌∷◌}
use mathlib.Core.Logic.{⊎_elim}
use Prim.Native.Nat.{ℕ}
use borrow.Author.Tests.{eqb-true, eq-eqb}
use lib.Dec.{eqb}
use Rattle.numbers.proofs.Bools.{and_left, and_right, and_both, by-test, either, never}
use Rattle.links.specs.Paths.{Link, joins}
use Rattle.assurance.specs.Leaves.{link, withdrawn}

-- the same links stand in both lists
pub record Same (ls ms : List Link) : Type 0 where
  pub joined : (a b : ℕ) → joins ls a b ≡ joins ms a b

pub same_back : {ls ms : List Link} → Same ls ms → Same ms ls
same_back f = record { joined = λ a b. sym (f.joined a b) }

pub same_then : {ks ls ms : List Link} → Same ks ls → Same ls ms → Same ks ms
same_then f g = record { joined = λ a b. f.joined a b ∙ g.joined a b }

-- ---- lists of leaves

-- the link from p to q is the one from a to b
abbrev one : ℕ → ℕ → ℕ → ℕ → Bool
one p q a b = eqb p a && eqb q b

-- so their ends are the same
one-is : (p q a b : ℕ) → one p q a b ≡ true → (p ≡ a) × (q ≡ b)
one-is p q a b e = (eqb-true p a (and_left (eqb p a) (eqb q b) e), eqb-true q b (and_right (eqb p a) (eqb q b) e))

-- a third link is not both of two that differ
one_apart : (p q c d a b : ℕ) → one c d p q ≡ false → one c d a b ≡ true → one p q a b ≡ false
one_apart p q c d a b e f =
    ⊎_elim
    (λ h.
    let v = one-is c d a b f in
    let w = one-is p q a b h in
    absurd (never (and_both (eqb c p) (eqb d q) (eq-eqb c p (v.0 ∙ sym w.0)) (eq-eqb d q (v.1 ∙ sym w.1))) e))
    (λ h. h)
    (either (one p q a b))

-- x is kept out where another, y, is let in
out-beside : (x y j : Bool) → (y ≡ true → x ≡ false) → (y || (not x && j)) ≡ (not x && (y || j))
out-beside x true j f = rw (f refl)
out-beside x false j f = refl

-- where x was let in
out-again : (x j : Bool) → (not x && j) ≡ (not x && (x || j))
out-again true j = refl
out-again false j = refl

-- where it was not there
out_none : (x j : Bool) → (x ≡ true → j ≡ false) → (not x && j) ≡ j
out_none true j f = sym (f refl)
out_none false j f = refl

-- x is let in where it was there
in-again : (x j : Bool) → (x ≡ true → j ≡ true) → (x || j) ≡ j
in-again true j f = sym (f refl)
in-again false j f = refl

-- the links from p to q are gone, and no other
withdrawn-joins : (ls : List Link) (p q a b : ℕ) → joins (withdrawn ls p q) a b ≡ (not (one p q a b) && joins ls a b)
unfolding joins withdrawn
withdrawn-joins [] p q a b = sym (out_none (one p q a b) false (λ e. refl))
withdrawn-joins (l ∷ ls) p q a b =
    let c = l.from in
    let d = l.to in
    by-test (λ (ms : List Link). joins ms a b ≡ (not (one p q a b) && joins (l ∷ ls) a b)) (one c d p q)
    (λ e.
    let w = one-is c d p q e in
    withdrawn-joins ls p q a b ∙ out-again (one p q a b) (joins ls a b)
    ∙ ap₂ (λ (x y : ℕ). not (one p q a b) && (one x y a b || joins ls a b)) (sym w.0) (sym w.1))
    (λ e.
    ap (λ (x : Bool). one c d a b || x) (withdrawn-joins ls p q a b)
    ∙ out-beside (one p q a b) (one c d a b) (joins ls a b) (one_apart p q c d a b e))

-- a leave more on both sides
pub given_both : {ks ls : List Link} (p q : ℕ) → Same ks ls → Same (link p q ∷ ks) (link p q ∷ ls)
unfolding joins
given_both p q same = record { joined = λ a b. ap (λ (x : Bool). one p q a b || x) (same.joined a b) }

-- the leaves from p to q withdrawn on both sides
pub withdrawn-both : {ks ls : List Link} (p q : ℕ) → Same ks ls → Same (withdrawn ks p q) (withdrawn ls p q)
withdrawn-both {ks} {ls} p q same =
    record {
      joined = λ a b.
          withdrawn-joins ks p q a b ∙ ap (λ (x : Bool). not (one p q a b) && x) (same.joined a b) ∙ sym (withdrawn-joins ls p q a b);
    }

module _ (ls : List Link) (p q : ℕ) where
  -- what is said of the link from p to q
  joins-one : (x : Bool) → joins ls p q ≡ x → (a b : ℕ) → one p q a b ≡ true → joins ls a b ≡ x
  joins-one x e a b h = let w = one-is p q a b h in ap₂ (joins ls) (sym w.0) (sym w.1) ∙ e

  -- a leave that is there already
  pub given-again : joins ls p q ≡ true → Same (link p q ∷ ls) ls
  unfolding joins
  given-again e = record { joined = λ a b. in-again (one p q a b) (joins ls a b) (joins-one true e a b) }

  -- none to withdraw
  pub withdrawn-none : joins ls p q ≡ false → Same (withdrawn ls p q) ls
  withdrawn-none e = record { joined = λ a b. withdrawn-joins ls p q a b ∙ out_none (one p q a b) (joins ls a b) (joins-one false e a b) }

  -- one to withdraw
  pub withdrawn-one : joins ls p q ≡ false → Same (withdrawn (link p q ∷ ls) p q) ls
  unfolding joins
  withdrawn-one e =
      record {
        joined = λ a b.
            withdrawn-joins (link p q ∷ ls) p q a b ∙ sym (out-again (one p q a b) (joins ls a b))
            ∙ out_none (one p q a b) (joins ls a b) (joins-one false e a b);
      }
