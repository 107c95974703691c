-- What appending to a list and removing from it do to the links of a graph: one link more, one link fewer, in their order.
-- Assumes nothing.
use mathlib.Core.Path.{◌≡◌, refl, sym, ap, ap₂, subst, ◌∙◌}
use mathlib.Core.Bool.{Bool, true, cond, ◌&&◌, ◌||◌, or_assoc, false, or_comm}
use mathlib.Core.List.{List, [], ◌∷◌, ◌++◌, append_assoc, append-nil}
use mathlib.Core.Logic.{⊎_elim}
use Prim.Native.Nat.{ℕ, suc, ◌+◌, ◌-◌, ◌≤◌, ◌<◌, min}
use native.Mathlib.Numerals.{add-one}
use native.Mathlib.Omega.{arith}
use borrow.Author.Tests.{lt-ltb}
use lib.Dec.{eqb}
use lib.ListN.{length, get_or, take, drop, set, length-append, length-drop}
use lib.Seq.{length-take-le, take_all, take-suc-set, take-append-le, take-take, split_at, get_or-take}
use Rattle.numbers.proofs.Bools.{or_left, either}
use Rattle.links.specs.declared.lists.Graph.{Graph}
use Rattle.links.specs.Paths.{Link, joins, Path}
use Rattle.links.specs.Links.{is_link_of, links_from, base_of, links_in, appended, removed, gap_closed}
use Rattle.links.specs.Cycles.{NoCycle}
use Rattle.links.proofs.CycleLaws.{no_cycle-fewer, no_cycle-more}
use Rattle.links.proofs.PathLaws.{Among}
use Rattle.links.proofs.LinkLaws.{said, links_from-in, links_from-out}

-- ---- lists put together

pub joins-append : (ls ms : List Link) (p q : ℕ) → joins (ls ++ ms) p q ≡ (joins ls p q || joins ms p q)
unfolding joins
joins-append [] ms p q = refl
joins-append (l ∷ ls) ms p q =
    ap (λ (b : Bool). eqb l.from p && eqb l.to q || b) (joins-append ls ms p q)
    ∙ sym (or_assoc (eqb l.from p && eqb l.to q) (joins ls p q) (joins ms p q))

pub links_from-append : (base : ℕ) (xs ys : List ℕ) → links_from base (xs ++ ys) ≡ links_from base xs ++ links_from base ys
unfolding links_from
links_from-append base [] ys = refl
links_from-append base (x ∷ xs) ys =
    ⊎_elim
    (λ t. links_from-in base x (xs ++ ys) t ∙ ap (λ (ls : List Link). said base x ∷ ls) (links_from-append base xs ys)
    ∙ sym (ap (λ (ls : List Link). ls ++ links_from base ys) (links_from-in base x xs t)))
    (λ t. links_from-out base x (xs ++ ys) t ∙ links_from-append base xs ys
    ∙ sym (ap (λ (ls : List Link). ls ++ links_from base ys) (links_from-out base x xs t)))
    (either (is_link_of base x))

-- ---- one more

-- the links after an append are those before it, and then what the new number says
pub appended-links : (l : List ℕ) (n x : ℕ) (g : Graph) → n < length l → links_in (appended l n x) (n + 1) g ≡ links_in l n g ++ links_from (base_of g) (x ∷ [])
appended-links l n x g h =
    ap (λ (b : Bool). links_from (base_of g) (take (n + 1) (cond b (set l n x) l))) (lt-ltb n (length l) h)
    ∙ ap (λ (k : ℕ). links_from (base_of g) (take k (set l n x))) (add-one n)
    ∙ ap (links_from (base_of g)) (take-suc-set l n x h)
    ∙ links_from-append (base_of g) (take n l) (x ∷ [])

-- so no link is lost
pub appended-among : (l : List ℕ) (n x : ℕ) (g : Graph) → n < length l → Among (links_in l n g) (links_in (appended l n x) (n + 1) g)
appended-among l n x g h p q e =
    subst (λ (ls : List Link). joins ls p q ≡ true) (sym (appended-links l n x g h))
    (joins-append (links_in l n g) (links_from (base_of g) (x ∷ [])) p q ∙ or_left (joins (links_in l n g) p q) (joins (links_from (base_of g) (x ∷ [])) p q) e)

-- ---- one fewer

module _ (l : List ℕ) (n i : ℕ) (g : Graph) (h : i < n) (fits : n ≤ length l) where
  abbrev front : List ℕ
  front = take i l

  abbrev back : List ℕ
  back = drop (suc i) (take n l)

  -- the links before a removal: those of the places before i, that of place i, and those after it
  pub links-split : links_in l n g ≡ links_from (base_of g) front ++ links_from (base_of g) (get_or l i 0 ∷ back)
  links-split =
      let there : i < length (take n l) = omega (arith, length-take-le n l fits) in
      ap (links_from (base_of g))
      (split_at (take n l) i 0 there
      ∙ ap₂ (λ (xs : List ℕ) (x : ℕ). xs ++ (x ∷ back)) (take-take i n l (omega arith)) (get_or-take n l i 0 h))
      ∙ links_from-append (base_of g) front (get_or l i 0 ∷ back)

  -- and after it: the same but for that of place i
  pub removed-links : links_in (removed l n i) (n - 1) g ≡ links_from (base_of g) front ++ links_from (base_of g) back
  unfolding gap_closed
  removed-links =
      let size : length (front ++ back) ≡ n - 1 =
      length-append front back
      ∙ ap₂ (λ (x y : ℕ). x + y) (length-take-le i l (omega arith)) (length-drop (suc i) (take n l) ∙ ap (λ (x : ℕ). x - suc i) (length-take-le n l fits))
      ∙ omega arith in
      ap (λ (b : Bool). links_from (base_of g) (take (n - 1) (cond b (front ++ (back ++ (0 ∷ drop n l))) l))) (lt-ltb i (min n (length l)) (omega arith))
      ∙ ap (links_from (base_of g))
      (ap (take (n - 1)) (sym (append_assoc front back (0 ∷ drop n l)))
      ∙ take-append-le (n - 1) (front ++ back) (0 ∷ drop n l) (omega arith)
      ∙ take_all (n - 1) (front ++ back) (omega arith))
      ∙ links_from-append (base_of g) front back

-- ---- the same, link by link

pub one_link : (base x : ℕ) → is_link_of base x ≡ true → links_from base (x ∷ []) ≡ said base x ∷ []
unfolding links_from
one_link base x e = links_from-in base x [] e

pub no-link : (base x : ℕ) → is_link_of base x ≡ false → links_from base (x ∷ []) ≡ []
unfolding links_from
no-link base x e = links_from-out base x [] e

-- a list with l at its end, or in its midst, has the links that it has with l at its head
joins-moved : (l : Link) (ls ms : List Link) (p q : ℕ) → joins (ls ++ (l ∷ ms)) p q ≡ joins (l ∷ (ls ++ ms)) p q
unfolding joins
joins-moved l ls ms p q =
    let own = eqb l.from p && eqb l.to q in
    let a = joins ls p q in
    let b = joins ms p q in
    joins-append ls (l ∷ ms) p q
    ∙ sym (or_assoc a own b) ∙ ap (λ (c : Bool). c || b) (or_comm a own) ∙ or_assoc own a b
    ∙ ap (λ (c : Bool). own || c) (sym (joins-append ls ms p q))

module _ (l : List ℕ) (n x : ℕ) (g : Graph) (h : n < length l) where
  -- an append adds the link that the number names, and to no other graph
  pub appended-joins : is_link_of (base_of g) x ≡ true → (p q : ℕ) → joins (links_in (appended l n x) (n + 1) g) p q ≡ joins (said (base_of g) x ∷ links_in l n g) p q
  appended-joins e p q =
      ap (λ (ls : List Link). joins ls p q) (appended-links l n x g h ∙ ap (λ (ms : List Link). links_in l n g ++ ms) (one_link (base_of g) x e))
      ∙ joins-moved (said (base_of g) x) (links_in l n g) [] p q
      ∙ ap (λ (ls : List Link). joins (said (base_of g) x ∷ ls) p q) (append-nil (links_in l n g))

  pub appended-other : is_link_of (base_of g) x ≡ false → links_in (appended l n x) (n + 1) g ≡ links_in l n g
  appended-other e = appended-links l n x g h ∙ ap (λ (ms : List Link). links_in l n g ++ ms) (no-link (base_of g) x e) ∙ append-nil (links_in l n g)

  -- and leaves no cycle where there was none and no path leads back
  pub appended-no_cycle : is_link_of (base_of g) x ≡ true → NoCycle (links_in l n g) → (Path (links_in l n g) (said (base_of g) x).to (said (base_of g) x).from → ⊥) → NoCycle (links_in (appended l n x) (n + 1) g)
  appended-no_cycle e none back =
      no_cycle-fewer (said (base_of g) x ∷ links_in l n g) (links_in (appended l n x) (n + 1) g) (λ p q f. sym (appended-joins e p q) ∙ f)
      (no_cycle-more (said (base_of g) x) (links_in l n g) none back)

module _ (l : List ℕ) (n i : ℕ) (g : Graph) (h : i < n) (fits : n ≤ length l) where
  -- a removal takes out the link that place i names, and none of any other graph
  pub removed-joins : is_link_of (base_of g) (get_or l i 0) ≡ true → (p q : ℕ) → joins (links_in l n g) p q ≡ joins (said (base_of g) (get_or l i 0) ∷ links_in (removed l n i) (n - 1) g) p q
  removed-joins e p q =
      let base = base_of g in
      let x = get_or l i 0 in
      let back = drop (suc i) (take n l) in
      ap (λ (ls : List Link). joins ls p q) (links-split l n i g h fits ∙ ap (λ (ms : List Link). links_from base (take i l) ++ ms) (links_from-in base x back e))
      ∙ joins-moved (said base x) (links_from base (take i l)) (links_from base back) p q
      ∙ ap (λ (ls : List Link). joins (said base x ∷ ls) p q) (sym (removed-links l n i g h fits))

  pub removed-other : is_link_of (base_of g) (get_or l i 0) ≡ false → links_in l n g ≡ links_in (removed l n i) (n - 1) g
  removed-other e =
      links-split l n i g h fits
      ∙ ap (λ (ms : List Link). links_from (base_of g) (take i l) ++ ms) (links_from-out (base_of g) (get_or l i 0) (drop (suc i) (take n l)) e)
      ∙ sym (removed-links l n i g h fits)
