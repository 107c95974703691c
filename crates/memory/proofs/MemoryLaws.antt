-- The laws of remembered answers: at most M pairs, each once; with M = 0 none; and a truthful memory answers as the walk does and
-- stays truthful. Assumes nothing.
use mathlib.Core.Path.{◌≡◌, refl, sym, ap, ap₂, subst, ◌∙◌}
use mathlib.Core.Bool.{Bool, true, false, not, cond, ◌||◌}
use mathlib.Core.List.{List, [], ◌∷◌}
use mathlib.Core.Logic.{◌⊎◌, inl, inr, ⊎_elim}
use Prim.Native.Nat.{ℕ, zero, suc}
use native.Mathlib.Omega.{arith}
use borrow.Author.Tests.{eqb-true, not-true}
use lib.Dec.{eqb}
use lib.ListN.{length, take, drop, length-take}
use lib.Seq.{take-append_seam}
use Rattle.numbers.proofs.Bools.{and_left, and_right, and_both, or_left, or_right, or-either, either, never}
use Rattle.std.specs.Prelude.{Some, is_some}
use Rattle.links.specs.Links.{find_from, find_in}
use Rattle.memory.specs.declared.Memory.{Memory}
use Rattle.memory.specs.Remembered.{Fits, held_pairs, holds, without, holding, remembered, emptied, counted, answered}
use Rattle.memory.specs.Truth.{among, distinct, Truthful}

-- ---- which pairs are held

found_among : (i : ℕ) (l : List ℕ) (x : ℕ) → is_some (find_from i l x) ≡ among l x
unfolding find_from among
found_among i [] x = refl
found_among i (y ∷ l) x = pick (eqb y x) (found_among (suc i) l x)
  where
    pick : (b : Bool) → is_some (find_from (suc i) l x) ≡ among l x → is_some (cond b (Some i) (find_from (suc i) l x)) ≡ (b || among l x)
    pick true ih = refl
    pick false ih = ih

pub holds-is : (m : Memory) (x : ℕ) → holds m x ≡ among (held_pairs m) x
holds-is m x = found_among 0 (held_pairs m) x

among-take : (k : ℕ) (l : List ℕ) (x : ℕ) → among (take k l) x ≡ true → among l x ≡ true
unfolding among
among-take zero l x e = absurd (never e refl)
among-take (suc k) [] x e = e
among-take (suc k) (y ∷ l) x e =
    ⊎_elim (or_left (eqb y x) (among l x)) (λ t. or_right (eqb y x) (among l x) (among-take k l x t)) (or-either (eqb y x) (among (take k l) x) e)

among-without : (x : ℕ) (l : List ℕ) (y : ℕ) → among (without x l) y ≡ true → among l y ≡ true
unfolding among without
among-without x [] y e = e
among-without x (z ∷ l) y e =
    ⊎_elim
    (λ t. or_right (eqb z y) (among l y) (subst (λ (b : Bool). among (cond b l (z ∷ without x l)) y ≡ true) t e))
    (λ t.
    ⊎_elim (or_left (eqb z y) (among l y)) (λ u. or_right (eqb z y) (among l y) (among-without x l y u))
    (or-either (eqb z y) (among (without x l) y) (subst (λ (b : Bool). among (cond b l (z ∷ without x l)) y ≡ true) t e)))
    (either (eqb z x))

-- what is held after a list was put in is that list
pub held-holding : (m : Memory) (l : List ℕ) → held_pairs (holding m l) ≡ l
held-holding m l = take-append_seam l (drop (length l) m.pairs)

-- a memory that remembered x holds x, and what it held before
pub holds-remembered : (m : Memory) (x y : ℕ) → holds (remembered m x) y ≡ true → (x ≡ y) ⊎ (holds m y ≡ true)
unfolding remembered among
holds-remembered m x y e =
    let l = x ∷ without x (held_pairs m) in
    let first = among-take m.size l y (sym (holds-is (holding m (take m.size l)) y ∙ ap (λ (p : List ℕ). among p y) (held-holding m (take m.size l))) ∙ e) in
    ⊎_elim (λ t. inl (eqb-true x y t)) (λ t. inr (holds-is m y ∙ among-without x (held_pairs m) y t)) (or-either (eqb x y) (among (without x (held_pairs m)) y) first)

-- ---- at most M, and each once

pub remembered-fits : (m : Memory) (x : ℕ) → Fits m → Fits (remembered m x)
unfolding remembered
remembered-fits m x w = record { within = omega (arith, length-take m.size (x ∷ without x (held_pairs m))); small = w.small }

distinct-take : (k : ℕ) (l : List ℕ) → distinct l ≡ true → distinct (take k l) ≡ true
unfolding distinct
distinct-take zero l e = refl
distinct-take (suc k) [] e = e
distinct-take (suc k) (y ∷ l) e =
    and_both (not (among (take k l) y)) (distinct (take k l))
    (⊎_elim (λ t. absurd (never (among-take k l y t) (not-true (among l y) (and_left (not (among l y)) (distinct l) e)))) (ap not) (either (among (take k l) y)))
    (distinct-take k l (and_right (not (among l y)) (distinct l) e))

distinct_without : (x : ℕ) (l : List ℕ) → distinct l ≡ true → (distinct (without x l) ≡ true) × (among (without x l) x ≡ false)
unfolding distinct without among
distinct_without x [] e = (refl, refl)
distinct_without x (y ∷ l) e =
    let out : among l y ≡ false = not-true (among l y) (and_left (not (among l y)) (distinct l) e) in
    let rest : distinct l ≡ true = and_right (not (among l y)) (distinct l) e in
    ⊎_elim
    (λ t. subst (λ (b : Bool). (distinct (cond b l (y ∷ without x l)) ≡ true) × (among (cond b l (y ∷ without x l)) x ≡ false)) (sym t)
    (rest, ap (among l) (sym (eqb-true y x t)) ∙ out))
    (λ t.
    let ih = distinct_without x l rest in
    let fresh : among (without x l) y ≡ false = ⊎_elim (λ u. absurd (never (among-without x l y u) out)) (λ u. u) (either (among (without x l) y)) in
    subst (λ (b : Bool). (distinct (cond b l (y ∷ without x l)) ≡ true) × (among (cond b l (y ∷ without x l)) x ≡ false)) (sym t)
    (and_both (not (among (without x l) y)) (distinct (without x l)) (ap not fresh) ih.0, ap₂ ◌||◌ t ih.1))
    (either (eqb y x))

pub remembered-distinct : (m : Memory) (x : ℕ) → distinct (held_pairs m) ≡ true → distinct (held_pairs (remembered m x)) ≡ true
unfolding remembered distinct
remembered-distinct m x e =
    let l = x ∷ without x (held_pairs m) in
    let w = distinct_without x (held_pairs m) e in
    subst (λ (p : List ℕ). distinct p ≡ true) (sym (held-holding m (take m.size l)))
    (distinct-take m.size l (and_both (not (among (without x (held_pairs m)) x)) (distinct (without x (held_pairs m))) (ap not w.1) w.0))

-- M = 0: nothing is held, so nothing is a hit
pub none-held : (m : Memory) → Fits m → m.size ≡ 0 → (x : ℕ) → holds m x ≡ false
unfolding find_from
none-held m w e x =
    let empty : m.held ≡ 0 = omega (arith, w.within) in
    ap (λ (n : ℕ). is_some (find_in (take n m.pairs) x)) empty

-- ---- truth

pub emptied-truthful : (m : Memory) (walk : ℕ → Bool) → Truthful (emptied m) walk
unfolding find_from
emptied-truthful m walk x e = absurd (never e refl)

-- links added take no authority away, so they leave the memory true
pub truthful-grows : (m : Memory) (walk more : ℕ → Bool) → ((x : ℕ) → walk x ≡ true → more x ≡ true) → Truthful m walk → Truthful m more
truthful-grows m walk more f w x e = f x (w x e)

remembered-truthful : (m : Memory) (walk : ℕ → Bool) (x : ℕ) → walk x ≡ true → Truthful m walk → Truthful (remembered m x) walk
remembered-truthful m walk x true-x w y e = ⊎_elim (λ s. subst (λ (z : ℕ). walk z ≡ true) s true-x) (w y) (holds-remembered m x y e)

-- a truthful memory answers as the walk does, and stays truthful
pub answers-truly : (m : Memory) (walk : ℕ → Bool) (x : ℕ) → Truthful m walk → ((answered m x (walk x)).yes ≡ walk x) × Truthful (answered m x (walk x)).memory walk
answers-truly m walk x w = pick (holds m x) refl (walk x) refl
  where
    pick : (h : Bool) → holds m x ≡ h → (b : Bool) → walk x ≡ b → ((answered m x (walk x)).yes ≡ walk x) × Truthful (answered m x (walk x)).memory walk
    pick true e b f = rw e (sym (w x e), remembered-truthful (counted m true) walk x (w x e) w)
    pick false e true f = rw (e, f) (refl, remembered-truthful (counted m false) walk x f w)
    pick false e false f = rw (e, f) (refl, w)
