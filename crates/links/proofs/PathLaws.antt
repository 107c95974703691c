-- The laws of paths: `leads` computes them, more links make more of them, and neither the order of a list nor a link that stands
-- twice matters. Assumes nothing.
use mathlib.Core.Path.{◌≡◌, refl, sym, subst}
use mathlib.Core.Bool.{true, false, ◌&&◌}
use mathlib.Core.List.{List, [], ◌∷◌}
use mathlib.Core.Logic.{◌⊎◌, ◌↔◌, inl, inr, ⊎_elim}
use Prim.Native.Nat.{ℕ}
use lib.Dec.{eqb}
use borrow.Author.Tests.{eqb-true, eq-eqb}
use Rattle.numbers.proofs.Bools.{and_left, and_right, and_both, or_left, or_right, or-either, both_ways, never}
use Rattle.links.specs.Paths.{Link, joins, Path, here, along, leads}

-- every link of one list is in the other
abbrev pub Among : List Link → List Link → Type 0
Among ls ms = (p q : ℕ) → joins ls p q ≡ true → joins ms p q ≡ true

-- ---- one link

pub joins-head : (l : Link) (ls : List Link) → joins (l ∷ ls) l.from l.to ≡ true
unfolding joins
joins-head l ls =
    or_left (eqb l.from l.from && eqb l.to l.to) (joins ls l.from l.to)
    (and_both (eqb l.from l.from) (eqb l.to l.to) (eq-eqb l.from l.from refl) (eq-eqb l.to l.to refl))

pub joins-tail : (l : Link) (ls : List Link) → Among ls (l ∷ ls)
unfolding joins
joins-tail l ls p q e = or_right (eqb l.from p && eqb l.to q) (joins ls p q) e

-- a link of `l ∷ ls` is l, or one of ls
pub joins-cases : (l : Link) (ls : List Link) (p q : ℕ) → joins (l ∷ ls) p q ≡ true → ((l.from ≡ p) × (l.to ≡ q)) ⊎ (joins ls p q ≡ true)
unfolding joins
joins-cases l ls p q e =
    ⊎_elim
    (λ h. inl (eqb-true l.from p (and_left (eqb l.from p) (eqb l.to q) h), eqb-true l.to q (and_right (eqb l.from p) (eqb l.to q) h)))
    (λ h. inr h)
    (or-either (eqb l.from p && eqb l.to q) (joins ls p q) e)

-- ---- paths

pub path-one : {ls : List Link} {p q : ℕ} → joins ls p q ≡ true → Path ls p q
path-one {ls} {p} {q} e = along q e here

pub path-joined : {ls : List Link} {p q r : ℕ} → Path ls p q → Path ls q r → Path ls p r
path-joined here w = w
path-joined (along q e v) w = along q e (path-joined v w)

-- more links, more paths
pub path-grows : {ls ms : List Link} {p q : ℕ} → Among ls ms → Path ls p q → Path ms p q
path-grows f here = here
path-grows f (along {p} q e w) = along q (f p q e) (path-grows f w)

-- a path along `l ∷ ls` goes along ls alone, or once over l
pub path-split : (l : Link) (ls : List Link) {p q : ℕ} → Path (l ∷ ls) p q → Path ls p q ⊎ (Path ls p l.from × Path ls l.to q)
path-split l ls here = inl here
path-split l ls (along {p} {r} q e w) =
    let rest = path-split l ls w in
    ⊎_elim
    (λ h. let start : Path ls p l.from = subst (λ (x : ℕ). Path ls x l.from) h.0 here in
    ⊎_elim (λ v. inr (start, subst (λ (x : ℕ). Path ls x r) (sym h.1) v)) (λ v. inr (start, v.1)) rest)
    (λ h. ⊎_elim (λ v. inl (along q h v)) (λ v. inr (along q h v.0, v.1)) rest)
    (joins-cases l ls p q e)

-- ---- `leads` is the paths

path-none : {p q : ℕ} → Path [] p q → p ≡ q
unfolding joins
path-none here = refl
path-none (along q e w) = absurd (never e refl)

leads-path : (ls : List Link) (p q : ℕ) → leads ls p q ≡ true → Path ls p q
unfolding leads
leads-path [] p q e = subst (λ (x : ℕ). Path [] p x) (eqb-true p q e) here
leads-path (l ∷ ls) p q e =
    ⊎_elim
    (λ h. path-grows (joins-tail l ls) (leads-path ls p q h))
    (λ h.
    path-joined
    (path-grows (joins-tail l ls) (leads-path ls p l.from (and_left (leads ls p l.from) (leads ls l.to q) h)))
    (along l.to (joins-head l ls) (path-grows (joins-tail l ls) (leads-path ls l.to q (and_right (leads ls p l.from) (leads ls l.to q) h)))))
    (or-either (leads ls p q) (leads ls p l.from && leads ls l.to q) e)

path-leads : (ls : List Link) (p q : ℕ) → Path ls p q → leads ls p q ≡ true
unfolding leads
path-leads [] p q w = eq-eqb p q (path-none w)
path-leads (l ∷ ls) p q w =
    ⊎_elim
    (λ v. or_left (leads ls p q) (leads ls p l.from && leads ls l.to q) (path-leads ls p q v))
    (λ v. or_right (leads ls p q) (leads ls p l.from && leads ls l.to q)
    (and_both (leads ls p l.from) (leads ls l.to q) (path-leads ls p l.from v.0) (path-leads ls l.to q v.1)))
    (path-split l ls w)

-- the law that joins the two
pub leads-is : (ls : List Link) (p q : ℕ) → (leads ls p q ≡ true) ↔ Path ls p q
leads-is ls p q = (leads-path ls p q, path-leads ls p q)

-- more links, more yeses
pub leads-grows : (ls ms : List Link) → Among ls ms → (p q : ℕ) → leads ls p q ≡ true → leads ms p q ≡ true
leads-grows ls ms f p q e = path-leads ms p q (path-grows f (leads-path ls p q e))

-- lists with the same links give the same answers, whatever their order
pub leads-same : (ls ms : List Link) → Among ls ms → Among ms ls → (p q : ℕ) → leads ls p q ≡ leads ms p q
leads-same ls ms f g p q = both_ways (leads ls p q) (leads ms p q) (leads-grows ls ms f p q) (leads-grows ms ls g p q)

-- taking a link out takes away exactly the paths that went over it
pub path-removed :
    (l : Link) (ls ms : List Link) → Among ls (l ∷ ms) → Among (l ∷ ms) ls → (p q : ℕ) → Path ls p q ↔ (Path ms p q ⊎ (Path ms p l.from × Path ms l.to q))
path-removed l ls ms f g p q = (
  (λ w. path-split l ms (path-grows f w)),
  (λ w.
      path-grows g
      (⊎_elim (path-grows (joins-tail l ms))
      (λ v. path-joined (path-grows (joins-tail l ms) v.0) (along l.to (joins-head l ms) (path-grows (joins-tail l ms) v.1)))
      w)),
)

-- no path leads to where no link does, but from there
pub path-unlinked : (ls : List Link) (z : ℕ) → ((p : ℕ) → joins ls p z ≡ false) → {p q : ℕ} → Path ls p q → q ≡ z → p ≡ z
path-unlinked ls z none here e = e
path-unlinked ls z none (along {p} q h w) e = absurd (never (subst (λ (x : ℕ). joins ls p x ≡ true) (path-unlinked ls z none w e) h) (none p))
