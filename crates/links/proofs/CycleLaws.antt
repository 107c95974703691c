-- The laws of cycles: what computes is what it says, a link that closes none leaves none, and fewer links have none either.
-- Assumes nothing.
use mathlib.Core.Path.{◌≡◌, refl, sym, ap, subst, subst₂}
use mathlib.Core.Bool.{Bool, true, not}
use mathlib.Core.List.{List, [], ◌∷◌}
use mathlib.Core.Logic.{◌↔◌, ⊎_elim}
use Prim.Native.Nat.{ℕ}
use borrow.Author.Tests.{eqb-true, not-true}
use lib.Dec.{eqb}
use Rattle.numbers.specs.declared.Principal.{Principal}
use Rattle.numbers.proofs.Bools.{and_left, and_right, and_both, or_right, or-either, either, both_ways, never}
use Rattle.links.specs.Paths.{Link, joins, Path, here, along, leads}
use Rattle.links.specs.Cycles.{NoCycle, every_link, no_cycle, closes_cycle}
use Rattle.links.proofs.PathLaws.{Among, joins-head, joins-tail, joins-cases, path-joined, path-grows, path-split, leads-is}

module _ (f : Link → Bool) where
  every-link : (ls : List Link) → every_link f ls ≡ true → (p q : ℕ) → joins ls p q ≡ true → f (record { from = p; to = q }) ≡ true
  unfolding every_link joins
  every-link [] e p q h = absurd (never h refl)
  every-link (l ∷ ls) e p q h =
      ⊎_elim
      (λ w. subst₂ (λ (a b : ℕ). f (record { from = a; to = b }) ≡ true) w.0 w.1 (and_left (f l) (every_link f ls) e))
      (λ w. every-link ls (and_right (f l) (every_link f ls) e) p q w)
      (joins-cases l ls p q h)

  link-every : (ls : List Link) → ((p q : ℕ) → joins ls p q ≡ true → f (record { from = p; to = q }) ≡ true) → every_link f ls ≡ true
  unfolding every_link
  link-every [] h = refl
  link-every (l ∷ ls) h =
      and_both (f l) (every_link f ls) (h l.from l.to (joins-head l ls)) (link-every ls (λ p q e. h p q (joins-tail l ls p q e)))

-- the law that joins the two
pub no_cycle-is : (ls : List Link) → (no_cycle ls ≡ true) ↔ NoCycle ls
unfolding no_cycle
no_cycle-is ls = (
  (λ e p q h w. never ((leads-is ls q p).1 w) (not-true (leads ls q p) (every-link (λ l. not (leads ls l.to l.from)) ls e p q h))),
  (λ f.
      link-every (λ l. not (leads ls l.to l.from)) ls
      (λ p q h. ⊎_elim (λ e. absurd (f p q h ((leads-is ls q p).0 e))) (λ e. ap not e) (either (leads ls q p)))),
)

-- fewer links have no cycle either
pub no_cycle-fewer : (ls ms : List Link) → Among ms ls → NoCycle ls → NoCycle ms
no_cycle-fewer ls ms f none p q h w = none p q (f p q h) (path-grows f w)

pub no_cycle-same : (ls ms : List Link) → Among ls ms → Among ms ls → no_cycle ls ≡ no_cycle ms
no_cycle-same ls ms f g =
    both_ways (no_cycle ls) (no_cycle ms)
    (λ e. (no_cycle-is ms).1 (no_cycle-fewer ls ms g ((no_cycle-is ls).0 e)))
    (λ e. (no_cycle-is ls).1 (no_cycle-fewer ms ls f ((no_cycle-is ms).0 e)))

-- a link with no path back closes no cycle
pub no_cycle-more : (l : Link) (ls : List Link) → NoCycle ls → (Path ls l.to l.from → ⊥) → NoCycle (l ∷ ls)
no_cycle-more l ls none back p q h w =
    ⊎_elim
    (λ e.
    ⊎_elim back (λ v. back v.0)
    (path-split l ls (subst₂ (λ (a b : ℕ). Path (l ∷ ls) a b) (sym e.1) (sym e.0) w)))
    (λ e. ⊎_elim (none p q e) (λ v. back (path-joined v.1 (along q e v.0))) (path-split l ls w))
    (joins-cases l ls p q h)

-- and one with a path back does
pub no_cycle-closes : (l : Link) (ls : List Link) → Path ls l.to l.from → NoCycle (l ∷ ls) → ⊥
no_cycle-closes l ls w none = none l.from l.to (joins-head l ls) (path-grows (joins-tail l ls) w)

-- "P = Q or a path Q to P" is a path Q to P of zero or more links
pub closes_cycle-is : (ls : List Link) (p q : Principal) → closes_cycle ls p q ≡ leads ls q.0 p.0
closes_cycle-is ls p q =
    both_ways (closes_cycle ls p q) (leads ls q.0 p.0)
    (λ e.
    ⊎_elim (λ x. (leads-is ls q.0 p.0).1 (subst (λ (z : ℕ). Path ls z p.0) (eqb-true p.0 q.0 x) here)) (λ x. x)
    (or-either (eqb p.0 q.0) (leads ls q.0 p.0) e))
    (λ e. or_right (eqb p.0 q.0) (leads ls q.0 p.0) e)
