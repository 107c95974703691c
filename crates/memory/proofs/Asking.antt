-- What a question leaves to write, written into the memory, is the memory after it. Assumes nothing.
use mathlib.Core.Path.{◌≡◌, refl, sym, ap, ◌∙◌}
use mathlib.Core.Bool.{Bool, true, false, cond}
use mathlib.Core.List.{List}
use mathlib.Core.Logic.{⊎_elim}
use Prim.Native.Nat.{ℕ, ◌+◌, ◌-◌, ◌≤◌, ◌<◌}
use native.Mathlib.Omega.{arith}
use borrow.Author.Tests.{lt-ltb, ltb-true, ltb-false}
use lib.Dec.{ltb}
use lib.ListN.{length, length-take}
use Rattle.numbers.specs.Numbers.{one_more}
use Rattle.numbers.proofs.Bools.{either}
use Rattle.numbers.proofs.Chain.{skip, hit}
use Rattle.std.specs.Prelude.{Option, Some, None}
use Rattle.links.specs.Links.{find_in}
use Rattle.memory.specs.declared.Memory.{Memory}
use Rattle.memory.specs.declared.Note.{Note}
use Rattle.memory.specs.declared.PairChange.TheVariants.{Keep, Front}
use Rattle.memory.specs.Remembered.{Fits, held_pairs, counted, remembered, emptied, answered, slid}
use Rattle.memory.specs.Notes.{tally_of, renewed, noted, as_is, wiped, counting, brought, among_places, judged}
use Rattle.memory.proofs.Front.{with_front, found_at, moved, added, pushed, nothing}

-- counting changes no pair
pub counted-fits : (m : Memory) (held : Bool) → Fits m → Fits (counted m held)
counted-fits m held w = record { within = w.within; small = w.small }

-- a pair comes to the front from a place that is there
pub renewed-front : (k x : ℕ) (p : List ℕ) → k < length p → renewed (Front k x) p ≡ slid k x p
unfolding renewed
renewed-front k x p l = ap (λ (b : Bool). cond b (slid k x p) p) (lt-ltb k (length p) l)

-- ---- a pair that goes to the front, in a memory whose places are all there

module _ (m : Memory) (x : ℕ) (w : Fits m) (long : length m.pairs ≡ 64) where
  room : m.size ≤ length m.pairs
  room = omega (arith, w.small)

  -- it comes from place k
  from_place : (held hits k : ℕ) → k < length m.pairs
      → noted m (counting (tally_of m) held hits (Front k x)) ≡ with_front (record { size = m.size; held = m.held; pairs = m.pairs; questions = one_more m.questions; hits = hits }) held k x
  from_place held hits k h = ap (λ (p : List ℕ). record { size = m.size; held = held; pairs = p; questions = one_more m.questions; hits = hits }) (renewed-front k x m.pairs h)

  -- it is held at k
  held_at : (k : ℕ) → find_in (held_pairs m) x ≡ Some k → (among_places (Some k) ≡ Some k) × (noted m (brought (tally_of m) (Some k) x) ≡ remembered (counted m true) x)
  held_at k e =
      let inside : k < length m.pairs = omega (arith, (found_at (held_pairs m) x k e).0, length-take m.held m.pairs) in
      (sym (hit None (lt-ltb k 64 (omega (arith, inside, long))) refl), from_place m.held (one_more m.hits) k inside ∙ moved (counted m true) x w.within room k e)

  -- it is not held
  module _ (none : find_in (held_pairs m) x ≡ None) where
    not-held : noted m (brought (tally_of m) None x) ≡ remembered (counted m false) x
    unfolding renewed
    not-held =
        ⊎_elim
        (λ t. ap (noted m) (sym (hit _ t refl)) ∙ from_place (m.held + 1) m.hits m.held (omega (arith, ltb-true m.held m.size t, room)) ∙ added (counted m false) x w.within room none (ltb-true m.held m.size t))
        (λ t. ap (noted m) (sym (skip _ t refl)) ∙ full (ltb-false m.held m.size t))
        (either (ltb m.held m.size))
      where
        full : m.size ≤ m.held → noted m (cond (ltb m.held 1) (counting (tally_of m) m.held m.hits Keep) (counting (tally_of m) m.held m.hits (Front (m.held - 1) x))) ≡ remembered (counted m false) x
        full h =
            ⊎_elim
            (λ t. ap (noted m) (sym (hit _ t refl)) ∙ nothing (counted m false) x w.within room h (ltb-true m.held 1 t))
            (λ t.
            let g : 1 ≤ m.held = ltb-false m.held 1 t in
            ap (noted m) (sym (skip _ t refl)) ∙ from_place m.held m.hits (m.held - 1) (omega (arith, w.within, room, g)) ∙ pushed (counted m false) x w.within room none h g)
            (either (ltb m.held 1))

  -- ---- the ends of a question

  abbrev Same : Option ℕ → Bool → Type 0
  Same k walk = ((judged (tally_of m) k x walk).yes ≡ (answered m x walk).yes) × (noted m (judged (tally_of m) k x walk).note ≡ (answered m x walk).memory)

  pub judged-is : (walk : Bool) → Same (find_in (held_pairs m) x) walk
  unfolding renewed
  judged-is walk = ends (find_in (held_pairs m) x) refl walk
    where
      ends : (f : Option ℕ) → find_in (held_pairs m) x ≡ f → (b : Bool) → Same f b
      ends (Some k) e b = let h = held_at k e in rw (e, h.0) (refl, h.1)
      ends None e true = rw e (refl, not-held e)
      ends None e false = rw e (refl, refl)

-- where nothing is to be written, the memory stays
pub stays : (m : Memory) → noted m (as_is (tally_of m)) ≡ m
unfolding renewed
stays m = refl

-- where all pairs are cleared, it is emptied
pub empties : (m : Memory) (n : Note) → noted m (wiped n) ≡ emptied (noted m n)
unfolding renewed
empties m n = refl

-- "The host may clear the memory between requests"
pub forgets : (m : Memory) → noted m (wiped (as_is (tally_of m))) ≡ emptied m
forgets m = empties m (as_is (tally_of m)) ∙ ap emptied (stays m)
