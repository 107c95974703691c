-- Taking one element out of a list by moving those after it down. Assumes nothing.
use mathlib.Core.Path.{◌≡◌, refl, ap, ap₂, ◌∙◌}
use mathlib.Core.List.{List, ◌∷◌, ◌++◌, append_assoc}
use Prim.Native.Nat.{ℕ, suc, ◌+◌, ◌-◌, ◌≤◌, ◌<◌, min}
use native.Mathlib.Numerals.{add-one}
use native.Mathlib.Omega.{arith}
use borrow.Author.Tests.{lt-ltb, le-ltb}
use lib.ListN.{length, get_or, take, drop, set, length-append, length-drop}
use lib.Seq.{length-take-le, drop-cons, set_at, paste}
use Rattle.std.proofs.lemmas.Slice.{between_is}
use Rattle.numbers.proofs.Chain.{skip, hit}
use Rattle.links.specs.Links.{gap_closed}
use Rattle.links.proofs.LinkLaws.{take-used, drop-used}

-- the list l, of which the element at i is taken out; z stands for what is past its end, and takes the place that becomes free
module _ {A : Type 0} (z : A) (l : List A) (i k : ℕ) (h : i ≤ k) (g : k < length l) where
  -- the first k elements once the one at i is gone
  moved : List A
  moved = take i l ++ drop (suc i) (take (suc k) l)

  length_moved : length moved ≡ k
  unfolding moved
  length_moved =
      length-append (take i l) (drop (suc i) (take (suc k) l))
      ∙ ap₂ (λ (x y : ℕ). x + y) (length-take-le i l (omega arith)) (length-drop (suc i) (take (suc k) l) ∙ ap (λ (x : ℕ). x - suc i) (length-take-le (suc k) l g))
      ∙ omega arith

  -- those from i + 1 up to k were copied to i
  moved-down : paste l i (drop (i + 1) l) (suc k - (i + 1)) ≡ moved ++ drop k l
  unfolding moved
  moved-down =
      let past : i + (suc k - (i + 1)) ≡ k = omega arith in
      ap₂ (λ (xs ys : List A). (take i l ++ xs) ++ ys) (ap (λ (j : ℕ). take (suc k - j) (drop j l)) (add-one i) ∙ between_is l (suc i) (suc k)) (ap (λ (j : ℕ). drop j l) past)

  -- and the last place becomes free
  pub freed : set (paste l i (drop (i + 1) l) (suc k - (i + 1))) k z ≡ take i l ++ (drop (suc i) (take (suc k) l) ++ (z ∷ drop (suc k) l))
  unfolding moved
  freed =
      ap (λ (xs : List A). set xs k z) (moved-down ∙ ap (λ (xs : List A). moved ++ xs) (drop-cons l k z g))
      ∙ set_at moved (get_or l k z) (drop (suc k) l) z k length_moved
      ∙ append_assoc (take i l) (drop (suc i) (take (suc k) l)) (z ∷ drop (suc k) l)

-- ---- of the first n elements

module _ {A : Type 0} (z : A) (l : List A) (n i : ℕ) where
  -- i is none of them, and nothing is taken out
  pub gap-none : min n (length l) ≤ i → l ≡ gap_closed z l n i
  unfolding gap_closed
  gap-none past = skip (take i l ++ (drop (suc i) (take n l) ++ (z ∷ drop n l))) (le-ltb i (min n (length l)) past) refl

  -- those up to the last have moved down, and its place becomes free
  pub gap-closed : (k : ℕ) → i ≤ k → suc k ≡ min n (length l) → set (paste l i (drop (i + 1) l) (suc k - (i + 1))) k z ≡ gap_closed z l n i
  unfolding gap_closed
  gap-closed k h end =
      hit l (lt-ltb i (min n (length l)) (omega arith))
      (freed z l i k h (omega arith)
      ∙ ap₂ (λ (xs ys : List A). take i l ++ (drop (suc i) xs ++ (z ∷ ys)))
      (ap (λ (j : ℕ). take j l) end ∙ take-used l n) (ap (λ (j : ℕ). drop j l) end ∙ drop-used l n))
