-- What std's list functions find in a list, element by element, is what is said of its places, number by number: `all_below` reads the
-- element at each place. Assumes nothing.
use mathlib.Core.Path.{◌≡◌, refl, sym, ap, ◌∙◌}
use mathlib.Core.Bool.{Bool, true, ◌&&◌, ◌||◌}
use mathlib.Core.List.{List, [], ◌∷◌}
use mathlib.Core.Logic.{⊎_elim}
use Prim.Native.Nat.{ℕ, zero, suc, ◌+◌, ◌-◌, ◌≤◌}
use native.Mathlib.Nat.{zero-add}
use native.Mathlib.Numerals.{add-one}
use native.Mathlib.Omega.{arith}
use borrow.Author.Tests.{ltb-true, ltb-false}
use lib.Dec.{ltb}
use lib.ListN.{length, get_or, take, drop}
use Rattle.std.specs.List.{list_all, fold, range_with_len}
use Rattle.std.proofs.Math.Bool.{and_comm, and-true, and_assoc}
use Rattle.std.proofs.lemmas.List.{take_all, get_or-drop, length-drop}
use Rattle.std.proofs.lemmas.List.Folds.{list_all_more}
use Rattle.std.proofs.lemmas.List.FromFn.{length-range_with_len, get_or-range_with_len}
use Rattle.numbers.specs.Below.{all_below}
use Rattle.numbers.proofs.Below.{all_same, all-each, each_all}
use Rattle.numbers.proofs.Bools.{either, both_ways, or_left, or_right, or_elim}

module _ {A : Type 0} (f : A → Bool) (d : A) where
  -- of the first n
  pub all_first : (l : List A) (n : ℕ) → n ≤ length l → list_all f (take n l) ≡ all_below n (λ i. f (get_or l i d))
  unfolding all_below
  all_first l zero h = refl
  all_first l (suc n) h =
      ap (λ (k : ℕ). list_all f (take k l)) (sym (add-one n))
      ∙ list_all_more f l n d (omega arith)
      ∙ and_comm (list_all f (take n l)) (f (get_or l n d))
      ∙ ap (λ (b : Bool). f (get_or l n d) && b) (all_first l n (omega arith))

  -- of all
  pub all_rows : (l : List A) (n : ℕ) → length l ≡ n → list_all f l ≡ all_below n (λ i. f (get_or l i d))
  all_rows l n e = ap (list_all f) (sym (take_all n l (omega arith))) ∙ all_first l n (omega arith)

  -- of the n from `from` on
  pub all_part : (l : List A) (from n : ℕ) → from + n ≤ length l → list_all f (take n (drop from l)) ≡ all_below n (λ i. f (get_or l (from + i) d))
  all_part l from n h =
      all_first (drop from l) n (omega (arith, length-drop from l))
      ∙ all_same n (λ i. f (get_or (drop from l) i d)) (λ i. f (get_or l (from + i) d)) (λ i k. ap f (get_or-drop from l i d))

  -- of all but the first n
  pub all_past : (l : List A) (n k : ℕ) → length l ≡ k → list_all f (drop n l) ≡ all_below k (λ i. ltb i n || f (get_or l i d))
  all_past l n k e =
      all_rows (drop n l) (k - n) (omega (arith, length-drop n l))
      ∙ both_ways
      (all_below (k - n) (λ i. f (get_or (drop n l) i d)))
      (all_below k (λ i. ltb i n || f (get_or l i d)))
      (λ a.
      each_all k (λ i. ltb i n || f (get_or l i d)) (λ i h.
      ⊎_elim
      (or_left (ltb i n) (f (get_or l i d)))
      (λ q.
      let past = ltb-false i n q in
      let at : n + (i - n) ≡ i = omega arith in
      or_right (ltb i n) (f (get_or l i d))
      (ap (λ (j : ℕ). f (get_or l j d)) (sym at) ∙ ap f (sym (get_or-drop n l (i - n) d))
      ∙ all-each (k - n) (λ i. f (get_or (drop n l) i d)) a (i - n) (omega arith)))
      (either (ltb i n))))
      (λ a.
      each_all (k - n) (λ i. f (get_or (drop n l) i d)) (λ i h.
      or_elim (ltb (n + i) n) (f (get_or l (n + i) d)) (f (get_or (drop n l) i d))
      (all-each k (λ i. ltb i n || f (get_or l i d)) a (n + i) (omega arith))
      (λ q. let low = ltb-true (n + i) n q in absurd (omega arith))
      (λ q. ap f (get_or-drop n l i d) ∙ q)))

module _ {A : Type 0} (f : A → Bool) where
  -- a fold that keeps what it found
  fold_from : (l : List A) (b : Bool) → fold (λ ok x. ok && f x) b l ≡ (b && list_all f l)
  fold_from [] b = sym (and-true b)
  fold_from (x ∷ l) b = fold_from l (b && f x) ∙ and_assoc b (f x) (list_all f l)

  pub fold_all : (l : List A) → fold (λ ok x. ok && f x) true l ≡ list_all f l
  fold_all l = fold_from l true

-- of the numbers below n, as a range gives them
pub all_range : (f : ℕ → Bool) (n : ℕ) → list_all f (range_with_len 0 n) ≡ all_below n f
all_range f n =
    all_rows f 0 (range_with_len 0 n) n (length-range_with_len 0 n)
    ∙ all_same n (λ i. f (get_or (range_with_len 0 n) i 0)) f (λ i h. ap f (get_or-range_with_len 0 n i 0 h ∙ zero-add i))
