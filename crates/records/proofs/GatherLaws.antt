-- The numbers of the first i records, written over the front of a list: what the loop of `gather` goes through, place by place. Assumes nothing.
use mathlib.Core.Path.{◌≡◌, sym, ap, ◌∙◌}
use mathlib.Core.List.{List, [], ◌∷◌, ◌++◌, map, map-append}
use Prim.Native.Nat.{ℕ, suc, ◌+◌, ◌≤◌, ◌<◌}
use native.Mathlib.Numerals.{add-one}
use native.Mathlib.Omega.{arith}
use lib.ListN.{length, get_or, take, drop, set, length-map}
use lib.Seq.{length-take-le, take-suc, drop-cons, append_snoc, set_at}

module _ {A : Type 0} (number : A → ℕ) (ys : List A) (ns : List ℕ) where
  -- the first i are gathered
  abbrev pub up_to : ℕ → List ℕ
  up_to i = map number (take i ys) ++ drop i ns

  front_length : (i : ℕ) → i ≤ length ys → length (map number (take i ys)) ≡ i
  front_length i h = length-map (take i ys) number ∙ length-take-le i ys h

  -- one more
  pub up_to-next : (i : ℕ) (d : A) → i < length ys → i < length ns → set (up_to i) i (number (get_or ys i d)) ≡ up_to (i + 1)
  up_to-next i d h h' =
      let k : ℕ = number (get_or ys i d) in
      let front : List ℕ = map number (take i ys) in
      ap (λ (l : List ℕ). set (front ++ l) i k) (drop-cons ns i 0 h')
      ∙ set_at front (get_or ns i 0) (drop (suc i) ns) k i (front_length i (omega (arith, h)))
      ∙ sym (append_snoc front k (drop (suc i) ns))
      ∙ ap (λ (l : List ℕ). l ++ drop (suc i) ns) (sym (map-append number (take i ys) (get_or ys i d ∷ [])) ∙ ap (map number) (sym (take-suc ys i d h)))
      ∙ ap up_to (sym (add-one i))
