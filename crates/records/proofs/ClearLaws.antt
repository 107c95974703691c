-- A list of which each place was written by a call that gives z. Assumes nothing.
use mathlib.Core.Path.{◌≡◌, refl, ap, ap₂, ◌∙◌}
use mathlib.Core.List.{List, [], ◌∷◌}
use Prim.Native.Nat.{ℕ}
use lib.ListN.{length, replicate}
use Rattle.std.specs.List.{FoldsTo}

module _ {A F : Type 0} (R : F → A → F → Type 0) (z : A) (gives : (f : F) (x : A) (q : F) → R f x q → x ≡ z) where
  all_written : (f q : F) (l : List A) → FoldsTo R f l q → l ≡ replicate (length l) z
  all_written f q [] ran = refl
  all_written f q (x ∷ l) ran = ap₂ (λ (y : A) (k : List A). y ∷ k) (gives f x ran.0 ran.1) (all_written ran.0 q l ran.2)

  pub filled : (f q : F) (l ys : List A) → FoldsTo R f l q → length l ≡ length ys → l ≡ replicate (length ys) z
  filled f q l ys ran same = all_written f q l ran ∙ ap (λ (n : ℕ). replicate n z) same
