-- The length byte, the message and the zeros after it are put in turn.
use mathlib.Core.Path.{◌≡◌, ap, ap₂, ◌∙◌}
use mathlib.Core.List.{List, [], ◌∷◌}
use Prim.Native.Nat.{ℕ, ◌+◌, ◌-◌, ◌≤◌}
use native.Mathlib.Omega.{arith}
use lib.ListN.{length, set, replicate}
use Rattle.store.specs.Store.{over, cleared, put}
use Rattle.store.proofs.Over.{over-one, over-over, over-mid}
use Rattle.store.proofs.put.Goals as goal

-- a length stored at `at`, the message stored after it, and what follows in the place cleared
laid :
    (s m : List ℕ) (at : ℕ) → length m ≤ 32 → at + 33 ≤ length s
    → cleared (over (set s at (length m)) (at + 1) m) (at + 1 + length m) (32 - length m) ≡ put s at m
laid s m at l h =
    let n : at + 1 + length m ≡ at + length (length m ∷ m) = omega arith in
    ap₂ (λ (xs : List ℕ) (k : ℕ). cleared xs k (32 - length m))
    (ap (λ (xs : List ℕ). over xs (at + 1) m) (over-one s at (length m) (omega arith)) ∙ over-over s at (length m ∷ []) m (omega arith)) n
    ∙ over-over s at (length m ∷ m) (replicate (32 - length m) 0) (omega arith)

pub returns : goal.returns
returns c =
    let a = c.args in
    let s = a.store.now in
    let m = a.message.now in
    c.clear.ensures
    ∙ ap (λ (xs : List ℕ). cleared xs (a.at + 1 + length m) (32 - length m))
    (over-mid (set s a.at (length m)) (a.at + 1) _ _ (omega (arith, ap (length {A = ℕ}) c.copy_from_slice.ensures.after))
    ∙ ap (over (set s a.at (length m)) (a.at + 1)) c.copy_from_slice.ensures.after)
    ∙ laid s m a.at (omega arith) (omega arith)
