use mathlib.Core.Path.{◌≡◌, sym, ap, ◌∙◌}
use mathlib.Core.List.{List, ◌++◌, append_assoc}
use Prim.Native.Nat.{ℕ, ◌+◌, ◌-◌, ◌≤◌}
use native.Mathlib.Omega.{arith}
use lib.ListN.{length, take, drop, replicate}
use Rattle.std.specs.List.{copy_within}
use Rattle.store.specs.Store.{part, cleared, took_first}
use Rattle.store.proofs.Over.{over-over, part_length}
use Rattle.store.proofs.take_first.Goals as goal

-- the other messages moved down, and the last place cleared
moved : (s : List ℕ) (at : ℕ) → at + 264 ≤ length s → cleared (copy_within s (at + 33) (at + 264) at) (at + 231) 33 ≡ took_first s at
moved s at h =
    let p = part s (at + 33) 231 in
    let m : length p ≡ 231 = part_length s (at + 33) 231 (omega arith) in
    let k : at + 264 - (at + 33) ≡ 231 = omega arith in
    ap (λ (n : ℕ). cleared ((take at s ++ take n (drop (at + 33) s)) ++ drop (at + n) s) (at + 231) 33) k
    ∙ ap (λ (t : List ℕ). cleared t (at + 231) 33) (append_assoc (take at s) p (drop (at + 231) s))
    ∙ ap (λ (n : ℕ). cleared (take at s ++ (p ++ drop (at + n) s)) (at + n) 33) (sym m)
    ∙ over-over s at p (replicate 33 0) (omega arith)

pub returns : goal.returns
returns c =
    let a = c.args in
    c.clear.ensures
    ∙ ap (λ (s : List ℕ). cleared s (a.at + 231) 33) c.copy_within.ensures.after
    ∙ moved a.store.now a.at (omega arith)
