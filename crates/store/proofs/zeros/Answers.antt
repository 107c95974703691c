-- A fold over the values is `zeros` of the list of numbers.
use mathlib.Core.Path.{◌≡◌, sym, ap, ◌∙◌}
use mathlib.Core.Bool.{Bool, true, ◌&&◌}
use mathlib.Core.List.{List, map}
use Prim.Native.Nat.{ℕ, ◌+◌, ◌-◌, ◌≤◌}
use native.Mathlib.Omega.{arith}
use lib.Dec.{eqb}
use lib.ListN.{length, take, drop}
use Rattle.std.specs.List.{fold}
use Rattle.std.proofs.Common.{rules}
use Rattle.std.proofs.lemmas.List.{length-map, take-map, drop-map}
use Rattle.std.proofs.lemmas.List.Folds.{fold-map}
use Rattle.numbers.proofs.BelowLists.{all_part, fold_all}
use Rattle.store.specs.Store.{zeros}
use Rattle.store.proofs.zeros.Goals as goal

over_values :
    {X : Type 0} (value : X → ℕ) (s : List X) (l : List ℕ) (from n : ℕ) → map value s ≡ l → from + n ≤ length s
    → fold (λ ok x. ok && eqb (value x) 0) true (take n (drop from s)) ≡ zeros l from n
unfolding zeros
over_values value s l from n e h =
    let f : Bool → ℕ → Bool = λ ok x. ok && eqb x 0 in
    sym (fold-map f value true (take n (drop from s)))
    ∙ ap (fold f true) (sym (take-map value n (drop from s)) ∙ ap (take n) (sym (drop-map value from s) ∙ ap (drop from) e))
    ∙ fold_all (λ x. eqb x 0) (take n (drop from l))
    ∙ all_part (λ x. eqb x 0) 0 l from n (omega (arith, length-map s value, ap (length {A = ℕ}) e))

pub returns : goal.returns
returns g c =
    let a = c.args in
    let s = a.s.now in
    let value = g.T.Number.value in
    let p = c.fold.ensures.runs in
    let k : a.from + a.n - a.from ≡ a.n = omega arith in
    let items : map (λ x. x.now) p.0.items ≡ take a.n (drop a.from s) =
    (c.iter.ensures.runs p.0 p.0.seen).4 p.2 ∙ ap (λ i. i.rest.now) p.1 ∙ c.iter.ensures.rest ∙ ap (λ n. take n (drop a.from s)) k in
    p.3 (λ ok x. ok && eqb (value x.now) 0) (search rules)
    ∙ sym (fold-map (λ ok x. ok && eqb (value x) 0) (λ x. x.now) true p.0.items)
    ∙ ap (fold (λ ok x. ok && eqb (value x) 0) true) items
    ∙ over_values value s (g.T.Number.values s) a.from a.n (g.met.T.Number.one_by_one s) (omega arith)
