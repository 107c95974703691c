use mathlib.Core.Path.{◌≡◌, refl, sym, ap, ap₂, ◌∙◌}
use mathlib.Core.List.{List, [], ◌∷◌, ◌++◌, append_assoc}
use Prim.Native.Nat.{ℕ, ◌+◌, ◌*◌, ◌≤◌, ◌<◌}
use native.Mathlib.Omega.{arith}
use lib.ListN.{length, get_or, set, take, length-set, length-append}
use lib.Seq.{length-take-le, take_all}
use Rattle.store.specs.Store.{over}
use Rattle.store.proofs.Over.{over_none, over-next}
use Rattle.lines.specs.Digits.{digits_of}
use Rattle.lines.specs.Lines.{digits_in, line_feed}
use Rattle.lines.proofs.LineLaws.{digits-length, written_next}
use Rattle.lines.proofs.line.put_line.Goals as goal

-- the two digits of one byte more
turn :
    (s bs : List ℕ) (at i : ℕ) → i < length bs → at + (length bs + length bs) ≤ length s
    → set (set (over s at (digits_in (take i bs))) (at + 2 * i) (digits_of (get_or bs i 0)).high) (at + 2 * i + 1) (digits_of (get_or bs i 0)).low
    ≡ over s at (digits_in (take (i + 1) bs))
turn s bs at i h r =
    let z = digits_in (take i bs) in
    let high = (digits_of (get_or bs i 0)).high in
    let low = (digits_of (get_or bs i 0)).low in
    let n : length z ≡ 2 * i = omega (arith, digits-length (take i bs), length-take-le i bs (omega arith)) in
    let k : at + 2 * i + 1 ≡ at + (2 * i + 1) = omega arith in
    ap₂ (λ (o : List ℕ) (j : ℕ). set o j low) (over-next s at z (2 * i) high n (omega arith)) k
    ∙ over-next s at (z ++ (high ∷ [])) (2 * i + 1) low (simp length-append (omega arith)) (omega arith)
    ∙ ap (over s at) (append_assoc z (high ∷ []) (low ∷ []) ∙ sym (written_next bs i h))

pub loop-i-init : goal.loop-i-init
unfolding digits_in
loop-i-init c = (refl, sym (over_none c.args.out.now c.args.at))

pub loop-i-preserved : goal.loop-i-preserved
loop-i-preserved c =
    let a = c.args in
    let inv = c.loop-i.invariant in (
      simp length-set inv.0,
      rw (inv.1, c.digits_of-digits.ensures) (turn a.out.now a.bytes.now a.at c.loop-i.i (omega arith) (omega arith)),
    )

pub returns : goal.returns
returns c =
    let a = c.args in
    let bs = a.bytes.now in
    let all : take c.loop-i.i bs ≡ bs = take_all c.loop-i.i bs (omega arith) in
    rw (c.loop-i.invariant.1, all) (over-next a.out.now a.at (digits_in bs) (2 * length bs) line_feed (omega (arith, digits-length bs)) (omega arith))
