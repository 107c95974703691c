use mathlib.Core.Path.{◌≡◌, refl, sym, ap, ap₂, ◌∙◌}
use mathlib.Core.Bool.{◌&&◌}
use mathlib.Core.List.{List}
use Prim.Native.Nat.{ℕ, ◌+◌, ◌/◌, ◌%◌, ◌≤◌, ◌<◌}
use native.Mathlib.Nat.{zero-add}
use native.Mathlib.Omega.{arith}
use borrow.Author.Tests.{leb-true, leb-false}
use lib.ListN.{length, get_or, set, take, length-set}
use lib.Seq.{length-take-le, take_all}
use Rattle.store.specs.Store.{over}
use Rattle.store.proofs.Over.{over-next}
use Rattle.lines.specs.declared.reader.ReadByte.{ReadByte}
use Rattle.lines.specs.Lines.{byte_of, frame_of, all_digits}
use Rattle.lines.proofs.LineLaws.{frame-length, frame-next, digits-next}
use Rattle.lines.proofs.line.read_digits.Goals as goal

-- one pair of digits more
turn :
    (s z : List ℕ) (i : ℕ) → i + 1 < length z → i % 2 ≡ 0 → length z ≤ length s + length s
    → set (over s 0 (frame_of (take i z))) (i / 2) (byte_of (get_or z i 0) (get_or z (i + 1) 0)) ≡ over s 0 (frame_of (take (i + 2) z))
turn s z i h e r =
    let l : length (frame_of (take i z)) ≡ i / 2 = frame-length (take i z) ∙ ap (λ (n : ℕ). n / 2) (length-take-le i z (omega arith)) in
    rw (zero-add (i / 2)) at (over-next s 0 (frame_of (take i z)) (i / 2) (byte_of (get_or z i 0) (get_or z (i + 1) 0)) l (omega arith))
    ∙ ap (over s 0) (sym (frame-next z i h e))

pub loop-b-init : goal.loop-b-init
unfolding all_digits frame_of
loop-b-init c = (omega arith, omega arith, refl, refl, refl)

pub loop-b-preserved : goal.loop-b-preserved
loop-b-preserved c =
    let a = c.args in
    let z = a.line.now in
    let i = c.loop-b.i in
    let inv = c.loop-b.invariant in
    let b = c.read_byte-b.ensures in
    let more : i + 1 < length z = leb-false (length z) (i + 1) (sym c.is_read.ensures ∙ c.loop-b-test.true) in (
      omega arith,
      omega arith,
      simp length-set inv.2,
      ap₂ ◌&&◌ inv.3 (ap (λ (r : ReadByte). r.digits) b) ∙ sym (digits-next z i more),
      ap₂ (λ (s : List ℕ) (v : ℕ). set s (i / 2) v) inv.4 (ap (λ (r : ReadByte). r.value) b) ∙ turn a.frame.now z i more inv.0 (omega arith),
    )

pub returns : goal.returns
returns c =
    let z = c.args.line.now in
    let i = c.loop-b.i in
    let inv = c.loop-b.invariant in
    let n : length z ≤ i + 1 = leb-true (length z) (i + 1) (sym c.is_read.ensures ∙ c.loop-b-test.false) in
    let all : take i z ≡ z = take_all i z (omega arith) in record {
      value = inv.3 ∙ ap all_digits all;
      frame_after = inv.4 ∙ ap (λ (y : List ℕ). over c.args.frame.now 0 (frame_of y)) all;
    }
