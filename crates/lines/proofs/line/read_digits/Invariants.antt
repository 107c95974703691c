use Rattle.std.proofs.Common.{◌%◌, ◌-◌, ◌≡◌, ◌≤◌, length, take}
use Rattle.store.specs.Store.{over}
use Rattle.lines.specs.Lines.{frame_of, all_digits}
use Rattle.lines.proofs.line.read_digits.Given as goal

abbrev pub invariant-loop-b : goal.invariant-loop-b
invariant-loop-b l =
    (l.i % 2 ≡ 0) × (l.i ≤ length l.line) × (length l.frame ≡ length l.initial.frame)
    × (l.ok ≡ all_digits (take l.i l.line)) × (l.frame ≡ over l.initial.frame 0 (frame_of (take l.i l.line)))

abbrev pub decreases-loop-b : goal.decreases-loop-b
decreases-loop-b l = length l.line - l.i
