use Rattle.std.proofs.Common.{◌≡◌, length, take}
use Rattle.store.specs.Store.{over}
use Rattle.lines.specs.Lines.{digits_in}
use Rattle.lines.proofs.line.put_line.Given as goal

abbrev pub invariant-loop-i : goal.invariant-loop-i
invariant-loop-i l =
    (length l.out ≡ length l.initial.out) × (l.out ≡ over l.initial.out l.at (digits_in (take l.i l.bytes)))
