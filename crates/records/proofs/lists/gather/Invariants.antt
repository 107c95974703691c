use Rattle.std.proofs.Common.{◌≡◌, ◌≤◌}
use Rattle.records.proofs.GatherLaws.{up_to}
use Rattle.records.proofs.lists.gather.Given as goal

abbrev pub invariant-loop-i : goal.invariant-loop-i
invariant-loop-i g l = record {
  in_range : l.i ≤ l.end;
  front : l.numbers ≡ up_to g.L.Link.number l.links l.fn.numbers l.i;
}
