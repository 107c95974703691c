use Rattle.std.proofs.Common.{◌≡◌, map, take}
use Rattle.records.proofs.lists.numbered.Given as goal

-- so far
abbrev pub invariant-loop-link : goal.invariant-loop-link
invariant-loop-link g l = let m = g.L.Link in map m.of_number (map m.number (take l.link-index l.links)) ≡ take l.link-index l.links
