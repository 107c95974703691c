use Rattle.std.proofs.Common.{arith, ◌<◌, length, take}
use lib.ListN.{length-take}
use Rattle.std.proofs.lemmas.List.{get_or-take}
use Rattle.records.proofs.GatherLaws.{up_to-next}
use Rattle.records.proofs.lists.gather.Goals as goal

pub loop-i-preserved : goal.loop-i-preserved
loop-i-preserved g c =
    let m = g.L.Link in
    let links = c.args.links.now in
    let i = c.loop-i.i in
    let l = c.link-item.result in
    let within : i < length (take c.used-end.result links) = c.loop-i-test.true in
    let here : i < c.used-end.result = omega (arith, length-take c.used-end.result links) in
    record {
      in_range = omega arith;
      front =
          let next = up_to-next m.number links c.args.numbers.now i l (omega (arith, c.used-end.ensures)) (omega (arith, c.used-end.ensures)) in
          let read = get_or-take c.used-end.result links i l here in
          cc;
    }
