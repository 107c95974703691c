use Rattle.std.proofs.Common.{rules}
use Rattle.records.proofs.ClearLaws.{filled}
use Rattle.records.proofs.lists.clear.Goals as goal

pub returns : goal.returns
returns g c = filled _ (g.L.Link.of_number 0) (λ f x q k. search rules) _ _ _ c.args.links.now c.fill_with.ensures.ran.1 c.fill_with.ensures.len
