-- `link_rules::rules::plain` meets its contract. Assumes nothing.
use Rattle.std.proofs.Common.{ap₂, ◌∙◌, ◌&&◌, length}
use Rattle.link_rules.proofs.FillLaws.{filled-leaving, filled_none}
use Rattle.link_rules.proofs.rules.plain.Goals as goal

pub none_cyclic-requires-clause-by_index : goal.none_cyclic-requires-clause-by_index
none_cyclic-requires-clause-by_index c = let a = c.args in
    let fill = c.fill-single in
    let pre = c.requires.n_in_bounds in
    λ t h. filled-leaving a.links.now a.n (length a.starts.now) fill.new.rows fill.new.starts pre.0 pre.1 fill.ensures.filled_2 t

pub returns : goal.returns
returns c = let a = c.args in
    let fill = c.fill-single in
    let pre = c.requires.n_in_bounds in
    ap₂ ◌&&◌
    (c.none_cyclic.ensures
    ∙ filled_none a.links.now a.n a.tags (length a.starts.now) fill.new.rows fill.new.starts pre.0 pre.1 fill.ensures.filled_2)
    fill.ensures.value
