-- `link_rules::rows::no_cycle` meets its contract. Assumes nothing.
use native.Mathlib.Omega.{arith}
use Rattle.link_rules.proofs.RowLaws.{stripped-is}
use Rattle.link_rules.proofs.rows.no_cycle.Goals as goal

pub returns : goal.returns
returns c = let a = c.args in
    stripped-is a.rows.now a.at a.starts c.strip.result (omega (arith, c.strip.type_inv)) c.strip.ensures c.requires.leaving
