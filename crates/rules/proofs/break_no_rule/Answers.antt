use Rattle.std.proofs.Common.{sym, ◌∙◌}
use Rattle.rules.proofs.Gives.{memory-fits}
use Rattle.rules.proofs.break_no_rule.Goals as goal

-- past the test the tables break no other rule
pub pairs_true-requires : goal.pairs_true-requires
pairs_true-requires c =
    let a = c.args in
    memory-fits a.t.now a.m.now a.links.now a.grants.now a.store.now (sym c.hold_but_truth.ensures ∙ c.if-hold_but_truth.true)
