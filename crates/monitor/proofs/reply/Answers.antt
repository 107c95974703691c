use Rattle.std.proofs.Common.{sym, ◌∙◌, arith}
use Rattle.numbers.proofs.Bools.{and_left}
use Rattle.rules.specs.Tested.{hold_but_truth, pairs_true}
use Rattle.monitor.proofs.reply.Goals as goal

-- past 9 the tables break no rule, and past 10 there is room
pub step-requires : goal.step-requires
step-requires c =
    let a = c.args in
    let s = a.s.now in
    (and_left (hold_but_truth s.tables s.memory a.links.now a.grants.now a.store.now) (pairs_true s.tables s.memory a.links.now a.grants.now) (sym c.break_no_rule.ensures ∙ c.if-not-break_no_rule.false), omega (arith, c.if-answer-lt-ROOM.false))
