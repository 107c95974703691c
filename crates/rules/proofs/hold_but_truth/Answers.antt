use Rattle.std.proofs.Common.{sym, ◌∙◌}
use Rattle.numbers.proofs.Bools.{and_right, never}
use Rattle.thread_rules.specs.ThreadRules.{threads_hold}
use Rattle.tag_rules.specs.TagRules.{tags_hold}
use Rattle.rules.proofs.Gives.{places-fit}
use Rattle.rules.proofs.hold_but_truth.Goals as goal
use Rattle.rules.proofs.hold_but_truth.Goals.{then-lists_hold, else-lists_hold}

-- past the second test the rows obey their rules
pub messages_hold-requires : goal.messages_hold-requires
messages_hold-requires c =
    let t = c.args.t.now in
    elim c.if-lists_hold.branch [
      | then-lists_hold w ↦ places-fit t.tags t.objects (and_right (threads_hold t.principals t.tags t.threads) _ (and_right (tags_hold t.principals t.tags t.kinds) _ (sym w.rows_hold.ensures ∙ sym w.value-is ∙ c.if-rows_hold.true)))
      | else-lists_hold w ↦ absurd (never c.if-rows_hold.true (w.value-is ∙ w.if-lists_hold.false))
    ]
