use Rattle.std.proofs.Common.{◌≡◌, length}
use Rattle.link_rules.specs.LinkRules.{none_doubled}
use Rattle.link_rules.specs.Filling.{Filled}
use Rattle.link_rules.proofs.rules.fill.Given as goal

abbrev pub invariant-loop-x : goal.invariant-loop-x
invariant-loop-x l =
    (length l.rows ≡ length l.initial.rows) × (length l.starts ≡ length l.initial.starts) × (l.ok ≡ none_doubled l.links l.x-index) × Filled l.links l.x-index l.rows l.starts
