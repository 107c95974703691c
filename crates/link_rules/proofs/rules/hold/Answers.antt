-- `link_rules::rules::hold` meets its contract: the tests are the definition's, in its order. Assumes nothing.
use Rattle.std.proofs.Common.{◌≡◌, true, sym, ◌∙◌, length, arith}
use Rattle.numbers.proofs.Bools.{never}
use Rattle.link_rules.specs.LinkRules.{in_limits, all_made}
use Rattle.link_rules.proofs.RuleLaws.{limits-is, made-placed}
use Rattle.link_rules.proofs.rules.hold.Goals.{then-in_limits, else-in_limits}
use Rattle.link_rules.proofs.rules.hold.Goals as goal

pub plain-requires-clause-n_in_bounds : goal.plain-requires-clause-n_in_bounds
plain-requires-clause-n_in_bounds c = let a = c.args in
    let l = a.links.now in
    let both : (in_limits (length l) a.n a.tags a.principals ≡ true) × (all_made l a.n a.tags a.principals ≡ true) = elim c.if-in_limits.branch [
      | then-in_limits w ↦ (sym c.in_limits.ensures ∙ w.if-in_limits.true, sym w.all_made.ensures ∙ sym w.value-is ∙ c.if-all_made.true)
      | else-in_limits w ↦ absurd (never (sym w.value-is ∙ c.if-all_made.true) w.if-in_limits.false)
    ] in
    let w = (limits-is (length l) a.n a.tags a.principals).0 both.0 in (
      omega (arith, w.whole, w.few),
      made-placed l a.n a.tags a.principals (length a.starts.now) (c.requires.rows_len.1 w.tags-low) w.principals-low both.1,
    )
