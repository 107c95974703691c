use Rattle.std.proofs.Common.{sym, ◌∙◌}
use borrow.Author.Tests.{le-ltb}
use native.Mathlib.Nat.{lt_of_lt_of_le}
use lib.Pow.{pow_mono}
use Rattle.numbers.proofs.Sets.{contains-above}
use Rattle.links.proofs.walk.has.Goals as goal

pub returns-else-p-lt64 : goal.returns-else-p-lt64
returns-else-p-lt64 c =
    let a = c.args in
    let high = c.if-p-lt64.false in
    le-ltb a.p.0 64 high ∙ sym (contains-above a.s a.p.0 (lt_of_lt_of_le c.ranges.s.fits (pow_mono high)))
