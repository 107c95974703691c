use Rattle.numbers.proofs.Chain.{steps}
use Rattle.lines.specs.Digits.{glyph_of}
use Rattle.lines.proofs.digits.glyph.Goals as goal

pub returns-then-value-lt10 : goal.returns-then-value-lt10
unfolding glyph_of
returns-then-value-lt10 c = search steps

pub returns-else-value-lt10 : goal.returns-else-value-lt10
unfolding glyph_of
returns-else-value-lt10 c = search steps
