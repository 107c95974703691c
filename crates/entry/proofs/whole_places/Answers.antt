use mathlib.Core.Path.{refl}
use borrow.Author.Tests.{eq-eqb, ne_eqb}
use Rattle.numbers.proofs.Chain.{hit, skip}
use Rattle.entry.proofs.whole_places.Goals as goal

pub returns-then-places-eq-PLACES : goal.returns-then-places-eq-PLACES
returns-then-places-eq-PLACES c = hit 0 (eq-eqb c.args.places 256 c.if-places-eq-PLACES.true) refl

pub returns-else-places-eq-PLACES : goal.returns-else-places-eq-PLACES
returns-else-places-eq-PLACES c = skip 256 (ne_eqb c.args.places 256 c.if-places-eq-PLACES.false) refl
