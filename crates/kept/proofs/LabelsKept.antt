-- Labels of made tags stay so: when a tag is taken out, and when more tags are made. Assumes nothing.
use mathlib.Core.Path.{◌≡◌}
use mathlib.Core.Bool.{true}
use mathlib.Core.Logic.{◌↔◌}
use Prim.Native.Nat.{ℕ, ◌≤◌}
use Rattle.numbers.specs.Labels.{without_tag, names_only_made}
use Rattle.numbers.specs.declared.Tag.{Tag}
use Rattle.numbers.specs.declared.labels.Label.{Label}
use Rattle.numbers.specs.declared.flow.LabelPair.{LabelPair}
use Rattle.numbers.proofs.Says.{itself, and_is}
use Rattle.numbers.proofs.LabelLaws.{without-within, made_more, made-within}
use Rattle.tables.specs.Fields.{labels_made}

-- a tag fewer
pub without-made : (tags : ℕ) (l : Label) (t : Tag) → names_only_made l tags ≡ true → names_only_made (without_tag l t) tags ≡ true
without-made tags l t e = made-within (without_tag l t) l tags (without-within l t) e

-- both labels of a pair name made tags
pub labels-are :
    (tags : ℕ) (l : LabelPair) → (labels_made tags l ≡ true) ↔ ((names_only_made l.secrecy tags ≡ true) × (names_only_made l.integrity tags ≡ true))
labels-are tags l = and_is (itself (names_only_made l.secrecy tags)) (itself (names_only_made l.integrity tags))

-- more tags are made
pub labels-more : {tags tags2 : ℕ} (l : LabelPair) → labels_made tags l ≡ true → tags ≤ tags2 → labels_made tags2 l ≡ true
labels-more {tags} {tags2} l e h =
    let w = (labels-are tags l).0 e in
    (labels-are tags2 l).1 (made_more l.secrecy tags tags2 h w.0, made_more l.integrity tags tags2 h w.1)
