use mathlib.Core.Path.{◌∙◌}
use Rattle.tables.proofs.Lineages.{lineage-read}
use Rattle.tables.proofs.lineage.lineage.Goals as goal

pub returns : goal.returns
returns c = let a = c.args in
    c.lineage_in.ensures ∙ lineage-read a.kinds.now a.t c.tag_row-row.ensures c.supertag_of.ensures c.tag_row.ensures
