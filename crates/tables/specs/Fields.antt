-- The rules of 9 (01, "Refusal numbers") on what rows of several tables have: flags and labels. Assumes nothing.
use Rattle.std.specs.Prelude.{Bool, ◌&&◌, ℕ, leb}
use Rattle.numbers.specs.Labels.{names_only_made, is_empty}
use Rattle.numbers.specs.declared.flow.LabelPair.{LabelPair}

-- "a limit": a flag is 0 or 1
abbrev pub is_flag : ℕ → Bool
is_flag n = leb n 1

abbrev pub labels_made : ℕ → LabelPair → Bool
labels_made tags l = names_only_made l.secrecy tags && names_only_made l.integrity tags

abbrev pub labels_empty : LabelPair → Bool
labels_empty l = is_empty l.secrecy && is_empty l.integrity
