-- Flow (01, "Flow"): "Thread labels S, I; object labels s, i." A pair of labels is a thread's or an object's.
-- Assumes nothing.
use Rattle.std.specs.Prelude.{Bool, true, ◌&&◌}
use Rattle.numbers.specs.declared.flow.LabelPair.{LabelPair}
use Rattle.numbers.specs.declared.flow.Need.{Need}
use Rattle.numbers.specs.declared.flow.Need.TheVariants.{None, Null, Read, Write, Both}
use Rattle.numbers.specs.Labels.{within, same_as, is_empty}

-- "Read: s within S, and I within i."
abbrev pub may_read : LabelPair → LabelPair → Bool
may_read thread object = within object.secrecy thread.secrecy && within thread.integrity object.integrity

-- "Write: S within s, and i within I."
abbrev pub may_write : LabelPair → LabelPair → Bool
may_write thread object = within thread.secrecy object.secrecy && within object.integrity thread.integrity

-- "Both: S = s and I = i."
abbrev pub may_both : LabelPair → LabelPair → Bool
may_both thread object = same_as thread.secrecy object.secrecy && same_as thread.integrity object.integrity

-- what a kind's need asks of the two pairs; "'Null' means S is empty"
abbrev pub meets : Need → LabelPair → LabelPair → Bool
meets None thread object = true
meets Null thread object = is_empty thread.secrecy
meets Read thread object = may_read thread object
meets Write thread object = may_write thread object
meets Both thread object = may_both thread object
