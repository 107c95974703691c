-- What a yes to some of the rules gives, on which the tests after it rely. Assumes nothing.
use mathlib.Core.Path.{◌≡◌}
use mathlib.Core.Bool.{true}
use mathlib.Core.List.{List}
use Prim.Native.Nat.{ℕ, ◌≤◌, ◌<◌}
use native.Mathlib.Omega.{arith}
use borrow.Author.Tests.{leb-true}
use lib.ListN.{length}
use Rattle.numbers.proofs.Bools.{and_left, and_right}
use Rattle.link_rules.specs.LinkRules.{links_hold}
use Rattle.link_rules.proofs.RuleLaws.{Limits, links_hold-is}
use Rattle.memory.specs.declared.Memory.{Memory}
use Rattle.memory.specs.Remembered.{Fits}
use Rattle.tables.specs.Rows.{what_of}
use Rattle.tables.specs.declared.Tables.{Tables}
use Rattle.tables.specs.Things.{object_at}
use Rattle.tables.specs.declared.rows.ObjectRow.{ObjectRow}
use Rattle.tables.specs.declared.rows.What.{What}
use Rattle.tables.specs.declared.rows.What.TheVariants.{Free, Cell, Queue, Lock}
use Rattle.object_rules.specs.ObjectRules.{object_numbers_in_limits, what_in_limits, objects_hold}
use Rattle.object_rules.proofs.RuleLaws.{objects_hold-is}
use Rattle.store_rules.specs.StoreRules.{places_used}
use Rattle.rules.specs.Tested.{lists_hold, hold_but_truth}
use Rattle.rules.proofs.RuleLaws.{tables-hold}

-- tables whose lists obey their rules are within their limits
pub lists-limits : (l : List ℕ) (n : ℕ) (g : List ℕ) (k tags principals : ℕ) → lists_hold l n g k tags principals ≡ true → Limits (length g) k tags principals
lists-limits l n g k tags principals e =
    ((links_hold-is g k tags principals).0 (and_left (links_hold g k tags principals) _ (and_right (links_hold l n 1 principals) _ e))).limits

used_le : (w : What) → what_in_limits w ≡ true → places_used w ≤ 8
used_le Free e = omega arith
used_le Cell e = omega arith
used_le (Queue held) e = leb-true held 8 e
used_le (Lock locked) e = omega arith

-- no object uses more than its 8 places
pub places-fit : (tags : ℕ) (rows : List ObjectRow) → objects_hold tags rows ≡ true → (o : ℕ) → o < 64 → places_used (what_of (object_at rows o)) ≤ 8
places-fit tags rows e o low = used_le (what_of (object_at rows o)) (and_right (object_numbers_in_limits (object_at rows o)) _ (((objects_hold-is tags rows).0 e).limits o low))

-- the memory is within its size
pub memory-fits : (t : Tables) (m : Memory) (l g s : List ℕ) → hold_but_truth t m l g s ≡ true → Fits m
memory-fits t m l g s e = ((tables-hold t m l g s).0 e).memory.fits
