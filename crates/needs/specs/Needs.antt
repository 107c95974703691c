-- What each kind of request needs of the flow: the first word of the column "needs, and refusals in order" of 01's table of requests.
-- 12, 13 and 1B test more. Kinds are hexadecimal. Assumes nothing.
use Rattle.std.specs.Prelude.{Bool, false, cond, ◌||◌, List, [], ◌∷◌, ℕ, eqb}
use Rattle.numbers.specs.declared.flow.Need.{Need}
use Rattle.numbers.specs.declared.flow.Need.TheVariants.{None, Null, Read, Write, Both}

-- k is one of ks
abbrev pub one_of : List ℕ → ℕ → Bool
one_of [] k = false
one_of (x ∷ ks) k = eqb k x || one_of ks k

-- "null": 01, 02, 03, 05 to 08, 0E, 0F, 12, 13 and 1A; "read": 14; "write": 15, 16 and 19; "both": 17 and 18; the others none
unfoldable pub need_of : ℕ → Need
need_of k =
    cond (one_of (0x01 ∷ 0x02 ∷ 0x03 ∷ 0x05 ∷ 0x06 ∷ 0x07 ∷ 0x08 ∷ 0x0E ∷ 0x0F ∷ 0x12 ∷ 0x13 ∷ 0x1A ∷ []) k) Null
    (cond (one_of (0x14 ∷ []) k) Read
    (cond (one_of (0x15 ∷ 0x16 ∷ 0x19 ∷ []) k) Write
    (cond (one_of (0x17 ∷ 0x18 ∷ []) k) Both
    None)))
