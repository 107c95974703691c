-- Messages of objects in one store of bytes: 64 objects, 8 places each, and a length byte and 32 bytes
-- a place. Assumes nothing.
use Rattle.std.specs.Prelude.{Bool, List, ◌∷◌, ◌++◌, ℕ, ◌+◌, ◌*◌, ◌-◌, eqb, length, get_or, take, drop, replicate}
use Rattle.numbers.specs.Below.{all_below}

-- a length byte, and room for the longest message
abbrev pub place_size : ℕ
place_size = 33

-- 8 places
abbrev pub object_size : ℕ
object_size = 264

-- 64 objects
abbrev pub store_size : ℕ
store_size = 16896

-- where place k of object o begins
abbrev pub place_at : ℕ → ℕ → ℕ
place_at o k = o * object_size + k * place_size

abbrev pub byte_at : List ℕ → ℕ → ℕ
byte_at s i = get_or s i 0

-- n bytes of s
abbrev pub part : List ℕ → ℕ → ℕ → List ℕ
part s from n = take n (drop from s)

-- the message at a place
abbrev pub message_at : List ℕ → ℕ → List ℕ
message_at s at = part s (at + 1) (byte_at s at)

-- s with bs from at on
abbrev pub over : List ℕ → ℕ → List ℕ → List ℕ
over s at bs = take at s ++ (bs ++ drop (at + length bs) s)

-- a place that has the message m: what follows the message is zero
abbrev pub placed : List ℕ → List ℕ
placed m = length m ∷ (m ++ replicate (32 - length m) 0)

abbrev pub put : List ℕ → ℕ → List ℕ → List ℕ
put s at m = over s at (placed m)

-- the first message of the object whose places begin at `at` is taken, the others move down, and the last
-- place becomes zero
abbrev pub took_first : List ℕ → ℕ → List ℕ
took_first s at = over s at (part s (at + 33) 231 ++ replicate 33 0)

-- n bytes become zero
abbrev pub cleared : List ℕ → ℕ → ℕ → List ℕ
cleared s from n = over s from (replicate n 0)

-- the n bytes from there on are zero
unfoldable pub zeros : List ℕ → ℕ → ℕ → Bool
zeros s from n = all_below n (λ i. eqb (byte_at s (from + i)) 0)
