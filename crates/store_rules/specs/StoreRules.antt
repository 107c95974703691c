-- The rules of 9 that speak of the store of messages (01, "Refusal numbers"). Assumes nothing.
use Rattle.std.specs.Prelude.{Bool, ◌&&◌, List, ℕ, ◌+◌, ◌*◌, ◌-◌, leb}
use Rattle.numbers.specs.Below.{all_below}
use Rattle.numbers.specs.Numbers.{longest_message, most_objects}
use Rattle.store.specs.Store.{place_size, object_size, byte_at, zeros}
use Rattle.tables.specs.Rows.{what_of}
use Rattle.tables.specs.Things.{object_at}
use Rattle.tables.specs.declared.rows.ObjectRow.{ObjectRow}
use Rattle.tables.specs.declared.rows.What.{What}
use Rattle.tables.specs.declared.rows.What.TheVariants.{Free, Cell, Queue, Lock}

-- how many of its 8 places an object uses: a cell its first, a queue as many as it holds
abbrev pub places_used : What → ℕ
places_used Free = 0
places_used Cell = 1
places_used (Queue held) = held
places_used (Lock locked) = 0

-- "a limit": the message at a place has at most 32 bytes; "nonzero unused place": zeros follow it
abbrev pub place_holds : List ℕ → ℕ → Bool
place_holds s at = leb (byte_at s at) longest_message && zeros s (at + 1 + byte_at s at) (longest_message - byte_at s at)

-- so do the first n places of the object that begins there
unfoldable pub places_hold : List ℕ → ℕ → ℕ → Bool
places_hold s at n = all_below n (λ k. place_holds s (at + k * place_size))

-- "nonzero unused place": the object's other places are zero
abbrev pub object_holds : List ℕ → ℕ → ℕ → Bool
object_holds s at n = zeros s (at + n * place_size) (object_size - n * place_size) && places_hold s at n

unfoldable pub store_holds : List ℕ → List ObjectRow → Bool
store_holds s rows = all_below most_objects (λ o. object_holds s (o * object_size) (places_used (what_of (object_at rows o))))
