-- Lists of requests from the fresh state, each through the entry, with the memory cleared in between where the host likes.
-- Assumes nothing.
use Rattle.std.specs.Prelude.{Bool, cond, List, [], ◌∷◌, ℕ, zero, suc, replicate}
use Rattle.numbers.specs.Numbers.{link_places}
use Rattle.store.specs.Store.{store_size}
use Rattle.memory.specs.declared.Memory.{Memory}
use Rattle.memory.specs.Remembered.{emptied}
use Rattle.tables.specs.Things.{fresh_tables}
use Rattle.state.specs.Start.{empty_memory}
use Rattle.act.specs.World.{World, world_of}
use Rattle.act.specs.Step.{After}
use Rattle.monitor.specs.Monitor.{requested}

-- a request as it comes: its frame, and the buffer that is lent for its answer
pub record Call : Type 0 where
  pub frame : List ℕ
  pub buffer : List ℕ

-- what stands between requests
pub record Machine : Type 0 where
  pub world : World
  pub memory : Memory

-- "Fresh": no links, tags or objects, and a memory of this size that holds nothing
abbrev pub fresh : ℕ → Machine
fresh size =
    record {
      world = world_of fresh_tables (replicate link_places 0) (replicate link_places 0) (replicate store_size 0);
      memory = empty_memory size;
    }

-- what the entry leaves of a request
abbrev pub entered : Machine → Call → After
entered z c =
    requested (record { tables = z.world.tables; memory = z.memory }) z.world.links z.world.grants z.world.store c.frame c.buffer

abbrev pub world_after : After → World
world_after r = world_of r.replied.state.tables r.links r.grants r.store

abbrev pub next : Machine → Call → Machine
next z c = record { world = world_after (entered z c); memory = (entered z c).replied.state.memory }

-- "The host may clear the memory between requests; this leaves the counters."
abbrev pub cleared_if : Bool → Machine → Machine
cleared_if clear z = cond clear (record { world = z.world; memory = emptied z.memory }) z

-- the machine before each request of a list; `clears` says before which of them the memory is cleared
unfoldable pub machines : Machine → (ℕ → Bool) → List Call → List Machine
machines z clears [] = []
machines z clears (c ∷ cs) = cleared_if (clears zero) z ∷ machines (next (cleared_if (clears zero) z) c) (λ n. clears (suc n)) cs

-- ---- what demand 3 compares: the number, the answer's bytes and the buffer, and every table but the memory and its counters

pub record Seen : Type 0 where
  pub status : ℕ
  pub written : ℕ
  pub buffer : List ℕ
  pub world : World

abbrev pub seen_of : After → Seen
seen_of r = record { status = r.replied.status; written = r.replied.written; buffer = r.answer; world = world_after r }

-- what is seen of each request of a list
unfoldable pub seen_all : Machine → (ℕ → Bool) → List Call → List Seen
seen_all z clears [] = []
seen_all z clears (c ∷ cs) =
    seen_of (entered (cleared_if (clears zero) z) c) ∷ seen_all (next (cleared_if (clears zero) z) c) (λ n. clears (suc n)) cs
