-- How the monitor starts, and the host's clearing of the memory (01, "Things and numbers", "Remembered answers"). Assumes nothing.
use Rattle.std.specs.Prelude.{cond, List, ℕ, ltb, length, replicate}
use Rattle.numbers.specs.Numbers.{most_remembered}
use Rattle.memory.specs.declared.Memory.{Memory}
use Rattle.memory.specs.Remembered.{emptied}
use Rattle.tables.specs.Things.{fresh_tables}
use Rattle.state.specs.declared.State.{State}
use Rattle.state.specs.declared.Started.{Started}

-- a memory of this size that holds nothing and was not asked yet
abbrev pub empty_memory : ℕ → Memory
empty_memory size = record { size = size; held = 0; pairs = replicate 64 0; questions = 0; hits = 0 }

abbrev pub fresh_state : ℕ → State
fresh_state size = record { tables = fresh_tables; memory = empty_memory size }

-- "Starting with a memory size over 64 is refused as 11 and gives the fresh state with size 0."
abbrev pub started : ℕ → Started
started size =
    cond (ltb most_remembered size) (record { status = 11; state = fresh_state 0 })
    (record { status = 0; state = fresh_state size })

-- "Unused places are zero": a lent list or store at the start
abbrev pub zeroed : List ℕ → List ℕ
zeroed l = replicate (length l) 0

-- "The host may clear the memory between requests; this leaves the counters."
abbrev pub cleared : State → State
cleared s = record { tables = s.tables; memory = emptied s.memory }
