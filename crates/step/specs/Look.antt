-- What a request reads of the state, and what it gives beside the lent buffers. Assumes nothing.
use Rattle.std.specs.Prelude.{List, ℕ, get_or}
use Rattle.tables.specs.Things.{no_thread}
use Rattle.frames.specs.Requests.{thread_of, request_of}
use Rattle.sight.specs.declared.Sight.{Sight}
use Rattle.sight.specs.Sight.{sight_of}
use Rattle.state.specs.declared.State.{State}
use Rattle.act.specs.Step.{before, comes_to, stepped}
use Rattle.act.specs.Act.{recall_of}
use Rattle.step.specs.declared.Seen.{Seen}
use Rattle.step.specs.declared.Stepped.{Stepped}

module _ (s : State) (f : List ℕ) where
  -- what a request of frame f sees of the tables of s
  abbrev sight : Sight
  sight = sight_of s.tables (thread_of f) (request_of f)

  -- and all that it reads of s
  abbrev pub seen_of : Seen
  seen_of =
      record {
        sight = sight;
        own = get_or s.tables.threads (thread_of f).0 no_thread;
        recalled = recall_of s.memory sight (request_of f);
      }

-- its number or 0, how many bytes of the answer buffer a were written, and what changes in the lists
abbrev pub step_of : State → List ℕ → List ℕ → List ℕ → List ℕ → List ℕ → Stepped
step_of s l g b f a =
    let x = stepped s l g b f a in
    let o = (comes_to (before s l g b) s.memory f).outcome in
    record { status = x.replied.status; written = x.replied.written; links = o.links; grants = o.grants }
