-- One request (01): refusal 1, then 2, 3 and 4, then the question of authority where the request asks one, then 5 to 8 of its kind's
-- row, or what is done. Only `asked` reads the memory; all else sees its yes or no. Assumes nothing.
use Rattle.std.specs.Prelude.{Bool, true, false, not, cond, ◌&&◌, ◌||◌, List, ℕ, length, Result, Ok, Err}
use Rattle.links.specs.declared.lists.Graph.TheVariants.{Principals}
use Rattle.links.specs.Links.{links_in}
use Rattle.links.specs.Authority.{authoritative}
use Rattle.memory.specs.declared.Memory.{Memory}
use Rattle.memory.specs.Remembered.{Asked, pair_of, answered, emptied}
use Rattle.tables.specs.declared.Tables.{Tables}
use Rattle.frames.specs.declared.requests.Request.{Request}
use Rattle.frames.specs.Requests.{thread_of, kind_of, request_of, well_formed}
use Rattle.answers.specs.declared.Answer.{Answer}
use Rattle.answers.specs.declared.Refusal.{Refusal}
use Rattle.answers.specs.declared.Refusal.TheVariants.{Malformed}
use Rattle.answers.specs.Answers.{status_of, answer_bytes, front}
use Rattle.sight.specs.declared.Sight.{Sight}
use Rattle.sight.specs.Sight.{sight_of, tag_named}
use Rattle.prelude.specs.Prelude.{prelude, asks}
use Rattle.outcomes.specs.declared.Outcome.{Outcome}
use Rattle.outcomes.specs.declared.ListChange.{ListChange}
use Rattle.outcomes.specs.declared.ListChange.TheVariants as list
use Rattle.outcomes.specs.Outcomes.{refused}
use Rattle.decide.specs.Decide.{decide}
use Rattle.state.specs.declared.State.{State}
use Rattle.act.specs.World.{World, world_of, applied}

-- what a request comes to, and the memory after its question
pub record Considered : Type 0 where
  pub outcome : Outcome
  pub memory : Memory

abbrev pub passes : Result Unit Refusal → Bool
passes (Ok u) = true
passes (Err r) = false

-- refused by 2, 3 or 4, or what the kind's row says
abbrev pub unless_stopped : Result Unit Refusal → Outcome → Outcome
unless_stopped (Ok u) o = o
unless_stopped (Err r) o = refused r

-- ---- a request r that sees s, with principal links l and tag links g

module _ (s : Sight) (l g : List ℕ) (r : Request) where
  -- of whom and about which tag it asks
  abbrev pub pair_asked : ℕ
  pair_asked = pair_of s.caller.principal (tag_named r)

  -- "otherwise the walk answers"
  abbrev pub walked : Bool
  walked = authoritative (links_in l s.links Principals) g s.grants s.lineage s.caller.principal

  -- the memory is asked, or nothing is: then it stays, and the answer is not looked at
  abbrev pub asked_if : Bool → Memory → Asked
  asked_if asking m = cond asking (answered m pair_asked walked) (record { yes = false; memory = m })

-- ---- the request of frame f that sees s, with principal links l and tag links g

module _ (s : Sight) (l g f : List ℕ) where
  abbrev pub checked_by : Result Unit Refusal
  checked_by = prelude s (kind_of f) (request_of f)

  -- "A question .. is asked by 06, 09, 0B and 0C, once, when the authority check is reached"
  abbrev pub asks_one_by : Bool
  asks_one_by = well_formed f && (passes checked_by && asks s (request_of f))

  abbrev pub asked_by : Memory → Asked
  asked_by m = asked_if s l g (request_of f) asks_one_by m

  -- what it comes to, where its question is answered so: 1, then 2, 3 and 4, then 5 to 8 or what is done
  unfoldable pub outcome_by : Bool → Outcome
  outcome_by allowed = cond (not (well_formed f)) (refused Malformed) (unless_stopped checked_by (decide s l g (request_of f) allowed))

  -- with the memory m
  abbrev pub considered_by : Memory → Considered
  considered_by m = record { outcome = outcome_by (asked_by m).yes; memory = (asked_by m).memory }

-- ---- the same with tables t: it sees what they show

module _ (t : Tables) (l g f : List ℕ) where
  abbrev pub seen : Sight
  seen = sight_of t (thread_of f) (request_of f)

  abbrev pub checked : Result Unit Refusal
  checked = checked_by seen l g f

  abbrev pub asks_one : Bool
  asks_one = asks_one_by seen l g f

  abbrev pub asked : Memory → Asked
  asked m = asked_by seen l g f m

  abbrev pub outcome : Bool → Outcome
  outcome allowed = outcome_by seen l g f allowed

  abbrev pub considered : Memory → Considered
  considered m = considered_by seen l g f m

-- ---- "A removal that takes out a link empties the memory; additions do not."

abbrev pub removes : ListChange → Bool
removes list.Keep = false
removes (list.Append x) = false
removes (list.Remove i) = true

abbrev pub remembers : Outcome → Memory → Memory
remembers o m = cond (removes o.links || removes o.grants) (emptied m) m

-- ---- the step: the world w and the memory m before it, the frame f

module _ (w : World) (m : Memory) (f : List ℕ) where
  abbrev pub comes_to : Considered
  comes_to = considered w.tables w.links w.grants f m

  abbrev pub step_world : World
  step_world = applied w f comes_to.outcome

  abbrev pub step_memory : Memory
  step_memory = remembers comes_to.outcome comes_to.memory

  abbrev pub step_answer : List ℕ
  step_answer = answer_bytes f w.store comes_to.outcome.answer

-- ---- all that a request leaves

-- its number or 0, how many bytes of the answer buffer were written, and the state
pub record Replied : Type 0 where
  pub status : ℕ
  pub written : ℕ
  pub state : State

pub record After : Type 0 where
  pub replied : Replied
  -- the two lists, the store and the lent answer buffer
  pub links : List ℕ
  pub grants : List ℕ
  pub store : List ℕ
  pub answer : List ℕ

-- the world w and the memory m after the answer x, of these bytes; a is the answer buffer before it
abbrev pub answered_with : World → Memory → Answer → List ℕ → List ℕ → After
answered_with w m x bytes a =
    record {
      replied = record { status = status_of x; written = length bytes; state = record { tables = w.tables; memory = m } };
      links = w.links;
      grants = w.grants;
      store = w.store;
      answer = front bytes a;
    }

-- the world of the state s with the lists l and g and the store b
abbrev pub before : State → List ℕ → List ℕ → List ℕ → World
before s l g b = world_of s.tables l g b

-- the step, from the state s, the lists l and g, the store b, the frame f and the answer buffer a
module _ (s : State) (l g b f a : List ℕ) where
  abbrev w : World
  w = before s l g b

  abbrev m : Memory
  m = s.memory

  abbrev pub stepped : After
  stepped = answered_with (step_world w m f) (step_memory w m f) (comes_to w m f).outcome.answer (step_answer w m f) a
