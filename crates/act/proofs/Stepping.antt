-- The step, from what a request reads of its state to what it writes there: it has room, and it leaves what it is defined to leave.
-- Assumes nothing.
use mathlib.Core.Path.{◌≡◌, refl, sym, ap, ap₂, subst, ◌∙◌}
use mathlib.Core.Bool.{true}
use mathlib.Core.List.{List, [], ◌∷◌}
use Prim.Native.Nat.{ℕ, zero, suc, ◌<◌}
use native.Mathlib.Omega.{arith}
use lib.ListN.{length, get_or}
use Rattle.numbers.specs.Numbers.{most_threads, most_objects, most_remembered}
use Rattle.memory.specs.declared.Memory.{Memory}
use Rattle.memory.specs.Remembered.{Fits}
use Rattle.memory.specs.Notes.{noted}
use Rattle.tables.specs.declared.Tables.{Tables}
use Rattle.tables.specs.declared.rows.ThreadRow.{ThreadRow}
use Rattle.tables.specs.Things.{no_thread, thread_at}
use Rattle.frames.specs.Requests.{thread_of, request_of}
use Rattle.sight.specs.declared.Sight.{Sight}
use Rattle.outcomes.specs.declared.Outcome.{Outcome}
use Rattle.apply.specs.Apply.{count_after}
use Rattle.apply.specs.Writes.{written}
use Rattle.state.specs.declared.State.{State}
use Rattle.rules.specs.Tested.{hold_but_truth}
use Rattle.rules.proofs.RuleLaws.{rules-but-truth}
use Rattle.rules.proofs.Gives.{memory-fits}
use Rattle.act.specs.declared.Recalled.{Recalled}
use Rattle.act.specs.declared.Weighed.{Weighed}
use Rattle.act.specs.World.{HasRoom}
use Rattle.act.specs.Step.{Considered, seen, asked, considered_by, stepped}
use Rattle.act.specs.Act.{recall_of, weighed_by, counts_in, writes_of, acted}
use Rattle.act.proofs.Room.{has_room}
use Rattle.act.proofs.Weighing.{weighs-outcome, weighs-memory}
use Rattle.act.proofs.Writing.{all-written, read_fits}

-- an element that is there is read whatever is given for one that is not
pub get_d-there : {A : Type 0} (l : List A) (n : ℕ) (d e : A) → n < length l → get_or l n d ≡ get_or l n e
get_d-there [] n d e low = absurd (omega (arith, low))
get_d-there (x ∷ l) zero d e low = refl
get_d-there (x ∷ l) (suc n) d e low = get_d-there l n d e (omega (arith, low))

module _
    (s : State)
    (l g b f : List ℕ)
    (rules : hold_but_truth s.tables s.memory l g b ≡ true)
    (threads : length s.tables.threads ≡ most_threads)
    (objects : length s.tables.objects ≡ most_objects)
    (pairs : length s.memory.pairs ≡ most_remembered)
  where
    abbrev t : Tables
    t = s.tables

    abbrev n : ℕ
    n = (thread_of f).0

    -- the row that is read of its thread
    abbrev pub own : ThreadRow
    own = get_or t.threads n no_thread

    abbrev sight : Sight
    sight = seen t l g f

    -- what it knows of the memory
    abbrev knows : Recalled
    knows = recall_of s.memory sight (request_of f)

    -- what it comes to, by what it knows of the memory, and by its definition
    abbrev weighs : Weighed
    weighs = weighed_by sight l g knows f

    abbrev comes : Considered
    comes = considered_by sight l g f s.memory

    pub fits : Fits s.memory
    fits = memory-fits t s.memory l g b rules

    pub same_outcome : weighs.outcome ≡ comes.outcome
    same_outcome = weighs-outcome sight l g f s.memory fits pairs

    read : n < most_threads → own ≡ thread_at t.threads n
    read low = get_d-there t.threads n no_thread _ (omega (arith, low, threads))

    -- with its own row
    whole_room : HasRoom (counts_in sight) (thread_at t.threads n) b f comes.outcome
    whole_room = has_room t s.memory l g b ((rules-but-truth t s.memory l g b).0 rules) threads objects f (asked t l g f s.memory).yes

    pub room : HasRoom (counts_in sight) own b f weighs.outcome
    room =
        let r = whole_room in
        subst (HasRoom (counts_in sight) own b f) (sym same_outcome)
        (record { rows = read_fits t n own read comes.outcome.rows r.rows; links = r.links; grants = r.grants; store = r.store; answer = r.answer })

    -- what it writes is what the step is defined to leave, whatever the answer buffer a
    pub leaves : (a : List ℕ)
        → record { tables = written t (acted sight own knows l g b f).writes; memory = noted s.memory (acted sight own knows l g b f).note }
        ≡ (stepped s l g b f a).replied.state
    leaves a =
        ap₂ (λ (x : Tables) (y : Memory). record { tables = x; memory = y })
        (ap (λ (o : Outcome). written t (writes_of sight own n o)) same_outcome
        ∙ all-written t n own read (count_after comes.outcome.links t.links) (count_after comes.outcome.grants t.grants) comes.outcome.rows whole_room.rows)
        (weighs-memory sight l g f s.memory fits pairs)
