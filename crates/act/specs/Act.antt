-- A request that sees s, of a thread whose row is own: what it answers, what it changes in the lists, and what it writes into the state.
-- Of the memory it knows the numbers, and the place of the pair that it asks about. Assumes nothing.
use Rattle.std.specs.Prelude.{Bool, false, cond, ◌||◌, List, ℕ, length, take, Option, Some, None}
use Rattle.links.specs.Links.{find_in}
use Rattle.memory.specs.declared.Memory.{Memory}
use Rattle.memory.specs.declared.Note.{Note}
use Rattle.memory.specs.declared.Verdict.{Verdict}
use Rattle.memory.specs.Remembered.{pair_of}
use Rattle.memory.specs.Notes.{tally_of, as_is, wiped, judged}
use Rattle.tables.specs.declared.rows.ThreadRow.{ThreadRow}
use Rattle.lent.specs.declared.Counts.{Counts}
use Rattle.frames.specs.declared.requests.Request.{Request}
use Rattle.frames.specs.Requests.{thread_of, request_of}
use Rattle.answers.specs.Answers.{status_of, answer_bytes}
use Rattle.sight.specs.declared.Sight.{Sight}
use Rattle.sight.specs.Sight.{tag_named}
use Rattle.prelude.specs.Prelude.{asks}
use Rattle.outcomes.specs.declared.Outcome.{Outcome}
use Rattle.apply.specs.declared.rows.Writes.{Writes}
use Rattle.apply.specs.Apply.{count_after}
use Rattle.apply.specs.Writes.{row_writes}
use Rattle.decide.specs.Decide.{decide}
use Rattle.act.specs.declared.Acted.{Acted}
use Rattle.act.specs.declared.Asking.{Asking}
use Rattle.act.specs.declared.Recalled.{Recalled}
use Rattle.act.specs.declared.Weighed.{Weighed}
use Rattle.act.specs.Step.{pair_asked, walked, asks_one_by, outcome_by, removes}

-- ---- what it reads

-- what the frame f asks
abbrev pub asking_of : List ℕ → Asking
asking_of f = record { thread = thread_of f; row = (thread_of f).0; request = request_of f }

-- which pair the memory is asked about: none, where request r asks for no authority
abbrev pub question_of : Sight → Request → Option ℕ
question_of s r = cond (asks s r) (Some (pair_of s.caller.principal (tag_named r))) None

-- where the pair that is asked about stands among those that m holds
abbrev pub place_of : Memory → Option ℕ → Option ℕ
place_of m (Some x) = find_in (take m.held m.pairs) x
place_of m None = None

-- what request r knows of the memory m
abbrev pub recall_of : Memory → Sight → Request → Recalled
recall_of m s r = record { tally = tally_of m; place = place_of m (question_of s r) }

-- ---- what it comes to

module _ (s : Sight) (l g : List ℕ) (m : Recalled) where
  -- the memory is asked by request r, or nothing is: then nothing is written, and the answer is not looked at
  abbrev pub verdict_if : Bool → Request → Verdict
  verdict_if asking r = cond asking (judged m.tally m.place (pair_asked s l g r) (walked s l g r)) (record { yes = false; note = as_is m.tally })

  -- past 2, 3 and 4
  abbrev pub row_weighed : Request → Weighed
  row_weighed r = record { outcome = decide s l g r (verdict_if (asks s r) r).yes; note = (verdict_if (asks s r) r).note }

  -- the request of frame f: 1, then 2, 3 and 4, then the row
  abbrev pub verdict_by : List ℕ → Verdict
  verdict_by f = verdict_if (asks_one_by s l g f) (request_of f)

  abbrev pub weighed_by : List ℕ → Weighed
  weighed_by f = record { outcome = outcome_by s l g f (verdict_by f).yes; note = (verdict_by f).note }

-- ---- what it writes

-- "A removal that takes out a link empties the memory; additions do not."
abbrev pub notes : Outcome → Note → Note
notes o n = cond (removes o.links || removes o.grants) (wiped n) n

-- the counts that it sees
abbrev pub counts_in : Sight → Counts
counts_in s = record { principals = s.principals; links = s.links; tags = s.tags; grants = s.grants }

-- the same, once what it came to is done in the lists
abbrev pub counts_after : Sight → Outcome → Counts
counts_after s o =
    record { principals = s.principals; links = count_after o.links s.links; tags = s.tags; grants = count_after o.grants s.grants }

-- what it writes into the tables; the caller has the number n
abbrev pub writes_of : Sight → ThreadRow → ℕ → Outcome → Writes
writes_of s own n o = row_writes n own (counts_after s o) o.rows

-- all of it, where it came to c
abbrev pub acted_on : Sight → ThreadRow → List ℕ → List ℕ → Weighed → Acted
acted_on s own b f c =
    record {
      status = status_of c.outcome.answer;
      written = length (answer_bytes f b c.outcome.answer);
      links = c.outcome.links;
      grants = c.outcome.grants;
      writes = writes_of s own (thread_of f).0 c.outcome;
      note = notes c.outcome c.note;
    }

-- with principal links l and tag links g, the store b and the frame f
abbrev pub acted : Sight → ThreadRow → Recalled → List ℕ → List ℕ → List ℕ → List ℕ → Acted
acted s own m l g b f = acted_on s own b f (weighed_by s l g m f)
