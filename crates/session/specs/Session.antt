-- A list of lines fed byte by byte (01, "Lines"): what each byte does and what is printed for it. Feeding a list in pieces is feeding it
-- whole, since what is carried from byte to byte is all there is. Assumes nothing.
use Rattle.std.specs.Prelude.{Bool, cond, List, [], ◌∷◌, ◌++◌, map, ℕ, ◌+◌, ◌/◌, ◌%◌, eqb, ltb, take, set, replicate}
use Rattle.answers.specs.declared.Answer.TheVariants.{Refused}
use Rattle.answers.specs.declared.Refusal.TheVariants.{Malformed}
use Rattle.answers.specs.Answers.{refusal_number}
use Rattle.memory.specs.declared.Memory.{Memory}
use Rattle.lines.specs.Lines.{line_feed, frame_of, is_frame, line_of}
use Rattle.state.specs.declared.State.{State}
use Rattle.act.specs.World.{world_of}
use Rattle.act.specs.Step.{After, answered_with}
use Rattle.monitor.specs.Monitor.{shortest_buffer}
use Rattle.records.specs.Records.{principal_number, tag_number}
use Rattle.entry.specs.declared.Lists.{Lists}
use Rattle.entry.specs.Entry.{over_records, no_links, lists_of}
use Rattle.session.specs.declared.Line.{Line}
use Rattle.session.specs.declared.Session.{Session}

-- ---- a line in the making: of a line no more is kept than tells that it is too long

abbrev pub line_bytes : Line → List ℕ
line_bytes z = take z.held z.bytes

abbrev pub pushed : Line → ℕ → Line
pushed z b = cond (ltb z.held 73) (record { held = z.held + 1; bytes = set z.bytes z.held b }) z

-- the next line begins; the bytes past those held mean nothing
abbrev pub restarted : Line → Line
restarted z = record { held = 0; bytes = z.bytes }

abbrev pub no_line : Line
no_line = record { held = 0; bytes = replicate 73 0 }

-- ---- a whole line z with the answer buffer a, from the state s, the lists x and the store b

module _ (s : State) (x : Lists) (b z a : List ℕ) where
  -- "refused 1: 01 is printed for it and nothing changes", or its frame is a request
  abbrev pub line_answered : After
  line_answered =
      cond (is_frame z) (over_records s x.links x.grants b (frame_of z) a)
      (answered_with (world_of s.tables (map principal_number x.links) (map tag_number x.grants) b) s.memory (Refused Malformed) (refusal_number Malformed ∷ []) a)

  -- the lists then
  abbrev pub answered_lists : Lists
  answered_lists = cond (is_frame z) (lists_of (over_records s x.links x.grants b (frame_of z) a)) x

-- ---- what is carried from byte to byte

pub record Carried : Type 0 where
  pub state : State
  pub lists : Lists
  pub store : List ℕ
  pub line : Line

-- the session s with the store b
abbrev pub session_of : Session → List ℕ → Carried
session_of s b = record { state = s.state; lists = s.lists; store = b; line = s.line }

-- before the first byte: no links, and no byte of a line
abbrev pub opened : State → Session
opened s = record { state = s; lists = no_links; line = no_line }

-- the line as it stands, taken as a whole one, with the answer buffer a, and what it leaves
module _ (z : Carried) (a : List ℕ) where
  abbrev pub answer_of : After
  answer_of = line_answered z.state z.lists z.store (line_bytes z.line) a

  abbrev pub answered : Carried
  answered =
      record {
        state = answer_of.replied.state;
        lists = answered_lists z.state z.lists z.store (line_bytes z.line) a;
        store = answer_of.store;
        line = z.line;
      }

module _ (z : Carried) where
  -- the line that has ended, and what it leaves
  abbrev pub turn : After
  turn = line_answered z.state z.lists z.store (line_bytes z.line) (replicate shortest_buffer 0)

  abbrev pub turned : Carried
  turned =
      record {
        state = turn.replied.state;
        lists = answered_lists z.state z.lists z.store (line_bytes z.line) (replicate shortest_buffer 0);
        store = turn.store;
        line = restarted z.line;
      }

  -- "prints one answer a line"
  abbrev pub printed : List ℕ
  printed = line_of (take turn.replied.written turn.answer)

  -- one byte of input: a line feed ends the line
  abbrev pub takes : ℕ → Carried
  takes b =
      cond (eqb b line_feed) turned
      (record { state = z.state; lists = z.lists; store = z.store; line = pushed z.line b })

  abbrev pub says : ℕ → List ℕ
  says b = cond (eqb b line_feed) printed []

  -- "A last line without LF counts if it has a byte"
  abbrev pub has_last : Bool
  has_last = ltb 0 z.line.held

  abbrev pub ended : Carried
  ended = cond has_last turned z

-- many bytes
unfoldable pub after : Carried → List ℕ → Carried
after z [] = z
after z (b ∷ bs) = after (takes z b) bs

unfoldable pub output : Carried → List ℕ → List ℕ
output z [] = []
output z (b ∷ bs) = says z b ++ output (takes z b) bs

-- "and last FF, questions, hits (4 bytes each, high first)"
abbrev pub four_bytes : ℕ → List ℕ
four_bytes n = n / 16777216 ∷ n / 65536 % 256 ∷ n / 256 % 256 ∷ n % 256 ∷ []

abbrev pub last_line : Memory → List ℕ
last_line m = line_of (0xFF ∷ (four_bytes m.questions ++ four_bytes m.hits))

-- what is printed when the input ends
abbrev pub ending : Carried → List ℕ
ending z = cond (has_last z) (printed z) [] ++ last_line (ended z).state.memory
