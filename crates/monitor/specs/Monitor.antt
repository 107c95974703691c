-- The single-request entry (01, "Refusal numbers"): 10, then 9, then the step behind them. Assumes nothing.
use Rattle.std.specs.Prelude.{not, cond, List, ℕ, ltb, length}
use Rattle.answers.specs.declared.Answer.TheVariants.{Refused}
use Rattle.answers.specs.declared.Refusal.TheVariants as refusal
use Rattle.answers.specs.Answers.{answer_bytes}
use Rattle.rules.specs.Tested.{break_no_rule}
use Rattle.state.specs.declared.State.{State}
use Rattle.outcomes.specs.declared.ListChange.TheVariants.{Keep}
use Rattle.monitor.specs.declared.Stop.{Stop}
use Rattle.monitor.specs.declared.Stop.TheVariants.{NoRoom, BrokenRule}
use Rattle.step.specs.declared.Stepped.{Stepped}
use Rattle.act.specs.Step.{After, answered_with, before, stepped}
use Rattle.step.specs.Look.{step_of}

-- the room that every answer has
abbrev pub shortest_buffer : ℕ
shortest_buffer = 34

-- 10 or 9: the one byte of 9 is written, and nothing changes in the lists
abbrev pub quiet : Stop → Stepped
quiet NoRoom = record { status = 10; written = 0; links = Keep; grants = Keep }
quiet BrokenRule = record { status = 9; written = 1; links = Keep; grants = Keep }

-- the state s, the lists l of principal links and g of tag links, the store b, the frame f, the answer buffer a
module _ (s : State) (l g b f a : List ℕ) where
  -- 10: "the answer buffer has fewer than 34 bytes; nothing is written"
  abbrev pub no_room : After
  no_room = record { replied = record { status = 10; written = 0; state = s }; links = l; grants = g; store = b; answer = a }

  -- 9: "the tables break a rule"; "A refusal writes its one byte .. Tables stay"
  abbrev pub broken : After
  broken = answered_with (before s l g b) s.memory (Refused refusal.BrokenRule) (answer_bytes f b (Refused refusal.BrokenRule)) a

  unfoldable pub requested : After
  requested =
      cond (ltb (length a) shortest_buffer) no_room
      (cond (not (break_no_rule s.tables s.memory l g b)) broken
      (stepped s l g b f a))

  -- what it gives beside the lent buffers, and what changes in the lists
  unfoldable pub reply_of : Stepped
  reply_of =
      cond (ltb (length a) shortest_buffer) (quiet NoRoom)
      (cond (not (break_no_rule s.tables s.memory l g b)) (quiet BrokenRule)
      (step_of s l g b f a))
