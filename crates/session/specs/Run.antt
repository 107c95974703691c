-- A list of lines fed into a lent output buffer, and a whole list from the fresh state (01, "Lines"). Nothing is begun that might not
-- have room: no half of an answer is ever written. Assumes nothing.
use Rattle.std.specs.Prelude.{Bool, cond, Option, Some, None, ◌&&◌, List, [], ◌∷◌, ◌++◌, ℕ, zero, suc, ◌+◌, ◌-◌, eqb, ltb, leb, length, take}
use Rattle.state.specs.Start.{started, zeroed}
use Rattle.entry.specs.Entry.{no_links}
use Rattle.session.specs.declared.Fed.{Fed}
use Rattle.session.specs.declared.Ran.{Ran}
use Rattle.session.specs.Session.{Carried, no_line, takes, says, after, output, ending, ended}

-- the longest answer as a line, and the longest ending: an answer and the last line
abbrev pub answer_room : ℕ
answer_room = 69

abbrev pub ending_room : ℕ
ending_room = 88

-- how many bytes are taken while there is room for an answer
unfoldable pub readable : Carried → List ℕ → ℕ → ℕ
readable z [] room = zero
readable z (b ∷ bs) room = cond (ltb room answer_room) zero (suc (readable (takes z b) bs (room - length (says z b))))

-- ---- a block of input, from the session z, into the output buffer o

module _ (z : Carried) (input o : List ℕ) where
  abbrev pub taken : List ℕ
  taken = take (readable z input (length o)) input

  abbrev pub fed_session : Carried
  fed_session = after z taken

  abbrev pub fed_bytes : List ℕ
  fed_bytes = output z taken

  abbrev pub fed : Fed
  fed = record { read = readable z input (length o); written = length fed_bytes }

-- ---- the end of the input: all of it is written at `at`, or nothing where there is no room

module _ (z : Carried) (o : List ℕ) (at : ℕ) where
  abbrev pub can_end : Bool
  can_end = leb (at + ending_room) (length o)

  abbrev pub end_session : Carried
  end_session = cond can_end (ended z) z

  abbrev pub end_bytes : List ℕ
  end_bytes = cond can_end (ending z) []

  -- how many bytes that is, if there was room
  abbrev pub finished : Option ℕ
  finished = cond can_end (Some (length end_bytes)) None

-- ---- a whole list from the fresh state with this memory size

abbrev pub begin : ℕ → List ℕ → Carried
begin size b = record { state = (started size).state; lists = no_links; store = zeroed b; line = no_line }

-- the output that a whole list has
abbrev pub lines_of : Carried → List ℕ → List ℕ
lines_of z input = output z input ++ ending (after z input)

module _ (size : ℕ) (b input o : List ℕ) where
  abbrev first : Carried
  first = begin size b

  abbrev all_read : Bool
  all_read = eqb (readable first input (length o)) (length input)

  abbrev out_at : ℕ
  out_at = length (fed_bytes first input o)

  -- it is complete where all was read and the ending has room
  abbrev pub complete : Bool
  complete = all_read && can_end (fed_session first input o) o out_at

  abbrev pub ran_session : Carried
  ran_session = cond complete (ended (fed_session first input o)) (fed_session first input o)

  abbrev pub ran_bytes : List ℕ
  ran_bytes = fed_bytes first input o ++ cond complete (ending (fed_session first input o)) []

  abbrev pub ran : Ran
  ran =
      record {
        status = (started size).status;
        state = ran_session.state;
        lists = ran_session.lists;
        read = readable first input (length o);
        written = length ran_bytes;
        complete = complete;
      }
