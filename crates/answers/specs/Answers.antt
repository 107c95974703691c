-- Answers (01, "Refusal numbers"): for each case of an answer, 01's number and values. Assumes nothing.
use Rattle.std.specs.Prelude.{List, [], ◌∷◌, ◌++◌, ℕ, ◌+◌, ◌≤◌, length, drop}
use Rattle.numbers.specs.Numbers.{longest_message}
use Rattle.store.specs.Store.{place_size, byte_at, part, message_at}
use Rattle.frames.specs.declared.requests.Span.{Span}
use Rattle.answers.specs.declared.Refusal.{Refusal}
use Rattle.answers.specs.declared.Refusal.TheVariants.{Malformed, NotLive, Unnamed, Flow, Authority, Cycle, Full, Empty, BrokenRule}
use Rattle.answers.specs.declared.Answer.{Answer}
use Rattle.answers.specs.declared.Answer.TheVariants.{Refused, Done, Value, Kept, Given}

-- "Refusal numbers (decimal ..), in order of check"
abbrev pub refusal_number : Refusal → ℕ
refusal_number Malformed = 1
refusal_number NotLive = 2
refusal_number Unnamed = 3
refusal_number Flow = 4
refusal_number Authority = 5
refusal_number Cycle = 6
refusal_number Full = 7
refusal_number Empty = 8
refusal_number BrokenRule = 9

-- "a status byte (00 or the number), then on done the value byte, or for a message its length and bytes"
abbrev pub said_message : List ℕ → List ℕ
said_message m = 0 ∷ length m ∷ m

-- the message that a frame gives
abbrev pub given_by : List ℕ → Span → List ℕ
given_by f m = part f m.at m.len

abbrev pub answer_bytes : List ℕ → List ℕ → Answer → List ℕ
answer_bytes f s (Refused r) = refusal_number r ∷ []
answer_bytes f s Done = 0 ∷ []
answer_bytes f s (Value v) = 0 ∷ v ∷ []
answer_bytes f s (Kept at) = said_message (message_at s at)
answer_bytes f s (Given m) = said_message (given_by f m)

-- the status byte, and how many bytes there are
abbrev pub status_of : Answer → ℕ
status_of (Refused r) = refusal_number r
status_of Done = 0
status_of (Value v) = 0
status_of (Kept at) = 0
status_of (Given m) = 0

abbrev pub length_of : List ℕ → Answer → ℕ
length_of s (Refused r) = 1
length_of s Done = 1
length_of s (Value v) = 2
length_of s (Kept at) = 2 + byte_at s at
length_of s (Given m) = 2 + m.len

-- "put at the front of the lent buffer .. the rest of the buffer stays"
abbrev pub front : List ℕ → List ℕ → List ℕ
front bs l = bs ++ drop (length bs) l

-- the message of an answer is there, and no longer than a message may be
abbrev pub Ready : List ℕ → List ℕ → Answer → Type 0
Ready f s (Refused r) = Unit
Ready f s Done = Unit
Ready f s (Value v) = Unit
Ready f s (Kept at) = (at + place_size ≤ length s) × (byte_at s at ≤ longest_message)
Ready f s (Given m) = (m.at + m.len ≤ length f) × (m.len ≤ longest_message)
