-- What a whole line leaves: its frame's request, or a refusal 1; and that the answer of either lies within its buffer. Assumes nothing.
use mathlib.Core.Path.{◌≡◌, refl, sym, ap, ap₂, ◌∙◌}
use mathlib.Core.Bool.{true, not, cond}
use mathlib.Core.List.{List, [], ◌∷◌, map}
use Prim.Native.Nat.{ℕ, ◌+◌, ◌/◌, ◌≤◌}
use native.Mathlib.Omega.{arith}
use lib.Dec.{ltb}
use lib.ListN.{length, take, drop, replicate, length-append}
use lib.Seq.{length-take-le, take_at}
use Rattle.numbers.proofs.Bools.{and_left, by-test}
use Rattle.numbers.proofs.Chain.{hit}
use Rattle.answers.specs.declared.Refusal.TheVariants.{Malformed, BrokenRule}
use Rattle.answers.specs.Answers.{refusal_number, front}
use Rattle.lines.specs.Lines.{line_feed, frame_of, all_digits, right_length, is_frame, digits_in, line_of}
use Rattle.lines.proofs.LineLaws.{frame-length, digits-length}
use Rattle.rules.specs.Tested.{break_no_rule}
use Rattle.monitor.specs.Monitor.{shortest_buffer, no_room, broken, requested}
use Rattle.records.specs.Records.{principal_number, tag_number}
use Rattle.entry.specs.declared.Lists.{Lists}
use Rattle.entry.specs.declared.Reply.{Reply}
use Rattle.entry.specs.Entry.{over_records, reply_in, lists_of}
use Rattle.state.specs.declared.State.{State}
use Rattle.act.specs.Step.{After, before, step_answer, stepped}
use Rattle.store.specs.Store.{over}
use Rattle.session.specs.Session.{Carried, line_bytes, line_answered, answered_lists, turn, printed}

-- ---- a line z that is a frame

-- its frame stands at the front of a buffer that it was read into
module _ (z l r : List ℕ) (e : is_frame z ≡ true) (q : r ≡ cond (right_length z) (over l 0 (frame_of z)) l) where
  frame-read : take (length z / 2) r ≡ frame_of z
  frame-read =
      ap (take (length z / 2)) (q ∙ sym (hit l (and_left (right_length z) (all_digits z) e) refl))
      ∙ take_at (frame_of z) (drop (0 + length (frame_of z)) l) (length z / 2) (frame-length z)

  -- and is a request of the line's bytes y
  module _ (s : State) (x : Lists) (b a y : List ℕ) (same : z ≡ y) where
    pub frame-request : over_records s x.links x.grants b (take (length z / 2) r) a ≡ line_answered s x b y a
    frame-request =
        ap (λ (v : List ℕ). over_records s x.links x.grants b v a) frame-read ∙ hit _ e refl
        ∙ ap (λ (v : List ℕ). line_answered s x b v a) same

    pub frame-lists : lists_of (over_records s x.links x.grants b (take (length z / 2) r) a) ≡ answered_lists s x b y a
    frame-lists =
        ap (λ (v : List ℕ). lists_of (over_records s x.links x.grants b v a)) frame-read ∙ hit _ e refl
        ∙ ap (λ (v : List ℕ). answered_lists s x b v a) same

-- ---- where the answer buffer keeps its length, what was written lies within it

abbrev Within : ℕ → After → Type 0
Within n x = length x.answer ≡ n → x.replied.written ≤ n

-- bytes put at the front of a buffer that keeps its length
front-within : (bs a : List ℕ) → length (front bs a) ≡ length a → length bs ≤ length a
front-within bs a e = omega (arith, length-append bs (drop (length bs) a))

-- a request's answer
requested-within : (s : State) (l g b f a : List ℕ) → Within (length a) (requested s l g b f a)
unfolding requested
requested-within s l g b f a =
    by-test (Within (length a)) (ltb (length a) shortest_buffer) {x = no_room s l g b f a} (λ _ _. omega arith)
    (λ _.
    by-test (Within (length a)) (not (break_no_rule s.tables s.memory l g b)) {x = broken s l g b f a} {y = stepped s l g b f a}
    (λ _. front-within (refusal_number BrokenRule ∷ []) a)
    (λ _. front-within (step_answer (before s l g b) s.memory f) a))

-- a line's answer
pub answered-within :
    (s : State) (x : Lists) (b z a : List ℕ) → length (line_answered s x b z a).answer ≡ length a → (line_answered s x b z a).replied.written ≤ length a
answered-within s x b z a =
    by-test (Within (length a)) (is_frame z) (λ _. requested-within s (map principal_number x.links) (map tag_number x.grants) b (frame_of z) a)
    (λ _. front-within (refusal_number Malformed ∷ []) a)

-- ---- the end of a line: its reply r, whose answer is in the buffer m

module _ (z : Carried) {r : Reply} {m : List ℕ} (reply : r ≡ reply_in (turn z).replied) (buffer : m ≡ (turn z).answer) (kept : length m ≡ shortest_buffer) where
  -- what was written lies within the buffer
  pub written-fits : r.written ≤ length m
  written-fits =
      omega (
        arith,
        ap (λ (x : Reply). x.written) reply,
        kept,
        answered-within z.state z.lists z.store (line_bytes z.line) (replicate shortest_buffer 0) (sym (ap length buffer) ∙ kept),
      )

  -- it is no longer than the longest answer
  pub written-short : r.written ≤ shortest_buffer
  written-short = omega (arith, written-fits, kept)

  -- as many bytes are taken of the buffer
  pub written_count : r.written ≡ length (take r.written m)
  written_count = sym (length-take-le r.written m written-fits)

  -- its line: "two digits a byte" and an LF
  pub printed-length : r.written + r.written + 1 ≡ length (printed z)
  printed-length =
      let bs = take r.written m in
      let d : r.written + r.written + 1 ≡ length (line_of bs) = omega (arith, written_count, length-append (digits_in bs) (line_feed ∷ []), digits-length bs) in
      d ∙ ap₂ (λ (x : Reply) (v : List ℕ). length (line_of (take x.written v))) reply buffer
