-- What the end of the input leaves: nothing where there is no room; else the last line, and before it the answer of a line without its
-- LF. Assumes nothing.
use mathlib.Core.Path.{◌≡◌, refl, sym, ap, ap₂, ◌∙◌}
use mathlib.Core.Bool.{true, false, cond}
use mathlib.Core.List.{List, []}
use Prim.Native.Nat.{ℕ, ◌+◌, ◌≤◌}
use native.Mathlib.Omega.{arith}
use Rattle.std.specs.Prelude.{Some, None}
use borrow.Author.Tests.{lt-ltb, le-ltb, leb-true}
use lib.ListN.{length, length-append}
use Rattle.numbers.proofs.Chain.{skip, hit}
use Rattle.lines.specs.Lines.{digits_in}
use Rattle.memory.specs.declared.Memory.{Memory}
use Rattle.store.specs.Store.{over}
use Rattle.store.proofs.Over.{over_none, over-over}
use Rattle.session.specs.Session.{Carried, has_last, turned, printed, ended, ending, last_line}
use Rattle.session.specs.Run.{answer_room, ending_room, can_end, end_session, end_bytes, finished}

-- the last line's 9 bytes and its LF
pub last-length : (m : Memory) → length (last_line m) ≡ 19
unfolding digits_in
last-length m = refl

-- ---- the end of the input in the session z, with the output buffer o, at `at`

module _ (z : Carried) (o : List ℕ) (at : ℕ) where
  -- n bytes were written; it leaves the session y and the buffer p
  pub record Finishes (y : Carried) (p : List ℕ) (n : ℕ) : Type 0 where
    pub value : Some n ≡ finished z o at
    pub session : y ≡ end_session z o at
    pub bytes : p ≡ over o at (end_bytes z o at)

  -- what stands before the last line
  abbrev before_last : List ℕ
  before_last = cond (has_last z) (printed z) []

  module _ {y : Carried} {q p : List ℕ} {n : ℕ} (c : can_end z o at ≡ true) (w : p ≡ over q (at + n) (last_line y.state.memory)) where
    -- all of it, where the line's end is known
    finishes : y ≡ ended z → n ≡ length before_last → n ≤ answer_room → q ≡ over o at before_last → Finishes y p (n + 19)
    finishes e m short g =
        let last = last_line (ended z).state.memory in
        let fits : at + length before_last ≤ length o = omega (arith, m, short, leb-true (at + ending_room) (length o) c) in
        let put : p ≡ over o at (ending z) =
        w ∙ ap₂ (λ (u : List ℕ) (j : ℕ). over u (at + j) (last_line y.state.memory)) g m
        ∙ ap (λ (x : Carried). over (over o at before_last) (at + length before_last) (last_line x.state.memory)) e
        ∙ over-over o at before_last last fits in
        let bytes : ending z ≡ end_bytes z o at = hit [] c refl in
        let count : n + 19 ≡ length (ending z) = omega (arith, m, length-append before_last last, last-length (ended z).state.memory) in
        record { value = hit None c (ap (λ (k : ℕ). Some k) (count ∙ ap length bytes)); session = hit z c e; bytes = put ∙ ap (over o at) bytes }

    -- no byte is left
    pub without-last : z.line.held ≡ 0 → y ≡ z → n ≡ 0 → q ≡ o → Finishes y p (n + 19)
    without-last h e m g =
        let none : has_last z ≡ false = le-ltb 0 z.line.held (omega arith) in
        let bytes : [] ≡ before_last = skip (printed z) none refl in
        finishes (skip (turned z) none e) (m ∙ ap length bytes) (omega (arith, m)) (g ∙ sym (over_none o at) ∙ ap (over o at) bytes)

    -- a last line without LF
    pub with-last : (z.line.held ≡ 0 → ⊥) → y ≡ turned z → n ≡ length (printed z) → n ≤ answer_room → q ≡ over o at (printed z) → Finishes y p (n + 19)
    with-last h e m short g =
        let some : has_last z ≡ true = lt-ltb 0 z.line.held (omega arith) in
        let bytes : printed z ≡ before_last = hit [] some refl in
        finishes (hit z some e) (m ∙ ap length bytes) short (g ∙ ap (over o at) bytes)
