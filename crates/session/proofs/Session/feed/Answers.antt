-- `Session::feed` meets its contract: each byte that is taken ends a line or is kept, while there is room for an answer. Assumes nothing.
use mathlib.Core.Path.{◌≡◌, sym, ap, ap₂, ◌∙◌}
use Prim.Native.Nat.{ℕ, ◌-◌}
use native.Mathlib.Omega.{arith}
use lib.ListN.{length, drop}
use Rattle.session.specs.declared.Line.{Line}
use Rattle.session.specs.Session.{session_of}
use Rattle.session.proofs.SessionLaws.{readable-full, readable-end}
use Rattle.session.proofs.Feeding.{fed-none, fed-line, fed-byte, value, whole, all-bytes}
use Rattle.session.proofs.Session.feed.Goals as goal
use Rattle.session.proofs.Session.feed.Goals.{then-byte-eq-LINE_FEED, else-byte-eq-LINE_FEED}

pub loop-read-init : goal.loop-read-init
loop-read-init c = let a = c.args in fed-none (session_of a.self.now a.store.now) a.input.now a.out.now

pub loop-read-preserved : goal.loop-read-preserved
loop-read-preserved c =
    let a = c.args in
    let k = c.loop-read in
    let z = session_of a.self.now a.store.now in
    let room = c.if-out-written-lt-ANSWER_ROOM.false in
    elim c.if-byte-eq-LINE_FEED.branch [
      | then-byte-eq-LINE_FEED w ↦
          let e = w.end_line-written.ensures in
          fed-line z a.input.now a.out.now k.invariant c.loop-read-test.true room w.if-byte-eq-LINE_FEED.true (ap₂ session_of w.self-is w.store-is ∙ e.session_after)
          (w.out-is ∙ e.out_after) e.value (c.if-byte-eq-LINE_FEED.auto.out ∙ k.invariant.kept) w.written-is
      | else-byte-eq-LINE_FEED w ↦
          fed-byte z a.input.now a.out.now k.invariant c.loop-read-test.true room w.if-byte-eq-LINE_FEED.false
          (ap₂ session_of w.self-is w.store-is ∙ ap (λ (x : Line). record { state = k.self.state; lists = k.self.lists; store = k.store; line = x }) w.push.ensures)
          w.out-is w.written-is
    ]

pub returns-then-out-written-lt-ANSWER_ROOM : goal.returns-then-out-written-lt-ANSWER_ROOM
returns-then-out-written-lt-ANSWER_ROOM c =
    let a = c.args in
    let k = c.loop-read in
    let z = session_of a.self.now a.store.now in
    let f = k.invariant in
    let done = readable-full (session_of k.self k.store) (drop k.read a.input.now) (length a.out.now - k.written) (omega (arith, c.if-out-written-lt-ANSWER_ROOM.true, f.kept)) in
    record { value = value z a.input.now a.out.now f done; session_after = whole z a.input.now a.out.now f done; out_after = all-bytes z a.input.now a.out.now f done }

pub returns : goal.returns
returns c =
    let a = c.args in
    let k = c.loop-read in
    let z = session_of a.self.now a.store.now in
    let f = k.invariant in
    let end : k.read ≡ length a.input.now = omega (arith, f.within, c.loop-read-test.false) in
    let done = readable-end (session_of k.self k.store) a.input.now k.read (length a.out.now - k.written) c.loop-read-test.false in
    record {
      value = ap (λ (n : ℕ). record { read = n; written = k.written }) (sym end) ∙ value z a.input.now a.out.now f done;
      session_after = whole z a.input.now a.out.now f done;
      out_after = all-bytes z a.input.now a.out.now f done;
    }
