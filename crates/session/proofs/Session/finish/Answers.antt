-- `Session::finish` meets its contract: nothing, the last line, or an answer and the last line. Assumes nothing.
use mathlib.Core.Path.{◌≡◌, sym, ap₂, ◌∙◌}
use mathlib.Core.Bool.{true}
use native.Mathlib.Omega.{arith}
use Rattle.session.specs.Session.{session_of}
use Rattle.session.specs.Run.{can_end}
use Rattle.session.proofs.Ending.{without-last, with-last}
use Rattle.session.proofs.Session.finish.Goals as goal
use Rattle.session.proofs.Session.finish.Goals.{then-self-eq0, else-self-eq0}

pub returns : goal.returns
returns c =
    let a = c.args in
    let z = session_of a.self.now a.store.now in
    let room : can_end z a.out.now a.at ≡ true = sym c.can_end.ensures ∙ c.if-not-can_end.false in
    elim c.if-self-eq0.branch [
      | then-self-eq0 w ↦
          let r = without-last z a.out.now a.at room c.put_last.ensures w.if-self-eq0.true (ap₂ session_of w.self-is w.store-is) w.n-is w.out-is in
          record { value = r.value; session_after = r.session; out_after = r.bytes }
      | else-self-eq0 w ↦
          let e = w.end_line-n.ensures in
          let r =
          with-last z a.out.now a.at room c.put_last.ensures w.if-self-eq0.false (ap₂ session_of w.self-is w.store-is ∙ e.session_after) (w.n-is ∙ e.value)
          (omega (arith, w.n-is, e.written_le_answer_room)) (w.out-is ∙ e.out_after) in
          record { value = r.value; session_after = r.session; out_after = r.bytes }
    ]
