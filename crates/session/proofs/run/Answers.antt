-- `session::run` meets its contract: the start, the whole input, and its end where all was read. Assumes nothing.
use mathlib.Core.Path.{ap₂, ◌∙◌}
use Rattle.session.specs.Session.{session_of}
use Rattle.session.proofs.Running.{fed-fresh, part-read, all_read}
use Rattle.session.proofs.run.Goals as goal
use Rattle.session.proofs.run.Goals.{then-fed-input, else-fed-input}

pub returns : goal.returns
returns c =
    let a = c.args in
    let f = c.feed-fed in
    let s = c.start-first.ensures in
    let left =
    fed-fresh a.size a.store.now a.input.now a.out.now s.value c.new-session.ensures s.store_after f.ensures.value f.ensures.session_after f.ensures.out_after
    f.auto.out in
    elim c.if-fed-input.branch [
      | then-fed-input w ↦
          let r = part-read a.size a.store.now a.input.now a.out.now s.value left w.if-fed-input.true w.last-is (ap₂ session_of w.session-is w.store-is) w.out-is c.unwrap_or.ensures c.is_some.ensures in
          record { value = r.value; store_after = r.store; out_after = r.bytes }
      | else-fed-input w ↦
          let e = w.finish-last.ensures in
          let r =
          all_read a.size a.store.now a.input.now a.out.now s.value left w.if-fed-input.false (w.last-is ∙ e.value) (ap₂ session_of w.session-is w.store-is ∙ e.session_after) (w.out-is ∙ e.out_after)
          c.unwrap_or.ensures c.is_some.ensures in
          record { value = r.value; store_after = r.store; out_after = r.bytes }
    ]
