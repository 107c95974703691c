-- `Session::answer_line` meets its contract: a refusal 1, or the request of the line's frame. Assumes nothing.
use mathlib.Core.Path.{sym, ap, ap₂, ◌∙◌}
use mathlib.Core.List.{List}
use Prim.Native.Nat.{ℕ}
use lib.ListN.{replicate}
use Rattle.records.specs.declared.principals.PrincipalLink.{PrincipalLink}
use Rattle.records.specs.declared.tags.TagLink.{TagLink}
use Rattle.state.specs.declared.State.{State}
use Rattle.act.specs.Step.{After}
use Rattle.entry.specs.declared.Lists.{Lists}
use Rattle.entry.specs.Entry.{reply_in}
use Rattle.session.specs.Session.{Carried}
use Rattle.session.proofs.Answering.{frame-request, frame-lists}
use Rattle.session.proofs.Session.answer_line.Goals as goal

pub returns : goal.returns
returns c =
    let a = c.args in
    let e = c.request.ensures in
    let z = c.held_bytes-line in
    let framed = sym c.frame_of.ensures.value ∙ c.if-not-frame_of.false in
    let same = frame-request z.result.now (replicate 36 0) c.frame_of.new.frame framed c.frame_of.ensures.frame_after a.self.now.state a.self.now.lists a.store.now a.answer.now _ z.ensures in
    let left : State → List ℕ → Lists → Carried = λ s b x. record { state = s; lists = x; store = b; line = a.self.now.line } in
    let lists =
    ap₂ (λ (x : List PrincipalLink) (y : List TagLink). record { links = x; grants = y }) e.links_after e.grants_after
    ∙ frame-lists z.result.now (replicate 36 0) c.frame_of.new.frame framed c.frame_of.ensures.frame_after a.self.now.state a.self.now.lists a.store.now a.answer.now _ z.ensures in
    record {
      value = e.value ∙ ap (λ (v : After). reply_in v.replied) same;
      session_after =
          ap₂ (λ (s : State) (b : List ℕ). left s b (record { links = c.request.new.links; grants = c.request.new.grants })) e.s_after e.store_after
          ∙ ap₂ (λ (v : After) (x : Lists). left v.replied.state v.store x) same lists;
      answer_after = e.answer_after ∙ ap (λ (v : After). v.answer) same;
    }
