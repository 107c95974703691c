-- What the request comes to, by what is read of the state, is what it is defined to come to (`act`, proofs/Stepping): a law for each
-- of the step's clauses. Assumes nothing.
use Rattle.std.proofs.Common.{◌≤◌, List, ℕ, length, sym, ap, subst, ◌∙◌}
use Rattle.memory.specs.Notes.{noted}
use Rattle.answers.specs.Answers.{status_of, answer_bytes, front}
use Rattle.outcomes.specs.declared.Outcome.{Outcome}
use Rattle.apply.specs.Apply.{apply_store}
use Rattle.apply.specs.Writes.{written}
use Rattle.act.specs.declared.Acted.{Acted}
use Rattle.act.specs.Act.{counts_in, weighed_by, acted}
use Rattle.act.specs.World.{HasRoom}
use Rattle.act.proofs.Stepping as stepping
use Rattle.step.specs.declared.Seen.{Seen}
use Rattle.step.specs.declared.Stepped.{Stepped}
use Rattle.step.proofs.step.Goals as goal

-- what `act` asks of what is read
abbrev Asks : List ℕ → List ℕ → List ℕ → List ℕ → List ℕ → Seen → Type 0
Asks l g b f a y =
    HasRoom (counts_in y.sight) y.own b f (weighed_by y.sight l g y.recalled f).outcome × (34 ≤ length a)

abbrev told : Acted → Stepped
told z = record { status = z.status; written = z.written; links = z.links; grants = z.grants }

pub act-acted-requires : goal.act-acted-requires
act-acted-requires c =
    let a = c.args in
    let s = a.s.now in
    let n = c.sized.ensures in
    let room = stepping.room s a.links.now a.grants.now a.store.now a.frame.now c.requires.0 n.threads n.objects n.pairs in
    subst (Asks a.links.now a.grants.now a.store.now a.frame.now a.answer.now) (sym c.look-seen.ensures) (room, c.requires.1)

pub returns-clause-value : goal.returns-clause-value
returns-clause-value c =
    let a = c.args in
    let n = c.sized.ensures in
    let same = stepping.same_outcome a.s.now a.links.now a.grants.now a.store.now a.frame.now c.requires.0 n.threads n.objects n.pairs in
    ap told c.act-acted.ensures.value
    ∙ ap (λ (y : Seen). told (acted y.sight y.own y.recalled a.links.now a.grants.now a.store.now a.frame.now)) c.look-seen.ensures
    ∙ ap (λ (o : Outcome). record { status = status_of o.answer; written = length (answer_bytes a.frame.now a.store.now o.answer); links = o.links; grants = o.grants }) same

pub returns-clause-s_after : goal.returns-clause-s_after
returns-clause-s_after c =
    let a = c.args in
    let s = a.s.now in
    let n = c.sized.ensures in
    c.write_all.ensures
    ∙ ap (λ (z : Acted). record { tables = written s.tables z.writes; memory = noted s.memory z.note }) c.act-acted.ensures.value
    ∙ ap (λ (y : Seen). let z : Acted = acted y.sight y.own y.recalled a.links.now a.grants.now a.store.now a.frame.now in record { tables = written s.tables z.writes; memory = noted s.memory z.note }) c.look-seen.ensures
    ∙ stepping.leaves s a.links.now a.grants.now a.store.now a.frame.now c.requires.0 n.threads n.objects n.pairs a.answer.now

pub returns-clause-store_after : goal.returns-clause-store_after
returns-clause-store_after c =
    let a = c.args in
    let n = c.sized.ensures in
    let same = stepping.same_outcome a.s.now a.links.now a.grants.now a.store.now a.frame.now c.requires.0 n.threads n.objects n.pairs in
    c.act-acted.ensures.store_after
    ∙ ap (λ (y : Seen). apply_store (weighed_by y.sight a.links.now a.grants.now y.recalled a.frame.now).outcome.store a.frame.now a.store.now) c.look-seen.ensures
    ∙ ap (λ (o : Outcome). apply_store o.store a.frame.now a.store.now) same

pub returns-clause-answer_after : goal.returns-clause-answer_after
returns-clause-answer_after c =
    let a = c.args in
    let n = c.sized.ensures in
    let same = stepping.same_outcome a.s.now a.links.now a.grants.now a.store.now a.frame.now c.requires.0 n.threads n.objects n.pairs in
    c.act-acted.ensures.answer_after
    ∙ ap (λ (y : Seen). front (answer_bytes a.frame.now a.store.now (weighed_by y.sight a.links.now a.grants.now y.recalled a.frame.now).outcome.answer) a.answer.now) c.look-seen.ensures
    ∙ ap (λ (o : Outcome). front (answer_bytes a.frame.now a.store.now o.answer) a.answer.now) same
