-- What is told is told of what the request came to: the length is that of the answer's bytes, and the caller's number that of the frame.
use Rattle.std.proofs.Common.{◌≡◌, ℕ, sym, ap, ap₂, subst, ◌∙◌}
use Rattle.memory.specs.declared.Note.{Note}
use Rattle.outcomes.specs.declared.Outcome.{Outcome}
use Rattle.answers.proofs.Lengths.{answer-length}
use Rattle.apply.specs.declared.rows.Writes.{Writes}
use Rattle.act.specs.World.{HasRoom}
use Rattle.act.specs.declared.Acted.{Acted}
use Rattle.act.specs.declared.Weighed.{Weighed}
use Rattle.act.specs.Act.{counts_in, writes_of, acted_on}
use Rattle.act.proofs.act.Goals as goal

-- what is told, of these parts
abbrev telling : ℕ → ℕ → Outcome → Writes → Note → Acted
telling n k o w m = record { status = n; written = k; links = o.links; grants = o.grants; writes = w; note = m }

same-told : {n i k j : ℕ} (o : Outcome) {w x : Writes} {m q : Note} → n ≡ i → k ≡ j → w ≡ x → m ≡ q → telling n k o w m ≡ telling i j o x q
same-told {n} {i} {k} {j} o {w} {x} {m} {q} a b d e = ap₂ (λ (y z : ℕ). telling y z o w m) a b ∙ ap₂ (λ (y : Writes) (z : Note). telling i j o y z) d e

pub returns-clause-value : goal.returns-clause-value
returns-clause-value c =
    let a = c.args in
    let o : Outcome = c.consider-c.result.outcome in
    let e = c.consider-c.ensures in
    let room : HasRoom (counts_in a.s) a.own a.store.now a.frame.now o = subst (λ (k : Weighed). HasRoom (counts_in a.s) a.own a.store.now a.frame.now k.outcome) (sym e) c.requires.0 in
    let n = c.length_of-written.ensures ∙ sym (answer-length a.frame.now a.store.now o.answer room.answer) in
    let w = c.writes_of-writes.ensures ∙ ap (λ (x : ℕ). writes_of a.s a.own x o) c.byte_at.ensures in
    same-told o c.status_of-status.ensures n w c.notes-note.ensures ∙ ap (λ (x : Weighed). acted_on a.s a.own a.store.now a.frame.now x) e
