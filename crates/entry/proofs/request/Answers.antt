-- The request over the numbers that are handed on is the one over all of them, and what it tells is put back into the records
-- (proofs/OverRecords). Assumes nothing.
use Rattle.std.proofs.Common.{◌≡◌, ℕ, List, length, take, ap, ap₂, ◌∙◌}
use lib.ListN.{replicate}
use Rattle.records.specs.declared.principals.PrincipalLink.{PrincipalLink}
use Rattle.records.specs.declared.tags.TagLink.{TagLink}
use Rattle.records.specs.Records.{principal_number, principal_link, tag_number, tag_link, gathered, changed}
use Rattle.lent.specs.declared.Counts.{Counts}
use Rattle.step.specs.declared.Stepped.{Stepped}
use Rattle.monitor.specs.Monitor.{requested, reply_of}
use Rattle.entry.specs.Entry.{whole_places}
use Rattle.entry.proofs.OverRecords.{given, reply-is, state-is, links-are, grants-are, store_is, answer-is}
use Rattle.entry.proofs.request.Goals as goal

-- what holds of the slices that are handed on, holds of the numbers that the laws name
on-handed :
    {A : Type 0} (of : List ℕ → List ℕ → A) (ys : List PrincipalLink) (zs : List TagLink) {r : A} {x y : List ℕ} {n k : ℕ} → r ≡ of (take n x) (take k y)
    → x ≡ gathered principal_number ys (replicate 256 0) → y ≡ gathered tag_number zs (replicate 256 0) → n ≡ whole_places (length ys) → k ≡ whole_places (length zs)
    → r ≡ of (take (whole_places (length ys)) (gathered principal_number ys (replicate 256 0))) (take (whole_places (length zs)) (gathered tag_number zs (replicate 256 0)))
on-handed of ys zs e p q m o = e ∙ ap₂ of (ap₂ (λ (i : ℕ) (l : List ℕ). take i l) m p) (ap₂ (λ (i : ℕ) (l : List ℕ). take i l) o q)

pub returns-clause-value : goal.returns-clause-value
returns-clause-value c =
    let a = c.args in
    let t = on-handed (λ (l g : List ℕ). reply_of a.s.now l g a.store.now a.frame.now a.answer.now) a.links.now a.grants.now c.reply-told.ensures.value c.numbers_of-numbers.ensures c.numbers_of-tag_numbers.ensures c.whole_places-n.ensures c.whole_places-k.ensures in
    ap (λ (x : Stepped). given x.status x.written) t ∙ reply-is a.s.now a.links.now a.grants.now a.store.now a.frame.now a.answer.now

pub returns-clause-s_after : goal.returns-clause-s_after
returns-clause-s_after c =
    let a = c.args in
    on-handed (λ (l g : List ℕ). (requested a.s.now l g a.store.now a.frame.now a.answer.now).replied.state) a.links.now a.grants.now c.reply-told.ensures.s_after c.numbers_of-numbers.ensures c.numbers_of-tag_numbers.ensures c.whole_places-n.ensures c.whole_places-k.ensures
    ∙ state-is a.s.now a.links.now a.grants.now a.store.now a.frame.now a.answer.now

pub returns-clause-links_after : goal.returns-clause-links_after
returns-clause-links_after c =
    let a = c.args in
    let t = on-handed (λ (l g : List ℕ). reply_of a.s.now l g a.store.now a.frame.now a.answer.now) a.links.now a.grants.now c.reply-told.ensures.value c.numbers_of-numbers.ensures c.numbers_of-tag_numbers.ensures c.whole_places-n.ensures c.whole_places-k.ensures in
    c.put_back.ensures
    ∙ ap₂ (λ (x : Stepped) (y : Counts). changed principal_link x.links y.links a.links.now) t c.counts_of-used.ensures
    ∙ links-are a.s.now a.links.now a.grants.now a.store.now a.frame.now a.answer.now c.numbered.ensures

pub returns-clause-grants_after : goal.returns-clause-grants_after
returns-clause-grants_after c =
    let a = c.args in
    let t = on-handed (λ (l g : List ℕ). reply_of a.s.now l g a.store.now a.frame.now a.answer.now) a.links.now a.grants.now c.reply-told.ensures.value c.numbers_of-numbers.ensures c.numbers_of-tag_numbers.ensures c.whole_places-n.ensures c.whole_places-k.ensures in
    c.put_back-2.ensures
    ∙ ap₂ (λ (x : Stepped) (y : Counts). changed tag_link x.grants y.grants a.grants.now) t c.counts_of-used.ensures
    ∙ grants-are a.s.now a.links.now a.grants.now a.store.now a.frame.now a.answer.now c.numbered-2.ensures

pub returns-clause-store_after : goal.returns-clause-store_after
returns-clause-store_after c =
    let a = c.args in
    on-handed (λ (l g : List ℕ). (requested a.s.now l g a.store.now a.frame.now a.answer.now).store) a.links.now a.grants.now c.reply-told.ensures.store_after c.numbers_of-numbers.ensures c.numbers_of-tag_numbers.ensures c.whole_places-n.ensures c.whole_places-k.ensures
    ∙ store_is a.s.now a.links.now a.grants.now a.store.now a.frame.now a.answer.now

pub returns-clause-answer_after : goal.returns-clause-answer_after
returns-clause-answer_after c =
    let a = c.args in
    on-handed (λ (l g : List ℕ). (requested a.s.now l g a.store.now a.frame.now a.answer.now).answer) a.links.now a.grants.now c.reply-told.ensures.answer_after c.numbers_of-numbers.ensures c.numbers_of-tag_numbers.ensures c.whole_places-n.ensures c.whole_places-k.ensures
    ∙ answer-is a.s.now a.links.now a.grants.now a.store.now a.frame.now a.answer.now
