use Rattle.std.proofs.Common.{arith, ◌∙◌, ap, ap₂, set, suc, ◌≡◌, ◌-◌, ◌+◌, drop}
use lib.Seq.{paste}
use Rattle.records.proofs.Closing.{gap-none, gap-closed}
use Rattle.records.proofs.lists.remove.Goals as goal

pub returns-then-i-end : goal.returns-then-i-end
returns-then-i-end g c =
    let links = c.args.links.now in
    let i = c.args.i in
    let last = c.used-end.result - 1 in
    let all : c.used-end.result ≡ suc last = omega arith in
    ap₂ (λ l z. set l last z) (c.copy_within.ensures.after ∙ ap (λ e. paste links i (drop (i + 1) links) (e - (i + 1))) all) c.link_of.ensures
    ∙ gap-closed (g.L.Link.of_number 0) links c.args.n i last (omega arith) (omega (arith, c.used-end.ensures))

pub returns-else-i-end : goal.returns-else-i-end
returns-else-i-end g c = gap-none (g.L.Link.of_number 0) c.args.links.now c.args.n c.args.i (omega (arith, c.used-end.ensures))
