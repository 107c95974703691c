-- `link_rules::rules::fill` meets its contract: the loop has filled in the links passed. Assumes nothing.
use Rattle.std.proofs.Common.{refl, sym, subst, ◌∙◌, ◌≡◌, ◌+◌, ◌/◌, ◌^◌, ◌<◌, ℕ, ◌&&◌, eqb, bit_and, length, get_or, take, arith}
use lib.ListN.{length-set}
use lib.Seq.{get_or-take, length-take-le}
use Rattle.numbers.specs.Below.{all_below}
use Rattle.links.proofs.Gathering.{with_mark}
use Rattle.link_rules.specs.LinkRules.{tag_in, from_in, to_in, at, none_doubled}
use Rattle.link_rules.specs.Filling.{row_of, Marks}
use Rattle.link_rules.proofs.FillLaws.{marks-next, doubled-next}
use Rattle.link_rules.proofs.rules.fill.Goals as goal

pub loop-x-init : goal.loop-x-init
unfolding none_doubled all_below
loop-x-init c = (refl, refl, refl, c.requires.filled)

pub loop-x-preserved : goal.loop-x-preserved
loop-x-preserved c = let a = c.args in
    let o = c.loop-x in
    let i = o.x-index in
    let l = a.links.now in
    let pre = c.requires in
    let low : i < a.n = omega (arith, length-take-le a.n l pre.n_in_bounds.0) in
    let placed = pre.n_in_bounds.1 i low in
    let x : get_or (take a.n l) i 0 ≡ at l i = get_or-take a.n l i 0 low in (
      length-set o.rows _ _ ∙ o.invariant.0,
      length-set o.starts _ _ ∙ o.invariant.1,
      subst (λ (y : ℕ). (o.ok && eqb (bit_and (get_or o.rows (row_of y) 0 / 2 ^ to_in y) 1) 0) ≡ none_doubled l (i + 1)) (sym x)
          (doubled-next l a.n i (length a.starts.now) pre.n_in_bounds.1 low o.rows o.invariant.3.0 o.ok o.invariant.2),
      (
        subst (λ (y : ℕ). Marks l (i + 1) row_of to_in (with_mark o.rows (row_of y) (to_in y))) (sym x)
            (marks-next l i row_of to_in o.rows o.invariant.3.0 (omega (arith, placed.0, placed.1, o.invariant.0, pre.rows_len)) placed.2),
        subst (λ (y : ℕ). Marks l (i + 1) tag_in from_in (with_mark o.starts (tag_in y) (from_in y))) (sym x)
            (marks-next l i tag_in from_in o.starts o.invariant.3.1 (omega (arith, placed.0, o.invariant.1)) placed.1),
      ),
    )
