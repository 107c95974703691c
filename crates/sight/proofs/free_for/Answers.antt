use native.Mathlib.Omega.{arith}
use Rattle.std.proofs.Common.{rules, ◌≡◌, not, Some}
use Rattle.std.proofs.lemmas.List.Quantifiers.{position-Some}
use Rattle.tables.specs.declared.rows.ThreadRow.{ThreadRow}
use Rattle.tables.specs.declared.rows.ObjectRow.{ObjectRow}
use Rattle.tables.specs.Rows.{is_live, is_free, what_of}
use Rattle.tables.specs.Things.{no_thread, no_object}
use Rattle.tables.specs.Free.{free_thread, free_object}
use Rattle.sight.proofs.free_for.Goals as goal

-- the number of a row is below that of the rows, and so fits a byte
pub overflow_cast-result : goal.overflow_cast-result
overflow_cast-result c =
    let rows = c.args.s.now.tables.threads in
    let found : free_thread rows ≡ Some c.in_ok-n.n = search rules in
    omega (arith, c.sized.ensures.threads, (position-Some (λ (r : ThreadRow). not (is_live r.live)) rows c.in_ok-n.n no_thread found).0)

pub overflow_cast-result-then-makes_object : goal.overflow_cast-result-then-makes_object
overflow_cast-result-then-makes_object c =
    let rows = c.args.s.now.tables.objects in
    let found : free_object rows ≡ Some c.in_ok-n-2.n = search rules in
    omega (arith, c.sized.ensures.objects, (position-Some (λ (r : ObjectRow). is_free (what_of r)) rows c.in_ok-n-2.n no_object found).0)
