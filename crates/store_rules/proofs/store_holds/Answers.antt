-- Each row is tested with its number.
use mathlib.Core.Path.{◌≡◌, sym, subst, ap, ◌∙◌}
use mathlib.Core.Bool.{Bool}
use mathlib.Core.List.{List}
use Prim.Native.Nat.{ℕ, ◌*◌, ◌≤◌, ◌<◌}
use native.Mathlib.Nat.{zero-add}
use native.Mathlib.Omega.{arith}
use borrow.Author.Tests.{tests}
use lib.ListN.{length, get_or}
use Rattle.std.specs.List.{enumerate_from, list_all}
use Rattle.std.proofs.Common.{rules}
use Rattle.std.proofs.lemmas.Iterator.{YieldsList-from_slice}
use Rattle.std.proofs.lemmas.Iterator.Adapters.{serves_from_places}
use Rattle.std.proofs.lemmas.Iterator.Consumers.{YieldsList-from_enumerate}
use Rattle.std.proofs.lemmas.Iterator.Search.{all_from_yields_List}
use Rattle.std.proofs.lemmas.List.{get_or_default}
use Rattle.std.proofs.lemmas.List.FromFn.{length-enumerate_from, get_or-enumerate_from}
use Rattle.numbers.specs.Below.{all_below}
use Rattle.numbers.proofs.Below.{all_same}
use Rattle.numbers.proofs.BelowLists.{all_rows}
use Rattle.tables.specs.Rows.{what_of}
use Rattle.tables.specs.Things.{no_object, object_at}
use Rattle.tables.specs.declared.rows.ObjectRow.{ObjectRow}
use Rattle.store_rules.specs.StoreRules.{places_used, object_holds, store_holds}
use Rattle.store_rules.proofs.store_holds.Goals as goal

-- the row that comes with a number is the one at that place
at_its_place :
    (rows : List ObjectRow) (k : ℕ) (p : ℕ × ObjectRow) → k < length (enumerate_from 0 rows) → p ≡ get_or (enumerate_from 0 rows) k p
    → (p.0 ≡ k) × (p.1 ≡ object_at rows k)
at_its_place rows k p h e =
    let low : k < length rows = omega (arith, length-enumerate_from 0 rows) in
    let read = e ∙ get_or-enumerate_from 0 rows k p low in
    (ap (λ q. q.0) read ∙ zero-add k, ap (λ q. q.1) read ∙ get_or_default rows k p.1 no_object low)

-- the test of each row with its number
abbrev each : List ℕ → ℕ × ObjectRow → Bool
each s p = object_holds s (p.0 * 264) (places_used (what_of p.1))

each_row :
    (s : List ℕ) (rows : List ObjectRow) → length rows ≡ 64
    → list_all (each s) (enumerate_from 0 rows) ≡ all_below 64 (λ o. each s (o, object_at rows o))
each_row s rows l =
    all_rows (each s) (0, no_object) (enumerate_from 0 rows) 64 (length-enumerate_from 0 rows ∙ l)
    ∙ all_same 64 (λ o. each s (get_or (enumerate_from 0 rows) o (0, no_object))) (λ o. each s (o, object_at rows o))
    (λ o h. ap (each s) (get_or-enumerate_from 0 rows o (0, no_object) (omega arith) ∙ ap (λ n. (n, object_at rows o)) (zero-add o)))

pub all-requires-clause-callable : goal.all-requires-clause-callable
all-requires-clause-callable c =
    let rows = c.args.rows.now in
    serves_from_places (YieldsList-from_enumerate (YieldsList-from_slice rows (cc)) (cc)) (λ x q r. search rules)
    (λ x k h e.
    let place = at_its_place rows k (x.0, x.1.now) h e in
    let low : x.0 < 64 = omega (arith, length-enumerate_from 0 rows, place.0) in
    let used : places_used (what_of x.1.now) ≤ 8 =
    subst (λ r. places_used (what_of r) ≤ 8) (sym place.1) (c.requires.by_index k (omega (arith, place.0))) in
    search rules)

pub returns : goal.returns
unfolding store_holds
returns c =
    let a = c.args in
    all_from_yields_List (each a.s.now) _ _ c.all.result c.all.ensures.ran
    (YieldsList-from_enumerate (YieldsList-from_slice a.rows.now (cc)) (cc)) (λ x b q k. search (rules, tests))
    ∙ each_row a.s.now a.rows.now (omega arith)
