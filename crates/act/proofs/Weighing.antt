-- A request that knows the numbers of the memory and one place comes to what it would come to with the whole of it, and what it leaves
-- to write, written there, is the memory after it. Assumes nothing.
use mathlib.Core.Path.{◌≡◌, refl, sym, ap, subst, ◌∙◌}
use mathlib.Core.Bool.{Bool, true, false, cond, ◌&&◌, ◌||◌}
use mathlib.Core.List.{List}
use mathlib.Core.Logic.{⊎_elim}
use Prim.Native.Nat.{ℕ}
use lib.ListN.{length}
use Rattle.std.specs.Prelude.{Some, None}
use Rattle.numbers.specs.Numbers.{most_remembered}
use Rattle.numbers.proofs.Bools.{and_right, either}
use Rattle.memory.specs.declared.Memory.{Memory}
use Rattle.memory.specs.declared.Note.{Note}
use Rattle.memory.specs.Remembered.{Fits, answered, emptied}
use Rattle.memory.specs.Notes.{tally_of, noted, wiped, judged}
use Rattle.memory.proofs.Asking.{judged-is, stays, empties}
use Rattle.frames.specs.Requests.{request_of, well_formed}
use Rattle.sight.specs.declared.Sight.{Sight}
use Rattle.prelude.specs.Prelude.{asks}
use Rattle.outcomes.specs.declared.Outcome.{Outcome}
use Rattle.act.specs.declared.Recalled.{Recalled}
use Rattle.act.specs.Step.{passes, pair_asked, walked, checked_by, asks_one_by, asked_by, outcome_by, considered_by, removes, remembers}
use Rattle.act.specs.Act.{place_of, recall_of, verdict_by, weighed_by, notes}

-- what is written after a removal
pub notes-remember : (m : Memory) (o : Outcome) (n : Note) → noted m (notes o n) ≡ remembers o (noted m n)
notes-remember m o n = pick (removes o.links || removes o.grants)
  where
    pick : (b : Bool) → noted m (cond b (wiped n) n) ≡ cond b (emptied (noted m n)) (noted m n)
    pick true = empties m n
    pick false = refl

module _ (s : Sight) (l g f : List ℕ) (m : Memory) (w : Fits m) (long : length m.pairs ≡ most_remembered) where
  abbrev knows : Recalled
  knows = recall_of m s (request_of f)

  abbrev pair : ℕ
  pair = pair_asked s l g (request_of f)

  abbrev walk : Bool
  walk = walked s l g (request_of f)

  -- where it asks, its pair is looked for among all that are held
  looked : asks_one_by s l g f ≡ true → ((judged (tally_of m) knows.place pair walk).yes ≡ (answered m pair walk).yes) × (noted m (judged (tally_of m) knows.place pair walk).note ≡ (answered m pair walk).memory)
  looked e =
      let asking : asks s (request_of f) ≡ true = and_right (passes (checked_by s l g f)) (asks s (request_of f)) (and_right (well_formed f) (passes (checked_by s l g f) && asks s (request_of f)) e) in
      subst (λ (a : Bool).
      let k = place_of m (cond a (Some pair) None) in
      ((judged (tally_of m) k pair walk).yes ≡ (answered m pair walk).yes) × (noted m (judged (tally_of m) k pair walk).note ≡ (answered m pair walk).memory))
      (sym asking) (judged-is m pair w long walk)

  same : ((verdict_by s l g knows f).yes ≡ (asked_by s l g f m).yes) × (noted m (verdict_by s l g knows f).note ≡ (asked_by s l g f m).memory)
  same = ⊎_elim (λ e. rw e (looked e)) (λ e. rw e (refl, stays m)) (either (asks_one_by s l g f))

  pub weighs-outcome : (weighed_by s l g knows f).outcome ≡ (considered_by s l g f m).outcome
  weighs-outcome = ap (outcome_by s l g f) same.0

  pub weighs-memory :
      noted m (notes (weighed_by s l g knows f).outcome (weighed_by s l g knows f).note) ≡ remembers (considered_by s l g f m).outcome (considered_by s l g f m).memory
  weighs-memory =
      notes-remember m (weighed_by s l g knows f).outcome (weighed_by s l g knows f).note
      ∙ ap (λ (o : Outcome). remembers o (noted m (weighed_by s l g knows f).note)) weighs-outcome
      ∙ ap (remembers (considered_by s l g f m).outcome) same.1
