-- Every request keeps the rules of the world; and what the walk said of a made pair it says afterwards too, unless a link was removed.
-- Assumes nothing.
use mathlib.Core.Path.{◌≡◌}
use mathlib.Core.Bool.{Bool, true, ◌||◌}
use mathlib.Core.List.{List}
use mathlib.Core.Logic.{◌⊎◌, inr}
use Prim.Native.Nat.{ℕ, ◌≤◌}
use native.Mathlib.Omega.{arith}
use lib.ListN.{length-set}
use Rattle.numbers.specs.Numbers.{public}
use Rattle.numbers.specs.declared.Principal.{Principal}
use Rattle.memory_rules.specs.MemoryRules.{pair_made}
use Rattle.tables.specs.Rows.{is_live}
use Rattle.tables.specs.Things.{thread_at}
use Rattle.frames.specs.Requests.{thread_of, request_of}
use Rattle.frames.specs.declared.requests.Request.{Request}
use Rattle.frames.specs.declared.requests.Request.TheVariants.{OfAuthority, OfThread, OfObject, OfOutside}
use Rattle.frames.specs.declared.requests.ThreadRequest.{ThreadRequest}
use Rattle.frames.specs.declared.requests.ObjectRequest.{ObjectRequest}
use Rattle.frames.specs.declared.requests.OutsideRequest.TheVariants.{SendOut, BringIn}
use Rattle.frames.proofs.Spans.{Spans, spans_fit}
use Rattle.sight.specs.Sight.{sight_of}
use Rattle.named.specs.Named.{named}
use Rattle.outcomes.specs.declared.Outcome.{Outcome}
use Rattle.outcomes.specs.declared.RowChange.{RowChange}
use Rattle.outcomes.specs.declared.RowChange.TheVariants as rows
use Rattle.apply.specs.Apply.{apply_rows}
use Rattle.decide.specs.Decide.{decide}
use Rattle.decide.proofs.AuthorityComes as authority
use Rattle.decide.proofs.ThreadComes as thread
use Rattle.decide.proofs.ObjectComes as object
use Rattle.act.specs.World.{World, applied}
use Rattle.act.specs.Step.{outcome, removes}
use Rattle.act.proofs.Ind.{outcome-ind}
use Rattle.assurance.proofs.Sound.{walk_in}
use Rattle.assurance.proofs.Worlds.{WorldHolds, SizedWorld}
use Rattle.assurance.proofs.AuthorityKeep.{authority-keeps}
use Rattle.assurance.proofs.ThreadsKeep.{caller-made, thread-keeps}
use Rattle.assurance.proofs.ObjectsKeep.{object-keeps}
use Rattle.assurance.proofs.Growth.{authority-grows}

-- ---- what any outcome does: arrays keep their sizes, and nothing made is unmade

module _ (w : World) (sized : SizedWorld w) (f : List ℕ) where
  rows-sized : (c : RowChange) → SizedWorld (record { tables = apply_rows w.tables (thread_of f).0 c; links = w.links; grants = w.grants; store = w.store })
  rows-sized rows.Keep = sized
  rows-sized rows.NewPrincipal = record { threads = sized.threads; kinds = sized.kinds; objects = sized.objects }
  rows-sized (rows.NewTag r) = record { threads = sized.threads; kinds = rw length-set sized.kinds; objects = sized.objects }
  rows-sized (rows.Labels l) = record { threads = rw length-set sized.threads; kinds = sized.kinds; objects = sized.objects }
  rows-sized (rows.NewThread k p) = record { threads = rw length-set sized.threads; kinds = sized.kinds; objects = sized.objects }
  rows-sized rows.End = record { threads = rw length-set sized.threads; kinds = sized.kinds; objects = sized.objects }
  rows-sized (rows.Call p) = record { threads = rw length-set sized.threads; kinds = sized.kinds; objects = sized.objects }
  rows-sized rows.Return = record { threads = rw length-set sized.threads; kinds = sized.kinds; objects = sized.objects }
  rows-sized (rows.Object o r) = record { threads = sized.threads; kinds = sized.kinds; objects = rw length-set sized.objects }

  pub sized-applied : (o : Outcome) → SizedWorld (applied w f o)
  sized-applied o = let h = rows-sized o.rows in record { threads = h.threads; kinds = h.kinds; objects = h.objects }

module _ (w : World) (f : List ℕ) where
  rows_more : (c : RowChange) → (w.tables.tags ≤ (apply_rows w.tables (thread_of f).0 c).tags) × (w.tables.principals ≤ (apply_rows w.tables (thread_of f).0 c).principals)
  rows_more rows.Keep = (omega arith, omega arith)
  rows_more rows.NewPrincipal = (omega arith, omega arith)
  rows_more (rows.NewTag r) = (omega arith, omega arith)
  rows_more (rows.Labels l) = (omega arith, omega arith)
  rows_more (rows.NewThread k p) = (omega arith, omega arith)
  rows_more rows.End = (omega arith, omega arith)
  rows_more (rows.Call p) = (omega arith, omega arith)
  rows_more rows.Return = (omega arith, omega arith)
  rows_more (rows.Object o r) = (omega arith, omega arith)

  pub more-made : (o : Outcome) → (w.tables.tags ≤ (applied w f o).tables.tags) × (w.tables.principals ≤ (applied w f o).tables.principals)
  more-made o = rows_more o.rows

-- ---- the rules

module _ (w : World) (holds : WorldHolds w) (sized : SizedWorld w) (f : List ℕ) (allowed : Bool) where
  -- who asks; where a question was allowed it is not the public
  abbrev asker : Principal
  asker = (thread_at w.tables.threads (thread_of f).0).principal

  module _ (other : allowed ≡ true → asker.0 ≡ public → ⊥) where
    decided :
        (r : Request) → Spans f r → is_live (thread_at w.tables.threads (thread_of f).0).live ≡ true → named (sight_of w.tables (thread_of f) r) r ≡ true →
        WorldHolds (applied w f (decide (sight_of w.tables (thread_of f) r) w.links w.grants r allowed))
    decided (OfAuthority r) fits live there =
        authority-keeps w holds sized f (caller-made w holds sized f live) other (authority.authority-comes (sight_of w.tables (thread_of f) (OfAuthority r)) w.links w.grants allowed r there)
    decided (OfThread r) fits live there = thread-keeps w holds sized f live (thread.thread-comes (sight_of w.tables (thread_of f) (OfThread r)) w.links allowed r there)
    decided (OfObject r) fits live there = object-keeps w holds sized f fits (object.object-comes (sight_of w.tables (thread_of f) (OfObject r)) r there)
    decided (OfOutside (SendOut m)) fits live there = holds
    decided (OfOutside (BringIn m)) fits live there = holds

    pub world-kept : WorldHolds (applied w f (outcome w.tables w.links w.grants f allowed))
    world-kept =
        outcome-ind w.tables w.links w.grants f allowed (λ o. WorldHolds (applied w f o)) (λ x. holds)
        (λ formed live there flow. decided (request_of f) (spans_fit f formed) live there)

  -- ---- the walk

  module _ (x : ℕ) (made : pair_made w.tables.tags w.tables.principals x ≡ true) (before : walk_in w x ≡ true) where
    -- a link was removed, or the walk says what it said
    abbrev Grows : Outcome → Type 0
    Grows o = ((removes o.links || removes o.grants) ≡ true) ⊎ (walk_in (applied w f o) x ≡ true)

    thread-grows : {r : ThreadRequest} {o : Outcome} → thread.ThreadComes (sight_of w.tables (thread_of f) (OfThread r)) w.links allowed r o → Grows o
    thread-grows (thread.stops y) = inr before
    thread-grows (thread.into-secrecy a) = inr before
    thread-grows (thread.is-out a) = inr before
    thread-grows (thread.out-of-secrecy a b) = inr before
    thread-grows (thread.is-in a) = inr before
    thread-grows (thread.into-integrity a b c) = inr before
    thread-grows thread.out-of-integrity = inr before
    thread-grows (thread.forks n a b c d) = inr before
    thread-grows thread.ends = inr before
    thread-grows (thread.calls a b c) = inr before
    thread-grows (thread.returns a) = inr before

    object-grows : {r : ObjectRequest} {o : Outcome} → object.ObjectComes (sight_of w.tables (thread_of f) (OfObject r)) r o → Grows o
    object-grows (object.stops y) = inr before
    object-grows (object.makes n a b c d) = inr before
    object-grows (object.deletes a) = inr before
    object-grows (object.reads a) = inr before
    object-grows (object.writes a) = inr before
    object-grows (object.puts held a b) = inr before
    object-grows (object.gets held a b) = inr before
    object-grows (object.locks a) = inr before
    object-grows (object.unlocks b a) = inr before

    request-grows : (r : Request) → named (sight_of w.tables (thread_of f) r) r ≡ true → Grows (decide (sight_of w.tables (thread_of f) r) w.links w.grants r allowed)
    request-grows (OfAuthority r) there = authority-grows w holds f x made before (authority.authority-comes (sight_of w.tables (thread_of f) (OfAuthority r)) w.links w.grants allowed r there)
    request-grows (OfThread r) there = thread-grows (thread.thread-comes (sight_of w.tables (thread_of f) (OfThread r)) w.links allowed r there)
    request-grows (OfObject r) there = object-grows (object.object-comes (sight_of w.tables (thread_of f) (OfObject r)) r there)
    request-grows (OfOutside (SendOut m)) there = inr before
    request-grows (OfOutside (BringIn m)) there = inr before

    pub walk-grows : Grows (outcome w.tables w.links w.grants f allowed)
    walk-grows = outcome-ind w.tables w.links w.grants f allowed Grows (λ y. inr before) (λ formed live there flow. request-grows (request_of f) there)
