-- What a request comes to, by cases of refusals 1 to 4: one of them, or what its kind's row says once they are passed. Assumes nothing.
use mathlib.Core.Path.{◌≡◌}
use mathlib.Core.Bool.{Bool, true, not}
use mathlib.Core.List.{List}
use Prim.Native.Nat.{ℕ}
use borrow.Author.Tests.{not-false}
use Rattle.std.specs.Prelude.{Result}
use Rattle.numbers.proofs.Bools.{by-test}
use Rattle.tables.specs.declared.Tables.{Tables}
use Rattle.frames.specs.Requests.{kind_of, request_of, well_formed}
use Rattle.answers.specs.declared.Refusal.{Refusal}
use Rattle.answers.specs.declared.Refusal.TheVariants.{Malformed, NotLive, Unnamed, Flow}
use Rattle.named.specs.Named.{named}
use Rattle.flows.specs.Flows.{flows}
use Rattle.prelude.specs.Prelude.{prelude}
use Rattle.outcomes.specs.declared.Outcome.{Outcome}
use Rattle.outcomes.specs.Outcomes.{refused}
use Rattle.decide.specs.Decide.{decide}
use Rattle.act.specs.Step.{unless_stopped, seen, outcome_by, outcome}

module _ (t : Tables) (l g f : List ℕ) (allowed : Bool) where
  -- what holds of every refusal, and of what is decided once 1 to 4 are passed, holds of what the request comes to
  pub outcome-ind :
      (P : Outcome → Type 0) →
      ((x : Refusal) → P (refused x)) →
      (well_formed f ≡ true →
      (seen t l g f).caller.live ≡ true →
      named (seen t l g f) (request_of f) ≡ true →
      flows (seen t l g f) (kind_of f) (request_of f) ≡ true →
      P (decide (seen t l g f) l g (request_of f) allowed)) →
      P (outcome t l g f allowed)
  unfolding outcome_by prelude
  outcome-ind P stop go =
      let s = seen t l g f in
      let Q : Result Unit Refusal → Type 0 = λ c. P (unless_stopped c (decide s l g (request_of f) allowed)) in
      by-test P (not (well_formed f)) (λ e. stop Malformed) (λ formed.
      by-test Q (not s.caller.live) (λ e. stop NotLive) (λ live.
      by-test Q (not (named s (request_of f))) (λ e. stop Unnamed) (λ there.
      by-test Q (not (flows s (kind_of f) (request_of f))) (λ e. stop Flow) (λ flow.
      go (not-false _ formed) (not-false _ live) (not-false _ there) (not-false _ flow)))))
