-- Demand 1: the order of refusals is fixed, and a refusal changes nothing but what is remembered; demand 2: no second answer fits an
-- equation. Assumes nothing.
use mathlib.Core.Path.{◌≡◌, refl, sym, ap, ◌∙◌}
use mathlib.Core.Bool.{Bool, true, false, not, cond}
use mathlib.Core.List.{List, [], ◌∷◌}
use mathlib.Core.Logic.{◌⊎◌, inl, inr, ⊎_elim}
use Prim.Native.Nat.{ℕ}
use lib.Dec.{eqb, ltb}
use lib.ListN.{length}
use Rattle.std.specs.Prelude.{Result, Ok, Err}
use Rattle.numbers.proofs.Bools.{by-test, either}
use Rattle.numbers.proofs.Chain.{skip, hit}
use Rattle.memory.specs.declared.Memory.{Memory}
use Rattle.tables.specs.declared.Tables.{Tables}
use Rattle.frames.specs.declared.requests.AuthorityRequest.{AuthorityRequest}
use Rattle.frames.specs.declared.requests.ThreadRequest.{ThreadRequest}
use Rattle.frames.specs.declared.requests.ObjectRequest.{ObjectRequest}
use Rattle.frames.specs.declared.requests.OutsideRequest.TheVariants.{SendOut, BringIn}
use Rattle.frames.specs.declared.requests.Request.{Request}
use Rattle.frames.specs.declared.requests.Request.TheVariants.{OfAuthority, OfThread, OfObject, OfOutside}
use Rattle.frames.specs.Requests.{kind_of, request_of, well_formed}
use Rattle.answers.specs.declared.Refusal.{Refusal}
use Rattle.answers.specs.declared.Refusal.TheVariants.{Malformed, NotLive, Unnamed, Flow, Authority, Cycle, Full, Empty, BrokenRule}
use Rattle.answers.specs.Answers.{refusal_number, status_of, answer_bytes, front}
use Rattle.sight.specs.declared.Sight.{Sight}
use Rattle.named.specs.Named.{named}
use Rattle.flows.specs.Flows.{flows}
use Rattle.prelude.specs.Prelude.{prelude}
use Rattle.outcomes.specs.declared.Outcome.{Outcome}
use Rattle.outcomes.specs.Outcomes.{refused}
use Rattle.rules.specs.Tested.{break_no_rule}
use Rattle.state.specs.declared.State.{State}
use Rattle.decide.specs.Decide.{decide}
use Rattle.decide.proofs.AuthorityComes as authority
use Rattle.decide.proofs.ThreadComes as thread
use Rattle.decide.proofs.ObjectComes as object
use Rattle.act.specs.World.{world_of, applied}
use Rattle.act.specs.Step.{After, unless_stopped, seen, asked, outcome_by, outcome, remembers, stepped}
use Rattle.act.proofs.Ind.{outcome-ind}
use Rattle.monitor.specs.Monitor.{shortest_buffer, no_room, broken, requested}
use Rattle.monitor.proofs.Entering.{when-short, when-broken, when-sound}
use Rattle.assurance.specs.Runs.{world_after}
use Rattle.assurance.specs.Demands.{number_of, OnlyRefused, OrderIsFixed, RefusalsChangeNothing, NoSecondAnswer}

pub no-second-answer : NoSecondAnswer
no-second-answer A definition one another e q = e ∙ sym q

-- ---- the order

-- what is read off one of two is one of two
over-cond : {A B : Type 0} (h : A → B) (b : Bool) (x y : A) → h (cond b x y) ≡ cond b (h x) (h y)
over-cond h true x y = refl
over-cond h false x y = refl

module _ (t : Tables) (l g f : List ℕ) (allowed : Bool) where
  abbrev s : Sight
  s = seen t l g f

  abbrev row : Outcome
  row = decide s l g (request_of f) allowed

  -- the number of what a request comes to
  abbrev told : Result Unit Refusal → ℕ
  told c = status_of (unless_stopped c row).answer

  outcome-number :
      status_of (outcome t l g f allowed).answer
      ≡ cond (not (well_formed f)) 1 (cond (not s.caller.live) 2 (cond (not (named s (request_of f))) 3 (cond (not (flows s (kind_of f) (request_of f))) 4 (status_of row.answer))))
  unfolding outcome_by prelude
  outcome-number =
      over-cond (λ (o : Outcome). status_of o.answer) (not (well_formed f)) (refused Malformed) (unless_stopped (prelude s (kind_of f) (request_of f)) row)
      ∙ ap (cond (not (well_formed f)) 1)
      (over-cond told (not s.caller.live) (Err NotLive) _
      ∙ ap (cond (not s.caller.live) 2)
      (over-cond told (not (named s (request_of f))) (Err Unnamed) _
      ∙ ap (cond (not (named s (request_of f))) 3) (over-cond told (not (flows s (kind_of f) (request_of f))) (Err Flow) (Ok tt))))

pub order-is-fixed : OrderIsFixed
unfolding requested number_of
order-is-fixed s l g b f a =
    let status : After → ℕ = λ r. r.replied.status in
    over-cond status (ltb (length a) shortest_buffer) (no_room s l g b f a) _
    ∙ ap (cond (ltb (length a) shortest_buffer) 10)
    (over-cond status (not (break_no_rule s.tables s.memory l g b)) (broken s l g b f a) (stepped s l g b f a)
    ∙ ap (cond (not (break_no_rule s.tables s.memory l g b)) 9) (outcome-number s.tables l g f (asked s.tables l g f s.memory).yes))

-- ---- what a refusal leaves

-- what a request comes to is done, or it is a refusal and nothing else
abbrev Stands : Outcome → Type 0
Stands o = (status_of o.answer ≡ 0) ⊎ ((x : Refusal) × (o ≡ refused x))

module _ (s : Sight) (l g : List ℕ) (allowed : Bool) where
  authority-stands : {r : AuthorityRequest} {o : Outcome} → authority.AuthorityComes s l g allowed r o → Stands o
  authority-stands (authority.stops x) = inr (x, refl)
  authority-stands (authority.makes-principal a b c) = inl refl
  authority-stands (authority.had-link a) = inl refl
  authority-stands (authority.gives-link a b c d e h) = inl refl
  authority-stands (authority.has-no-link a) = inl refl
  authority-stands (authority.takes-link i a) = inl refl
  authority-stands (authority.tells-acts-for b) = by-test Stands b (λ e. inl refl) (λ e. inl refl)
  authority-stands (authority.makes-tag a b) = inl refl
  authority-stands (authority.makes-subtag a b c d) = inl refl
  authority-stands (authority.had-grant a) = inl refl
  authority-stands (authority.gives-grant a b c d e h i j) = inl refl
  authority-stands (authority.has-no-grant a) = inl refl
  authority-stands (authority.takes-grant i a) = inl refl
  authority-stands authority.tells = by-test Stands allowed (λ e. inl refl) (λ e. inl refl)

  thread-stands : {r : ThreadRequest} {o : Outcome} → thread.ThreadComes s l allowed r o → Stands o
  thread-stands (thread.stops x) = inr (x, refl)
  thread-stands (thread.into-secrecy a) = inl refl
  thread-stands (thread.is-out a) = inl refl
  thread-stands (thread.out-of-secrecy a b) = inl refl
  thread-stands (thread.is-in a) = inl refl
  thread-stands (thread.into-integrity a b c) = inl refl
  thread-stands thread.out-of-integrity = inl refl
  thread-stands (thread.forks n a b c d) = inl refl
  thread-stands thread.ends = inl refl
  thread-stands (thread.calls a b c) = inl refl
  thread-stands (thread.returns a) = inl refl

  object-stands : {r : ObjectRequest} {o : Outcome} → object.ObjectComes s r o → Stands o
  object-stands (object.stops x) = inr (x, refl)
  object-stands (object.makes n a b c d) = inl refl
  object-stands (object.deletes a) = inl refl
  object-stands (object.reads a) = inl refl
  object-stands (object.writes a) = inl refl
  object-stands (object.puts held a b) = inl refl
  object-stands (object.gets held a b) = inl refl
  object-stands (object.locks a) = inl refl
  object-stands (object.unlocks b a) = inl refl

  request-stands : (r : Request) → named s r ≡ true → Stands (decide s l g r allowed)
  request-stands (OfAuthority r) there = authority-stands (authority.authority-comes s l g allowed r there)
  request-stands (OfThread r) there = thread-stands (thread.thread-comes s l allowed r there)
  request-stands (OfObject r) there = object-stands (object.object-comes s r there)
  request-stands (OfOutside (SendOut m)) there = inl refl
  request-stands (OfOutside (BringIn m)) there = inl refl

outcome-stands : (t : Tables) (l g f : List ℕ) (allowed : Bool) → Stands (outcome t l g f allowed)
outcome-stands t l g f allowed =
    outcome-ind t l g f allowed Stands (λ x. inr (x, refl)) (λ formed live there flow. request-stands (seen t l g f) l g allowed (request_of f) there)

-- no refusal of the step has the number 10
not-ten : (x : Refusal) → eqb (refusal_number x) 10 ≡ false
not-ten Malformed = refl
not-ten NotLive = refl
not-ten Unnamed = refl
not-ten Flow = refl
not-ten Authority = refl
not-ten Cycle = refl
not-ten Full = refl
not-ten Empty = refl
not-ten BrokenRule = refl

module _ (s : State) (l g b f a : List ℕ) where
  abbrev short : Bool
  short = ltb (length a) shortest_buffer

  abbrev wrong : Bool
  wrong = not (break_no_rule s.tables s.memory l g b)

  -- the number, where the entry leaves r
  number-of : {r : After} → r ≡ requested s l g b f a → number_of s l g b f a ≡ r.replied.status
  number-of e = sym (order-is-fixed s l g b f a) ∙ sym (ap (λ (x : After). x.replied.status) e)

  refused-short : short ≡ true → OnlyRefused s l g b f a
  refused-short e =
      let q = when-short s l g b f a e in
      record {
        world = sym (ap world_after q);
        answer = sym (ap (λ (x : After). x.answer) q) ∙ hit _ (ap (λ (n : ℕ). eqb n 10) (number-of q)) refl;
        written = sym (ap (λ (x : After). x.replied.written) q) ∙ hit _ (ap (λ (n : ℕ). eqb n 10) (number-of q)) refl;
        memory = sym (ap (λ (x : After). x.replied.state.memory) q) ∙ hit _ e refl;
      }

  refused-wrong : short ≡ false → wrong ≡ true → OnlyRefused s l g b f a
  refused-wrong e h =
      let q = when-broken s l g b f a e h in
      let n = number-of q in
      record {
        world = sym (ap world_after q);
        answer = sym (ap (λ (x : After). x.answer) q) ∙ skip _ (ap (λ (k : ℕ). eqb k 10) n) (ap (λ (k : ℕ). front (k ∷ []) a) (sym n));
        written = sym (ap (λ (x : After). x.replied.written) q) ∙ skip _ (ap (λ (k : ℕ). eqb k 10) n) refl;
        memory = sym (ap (λ (x : After). x.replied.state.memory) q) ∙ skip _ e (hit _ h refl);
      }

  -- the step came to a refusal
  refused-step : short ≡ false → wrong ≡ false → (x : Refusal) → outcome s.tables l g f (asked s.tables l g f s.memory).yes ≡ refused x → OnlyRefused s l g b f a
  refused-step e h x came =
      let q = when-sound s l g b f a e h in
      let m : Memory = (asked s.tables l g f s.memory).memory in
      let n = number-of q ∙ ap (λ (o : Outcome). status_of o.answer) came in
      record {
        world = sym (ap world_after q) ∙ ap (λ (o : Outcome). applied (world_of s.tables l g b) f o) came;
        answer =
            sym (ap (λ (y : After). y.answer) q) ∙ ap (λ (o : Outcome). front (answer_bytes f b o.answer) a) came
            ∙ skip _ (ap (λ (k : ℕ). eqb k 10) n ∙ not-ten x) (ap (λ (k : ℕ). front (k ∷ []) a) (sym n));
        written =
            sym (ap (λ (y : After). y.replied.written) q) ∙ ap (λ (o : Outcome). length (answer_bytes f b o.answer)) came
            ∙ skip _ (ap (λ (k : ℕ). eqb k 10) n ∙ not-ten x) refl;
        memory = sym (ap (λ (y : After). y.replied.state.memory) q) ∙ ap (λ (o : Outcome). remembers o m) came ∙ skip _ e (skip _ h refl);
      }

pub refusals-change-nothing : RefusalsChangeNothing
refusals-change-nothing s l g b f a refusal =
    ⊎_elim (refused-short s l g b f a)
    (λ e. ⊎_elim (refused-wrong s l g b f a e)
    (λ h. ⊎_elim
    (λ done. absurd (refusal (number-of s l g b f a (when-sound s l g b f a e h) ∙ done)))
    (λ r. refused-step s l g b f a e h r.0 r.1)
    (outcome-stands s.tables l g f (asked s.tables l g f s.memory).yes))
    (either (wrong s l g b f a)))
    (either (short s l g b f a))
