-- The user's three demands, as statements about the definitions that the contracts cite; proofs/ has a proof of each. Assumes nothing.
use Rattle.std.specs.Prelude.{◌≡◌, Bool, true, not, cond, ◌&&◌, List, [], ◌∷◌, ◌⊎◌, ◌↔◌, ℕ, zero, suc, ◌≤◌, eqb, ltb, length, get_or}
use Rattle.numbers.specs.Numbers.{most_remembered}
use Rattle.links.specs.Authority.{ActsForSome}
use Rattle.tables.specs.declared.Tables.{Tables}
use Rattle.frames.specs.Requests.{thread_of, kind_of, request_of, well_formed}
use Rattle.answers.specs.Answers.{status_of, front}
use Rattle.sight.specs.declared.Sight.{Sight}
use Rattle.sight.specs.Sight.{tag_named}
use Rattle.named.specs.Named.{named}
use Rattle.flows.specs.Flows.{flows}
use Rattle.rules.specs.Tested.{break_no_rule}
use Rattle.state.specs.declared.State.{State}
use Rattle.decide.specs.Decide.{decide}
use Rattle.act.specs.World.{world_of}
use Rattle.act.specs.Step.{After, seen, asks_one, asked}
use Rattle.monitor.specs.Monitor.{shortest_buffer, requested}
use Rattle.assurance.specs.Runs.{Call, Machine, fresh, entered, world_after, next, cleared_if, machines, seen_all}
use Rattle.assurance.specs.Leaves.{Known, runner, learnt, at_first}

-- ---- demand 1: "Each request, of any bytes and against any tables, is answered or refused by a number. The order of refusals is fixed."

-- on any state s, lists l and g, store b, frame f and answer buffer a
module _ (s : State) (l g b f a : List ℕ) where
  abbrev tables : Tables
  tables = s.tables

  abbrev sight : Sight
  sight = seen tables l g f

  -- the tests in their order; 0, or 5 to 8, is what the row of the request's kind says
  unfoldable pub number_of : ℕ
  number_of =
      cond (ltb (length a) shortest_buffer) 10
      (cond (not (break_no_rule tables s.memory l g b)) 9
      (cond (not (well_formed f)) 1
      (cond (not sight.caller.live) 2
      (cond (not (named sight (request_of f))) 3
      (cond (not (flows sight (kind_of f) (request_of f))) 4
      (status_of (decide sight l g (request_of f) (asked tables l g f s.memory).yes).answer))))))

  -- what a refusal leaves: "Besides giving its number, a refusal alters nothing but the remembered answers and their two counters, and
  -- those only as the papers say"
  pub record OnlyRefused : Type 0 where
    pub world : world_after (requested s l g b f a) ≡ world_of tables l g b
    -- "A refusal writes its one byte (10 writes none)"
    pub answer : (requested s l g b f a).answer ≡ cond (eqb number_of 10) a (front (number_of ∷ []) a)
    pub written : (requested s l g b f a).replied.written ≡ cond (eqb number_of 10) 0 1
    -- "A question counts even where the request is then refused 5 or 7"; where none was asked, nothing changes
    pub memory :
        (requested s l g b f a).replied.state.memory
        ≡ cond (ltb (length a) shortest_buffer) s.memory (cond (not (break_no_rule tables s.memory l g b)) s.memory (asked tables l g f s.memory).memory)

abbrev pub OrderIsFixed : Type 0
OrderIsFixed = (s : State) (l g b f a : List ℕ) → (requested s l g b f a).replied.status ≡ number_of s l g b f a

abbrev pub RefusalsChangeNothing : Type 0
RefusalsChangeNothing = (s : State) (l g b f a : List ℕ) → (number_of s l g b f a ≡ 0 → ⊥) → OnlyRefused s l g b f a

-- ---- demand 2: every contract is an equation with a definition, so no second answer fits it

abbrev pub NoSecondAnswer : Type 1
NoSecondAnswer = (A : Type 0) (definition one another : A) → one ≡ definition → another ≡ definition → one ≡ another

-- ---- demand 3: "For any request list from the fresh state and any two memory sizes from 0 to 64, with either memory cleared between any
-- requests and the same room for each answer, all answers agree, and so do all tables other than memory and counters."

abbrev pub MemoryNeverDecides : Type 0
MemoryNeverDecides =
    (size other : ℕ) → size ≤ most_remembered → other ≤ most_remembered → (clears others : ℕ → Bool) (calls : List Call) →
    seen_all (fresh size) clears calls ≡ seen_all (fresh other) others calls

-- ---- "Each authority answer is yes exactly when the papers' path, from the tag's maker or its supertag's maker to the asker, exists over
-- the leaves accepted so far and not since withdrawn."

-- a path from the maker of tag t over the leaves of t, and on over those between principals to p
abbrev pub PathFrom : Known → ℕ → ℕ → Type 0
PathFrom k t p = ActsForSome k.links (k.grants t) (record { 0 = (k.tags t).maker }) (record { 0 = p })

abbrev pub LeavesReach : Known → ℕ → ℕ → Type 0
LeavesReach k t p = PathFrom k t p ⊎ (((k.tags t).is_subtag ≡ true) × PathFrom k (k.tags t).above p)

-- whether a request asks for authority, and the answer
abbrev pub asks_in : Machine → Call → Bool
asks_in z c = not (ltb (length c.buffer) shortest_buffer) && asks_one z.world.tables z.world.links z.world.grants c.frame

abbrev pub answer_in : Machine → Call → Bool
answer_in z c = (asked z.world.tables z.world.links z.world.grants c.frame z.memory).yes

-- the answer is yes exactly when the leaves reach the asker
abbrev pub PathDecides : Machine → Known → Call → Type 0
PathDecides z k c =
    asks_in z c ≡ true →
    (answer_in z c ≡ true) ↔ LeavesReach k (tag_named (request_of c.frame)).0 (runner (k.runs (thread_of c.frame).0))

-- what is known after a request and its answer: the status, and the byte after it
abbrev pub learns : Known → Call → After → Known
learns k c r = learnt k c.frame r.replied.status (get_or r.answer 1 0)

-- so it is for each request of a list
unfoldable pub PathsDecide : Machine → Known → (ℕ → Bool) → List Call → Type 0
PathsDecide z k clears [] = Unit
PathsDecide z k clears (c ∷ cs) =
    PathDecides (cleared_if (clears zero) z) k c
    × PathsDecide (next (cleared_if (clears zero) z) c) (learns k c (entered (cleared_if (clears zero) z) c)) (λ n. clears (suc n)) cs

abbrev pub AuthorityIsThePath : Type 0
AuthorityIsThePath = (size : ℕ) → size ≤ most_remembered → (clears : ℕ → Bool) (calls : List Call) → PathsDecide (fresh size) at_first clears calls

-- ---- every state reached from the fresh one by requests and clears breaks no rule, so that the entry never answers 9 there

unfoldable pub NoneBroken : List Machine → Type 0
NoneBroken [] = Unit
NoneBroken (z ∷ zs) = (break_no_rule z.world.tables z.memory z.world.links z.world.grants z.world.store ≡ true) × NoneBroken zs

abbrev pub NoRuleIsBroken : Type 0
NoRuleIsBroken = (size : ℕ) → size ≤ most_remembered → (clears : ℕ → Bool) (calls : List Call) → NoneBroken (machines (fresh size) clears calls)
