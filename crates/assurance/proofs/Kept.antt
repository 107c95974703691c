-- Every request, and every clearing of the memory, leaves a sound machine sound; and the fresh one is. Assumes nothing.
use mathlib.Core.Path.{◌≡◌, refl, sym, subst, ◌∙◌}
use mathlib.Core.Bool.{Bool, true, false, cond, ◌||◌}
use mathlib.Core.List.{List}
use mathlib.Core.Logic.{⊎_elim}
use Prim.Native.Nat.{ℕ, ◌*◌, ◌+◌, ◌/◌, ◌%◌, ◌≤◌}
use native.Mathlib.Omega.{arith}
use borrow.Author.Tests.{lt-ltb}
use lib.Dec.{ltb}
use lib.ListN.{length}
use Rattle.numbers.specs.Numbers.{public, most_remembered, count_top}
use Rattle.numbers.proofs.Bools.{and_both, by-test, either, never}
use Rattle.memory.specs.declared.Memory.{Memory}
use Rattle.memory.specs.Remembered.{Asked, answered, emptied}
use Rattle.memory.specs.Truth.{Truthful}
use Rattle.memory.proofs.MemoryLaws.{answers-truly, emptied-truthful}
use Rattle.memory_rules.specs.MemoryRules.{pair_made}
use Rattle.memory_rules.proofs.RuleLaws.{MemoryHolds}
use Rattle.tables.specs.Things.{thread_at}
use Rattle.frames.specs.Requests.{thread_of, request_of}
use Rattle.sight.specs.Sight.{tag_named}
use Rattle.outcomes.specs.declared.Outcome.{Outcome}
use Rattle.act.specs.World.{World, applied}
use Rattle.act.specs.Step.{After, asks_one, pair_asked, walked, seen, asked, outcome, removes, remembers}
use Rattle.monitor.specs.Monitor.{shortest_buffer}
use Rattle.monitor.proofs.Entering.{when-short}
use Rattle.kept.proofs.MemoryKept.{memory-more, memory-emptied, memory-answered, pairs-answered, pairs-emptied, hits-answered, truthful-is}
use Rattle.assurance.specs.Runs.{Call, Machine, world_after, next, cleared_if}
use Rattle.assurance.proofs.Sound.{Sound, walk_in}
use Rattle.assurance.proofs.Questions.{asker-made, tag-made, walked-is}
use Rattle.assurance.proofs.Reference.{answers-as-walk, enters-step}
use Rattle.assurance.proofs.Worlds.{WorldHolds, SizedWorld, world-rules, memory-rules, all-rules}
use Rattle.assurance.proofs.NotPublic.{allowed-not-public}
use Rattle.assurance.proofs.WorldKept.{sized-applied, more-made, world-kept, walk-grows}

-- a memory that obeys its rules and is true of the world w, within the sizes that its types give it
record MemorySound (w : World) (m : Memory) : Type 0 where
  holds : MemoryHolds m w.tables.tags w.tables.principals
  truth : Truthful m (walk_in w)
  pairs : length m.pairs ≡ most_remembered
  hits : m.hits ≤ count_top

-- both halves of a conjunction that is a test
both_true : (a b : Bool) → cond a b false ≡ true → (a ≡ true) × (b ≡ true)
both_true true b e = (refl, e)
both_true false b e = absurd (never e refl)

module _ (z : Machine) (sound : Sound z) where
  abbrev w : World
  w = z.world

  abbrev m : Memory
  m = z.memory

  now : MemorySound w m
  now = record { holds = memory-rules w m sound.rules; truth = sound.truth; pairs = sound.sized.pairs; hits = sound.sized.hits }

  worldly : WorldHolds w
  worldly = world-rules w m sound.rules

  sized : SizedWorld w
  sized = record { threads = sound.sized.threads; kinds = sound.sized.kinds; objects = sound.sized.objects }

  -- ---- clearing

  pub cleared-sound : (clear : Bool) → Sound (cleared_if clear z)
  cleared-sound true =
      record {
        sized = record { threads = sized.threads; kinds = sized.kinds; objects = sized.objects; pairs = pairs-emptied m; hits = sound.sized.hits };
        rules = all-rules w (emptied m) worldly (memory-emptied now.holds);
        truth = emptied-truthful m (walk_in w);
      }
  cleared-sound false = sound

  -- ---- a request

  module _ (f : List ℕ) where
    abbrev x : ℕ
    x = pair_asked (seen w.tables w.links w.grants f) w.links w.grants (request_of f)

    -- the pair that is asked about is one of made numbers
    made_of_asked : asks_one w.tables w.links w.grants f ≡ true → pair_made w.tables.tags w.tables.principals x ≡ true
    made_of_asked reached =
        let s = seen w.tables w.links w.grants f in
        let p = s.caller.principal.0 in
        let u = (tag_named (request_of f)).0 in
        let a = asker-made z sound f reached in
        let b = tag-made z sound f reached in
        let near : (p * 256 + u) / 256 ≡ p = omega (arith, b, sound.rules.limits.tags) in
        let far : (p * 256 + u) % 256 ≡ u = omega (arith, b, sound.rules.limits.tags) in
        and_both (ltb (x / 256) w.tables.principals) (ltb (x % 256) w.tables.tags)
        (lt-ltb (x / 256) w.tables.principals (rw near a)) (lt-ltb (x % 256) w.tables.tags (rw far b))

    -- the memory after the question
    asked-sound : MemorySound w (asked w.tables w.links w.grants f m).memory
    asked-sound =
        let s = seen w.tables w.links w.grants f in
        let k = walked s w.links w.grants (request_of f) in
        let P : Asked → Type 0 = λ a. MemorySound w a.memory in
        by-test P (asks_one w.tables w.links w.grants f)
        (λ reached. record {
          holds = memory-answered now.holds now.pairs now.hits x (made_of_asked reached) k;
          truth = subst (λ (b : Bool). Truthful (answered m x b).memory (walk_in w)) (sym (walked-is z sound f reached)) (answers-truly m (walk_in w) x now.truth).1;
          pairs = pairs-answered now.pairs now.holds.fits x k;
          hits = hits-answered m now.hits x k;
        })
        (λ e. now)

    abbrev o : Outcome
    o = outcome w.tables w.links w.grants f (asked w.tables w.links w.grants f m).yes

    -- who is allowed is not the public
    other : (asked w.tables w.links w.grants f m).yes ≡ true → (thread_at w.tables.threads (thread_of f).0).principal.0 ≡ public → ⊥
    other e =
        let q = both_true (asks_one w.tables w.links w.grants f) _ (sym (answers-as-walk z sound f) ∙ e) in
        allowed-not-public w worldly (tag_named (request_of f)) (tag-made z sound f q.0) _ q.1

    world-after : WorldHolds (applied w f o)
    world-after = world-kept w worldly sized f _ other

    -- the memory after the request, of the world after it: emptied, or as the question left it, since nothing was taken away
    memory-after : MemorySound (applied w f o) (remembers o (asked w.tables w.links w.grants f m).memory)
    memory-after =
        let k = (asked w.tables w.links w.grants f m).memory in
        let after = asked-sound in
        let more = more-made w f o in
        let held = truthful-is {m = k} after.holds.fits after.pairs in
        by-test (MemorySound (applied w f o)) (removes o.links || removes o.grants)
        (λ e. record { holds = memory-more (memory-emptied after.holds) more.0 more.1; truth = emptied-truthful k _; pairs = pairs-emptied k; hits = after.hits })
        (λ e. record {
          holds = memory-more after.holds more.0 more.1;
          truth = λ y h. ⊎_elim (λ r. absurd (never r e)) (λ r. r) (walk-grows w worldly sized f _ y ((held (pair_made w.tables.tags w.tables.principals)).1 after.holds.made y h) (after.truth y h));
          pairs = after.pairs;
          hits = after.hits;
        })

    step-sound : Sound (record { world = applied w f o; memory = remembers o (asked w.tables w.links w.grants f m).memory })
    step-sound =
        let h = sized-applied w sized f o in
        let k = memory-after in
        record {
          sized = record { threads = h.threads; kinds = h.kinds; objects = h.objects; pairs = k.pairs; hits = k.hits };
          rules = all-rules (applied w f o) _ world-after k.holds;
          truth = k.truth;
        }

  -- the machine after a request
  abbrev machine_of : After → Machine
  machine_of r = record { world = world_after r; memory = r.replied.state.memory }

  pub next-sound : (c : Call) → Sound (next z c)
  next-sound c =
      ⊎_elim
      (λ e. subst (λ (r : After). Sound (machine_of r)) (when-short (record { tables = w.tables; memory = m }) w.links w.grants w.store c.frame c.buffer e) sound)
      (λ e. subst (λ (r : After). Sound (machine_of r)) (sym (enters-step z sound c e)) (step-sound c.frame))
      (either (ltb (length c.buffer) shortest_buffer))
