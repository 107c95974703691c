-- The reference run, which has no memory: every question is answered by the walk. A sound machine is seen to do the same, whatever it
-- remembers. Assumes nothing.
use mathlib.Core.Path.{◌≡◌, refl, sym, ap, ◌∙◌}
use mathlib.Core.Bool.{Bool, true, false, not, cond}
use mathlib.Core.List.{List}
use mathlib.Core.Logic.{⊎_elim}
use Prim.Native.Nat.{ℕ}
use lib.Dec.{ltb}
use lib.ListN.{length}
use Rattle.numbers.proofs.Bools.{either}
use Rattle.numbers.proofs.Chain.{skip, hit}
use Rattle.memory.specs.Remembered.{Asked, answered}
use Rattle.memory.proofs.MemoryLaws.{answers-truly}
use Rattle.answers.specs.Answers.{status_of, answer_bytes, front}
use Rattle.rules.specs.Tested.{break_no_rule}
use Rattle.rules.proofs.RuleLaws.{rules-are}
use Rattle.kept.proofs.MemoryKept.{truthful-is}
use Rattle.outcomes.specs.declared.Outcome.{Outcome}
use Rattle.act.specs.World.{World, applied}
use Rattle.act.specs.Step.{asks_one, walked, pair_asked, seen, asked, outcome, stepped}
use Rattle.frames.specs.Requests.{request_of}
use Rattle.monitor.specs.Monitor.{shortest_buffer}
use Rattle.monitor.proofs.Entering.{when-short, when-sound}
use Rattle.assurance.specs.Runs.{Call, Machine, Seen, entered, seen_of}
use Rattle.assurance.proofs.Sound.{Sound, walk_in}
use Rattle.assurance.proofs.Questions.{walked-is}

-- the answer that the walk gives, where the request of frame f asks
abbrev pub walked_if : World → List ℕ → Bool
walked_if w f =
    cond (asks_one w.tables w.links w.grants f)
    (walked (seen w.tables w.links w.grants f) w.links w.grants (request_of f))
    false

abbrev pub plain_outcome : World → List ℕ → Outcome
plain_outcome w f = outcome w.tables w.links w.grants f (walked_if w f)

-- what is seen of a request that came to o
abbrev seen_by : World → Call → Outcome → Seen
seen_by w c o =
    record {
      status = status_of o.answer;
      written = length (answer_bytes c.frame w.store o.answer);
      buffer = front (answer_bytes c.frame w.store o.answer) c.buffer;
      world = applied w c.frame o;
    }

-- what is seen of a request without memory
abbrev pub plain_seen : World → Call → Seen
plain_seen w c =
    cond (ltb (length c.buffer) shortest_buffer) (record { status = 10; written = 0; buffer = c.buffer; world = w })
    (seen_by w c (plain_outcome w c.frame))

-- a question answered so, or none
said : (b : Bool) (x y : Asked) (w : Bool) → (b ≡ true → x.yes ≡ w) → y.yes ≡ false → (cond b x y).yes ≡ cond b w false
said true x y w f e = f refl
said false x y w f e = e

module _ (z : Machine) (sound : Sound z) where
  -- a truthful memory answers as the walk does
  pub answers-as-walk : (f : List ℕ) → (asked z.world.tables z.world.links z.world.grants f z.memory).yes ≡ walked_if z.world f
  answers-as-walk f =
      let s = seen z.world.tables z.world.links z.world.grants f in
      let x = pair_asked s z.world.links z.world.grants (request_of f) in
      let w = walked s z.world.links z.world.grants (request_of f) in
      said (asks_one z.world.tables z.world.links z.world.grants f) (answered z.memory x w) (record { yes = false; memory = z.memory }) w
      (λ reached. let q = walked-is z sound f reached in ap (λ (b : Bool). (answered z.memory x b).yes) q ∙ (answers-truly z.memory (walk_in z.world) x sound.truth).0 ∙ sym q)
      refl

  -- the entry does not answer 9
  pub no-rule-broken : break_no_rule z.world.tables z.memory z.world.links z.world.grants z.world.store ≡ true
  no-rule-broken =
      (rules-are z.world.tables z.memory z.world.links z.world.grants z.world.store).1
      (sound.rules, (truthful-is {m = z.memory} (record { within = sound.rules.memory.held; small = sound.rules.memory.size }) sound.sized.pairs (walk_in z.world)).0 sound.truth)

  -- it is the step, where the buffer has room
  pub enters-step :
      (c : Call) → ltb (length c.buffer) shortest_buffer ≡ false →
      entered z c ≡ stepped (record { tables = z.world.tables; memory = z.memory }) z.world.links z.world.grants z.world.store c.frame c.buffer
  enters-step c e =
      sym (when-sound (record { tables = z.world.tables; memory = z.memory }) z.world.links z.world.grants z.world.store c.frame c.buffer e (ap not no-rule-broken))

  -- what is seen does not depend on the memory
  pub seen_plain : (c : Call) → seen_of (entered z c) ≡ plain_seen z.world c
  seen_plain c =
      let a = ltb (length c.buffer) shortest_buffer in
      let w = z.world in
      ⊎_elim
      (λ e. sym (ap seen_of (when-short (record { tables = w.tables; memory = z.memory }) w.links w.grants w.store c.frame c.buffer e)) ∙ hit (seen_by w c (plain_outcome w c.frame)) e refl)
      (λ e. ap seen_of (enters-step c e) ∙ skip (record { status = 10; written = 0; buffer = c.buffer; world = w }) e (ap (λ (b : Bool). seen_by w c (outcome w.tables w.links w.grants c.frame b)) (answers-as-walk c.frame)))
      (either a)
