-- What the entry leaves, by the tests it makes: 10, 9, or the step's own. Assumes nothing.
use mathlib.Core.Path.{◌≡◌, refl}
use mathlib.Core.Bool.{Bool, true, false, not, cond}
use mathlib.Core.List.{List}
use Prim.Native.Nat.{ℕ}
use lib.Dec.{ltb}
use lib.ListN.{length}
use Rattle.numbers.proofs.Chain.{skip, hit}
use Rattle.rules.specs.Tested.{break_no_rule}
use Rattle.apply.specs.Apply.{apply_list}
use Rattle.state.specs.declared.State.{State}
use Rattle.step.specs.declared.Stepped.{Stepped}
use Rattle.act.specs.Step.{After, stepped}
use Rattle.step.specs.Look.{step_of}
use Rattle.monitor.specs.declared.Stop.TheVariants.{NoRoom, BrokenRule}
use Rattle.monitor.specs.Monitor.{shortest_buffer, quiet, no_room, broken, requested, reply_of}

module _ (s : State) (l g b f a : List ℕ) where
  pub when-short : ltb (length a) shortest_buffer ≡ true → no_room s l g b f a ≡ requested s l g b f a
  unfolding requested
  when-short e = hit _ e refl

  pub when-broken : ltb (length a) shortest_buffer ≡ false → not (break_no_rule s.tables s.memory l g b) ≡ true → broken s l g b f a ≡ requested s l g b f a
  unfolding requested
  when-broken e q = skip _ e (hit _ q refl)

  pub when-sound : ltb (length a) shortest_buffer ≡ false → not (break_no_rule s.tables s.memory l g b) ≡ false → stepped s l g b f a ≡ requested s l g b f a
  unfolding requested
  when-sound e q = skip _ e (skip _ q refl)

  -- ---- what is told is what happens: in all three cases, and so in the one there is

  told-as : {A : Type 0} (of-told : Stepped → A) (of-after : After → A) → of-told (quiet NoRoom) ≡ of-after (no_room s l g b f a) → of-told (quiet BrokenRule) ≡ of-after (broken s l g b f a)
      → of-told (step_of s l g b f a) ≡ of-after (stepped s l g b f a) → of-told (reply_of s l g b f a) ≡ of-after (requested s l g b f a)
  unfolding requested reply_of
  told-as of-told of-after short broke sound = all (ltb (length a) shortest_buffer) (not (break_no_rule s.tables s.memory l g b))
    where
      all : (x y : Bool) → of-told (cond x (quiet NoRoom) (cond y (quiet BrokenRule) (step_of s l g b f a))) ≡ of-after (cond x (no_room s l g b f a) (cond y (broken s l g b f a) (stepped s l g b f a)))
      all true y = short
      all false true = broke
      all false false = sound

  pub told-status : (reply_of s l g b f a).status ≡ (requested s l g b f a).replied.status
  told-status = told-as (λ x. x.status) (λ x. x.replied.status) refl refl refl

  pub told-written : (reply_of s l g b f a).written ≡ (requested s l g b f a).replied.written
  told-written = told-as (λ x. x.written) (λ x. x.replied.written) refl refl refl

  pub told-links : apply_list (reply_of s l g b f a).links s.tables.links l ≡ (requested s l g b f a).links
  told-links = told-as (λ x. apply_list x.links s.tables.links l) (λ x. x.links) refl refl refl

  pub told-grants : apply_list (reply_of s l g b f a).grants s.tables.grants g ≡ (requested s l g b f a).grants
  told-grants = told-as (λ x. apply_list x.grants s.tables.grants g) (λ x. x.grants) refl refl refl
