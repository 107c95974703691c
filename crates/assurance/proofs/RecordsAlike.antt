-- A list of requests is seen alike where records are carried from request to request and where their numbers are: in lists that break no
-- rule a number is that of its record. Assumes nothing.
use mathlib.Core.Path.{◌≡◌, refl, sym, subst, ap, ap₂, ◌∙◌}
use mathlib.Core.Bool.{Bool, true, false}
use mathlib.Core.List.{List, [], ◌∷◌, map}
use mathlib.Core.Logic.{⊎_elim}
use Prim.Native.Nat.{ℕ, zero, suc, ◌*◌, ◌≤◌, ◌<◌}
use native.Mathlib.Omega.{arith}
use borrow.Author.Tests.{ltb-true, leb-true, leb-false}
use lib.Dec.{ltb, leb}
use lib.ListN.{length, get_or}
use Rattle.numbers.proofs.Bools.{either, and_left}
use Rattle.numbers.specs.Numbers.{link_places}
use Rattle.link_rules.specs.LinkRules.{made, tag_in}
use Rattle.memory.specs.declared.Memory.{Memory}
use Rattle.tables.specs.declared.Tables.{Tables}
use Rattle.records.specs.Records.{principal_number, principal_link, tag_number, tag_link}
use Rattle.records.proofs.Readings.{same-principal-numbers, same-tag-numbers}
use Rattle.rules.specs.Rules.{OnlyTruthBroken}
use Rattle.act.specs.World.{world_of}
use Rattle.assurance.specs.Runs.{Call, Machine, Seen, fresh, entered, next, cleared_if, seen_of, seen_all}
use Rattle.assurance.specs.RecordRuns.{Holder, fresh_holder, entered_over, next_over, cleared_over, seen_over, RecordsAgree}
use Rattle.assurance.proofs.Sound.{Sound}
use Rattle.assurance.proofs.Kept.{cleared-sound, next-sound}
use Rattle.assurance.proofs.Fresh.{fresh-sound}

-- ---- in lists that break no rule a number is that of its record

-- a list of n links in use, each of one of k tags, and zero past them: no number reaches the tag b
low : (l : List ℕ) (n k principals b : ℕ) → length l ≡ link_places → ((i : ℕ) → n ≤ i → i < link_places → get_or l i 0 ≡ 0) → ((i : ℕ) → i < n → made l k principals i ≡ true)
    → k ≤ b → 1 ≤ b → (i : ℕ) → i < length l → get_or l i 0 < b * 65536
low l n k principals b whole unused each few some i h =
    ⊎_elim (λ e. let z = unused i (leb-true n i e) (omega (arith, h, whole)) in omega (arith, z, some))
    (λ e.
    let tag : tag_in (get_or l i 0) < k = ltb-true (tag_in (get_or l i 0)) k (and_left (ltb (tag_in (get_or l i 0)) k) _ (each i (leb-false n i e))) in
    omega (arith, tag, few))
    (either (leb n i))

module _ (t : Tables) (m : Memory) (l g b : List ℕ) (rules : OnlyTruthBroken t m l g b) where
  numbers-back : map principal_number (map principal_link l) ≡ l
  numbers-back = same-principal-numbers l (low l t.links 1 t.principals 1 rules.whole.links rules.unused.links rules.made.links (omega arith) (omega arith))

  tag-numbers-back : map tag_number (map tag_link g) ≡ g
  tag-numbers-back =
      same-tag-numbers g (low g t.grants t.tags t.principals 256 rules.whole.grants rules.unused.grants rules.made.grants (omega (arith, rules.limits.tags)) (omega arith))

-- ---- the machine whose numbers the records have

abbrev numbered : Holder → Machine
numbered z =
    record {
      world = world_of z.state.tables (map principal_number z.lists.links) (map tag_number z.lists.grants) z.store;
      memory = z.state.memory;
    }

cleared-alike : (clear : Bool) (z : Holder) → numbered (cleared_over clear z) ≡ cleared_if clear (numbered z)
cleared-alike true z = refl
cleared-alike false z = refl

next-alike : (z : Holder) → Sound (numbered z) → (c : Call) → numbered (next_over z c) ≡ next (numbered z) c
next-alike z sound c =
    let r = entered_over z c in
    let rules = (next-sound (numbered z) sound c).rules in
    let t = r.replied.state.tables in
    let m = r.replied.state.memory in
    ap₂ (λ (l g : List ℕ). record { world = world_of t l g r.store; memory = m })
    (numbers-back t m r.links r.grants r.store rules) (tag-numbers-back t m r.links r.grants r.store rules)

-- ---- many requests

seen_alike : (z : Holder) → Sound (numbered z) → (clears : ℕ → Bool) (cs : List Call) → seen_over z clears cs ≡ seen_all (numbered z) clears cs
unfolding seen_over seen_all
seen_alike z sound clears [] = refl
seen_alike z sound clears (c ∷ cs) =
    let y = cleared_over (clears zero) z in
    let e = cleared-alike (clears zero) z in
    let s = subst Sound (sym e) (cleared-sound (numbered z) sound (clears zero)) in
    let n = next-alike y s c in
    ap (λ (ss : List Seen). seen_of (entered_over y c) ∷ ss)
    (seen_alike (next_over y c) (subst Sound (sym n) (next-sound (numbered y) s c)) (λ k. clears (suc k)) cs ∙ ap (λ (v : Machine). seen_all v (λ k. clears (suc k)) cs) n)
    ∙ ap (λ (v : Machine). seen_of (entered v c) ∷ seen_all (next v c) (λ k. clears (suc k)) cs) e

fresh-alike : (size : ℕ) → numbered (fresh_holder size) ≡ fresh size
fresh-alike size = refl

pub records-agree : RecordsAgree
records-agree size few clears calls =
    seen_alike (fresh_holder size) (subst Sound (sym (fresh-alike size)) (fresh-sound size few)) clears calls
    ∙ ap (λ (z : Machine). seen_all z clears calls) (fresh-alike size)
