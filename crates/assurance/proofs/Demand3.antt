-- Demand 3: whatever is remembered and whenever it is cleared, what is seen is what the run without memory shows. Assumes nothing.
use mathlib.Core.Path.{◌≡◌, refl, sym, ap, ap₂, ◌∙◌}
use mathlib.Core.Bool.{Bool, true, false}
use mathlib.Core.List.{List, [], ◌∷◌}
use Prim.Native.Nat.{ℕ, zero, suc}
use Rattle.act.specs.World.{World}
use Rattle.assurance.specs.Runs.{Call, Machine, Seen, fresh, seen_all, cleared_if, next, entered, seen_of}
use Rattle.assurance.specs.Demands.{MemoryNeverDecides}
use Rattle.assurance.proofs.Sound.{Sound}
use Rattle.assurance.proofs.Reference.{plain_seen, seen_plain}
use Rattle.assurance.proofs.Kept.{cleared-sound, next-sound}
use Rattle.assurance.proofs.Fresh.{fresh-sound}

-- the run without memory
unfoldable plain_all : World → List Call → List Seen
plain_all w [] = []
plain_all w (c ∷ cs) = plain_seen w c ∷ plain_all (plain_seen w c).world cs

-- clearing leaves the world
cleared-world : (b : Bool) (z : Machine) → (cleared_if b z).world ≡ z.world
cleared-world true z = refl
cleared-world false z = refl

follows : (z : Machine) → Sound z → (clears : ℕ → Bool) (cs : List Call) → seen_all z clears cs ≡ plain_all z.world cs
unfolding seen_all plain_all
follows z sound clears [] = refl
follows z sound clears (c ∷ cs) =
    let y = cleared_if (clears zero) z in
    let s = cleared-sound z sound (clears zero) in
    let e : seen_of (entered y c) ≡ plain_seen z.world c = seen_plain y s c ∙ ap (λ (w : World). plain_seen w c) (cleared-world (clears zero) z) in
    ap₂ ◌∷◌ e (follows (next y c) (next-sound y s c) (λ n. clears (suc n)) cs ∙ ap (λ (r : Seen). plain_all r.world cs) e)

pub memory-never-decides : MemoryNeverDecides
memory-never-decides size other a b clears others calls =
    follows (fresh size) (fresh-sound size a) clears calls ∙ sym (follows (fresh other) (fresh-sound other b) others calls)
