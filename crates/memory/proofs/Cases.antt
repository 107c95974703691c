-- A case near the edges (01), computed from the definitions: 12, and what a memory of one pair does in its place. Assumes nothing.
use mathlib.Core.Path.{◌≡◌, refl}
use mathlib.Core.Bool.{true}
use Prim.Native.Nat.{ℕ}
use lib.ListN.{replicate}
use Rattle.links.specs.Links.{find_from}
use Rattle.memory.specs.declared.Memory.{Memory}
use Rattle.memory.specs.Remembered.{pair_of, without, remembered, answered}

-- a memory of this size that nothing was asked of
fresh : ℕ → Memory
fresh size = record { size = size; held = 0; pairs = replicate 64 0; questions = 0; hits = 0 }

-- the same question asked twice, where the walk says yes
twice : ℕ → Memory
twice size = let x = pair_of (record { 0 = 1 }) (record { 0 = 0 }) in (answered (answered (fresh size) x true).memory x true).memory

-- 12: "M = 0: nothing is held, no hits."
case-12 : twice 0 ≡ record { size = 0; held = 0; pairs = replicate 64 0; questions = 2; hits = 0 }
unfolding twice fresh remembered without find_from
case-12 = refl

one-held : ((twice 1).held ≡ 1) × ((twice 1).hits ≡ 1)
unfolding twice fresh remembered without find_from
one-held = (refl, refl)
