-- How many bytes an answer has. Assumes nothing.
use mathlib.Core.Path.{◌≡◌, refl}
use mathlib.Core.List.{List}
use Prim.Native.Nat.{ℕ, ◌+◌}
use native.Mathlib.Omega.{arith}
use lib.ListN.{length}
use Rattle.store.specs.Store.{byte_at}
use Rattle.store.proofs.Over.{part_length}
use Rattle.answers.specs.declared.Answer.{Answer}
use Rattle.answers.specs.declared.Answer.TheVariants.{Refused, Done, Value, Kept, Given}
use Rattle.answers.specs.Answers.{answer_bytes, length_of, Ready}

pub answer-length : (f s : List ℕ) (a : Answer) → Ready f s a → length (answer_bytes f s a) ≡ length_of s a
answer-length f s (Refused r) ready = refl
answer-length f s Done ready = refl
answer-length f s (Value v) ready = refl
answer-length f s (Kept at) ready = omega (arith, part_length s (at + 1) (byte_at s at) (omega (arith, ready.0, ready.1)))
answer-length f s (Given m) ready = omega (arith, part_length f m.at m.len ready.0)
