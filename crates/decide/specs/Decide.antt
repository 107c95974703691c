-- What a request comes to that passed 2, 3 and 4 (01, "Requests"), a group of kinds a clause. Assumes nothing.
use Rattle.std.specs.Prelude.{Bool, List, ℕ}
use Rattle.frames.specs.declared.requests.Request.{Request}
use Rattle.frames.specs.declared.requests.Request.TheVariants.{OfAuthority, OfThread, OfObject, OfOutside}
use Rattle.sight.specs.declared.Sight.{Sight}
use Rattle.outcomes.specs.declared.Outcome.{Outcome}
use Rattle.decide_authority.specs.Authority.{decide_authority}
use Rattle.decide_threads.specs.Threads.{decide_thread}
use Rattle.decide_objects.specs.Objects.{decide_object, decide_outside}

-- s is what the request sees, l the principal links, g the tag links, and `allowed` the answer to its question, where it has one
abbrev pub decide : Sight → List ℕ → List ℕ → Request → Bool → Outcome
decide s l g (OfAuthority r) allowed = decide_authority s l g r allowed
decide s l g (OfThread r) allowed = decide_thread s l r allowed
decide s l g (OfObject r) allowed = decide_object s r
decide s l g (OfOutside r) allowed = decide_outside r
