-- Refusals 2, 3 and 4 (01, "Refusal numbers"), which come before those of a kind's own row, and whether a request asks for authority.
-- Assumes nothing.
use Rattle.std.specs.Prelude.{Bool, true, false, not, cond, ℕ, Result, Ok, Err}
use Rattle.numbers.specs.Labels.{has}
use Rattle.frames.specs.declared.requests.AuthorityRequest.{AuthorityRequest}
use Rattle.frames.specs.declared.requests.AuthorityRequest.TheVariants.{NewPrincipal, Delegate, Revoke, ActsFor, NewTag, NewSubtag, Grant, Ungrant, Authoritative}
use Rattle.frames.specs.declared.requests.ThreadRequest.{ThreadRequest}
use Rattle.frames.specs.declared.requests.ThreadRequest.TheVariants.{IntoSecrecy, OutOfSecrecy, IntoIntegrity, OutOfIntegrity, Fork, End, Call, Return}
use Rattle.frames.specs.declared.requests.Request.{Request}
use Rattle.frames.specs.declared.requests.Request.TheVariants.{OfAuthority, OfThread, OfObject, OfOutside}
use Rattle.answers.specs.declared.Refusal.{Refusal}
use Rattle.answers.specs.declared.Refusal.TheVariants.{NotLive, Unnamed, Flow}
use Rattle.sight.specs.declared.Sight.{Sight}
use Rattle.named.specs.Named.{named}
use Rattle.flows.specs.Flows.{flows}

-- ---- 2, 3, 4 in order: no refusal, or one

unfoldable pub prelude : Sight → ℕ → Request → Result Unit Refusal
prelude s k r =
    cond (not s.caller.live) (Err NotLive)
    (cond (not (named s r)) (Err Unnamed)
    (cond (not (flows s k r)) (Err Flow)
    (Ok tt)))

-- ---- "A question .. is asked by 06, 09, 0B and 0C, once, when the authority check is reached"

abbrev pub authority_asks : AuthorityRequest → Bool
authority_asks NewPrincipal = false
authority_asks (Delegate p q) = false
authority_asks (Revoke p q) = false
authority_asks (ActsFor p q) = false
authority_asks NewTag = false
authority_asks (NewSubtag t) = true
authority_asks (Grant t p q) = false
authority_asks (Ungrant t p q) = false
authority_asks (Authoritative t) = true

-- 0B: not where T is "already out of S"; 0C: not where it is already in I
abbrev pub thread_asks : Sight → ThreadRequest → Bool
thread_asks s (IntoSecrecy t) = false
thread_asks s (OutOfSecrecy t) = has s.caller.labels.secrecy t
thread_asks s (IntoIntegrity t) = not (has s.caller.labels.integrity t)
thread_asks s (OutOfIntegrity t) = false
thread_asks s (Fork p) = false
thread_asks s End = false
thread_asks s (Call p) = false
thread_asks s Return = false

abbrev pub asks : Sight → Request → Bool
asks s (OfAuthority r) = authority_asks r
asks s (OfThread r) = thread_asks s r
asks s (OfObject r) = false
asks s (OfOutside r) = false
