-- Refusal 4 (01, "Refusal numbers"): "the flow need is not met"; "12, 13, 1B test more". Assumes nothing.
use Rattle.std.specs.Prelude.{Bool, true, ◌&&◌, ℕ}
use Rattle.numbers.specs.Labels.{within, same_as, is_empty}
use Rattle.numbers.specs.Flow.{meets}
use Rattle.needs.specs.Needs.{need_of}
use Rattle.frames.specs.declared.requests.ObjectRequest.{ObjectRequest}
use Rattle.frames.specs.declared.requests.ObjectRequest.TheVariants.{New, Delete, ReadCell, WriteCell, Put, Get, Lock, Unlock}
use Rattle.frames.specs.declared.requests.OutsideRequest.{OutsideRequest}
use Rattle.frames.specs.declared.requests.OutsideRequest.TheVariants.{SendOut, BringIn}
use Rattle.frames.specs.declared.requests.Request.{Request}
use Rattle.frames.specs.declared.requests.Request.TheVariants.{OfAuthority, OfThread, OfObject, OfOutside}
use Rattle.sight.specs.declared.Sight.{Sight}

-- 12: "null and i within I"; 13: "null and I = i"
abbrev pub object_more : Sight → ObjectRequest → Bool
object_more s (New k l) = within l.integrity s.caller.labels.integrity
object_more s (Delete o) = same_as s.caller.labels.integrity s.object.labels.integrity
object_more s (ReadCell o) = true
object_more s (WriteCell o m) = true
object_more s (Put o m) = true
object_more s (Get o) = true
object_more s (Lock o) = true
object_more s (Unlock o) = true

-- 1B: "I empty"
abbrev pub outside_more : Sight → OutsideRequest → Bool
outside_more s (SendOut m) = true
outside_more s (BringIn m) = is_empty s.caller.labels.integrity

abbrev pub more : Sight → Request → Bool
more s (OfAuthority r) = true
more s (OfThread r) = true
more s (OfObject r) = object_more s r
more s (OfOutside r) = outside_more s r

-- the need is looked up by the kind byte k
abbrev pub flows : Sight → ℕ → Request → Bool
flows s k r = meets (need_of k) s.caller.labels s.object.labels && more s r
