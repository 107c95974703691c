-- Requests (01, "Requests"): "A frame is thread byte, kind byte, operands." What each frame says, kind by kind in the order of 01's
-- table, and which frames are refused 1. Kinds are hexadecimal. Assumes nothing.
use Rattle.std.specs.Prelude.{Bool, not, cond, ◌&&◌, ◌||◌, List, [], ◌∷◌, ℕ, ◌+◌, eqb, ltb, leb, length, get_or}
use Rattle.numbers.specs.declared.Principal.{Principal}
use Rattle.numbers.specs.declared.Tag.{Tag}
use Rattle.numbers.specs.declared.Object.{Object}
use Rattle.numbers.specs.declared.Thread.{Thread}
use Rattle.numbers.specs.declared.labels.Label.{Label}
use Rattle.numbers.specs.declared.flow.LabelPair.{LabelPair}
use Rattle.numbers.specs.LabelBytes.{label_of_bytes}
use Rattle.numbers.specs.Numbers.{longest_message}
use Rattle.needs.specs.Needs.{one_of}
use Rattle.frames.specs.declared.requests.Span.{Span}
use Rattle.frames.specs.declared.requests.ObjectKind.{ObjectKind}
use Rattle.frames.specs.declared.requests.ObjectKind.TheVariants as kind
use Rattle.frames.specs.declared.requests.AuthorityRequest.{AuthorityRequest}
use Rattle.frames.specs.declared.requests.AuthorityRequest.TheVariants.{NewPrincipal, Delegate, Revoke, ActsFor, NewTag, NewSubtag, Grant, Ungrant, Authoritative}
use Rattle.frames.specs.declared.requests.ThreadRequest.{ThreadRequest}
use Rattle.frames.specs.declared.requests.ThreadRequest.TheVariants.{IntoSecrecy, OutOfSecrecy, IntoIntegrity, OutOfIntegrity, Fork, End, Call, Return}
use Rattle.frames.specs.declared.requests.ObjectRequest.{ObjectRequest}
use Rattle.frames.specs.declared.requests.ObjectRequest.TheVariants.{New, Delete, ReadCell, WriteCell, Put, Get, Lock, Unlock}
use Rattle.frames.specs.declared.requests.OutsideRequest.{OutsideRequest}
use Rattle.frames.specs.declared.requests.OutsideRequest.TheVariants.{SendOut, BringIn}
use Rattle.frames.specs.declared.requests.Request.{Request}
use Rattle.frames.specs.declared.requests.Request.TheVariants.{OfAuthority, OfThread, OfObject, OfOutside}

-- "0 cell, 1 queue, 2 lock"
abbrev pub kind_of_object : ℕ → ObjectKind
kind_of_object k = cond (eqb k 0) kind.Cell (cond (eqb k 1) kind.Queue kind.Lock)

-- how long a frame of a kind is, but for the bytes of a message
unfoldable pub fixed_length : ℕ → ℕ
fixed_length k =
    cond (one_of (0x01 ∷ 0x05 ∷ 0x0F ∷ 0x11 ∷ []) k) 2
    (cond (one_of (0x06 ∷ 0x09 ∷ 0x0A ∷ 0x0B ∷ 0x0C ∷ 0x0D ∷ 0x0E ∷ 0x10 ∷ 0x13 ∷ 0x14 ∷ 0x17 ∷ 0x18 ∷ 0x19 ∷ 0x1A ∷ 0x1B ∷ []) k) 3
    (cond (one_of (0x02 ∷ 0x03 ∷ 0x04 ∷ 0x15 ∷ 0x16 ∷ []) k) 4
    (cond (one_of (0x07 ∷ 0x08 ∷ []) k) 5
    (cond (one_of (0x12 ∷ []) k) 19
    0))))

-- where the length byte of its message stands; 0 where it has none
unfoldable pub length_byte : ℕ → ℕ
length_byte k = cond (one_of (0x1A ∷ 0x1B ∷ []) k) 2 (cond (one_of (0x15 ∷ 0x16 ∷ []) k) 3 0)

-- ---- what a frame of a kind says, with the bytes of its operands: "P, Q, T, O are one byte"

abbrev pub principal : ℕ → Principal
principal a = record { 0 = a }

abbrev pub tag : ℕ → Tag
tag a = record { 0 = a }

abbrev pub object : ℕ → Object
object a = record { 0 = a }

unfoldable pub authority_request : ℕ → ℕ → ℕ → ℕ → AuthorityRequest
authority_request k a b c =
    cond (eqb k 0x01) NewPrincipal
    (cond (eqb k 0x02) (Delegate (principal a) (principal b))
    (cond (eqb k 0x03) (Revoke (principal a) (principal b))
    (cond (eqb k 0x04) (ActsFor (principal a) (principal b))
    (cond (eqb k 0x05) NewTag
    (cond (eqb k 0x06) (NewSubtag (tag a))
    (cond (eqb k 0x07) (Grant (tag a) (principal b) (principal c))
    (cond (eqb k 0x08) (Ungrant (tag a) (principal b) (principal c))
    (Authoritative (tag a)))))))))

unfoldable pub thread_request : ℕ → ℕ → ThreadRequest
thread_request k a =
    cond (eqb k 0x0A) (IntoSecrecy (tag a))
    (cond (eqb k 0x0B) (OutOfSecrecy (tag a))
    (cond (eqb k 0x0C) (IntoIntegrity (tag a))
    (cond (eqb k 0x0D) (OutOfIntegrity (tag a))
    (cond (eqb k 0x0E) (Fork (principal a))
    (cond (eqb k 0x0F) End
    (cond (eqb k 0x10) (Call (principal a))
    Return))))))

unfoldable pub object_request : ℕ → ℕ → Span → ObjectRequest
object_request k a m =
    cond (eqb k 0x13) (Delete (object a))
    (cond (eqb k 0x14) (ReadCell (object a))
    (cond (eqb k 0x15) (WriteCell (object a) m)
    (cond (eqb k 0x16) (Put (object a) m)
    (cond (eqb k 0x17) (Get (object a))
    (cond (eqb k 0x18) (Lock (object a))
    (Unlock (object a)))))))

unfoldable pub outside_request : ℕ → Span → OutsideRequest
outside_request k m = cond (eqb k 0x1A) (SendOut m) (BringIn m)

module _ (f : List ℕ) where
  -- ---- bytes and operands; past the end of the frame a byte reads as 0

  abbrev pub byte_at : ℕ → ℕ
  byte_at i = get_or f i 0

  -- "thread byte, kind byte"
  abbrev pub thread_of : Thread
  thread_of = record { 0 = byte_at 0 }

  abbrev pub kind_of : ℕ
  kind_of = byte_at 1

  -- "Labels are 8 bytes, most significant first"
  abbrev pub label_at : ℕ → Label
  label_at i =
      label_of_bytes (byte_at i ∷ byte_at (i + 1) ∷ byte_at (i + 2) ∷ byte_at (i + 3) ∷ byte_at (i + 4) ∷ byte_at (i + 5) ∷ byte_at (i + 6) ∷ byte_at (i + 7) ∷ [])

  abbrev pub labels_at : ℕ → LabelPair
  labels_at i = record { secrecy = label_at i; integrity = label_at (i + 8) }

  -- "A message operand is a length byte and that many bytes"
  abbrev pub message_at : ℕ → Span
  message_at i = record { at = i + 1; len = byte_at i }

  -- ---- refusal 1: "frame under 2 bytes, unknown kind, wrong length, message over 32, object kind over 2"

  abbrev pub message_length : ℕ
  message_length = cond (eqb (length_byte kind_of) 0) 0 (byte_at (length_byte kind_of))

  abbrev pub known_kind : Bool
  known_kind = ltb 0 kind_of && ltb kind_of 0x1C

  abbrev pub right_length : Bool
  right_length = eqb (length f) (fixed_length kind_of + message_length)

  abbrev pub right_object_kind : Bool
  right_object_kind = not (eqb kind_of 0x12) || leb (byte_at 2) 2

  unfoldable pub well_formed : Bool
  well_formed = leb 2 (length f) && (known_kind && (right_length && (leb message_length longest_message && right_object_kind)))

  -- ---- what a frame says that is not refused 1

  unfoldable pub request_by : ℕ → ℕ → Request
  request_by k a =
      cond (ltb k 0x0A) (OfAuthority (authority_request k a (byte_at 3) (byte_at 4)))
      (cond (ltb k 0x12) (OfThread (thread_request k a))
      (cond (ltb k 0x13) (OfObject (New (kind_of_object a) (labels_at 3)))
      (cond (ltb k 0x1A) (OfObject (object_request k a (message_at 3)))
      (OfOutside (outside_request k (message_at 2))))))

  abbrev pub request_of : Request
  request_of = request_by kind_of (byte_at 2)
