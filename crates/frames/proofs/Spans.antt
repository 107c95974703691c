-- The message of a well-formed frame (01, "Requests") lies in the frame and is no longer than a message may be. Assumes nothing.
use mathlib.Core.Path.{◌≡◌, refl}
use mathlib.Core.Bool.{true, false}
use mathlib.Core.List.{List}
use Prim.Native.Nat.{ℕ, ◌+◌, ◌≤◌, ◌<◌}
use native.Mathlib.Omega.{arith}
use borrow.Author.Tests.{eqb-true, eqb-false, ltb-false}
use lib.Dec.{eqb, leb, ltb}
use lib.ListN.{length}
use Rattle.numbers.specs.Numbers.{longest_message}
use Rattle.numbers.proofs.Bools.{by-test}
use Rattle.numbers.proofs.Says.{eqb_is, leb-is, ltb-is, itself, and_is}
use Rattle.frames.specs.declared.requests.Span.{Span}
use Rattle.frames.specs.declared.requests.ObjectRequest.{ObjectRequest}
use Rattle.frames.specs.declared.requests.ObjectRequest.TheVariants.{New, Delete, ReadCell, WriteCell, Put, Get, Lock, Unlock}
use Rattle.frames.specs.declared.requests.OutsideRequest.{OutsideRequest}
use Rattle.frames.specs.declared.requests.OutsideRequest.TheVariants.{SendOut, BringIn}
use Rattle.frames.specs.declared.requests.Request.{Request}
use Rattle.frames.specs.declared.requests.Request.TheVariants.{OfAuthority, OfThread, OfObject, OfOutside}
use Rattle.frames.specs.Requests.{fixed_length, length_byte, object_request, outside_request, kind_of, byte_at, message_at, message_length, right_object_kind, well_formed, request_by, request_of}

-- the message lies in the frame, and is no longer than a message may be
pub record SpanFits (f : List ℕ) (m : Span) : Type 0 where
  pub there : m.at + m.len ≤ length f
  pub short : m.len ≤ longest_message

-- the messages of a request, if it has one
abbrev pub ObjectSpans : List ℕ → ObjectRequest → Type 0
ObjectSpans f (New k l) = Unit
ObjectSpans f (Delete o) = Unit
ObjectSpans f (ReadCell o) = Unit
ObjectSpans f (WriteCell o m) = SpanFits f m
ObjectSpans f (Put o m) = SpanFits f m
ObjectSpans f (Get o) = Unit
ObjectSpans f (Lock o) = Unit
ObjectSpans f (Unlock o) = Unit

abbrev pub OutsideSpans : List ℕ → OutsideRequest → Type 0
OutsideSpans f (SendOut m) = SpanFits f m
OutsideSpans f (BringIn m) = SpanFits f m

abbrev pub Spans : List ℕ → Request → Type 0
Spans f (OfAuthority r) = Unit
Spans f (OfThread r) = Unit
Spans f (OfObject r) = ObjectSpans f r
Spans f (OfOutside r) = OutsideSpans f r

module _ (f : List ℕ) (e : well_formed f ≡ true) where
  -- the kind byte
  abbrev kind : ℕ
  kind = kind_of f

  -- what the tests of refusal 1 say of a frame that passes them
  formed : (kind < 0x1C) × (length f ≡ fixed_length kind + message_length f) × (message_length f ≤ longest_message)
  unfolding well_formed
  formed =
      let known = and_is (itself (ltb 0 kind)) (ltb-is kind 0x1C) in
      let brief = and_is (leb-is (message_length f) longest_message) (itself (right_object_kind f)) in
      let sized = and_is (eqb_is (length f) (fixed_length kind + message_length f)) brief in
      let w = (and_is (itself (leb 2 (length f))) (and_is known sized)).0 e in
      (w.1.0.1, w.1.1.0, w.1.1.1.0)

  -- a kind whose length byte, at i, is the last before the message
  fits : (i k : ℕ) → eqb i 0 ≡ false → length_byte k ≡ i → fixed_length k ≡ i + 1 → kind ≡ k → SpanFits f (message_at f i)
  fits i k some at fixed same =
      let len : message_length f ≡ byte_at f i = rw (same, at, some) in
      let before : fixed_length kind ≡ i + 1 = rw (same, fixed) in
      let all = formed in
      record { there = omega arith; short = omega arith }

  -- 15 and 16 have a message behind the object, 13, 14 and 17 to 19 none
  object-spans : (a : ℕ) → ObjectSpans f (object_request kind a (message_at f 3))
  unfolding object_request length_byte fixed_length
  object-spans a =
      by-test (ObjectSpans f) (eqb kind 0x13) (λ h. tt) (λ h.
      by-test (ObjectSpans f) (eqb kind 0x14) (λ h. tt) (λ h.
      by-test (ObjectSpans f) (eqb kind 0x15) (λ h. fits 3 0x15 refl refl refl (eqb-true kind 0x15 h)) (λ h.
      by-test (ObjectSpans f) (eqb kind 0x16) (λ h. fits 3 0x16 refl refl refl (eqb-true kind 0x16 h)) (λ h.
      by-test (ObjectSpans f) (eqb kind 0x17) (λ h. tt) (λ h.
      by-test (ObjectSpans f) (eqb kind 0x18) (λ h. tt) (λ h. tt))))))

  -- 1A and 1B have nothing but their message
  outside-spans : ltb kind 0x1A ≡ false → OutsideSpans f (outside_request kind (message_at f 2))
  unfolding outside_request length_byte fixed_length
  outside-spans h =
      let low = ltb-false kind 0x1A h in
      let all = formed in
      by-test (OutsideSpans f) (eqb kind 0x1A) (λ e. fits 2 0x1A refl refl refl (eqb-true kind 0x1A e))
      (λ e. fits 2 0x1B refl refl refl (omega (arith, eqb-false kind 0x1A e)))

  -- so every message fits
  pub spans_fit : Spans f (request_of f)
  unfolding request_by
  spans_fit =
      by-test (Spans f) (ltb kind 0x0A) (λ h. tt) (λ h.
      by-test (Spans f) (ltb kind 0x12) (λ h. tt) (λ h.
      by-test (Spans f) (ltb kind 0x13) (λ h. tt) (λ h.
      by-test (Spans f) (ltb kind 0x1A) (λ h. object-spans (byte_at f 2)) (λ h. outside-spans h))))
