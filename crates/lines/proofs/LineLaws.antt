-- The laws of lines: how long a line's frame and the digits of bytes are, what one pair of digits or one byte more adds to them, as a
-- loop goes on, and that bytes written as a line are read back. Assumes nothing.
use mathlib.Core.Path.{◌≡◌, refl, ap, ap₂}
use mathlib.Core.Bool.{true, ◌&&◌, and-true, and_assoc}
use mathlib.Core.List.{List, [], ◌∷◌, ◌++◌, append_assoc}
use Prim.Native.Nat.{ℕ, suc, ◌+◌, ◌/◌, ◌%◌, ◌<◌}
use native.Mathlib.Numerals.{add-one}
use native.Mathlib.Omega.{arith}
use borrow.Author.Tests.{lt-ltb}
use lib.Dec.{ltb}
use lib.ListN.{length, get_or, take}
use lib.Seq.{length-take-le, take-suc}
use Rattle.lines.specs.Digits.{digit_of, glyph_of, digits_of}
use Rattle.lines.specs.Lines.{byte_of, frame_of, all_digits, digits_in}
use Rattle.lines.proofs.DigitLaws.{digit_glyph, digits-byte}

-- ---- a line that is read

-- a frame has half as many bytes as its line
pub frame-length : (z : List ℕ) → length (frame_of z) ≡ length z / 2
unfolding frame_of
frame-length [] = refl
frame-length (high ∷ []) = refl
frame-length (high ∷ (low ∷ z)) = omega (arith, frame-length z)

-- a line of whole bytes before another: its frame comes before the other's
frame-append : (z y : List ℕ) → length z % 2 ≡ 0 → frame_of (z ++ y) ≡ frame_of z ++ frame_of y
unfolding frame_of
frame-append [] y e = refl
frame-append (high ∷ []) y e = absurd (omega arith)
frame-append (high ∷ (low ∷ z)) y e = ap (λ (bs : List ℕ). byte_of high low ∷ bs) (frame-append z y (omega arith))

-- two lines are all digits where both are
digits_append : (z y : List ℕ) → all_digits (z ++ y) ≡ (all_digits z && all_digits y)
unfolding all_digits
digits_append [] y = refl
digits_append (b ∷ z) y = simp (digits_append z y, and_assoc)

-- the front of a line with two bytes more
take-pair : (z : List ℕ) (i : ℕ) → i + 1 < length z → take (i + 2) z ≡ take i z ++ (get_or z i 0 ∷ get_or z (i + 1) 0 ∷ [])
take-pair z i h =
    let e : i + 2 ≡ suc (i + 1) = omega arith in
    let l : i < length z = omega arith in
    rw (e, take-suc z (i + 1) 0, add-one, take-suc z i 0) (append_assoc (take i z) (get_or z i 0 ∷ []) (get_or z (suc i) 0 ∷ []))

module _ (z : List ℕ) (i : ℕ) (h : i + 1 < length z) where
  pub digits-next : all_digits (take (i + 2) z) ≡ (all_digits (take i z) && (ltb (digit_of (get_or z i 0)) 16 && ltb (digit_of (get_or z (i + 1) 0)) 16))
  unfolding all_digits
  digits-next = simp (take-pair z i h, digits_append, and-true)

  pub frame-next : i % 2 ≡ 0 → frame_of (take (i + 2) z) ≡ frame_of (take i z) ++ (byte_of (get_or z i 0) (get_or z (i + 1) 0) ∷ [])
  unfolding frame_of
  frame-next e = rw (take-pair z i h) (frame-append (take i z) (get_or z i 0 ∷ get_or z (i + 1) 0 ∷ []) (rw (length-take-le i z (omega arith)) e))

-- ---- bytes that are written

-- two digits a byte
pub digits-length : (bs : List ℕ) → length (digits_in bs) ≡ length bs + length bs
unfolding digits_in
digits-length [] = refl
digits-length (b ∷ bs) = omega (arith, digits-length bs)

-- the digits of bytes and then of others
written-append : (bs cs : List ℕ) → digits_in (bs ++ cs) ≡ digits_in bs ++ digits_in cs
unfolding digits_in
written-append [] cs = refl
written-append (b ∷ bs) cs = ap (λ (z : List ℕ). (digits_of b).high ∷ (digits_of b).low ∷ z) (written-append bs cs)

-- one byte more, as a loop does
pub written_next : (bs : List ℕ) (i : ℕ) → i < length bs → digits_in (take (i + 1) bs) ≡ digits_in (take i bs) ++ ((digits_of (get_or bs i 0)).high ∷ (digits_of (get_or bs i 0)).low ∷ [])
unfolding digits_in
written_next bs i h = rw (add-one, take-suc bs i 0) (written-append (take i bs) (get_or bs i 0 ∷ []))

-- ---- bytes written and read back

-- what was written for a digit is a digit
digit-written : (v : ℕ) → v < 16 → ltb (digit_of (glyph_of v)) 16 ≡ true
digit-written v h = lt-ltb (digit_of (glyph_of v)) 16 (rw (digit_glyph v h) h)

-- digits that were written are digits, and the frame that they make is the bytes
pub read-written : (bs : List ℕ) → ((i : ℕ) → get_or bs i 0 < 256) → (all_digits (digits_in bs) ≡ true) × (frame_of (digits_in bs) ≡ bs)
unfolding all_digits frame_of digits_in
read-written [] h = (refl, refl)
read-written (b ∷ bs) h =
    let byte : b < 256 = h 0 in
    let rest = read-written bs (λ i. h (suc i)) in (
      simp (digit-written (b / 16) (omega arith), digit-written (b % 16) (omega arith), rest.0),
      ap₂ ◌∷◌ (rw (digits-byte b byte) (omega arith)) rest.1,
    )
