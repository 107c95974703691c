-- Lines (01, "Lines"): a line of digits as a frame, and bytes as a line. A line that is read stands here without its LF.
-- Assumes nothing.
use Rattle.std.specs.Prelude.{Bool, true, ◌&&◌, List, [], ◌∷◌, ◌++◌, ℕ, ◌+◌, ◌*◌, ◌%◌, eqb, ltb, leb, length, get_or}
use Rattle.lines.specs.declared.reader.ReadByte.{ReadByte}
use Rattle.lines.specs.Digits.{digit_of, digits_of}

abbrev pub line_feed : ℕ
line_feed = 10

-- "over 72 digits"
abbrev pub longest_line : ℕ
longest_line = 72

-- "two a byte, high first"; what is no digit makes a byte here too, and the line is refused
abbrev pub byte_of : ℕ → ℕ → ℕ
byte_of high low = (digit_of high * 16 + digit_of low) % 256

-- the byte whose two digits stand at a place of the line, and whether they are digits
abbrev pub read_byte : List ℕ → ℕ → ReadByte
read_byte z at =
    record {
      value = byte_of (get_or z at 0) (get_or z (at + 1) 0);
      digits = ltb (digit_of (get_or z at 0)) 16 && ltb (digit_of (get_or z (at + 1) 0)) 16;
    }

-- fewer than two digits are left at a place of the line
abbrev pub no_byte_at : List ℕ → ℕ → Bool
no_byte_at z at = leb (length z) (at + 1)

unfoldable pub frame_of : List ℕ → List ℕ
frame_of [] = []
frame_of (high ∷ []) = []
frame_of (high ∷ (low ∷ z)) = byte_of high low ∷ frame_of z

-- "A line with any byte but a digit (lowercase and CR too) .."
unfoldable pub all_digits : List ℕ → Bool
all_digits [] = true
all_digits (b ∷ z) = ltb (digit_of b) 16 && all_digits z

-- ".. of odd length, empty, or over 72 digits is refused 1"
abbrev pub right_length : List ℕ → Bool
right_length z = eqb (length z % 2) 0 && (ltb 0 (length z) && leb (length z) longest_line)

abbrev pub is_frame : List ℕ → Bool
is_frame z = right_length z && all_digits z

-- bytes as a line, with its LF
unfoldable pub digits_in : List ℕ → List ℕ
digits_in [] = []
digits_in (b ∷ bs) = (digits_of b).high ∷ (digits_of b).low ∷ digits_in bs

abbrev pub line_of : List ℕ → List ℕ
line_of bs = digits_in bs ++ (line_feed ∷ [])
