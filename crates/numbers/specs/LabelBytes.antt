-- "Labels are 8 bytes, most significant first" (01, "Requests"). Assumes nothing.
use Rattle.std.specs.Prelude.{List, [], ◌∷◌, ℕ, zero, suc, ◌+◌, ◌*◌, ◌/◌, ◌%◌, ◌^◌, get_or}
use Rattle.numbers.specs.declared.labels.Label.{Label}

-- the number that the first k bytes of bs are, the most significant first
abbrev pub number_of : ℕ → List ℕ → ℕ
number_of zero bs = 0
number_of (suc k) bs = number_of k bs * 256 + get_or bs k 0

-- the k low bytes of n, the most significant first
abbrev pub bytes_of : ℕ → ℕ → List ℕ
bytes_of zero n = []
bytes_of (suc k) n = n / 256 ^ k % 256 ∷ bytes_of k n

-- the label in 8 bytes, and the 8 bytes of a label
abbrev pub label_of_bytes : List ℕ → Label
label_of_bytes bs = record { 0 = number_of 8 bs }

abbrev pub bytes_of_label : Label → List ℕ
bytes_of_label l = bytes_of 8 l.0
