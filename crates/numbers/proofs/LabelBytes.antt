-- Labels and their 8 bytes: both round trips. Assumes nothing.
use mathlib.Core.Path.{◌≡◌, refl, sym, ap, ap₂, ◌∙◌, subst}
use mathlib.Core.List.{List, [], ◌∷◌, ◌++◌}
use Prim.Native.Nat.{ℕ, zero, suc, ◌+◌, ◌*◌, ◌/◌, ◌%◌, ◌^◌, ◌≤◌, ◌<◌}
use native.Mathlib.Nat.{pow-succ', div-div-eq-div-mul, div-lt_iff_lt-mul, div-add-mod', div-one, mul_comm}
use native.Mathlib.Omega.{arith}
use lib.Dec.{lit<}
use lib.Arith.{lt-one, digits_div, digits_mod}
use lib.ListN.{length, get_or, take, get_or-append}
use lib.Seq.{take_all, take-suc, get_or-append_seam}
use Rattle.numbers.specs.declared.labels.Label.{Label}
use Rattle.numbers.specs.LabelBytes.{number_of, bytes_of, label_of_bytes, bytes_of_label}
use Rattle.numbers.proofs.LabelLaws.{Is64Bit}

-- The last byte is n % 256, and those before it are the bytes of n / 256

bytes_of-last : (k n : ℕ) → bytes_of (suc k) n ≡ bytes_of k (n / 256) ++ (n % 256 ∷ [])
bytes_of-last zero n = ap (λ (x : ℕ). x % 256 ∷ []) (div-one n)
bytes_of-last (suc k) n =
    ap₂ ◌∷◌
    (ap (λ (x : ℕ). x % 256) (ap (λ (x : ℕ). n / x) (pow-succ' 256 k) ∙ sym (div-div-eq-div-mul n 256 (256 ^ k))))
    (bytes_of-last k n)

length-bytes_of : (k n : ℕ) → length (bytes_of k n) ≡ k
length-bytes_of zero n = refl
length-bytes_of (suc k) n = ap suc (length-bytes_of k n)

number_of-front : (k : ℕ) (bs cs : List ℕ) → k ≤ length bs → number_of k (bs ++ cs) ≡ number_of k bs
number_of-front zero bs cs h = refl
number_of-front (suc k) bs cs h = ap₂ (λ (x y : ℕ). x * 256 + y) (number_of-front k bs cs (omega arith)) (get_or-append bs cs 0 k h)

number-bytes : (k n : ℕ) → n < 256 ^ k → number_of k (bytes_of k n) ≡ n
number-bytes zero n h = sym (lt-one h)
number-bytes (suc k) n h =
    let len : length (bytes_of k (n / 256)) ≡ k = length-bytes_of k (n / 256) in
    let high : n / 256 < 256 ^ k = (div-lt_iff_lt-mul (lit< tt)).1 (subst (λ (x : ℕ). n < x) (pow-succ' 256 k ∙ mul_comm 256 (256 ^ k)) h) in
    ap (number_of (suc k)) (bytes_of-last k n)
    ∙ ap₂ (λ (x y : ℕ). x * 256 + y)
    (number_of-front k (bytes_of k (n / 256)) (n % 256 ∷ []) (omega arith) ∙ number-bytes k (n / 256) high)
    (subst (λ (i : ℕ). get_or (bytes_of k (n / 256) ++ (n % 256 ∷ [])) i 0 ≡ n % 256) len (get_or-append_seam (bytes_of k (n / 256)) (n % 256) [] 0))
    ∙ div-add-mod' n 256

bytes-number : (k : ℕ) (bs : List ℕ) → k ≤ length bs → ((i : ℕ) → get_or bs i 0 < 256) → bytes_of k (number_of k bs) ≡ take k bs
bytes-number zero bs h b = refl
bytes-number (suc k) bs h b =
    bytes_of-last k (number_of (suc k) bs)
    ∙ ap₂ (λ (x y : ℕ). bytes_of k x ++ (y ∷ [])) (digits_div (number_of k bs) (b k)) (digits_mod (number_of k bs) (b k))
    ∙ ap (λ (xs : List ℕ). xs ++ (get_or bs k 0 ∷ [])) (bytes-number k bs (omega arith) b)
    ∙ sym (take-suc bs k 0 h)

-- a label written and read back
pub read-written : (l : Label) → Is64Bit l → label_of_bytes (bytes_of_label l) ≡ l
read-written l fits = ap (λ (x : ℕ). record { 0 = x }) (number-bytes 8 l.0 fits)

-- 8 bytes read and written back
pub written_read : (bs : List ℕ) → length bs ≡ 8 → ((i : ℕ) → get_or bs i 0 < 256) → bytes_of_label (label_of_bytes bs) ≡ bs
written_read bs e b = bytes-number 8 bs (omega arith) b ∙ take_all 8 bs (omega arith)
