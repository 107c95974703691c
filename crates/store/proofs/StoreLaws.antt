-- What a store holds after a message is put or taken, or bytes are cleared. Assumes nothing.
use mathlib.Core.Path.{◌≡◌, ap, ◌∙◌}
use mathlib.Core.Bool.{true}
use mathlib.Core.List.{List, ◌++◌, append-nil}
use mathlib.Core.Logic.{◌↔◌, ◌⊎◌, inl, inr, ⊎_elim}
use Prim.Native.Nat.{ℕ, ◌+◌, ◌*◌, ◌-◌, ◌≤◌, ◌<◌}
use native.Mathlib.Nat.{zero-add}
use native.Mathlib.Numerals.{add-one}
use native.Mathlib.Omega.{arith}
use lib.ListN.{length, drop, replicate, length-append, length-replicate, get_or-replicate, get_or-append}
use lib.Seq.{drop-length, take-append_seam, get_or-append-add, get_or-take, get_or-drop}
use Rattle.numbers.proofs.Says.{eqb_is, all-is}
use Rattle.store.specs.Store.{byte_at, part, message_at, placed, put, took_first, cleared, zeros}
use Rattle.store.proofs.Over.{over-length, over-before, over-inside, over-after, part_length, part-over, part_same}

-- a place's bytes fill it
placed-length : (m : List ℕ) → length m ≤ 32 → length (placed m) ≡ 33
placed-length m h = simp (length-append, length-replicate) (omega arith)

-- the bytes that come in the place of an object's are as many
took-bytes : (s : List ℕ) (at : ℕ) → at + 264 ≤ length s → length (part s (at + 33) 231 ++ replicate 33 0) ≡ 264
took-bytes s at h =
    length-append (part s (at + 33) 231) (replicate 33 0) ∙ ap (λ (k : ℕ). k + 33) (part_length s (at + 33) 231 (omega arith))

-- a put keeps the store's length
pub put-length : (s : List ℕ) (at : ℕ) (m : List ℕ) → length m ≤ 32 → at + 33 ≤ length s → length (put s at m) ≡ length s
put-length s at m l h = over-length s at (placed m) (omega (arith, placed-length m l))

-- the length byte that was put
pub put_first : (s : List ℕ) (at : ℕ) (m : List ℕ) → at + 33 ≤ length s → byte_at (put s at m) at ≡ length m
put_first s at m h =
    ap (byte_at (put s at m)) (let e : at ≡ at + 0 = omega arith in e) ∙ over-inside s at (placed m) 0 (omega arith) (omega arith)

-- the message at a place is the one that was put there
pub put-message : (s : List ℕ) (at : ℕ) (m : List ℕ) → length m ≤ 32 → at + 33 ≤ length s → message_at (put s at m) at ≡ m
put-message s at m l h =
    ap (part (put s at m) (at + 1)) (put_first s at m h)
    ∙ part-over s at (placed m) 1 (length m) (omega arith) (omega (arith, placed-length m l))
    ∙ take-append_seam m (replicate (32 - length m) 0)

-- a put leaves every byte outside its place as it was
pub put-else : (s : List ℕ) (at : ℕ) (m : List ℕ) (i : ℕ) → length m ≤ 32 → at + 33 ≤ length s → (i < at) ⊎ (at + 33 ≤ i) → byte_at (put s at m) i ≡ byte_at s i
put-else s at m i l h w =
    ⊎_elim
    (λ b. over-before s at (placed m) i (omega arith) b)
    (λ b. over-after s at (placed m) i (omega arith) (omega (arith, placed-length m l)))
    w

-- what follows a message in its place is zero
pub put_rest : (s : List ℕ) (at : ℕ) (m : List ℕ) (i : ℕ) → at + 33 ≤ length s → length m ≤ i → i < 32 → byte_at (put s at m) (at + 1 + i) ≡ 0
put_rest s at m i h a b =
    let z = replicate {A = ℕ} (32 - length m) 0 in
    let e : at + 1 + i ≡ at + (i + 1) = omega arith in
    let q : i ≡ length m + (i - length m) = omega arith in
    let n : length (m ++ z) ≡ 32 = simp (length-append, length-replicate) (omega arith) in
    ap (byte_at (put s at m)) e ∙ over-inside s at (placed m) (i + 1) (omega arith) (omega arith)
    ∙ ap (byte_at (placed m)) (add-one i) ∙ ap (byte_at (m ++ z)) q ∙ get_or-append-add m z (i - length m) 0
    ∙ get_or-replicate (32 - length m) (i - length m) 0 0 (omega arith)

-- places of equal bytes have the same message, if its length is one that a message may have
pub message-same :
    (s t : List ℕ) (j k : ℕ) → j + 33 ≤ length s → k + 33 ≤ length t → byte_at t k ≤ 32
    → ((i : ℕ) → i < 33 → byte_at s (j + i) ≡ byte_at t (k + i)) → message_at s j ≡ message_at t k
message-same s t j k a b l f =
    let x : j ≡ j + 0 = omega arith in
    let y : k + 0 ≡ k = omega arith in
    let e : byte_at s j ≡ byte_at t k = ap (byte_at s) x ∙ f 0 (omega arith) ∙ ap (byte_at t) y in
    ap (part s (j + 1)) e
    ∙ part_same s t (j + 1) (k + 1) (byte_at t k) (omega arith) (omega arith)
    (λ i h.
    let x : j + 1 + i ≡ j + (i + 1) = omega arith in
    let y : k + (i + 1) ≡ k + 1 + i = omega arith in
    ap (byte_at s) x ∙ f (i + 1) (omega arith) ∙ ap (byte_at t) y)

-- a put leaves the messages of all other places
pub put_other :
    (s : List ℕ) (at : ℕ) (m : List ℕ) (k : ℕ) → length m ≤ 32 → at + 33 ≤ length s → k + 33 ≤ length s → byte_at s k ≤ 32
    → (k + 33 ≤ at) ⊎ (at + 33 ≤ k) → message_at (put s at m) k ≡ message_at s k
put_other s at m k l h g b w =
    message-same (put s at m) s k k (omega (arith, put-length s at m l h)) g b
    (λ i n. put-else s at m (k + i) l h (⊎_elim (λ a. inl (omega arith)) (λ a. inr (omega arith)) w))

-- taking the first message keeps the store's length
pub took-length : (s : List ℕ) (at : ℕ) → at + 264 ≤ length s → length (took_first s at) ≡ length s
took-length s at h = over-length s at (part s (at + 33) 231 ++ replicate 33 0) (omega (arith, took-bytes s at h))

-- the other messages of the object move down by a place
pub took-byte : (s : List ℕ) (at i : ℕ) → at + 264 ≤ length s → i < 231 → byte_at (took_first s at) (at + i) ≡ byte_at s (at + 33 + i)
took-byte s at i h l =
    let e : length (part s (at + 33) 231) ≡ 231 = part_length s (at + 33) 231 (omega arith) in
    over-inside s at (part s (at + 33) 231 ++ replicate 33 0) i (omega arith) (omega (arith, took-bytes s at h))
    ∙ get_or-append (part s (at + 33) 231) (replicate 33 0) 0 i (omega arith)
    ∙ get_or-take 231 (drop (at + 33) s) i 0 l ∙ get_or-drop (at + 33) s i 0

-- and its last place becomes zero
pub took-last : (s : List ℕ) (at i : ℕ) → at + 264 ≤ length s → 231 ≤ i → i < 264 → byte_at (took_first s at) (at + i) ≡ 0
took-last s at i h a b =
    let p = part s (at + 33) 231 in
    let e : length p ≡ 231 = part_length s (at + 33) 231 (omega arith) in
    let q : i ≡ length p + (i - 231) = omega arith in
    over-inside s at (p ++ replicate 33 0) i (omega arith) (omega (arith, took-bytes s at h))
    ∙ ap (byte_at (p ++ replicate 33 0)) q ∙ get_or-append-add p (replicate 33 0) (i - 231) 0
    ∙ get_or-replicate 33 (i - 231) 0 0 (omega arith)

-- every byte outside the object stays
pub took-else : (s : List ℕ) (at i : ℕ) → at + 264 ≤ length s → (i < at) ⊎ (at + 264 ≤ i) → byte_at (took_first s at) i ≡ byte_at s i
took-else s at i h w =
    let bs = part s (at + 33) 231 ++ replicate 33 0 in
    ⊎_elim
    (λ b. over-before s at bs i (omega arith) b)
    (λ b. over-after s at bs i (omega arith) (omega (arith, took-bytes s at h)))
    w

-- each other message of the object is found a place further down
pub took-message :
    (s : List ℕ) (at k : ℕ) → at + 264 ≤ length s → k < 7 → byte_at s (at + (k + 1) * 33) ≤ 32
    → message_at (took_first s at) (at + k * 33) ≡ message_at s (at + (k + 1) * 33)
took-message s at k h l b =
    message-same (took_first s at) s (at + k * 33) (at + (k + 1) * 33) (omega (arith, took-length s at h)) (omega arith) b
    (λ i n.
    let x : at + k * 33 + i ≡ at + (k * 33 + i) = omega arith in
    let y : at + 33 + (k * 33 + i) ≡ at + (k + 1) * 33 + i = omega arith in
    ap (byte_at (took_first s at)) x ∙ took-byte s at (k * 33 + i) h (omega arith) ∙ ap (byte_at s) y)

-- the messages of other objects stay
pub took-other :
    (s : List ℕ) (at k : ℕ) → at + 264 ≤ length s → k + 33 ≤ length s → byte_at s k ≤ 32 → (k + 33 ≤ at) ⊎ (at + 264 ≤ k)
    → message_at (took_first s at) k ≡ message_at s k
took-other s at k h g b w =
    message-same (took_first s at) s k k (omega (arith, took-length s at h)) g b
    (λ i n. took-else s at (k + i) h (⊎_elim (λ a. inl (omega arith)) (λ a. inr (omega arith)) w))

-- clearing keeps the store's length
pub cleared-length : (s : List ℕ) (from n : ℕ) → from + n ≤ length s → length (cleared s from n) ≡ length s
cleared-length s from n h = over-length s from (replicate n 0) (omega (arith, length-replicate {A = ℕ} n 0))

-- a byte outside what is cleared stays
pub cleared-else : (s : List ℕ) (from n i : ℕ) → from + n ≤ length s → (i < from) ⊎ (from + n ≤ i) → byte_at (cleared s from n) i ≡ byte_at s i
cleared-else s from n i h w =
    ⊎_elim
    (λ b. over-before s from (replicate n 0) i (omega arith) b)
    (λ b. over-after s from (replicate n 0) i (omega arith) (omega (arith, length-replicate {A = ℕ} n 0)))
    w

-- a part is zero exactly where each of its bytes is
pub zeros-is : (s : List ℕ) (from n : ℕ) → (zeros s from n ≡ true) ↔ ((i : ℕ) → i < n → byte_at s (from + i) ≡ 0)
unfolding zeros
zeros-is s from n = all-is n (λ i. eqb_is (byte_at s (from + i)) 0)

-- the same of the places `from` up to `to`, counted from `at`
pub zeros-between : (s : List ℕ) (at from to : ℕ) → (zeros s (at + from) (to - from) ≡ true) ↔ ((i : ℕ) → from ≤ i → i < to → byte_at s (at + i) ≡ 0)
zeros-between s at from to = (
  λ e i h k.
      let q : at + i ≡ at + from + (i - from) = omega arith in
      ap (byte_at s) q ∙ (zeros-is s (at + from) (to - from)).0 e (i - from) (omega arith),
  λ f.
      (zeros-is s (at + from) (to - from)).1
      (λ i h. let q : at + from + i ≡ at + (from + i) = omega arith in ap (byte_at s) q ∙ f (from + i) (omega arith) (omega arith)),
)

-- and counted from the first
pub zeros-from : (s : List ℕ) (from to : ℕ) → (zeros s from (to - from) ≡ true) ↔ ((i : ℕ) → from ≤ i → i < to → byte_at s i ≡ 0)
zeros-from s from to = simp zero-add at (zeros-between s 0 from to)

-- what was cleared is zero
pub zeros-cleared : (s : List ℕ) (from n : ℕ) → from + n ≤ length s → zeros (cleared s from n) from n ≡ true
zeros-cleared s from n h =
    (zeros-is (cleared s from n) from n).1
    (λ i l. over-inside s from (replicate n 0) i (omega arith) (omega (arith, length-replicate {A = ℕ} n 0)) ∙ get_or-replicate n i 0 0 l)

-- a list that is cleared whole is zeros
pub cleared-all : (s : List ℕ) → cleared s 0 (length s) ≡ replicate (length s) 0
cleared-all s =
    let e : 0 + length (replicate {A = ℕ} (length s) 0) ≡ length s = simp length-replicate (omega arith) in
    ap (λ (k : ℕ). replicate (length s) 0 ++ drop k s) e ∙ ap (λ (r : List ℕ). replicate (length s) 0 ++ r) (drop-length s) ∙ append-nil (replicate (length s) 0)
