-- The laws of `over`: bytes put over a part of a store. Assumes nothing.
use mathlib.Core.Path.{◌≡◌, sym, ap, ap₂, ◌∙◌}
use mathlib.Core.List.{List, [], ◌∷◌, ◌++◌, append_assoc}
use Prim.Native.Nat.{ℕ, ◌+◌, ◌-◌, ◌≤◌, ◌<◌}
use native.Mathlib.Numerals.{add-one}
use native.Mathlib.Omega.{arith}
use borrow.Rule.Slice.PartMut.{put_mid}
use lib.ListN.{length, take, drop, set, length-append, length-drop, take-append-drop, get_or-append}
use lib.Seq.{length-take-le, take-append-le, drop-append-le, take_at, drop_at, get_or-append-add, get_or-take, get_or-drop, set_split, drop-drop, ext_get_or}
use Rattle.store.specs.Store.{byte_at, part, over}

-- no bytes over a store leave it as it is
pub over_none : (s : List ℕ) (at : ℕ) → over s at [] ≡ s
over_none s at = ap (λ (k : ℕ). take at s ++ drop k s) (let e : at + 0 ≡ at = omega arith in e) ∙ take-append-drop at s

-- the store keeps its length
pub over-length : (s : List ℕ) (at : ℕ) (bs : List ℕ) → at + length bs ≤ length s → length (over s at bs) ≡ length s
over-length s at bs h =
    let a : length (take at s) ≡ at = length-take-le at s (omega arith) in
    simp (length-append, length-drop, a) (omega arith)

-- a byte before them stays
pub over-before : (s : List ℕ) (at : ℕ) (bs : List ℕ) (i : ℕ) → at ≤ length s → i < at → byte_at (over s at bs) i ≡ byte_at s i
over-before s at bs i h l =
    let a : length (take at s) ≡ at = length-take-le at s h in
    get_or-append (take at s) (bs ++ drop (at + length bs) s) 0 i (omega arith) ∙ get_or-take at s i 0 l

-- the byte at a distance from their beginning, whatever stands there
over-from : (s : List ℕ) (at : ℕ) (bs : List ℕ) (i : ℕ) → at ≤ length s → byte_at (over s at bs) (at + i) ≡ byte_at (bs ++ drop (at + length bs) s) i
over-from s at bs i h =
    let a : length (take at s) ≡ at = length-take-le at s h in
    ap (λ (k : ℕ). byte_at (over s at bs) (k + i)) (sym a) ∙ get_or-append-add (take at s) (bs ++ drop (at + length bs) s) i 0

-- where they stand it is one of them
pub over-inside : (s : List ℕ) (at : ℕ) (bs : List ℕ) (i : ℕ) → at ≤ length s → i < length bs → byte_at (over s at bs) (at + i) ≡ byte_at bs i
over-inside s at bs i h l = over-from s at bs i h ∙ get_or-append bs (drop (at + length bs) s) 0 i l

-- a byte after them stays
pub over-after : (s : List ℕ) (at : ℕ) (bs : List ℕ) (i : ℕ) → at ≤ length s → at + length bs ≤ i → byte_at (over s at bs) i ≡ byte_at s i
over-after s at bs i h l =
    let k = i - (at + length bs) in
    let e : i ≡ at + (length bs + k) = omega arith in
    let q : at + length bs + k ≡ i = omega arith in
    ap (byte_at (over s at bs)) e ∙ over-from s at bs (length bs + k) h ∙ get_or-append-add bs (drop (at + length bs) s) k 0
    ∙ get_or-drop (at + length bs) s k 0 ∙ ap (byte_at s) q

-- bytes put right after them: together they are put at once
pub over-over :
    (s : List ℕ) (at : ℕ) (bs cs : List ℕ) → at + length bs ≤ length s → over (over s at bs) (at + length bs) cs ≡ over s at (bs ++ cs)
over-over s at bs cs h =
    let a : length (take at s ++ bs) ≡ at + length bs = length-append (take at s) bs ∙ ap (λ (k : ℕ). k + length bs) (length-take-le at s (omega arith)) in
    let r = drop (at + length bs) s in
    let e : over s at bs ≡ (take at s ++ bs) ++ r = sym (append_assoc (take at s) bs r) in
    let t : take (at + length bs) (over s at bs) ≡ take at s ++ bs = ap (take (at + length bs)) e ∙ take_at (take at s ++ bs) r (at + length bs) a in
    let d : drop (at + length bs) (over s at bs) ≡ r = ap (drop (at + length bs)) e ∙ drop_at (take at s ++ bs) r (at + length bs) a in
    let f : drop (at + length bs + length cs) (over s at bs) ≡ drop (at + length (bs ++ cs)) s =
    sym (drop-drop (length cs) (at + length bs) (over s at bs)) ∙ ap (drop (length cs)) d ∙ drop-drop (length cs) (at + length bs) s
    ∙ ap (λ (k : ℕ). drop k s) (let q : at + length bs + length cs ≡ at + length (bs ++ cs) = simp length-append (omega arith) in q) in
    ap₂ (λ (xs ys : List ℕ). xs ++ (cs ++ ys)) t f ∙ append_assoc (take at s) bs (cs ++ drop (at + length (bs ++ cs)) s)
    ∙ ap (λ (xs : List ℕ). take at s ++ xs) (sym (append_assoc bs cs (drop (at + length (bs ++ cs)) s)))

-- a stored byte is one byte put over
pub over-one : (s : List ℕ) (i b : ℕ) → i < length s → set s i b ≡ over s i (b ∷ [])
over-one s i b h = set_split s i b h ∙ ap (λ (k : ℕ). take i s ++ (b ∷ drop k s)) (sym (add-one i))

-- a byte stored right after them, as a loop does
pub over-next : (s : List ℕ) (at : ℕ) (bs : List ℕ) (i b : ℕ) → length bs ≡ i → at + i < length s → set (over s at bs) (at + i) b ≡ over s at (bs ++ (b ∷ []))
over-next s at bs i b e h =
    ap (λ (k : ℕ). set (over s at bs) (at + k) b) (sym e)
    ∙ over-one (over s at bs) (at + length bs) b (omega (arith, over-length s at bs (omega arith)))
    ∙ over-over s at bs (b ∷ []) (omega arith)

-- bytes put in the place of as many, as a write to a part of a slice does
pub over-mid : (s : List ℕ) (at k : ℕ) (bs : List ℕ) → length bs ≡ k → put_mid at k s bs ≡ over s at bs
over-mid s at k bs e =
    ap (λ (r : List ℕ). take at s ++ (bs ++ r)) (drop-drop k at s ∙ ap (λ (n : ℕ). drop (at + n) s) (sym e))

-- a part that lies within the store has the length asked for
pub part_length : (s : List ℕ) (from n : ℕ) → from + n ≤ length s → length (part s from n) ≡ n
part_length s from n h = length-take-le n (drop from s) (simp length-drop (omega arith))

-- where they stand, any of their parts stands
pub part-over :
    (s : List ℕ) (at : ℕ) (bs : List ℕ) (i n : ℕ) → at ≤ length s → i + n ≤ length bs → part (over s at bs) (at + i) n ≡ part bs i n
part-over s at bs i n h l =
    let a : length (take at s) ≡ at = length-take-le at s h in
    let r = drop (at + length bs) s in
    ap (take n) (sym (drop-drop i at (over s at bs)) ∙ ap (drop i) (drop_at (take at s) (bs ++ r) at a) ∙ drop-append-le i bs r (omega arith))
    ∙ take-append-le n (drop i bs) r (simp length-drop (omega arith))

-- parts of equal bytes are equal
pub part_same :
    (s t : List ℕ) (j k n : ℕ) → j + n ≤ length s → k + n ≤ length t → ((i : ℕ) → i < n → byte_at s (j + i) ≡ byte_at t (k + i)) → part s j n ≡ part t k n
part_same s t j k n a b f =
    let e : length (part s j n) ≡ n = part_length s j n a in
    ext_get_or 0 (part s j n) (part t k n) (e ∙ sym (part_length t k n b))
    (λ i l.
    let l : i < n = omega arith in
    get_or-take n (drop j s) i 0 l ∙ get_or-drop j s i 0 ∙ f i l ∙ sym (get_or-take n (drop k t) i 0 l ∙ get_or-drop k t i 0))
