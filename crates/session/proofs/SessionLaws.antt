-- Feeding a list in pieces is feeding it whole, and one byte more of a list. Assumes nothing.
use mathlib.Core.Path.{◌≡◌, refl, sym, ap, ◌∙◌}
use mathlib.Core.List.{List, [], ◌∷◌, ◌++◌, append_assoc, append-nil}
use mathlib.Core.Logic.{◌⊎◌, inl, inr}
use Prim.Native.Nat.{ℕ, suc, ◌+◌, ◌-◌, ◌≤◌, ◌<◌}
use native.Mathlib.Numerals.{add-one}
use native.Mathlib.Omega.{arith}
use borrow.Author.Tests.{lt-ltb, le-ltb}
use lib.Dec.{ltb}
use lib.ListN.{length, take, drop, get_or, drop_of_length-le}
use lib.Seq.{take-suc, drop-cons}
use Rattle.numbers.proofs.Bools.{by-test}
use Rattle.numbers.proofs.Chain.{skip, hit}
use Rattle.session.specs.Session.{Carried, takes, says, after, output}
use Rattle.session.specs.Run.{answer_room, readable}

-- ---- the promise that a list may be fed in pieces: what two pieces leave, one after the other, the whole leaves ..

pub after-append : (z : Carried) (x y : List ℕ) → after z (x ++ y) ≡ after (after z x) y
unfolding after
after-append z [] y = refl
after-append z (b ∷ x) y = after-append (takes z b) x y

-- .. and what is printed for the two is printed for the whole
pub output-append : (z : Carried) (x y : List ℕ) → output z (x ++ y) ≡ output z x ++ output (after z x) y
unfolding after output
output-append z [] y = refl
output-append z (b ∷ x) y =
    ap (λ (l : List ℕ). says z b ++ l) (output-append (takes z b) x y) ∙ sym (append_assoc (says z b) (output (takes z b) x) (output (after (takes z b) x) y))

-- ---- one byte

-- what it leaves, and what is printed for it
after_one : (z : Carried) (b : ℕ) → after z (b ∷ []) ≡ takes z b
unfolding after
after_one z b = refl

output-one : (z : Carried) (b : ℕ) → output z (b ∷ []) ≡ says z b
unfolding output
output-one z b = append-nil (says z b)

-- the byte at i is the next one
next : (l : List ℕ) (i : ℕ) → i < length l → take (i + 1) l ≡ take i l ++ (get_or l i 0 ∷ [])
next l i h = ap (λ (k : ℕ). take k l) (add-one i) ∙ take-suc l i 0 h

-- what one byte more of a list leaves
pub after_next : (z : Carried) (l : List ℕ) (i : ℕ) → i < length l → after z (take (i + 1) l) ≡ takes (after z (take i l)) (get_or l i 0)
after_next z l i h = ap (after z) (next l i h) ∙ after-append z (take i l) (get_or l i 0 ∷ []) ∙ after_one (after z (take i l)) (get_or l i 0)

-- and what is printed for it
pub output-next :
    (z : Carried) (l : List ℕ) (i : ℕ) → i < length l → output z (take (i + 1) l) ≡ output z (take i l) ++ says (after z (take i l)) (get_or l i 0)
output-next z l i h =
    ap (output z) (next l i h) ∙ output-append z (take i l) (get_or l i 0 ∷ [])
    ∙ ap (λ (x : List ℕ). output z (take i l) ++ x) (output-one (after z (take i l)) (get_or l i 0))

-- ---- how many bytes are taken

-- none of no bytes
readable-none : (z : Carried) (room : ℕ) → readable z [] room ≡ 0
unfolding readable
readable-none z room = refl

-- one, where there is room, and those after it
readable-first :
    (z : Carried) (b : ℕ) (bs : List ℕ) (room : ℕ) → answer_room ≤ room
    → readable z (b ∷ bs) room ≡ suc (readable (takes z b) bs (room - length (says z b)))
unfolding readable
readable-first z b bs room h = sym (skip 0 (le-ltb room answer_room h) refl)

-- none where there is no room
pub readable-full : (z : Carried) (l : List ℕ) (room : ℕ) → room < answer_room → readable z l room ≡ 0
unfolding readable
readable-full z [] room h = refl
readable-full z (b ∷ bs) room h = sym (hit _ (lt-ltb room answer_room h) refl)

-- none where the list has ended
pub readable-end : (z : Carried) (l : List ℕ) (i room : ℕ) → length l ≤ i → readable z (drop i l) room ≡ 0
readable-end z l i room h = ap (λ (x : List ℕ). readable z x room) (drop_of_length-le l h) ∙ readable-none z room

-- the byte at i, and those after it
pub readable-next :
    (z : Carried) (l : List ℕ) (i room : ℕ) → i < length l → answer_room ≤ room
    → readable z (drop i l) room ≡ suc (readable (takes z (get_or l i 0)) (drop (i + 1) l) (room - length (says z (get_or l i 0))))
readable-next z l i room h k =
    let b = get_or l i 0 in
    ap (λ (x : List ℕ). readable z x room) (drop-cons l i 0 h) ∙ readable-first z b (drop (suc i) l) room k
    ∙ ap (λ (n : ℕ). suc (readable (takes z b) (drop n l) (room - length (says z b)))) (sym (add-one i))

-- no more than there are
pub readable-within : (z : Carried) (l : List ℕ) (room : ℕ) → readable z l room ≤ length l
unfolding readable
readable-within z [] room = omega arith
readable-within z (b ∷ bs) room =
    by-test (λ (n : ℕ). n ≤ suc (length bs)) (ltb room answer_room) (λ e. omega arith)
    (λ e. omega (arith, readable-within (takes z b) bs (room - length (says z b))))

-- and something, where there is room for an answer
pub readable-some : (z : Carried) (l : List ℕ) (room : ℕ) → answer_room ≤ room → (length l ≡ 0) ⊎ (0 < readable z l room)
readable-some z [] room h = inl refl
readable-some z (b ∷ bs) room h = inr (omega (arith, readable-first z b bs room h))
