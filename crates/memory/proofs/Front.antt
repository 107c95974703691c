-- A pair that goes to the front: what `remembered` gives where it was held, where there is room, and where the last one falls off.
-- Assumes nothing.
use mathlib.Core.Path.{◌≡◌, refl, sym, ap, ap₂, subst, ◌∙◌}
use mathlib.Core.Bool.{Bool, cond}
use mathlib.Core.List.{List, [], ◌∷◌, ◌++◌, append_assoc}
use mathlib.Core.Logic.{⊎_elim}
use Prim.Native.Nat.{ℕ, suc, ◌+◌, ◌-◌, ◌≤◌, ◌<◌}
use native.Mathlib.Nat.{add-zero, add-suc, suc-add, zero-add}
use native.Mathlib.Numerals.{add-one}
use native.Mathlib.Omega.{arith}
use lib.Dec.{eqb}
use lib.ListN.{length, take, drop, length-append, length-drop, take-append-drop}
use lib.Seq.{length-take-le, take_all, take-take, drop-append-le}
use Rattle.numbers.proofs.Bools.{either}
use Rattle.std.specs.Prelude.{Some, None}
use Rattle.links.specs.Links.{find_from, find_in}
use Rattle.memory.specs.declared.Memory.{Memory}
use Rattle.memory.specs.Remembered.{held_pairs, without, remembered, slid}

-- ---- a pair that is found, and one that is not

record Place (i : ℕ) (l : List ℕ) (x k : ℕ) : Type 0 where
  back : ℕ
  at : k ≡ i + back
  in_list : back < length l
  rest : without x l ≡ take back l ++ drop (suc back) l

found_from : (i : ℕ) (l : List ℕ) (x k : ℕ) → find_from i l x ≡ Some k → Place i l x k
unfolding find_from without
found_from i [] x k e = absurd (let z : ◌≡◌ {A = ℕ} 0 1 = cc in omega arith)
found_from i (y ∷ l) x k e =
    ⊎_elim
    (λ t.
    let here : Some i ≡ Some k = sym (ap (λ (b : Bool). cond b (Some i) (find_from (suc i) l x)) t) ∙ e in
    let place : i ≡ k = cc in
    record { back = 0; at = sym place ∙ sym (add-zero i); in_list = omega arith; rest = ap (λ (b : Bool). cond b l (y ∷ without x l)) t })
    (λ t.
    let w = found_from (suc i) l x k (sym (ap (λ (b : Bool). cond b (Some i) (find_from (suc i) l x)) t) ∙ e) in
    record {
      back = suc w.back;
      at = w.at ∙ suc-add i w.back ∙ sym (add-suc i w.back);
      in_list = omega (arith, w.in_list);
      rest = ap (λ (b : Bool). cond b l (y ∷ without x l)) t ∙ ap (λ (r : List ℕ). y ∷ r) w.rest;
    })
    (either (eqb y x))

-- x stands at k of l, and the rest is what stands before and after it
pub found_at : (l : List ℕ) (x k : ℕ) → find_in l x ≡ Some k → (k < length l) × (without x l ≡ take k l ++ drop (suc k) l)
found_at l x k e =
    let w = found_from 0 l x k e in
    let same : w.back ≡ k = sym (w.at ∙ zero-add w.back) in
    (subst (λ (j : ℕ). j < length l) same w.in_list, subst (λ (j : ℕ). without x l ≡ take j l ++ drop (suc j) l) same w.rest)

found_none : (i : ℕ) (l : List ℕ) (x : ℕ) → find_from i l x ≡ None → without x l ≡ l
unfolding find_from without
found_none i [] x e = refl
found_none i (y ∷ l) x e =
    ⊎_elim
    (λ t. let clash : Some i ≡ None = sym (ap (λ (b : Bool). cond b (Some i) (find_from (suc i) l x)) t) ∙ e in absurd (let z : ◌≡◌ {A = ℕ} 0 1 = cc in omega arith))
    (λ t.
    ap (λ (b : Bool). cond b l (y ∷ without x l)) t
    ∙ ap (λ (r : List ℕ). y ∷ r) (found_none (suc i) l x (sym (ap (λ (b : Bool). cond b (Some i) (find_from (suc i) l x)) t) ∙ e)))
    (either (eqb y x))

-- ---- the four cases

-- so many pairs are held, the first k of the old ones after x
abbrev pub with_front : Memory → ℕ → ℕ → ℕ → Memory
with_front m held k x = record { size = m.size; held = held; pairs = slid k x m.pairs; questions = m.questions; hits = m.hits }

module _ (m : Memory) (x : ℕ) (within : m.held ≤ m.size) (fits : m.size ≤ length m.pairs) where
  abbrev held : List ℕ
  held = held_pairs m

  size : length held ≡ m.held
  size = length-take-le m.held m.pairs (omega arith)

  -- what is held at last is l
  front : (l p : List ℕ) (n : ℕ) → take m.size (x ∷ without x held) ≡ l → length l ≡ n → p ≡ l ++ drop n m.pairs →
      ◌≡◌ {A = Memory} (record { size = m.size; held = n; pairs = p; questions = m.questions; hits = m.hits }) (remembered m x)
  unfolding remembered
  front l p n w e f = rw (w, e, f)

  -- x was held at k
  pub moved : (k : ℕ) → find_in held x ≡ Some k → with_front m m.held k x ≡ remembered m x
  moved k e =
      let place = found_at held x k e in
      let l = x ∷ (take k held ++ drop (suc k) held) in
      let n : length l ≡ m.held =
      ap suc
      (length-append (take k held) (drop (suc k) held)
      ∙ ap₂ (λ (a b : ℕ). a + b) (length-take-le k held (omega (arith, place.0))) (length-drop (suc k) held))
      ∙ omega (arith, size, place.0) in
      front l (slid k x m.pairs) m.held
      (ap (λ (r : List ℕ). take m.size (x ∷ r)) place.1 ∙ take_all m.size l (omega (arith, n))) n
      (ap (λ (r : List ℕ). x ∷ r)
      (ap₂ (λ (a b : List ℕ). a ++ b) (sym (take-take k m.held m.pairs (omega (arith, size, place.0))))
      (ap (drop (suc k)) (sym (take-append-drop m.held m.pairs)) ∙ drop-append-le (suc k) held (drop m.held m.pairs) (omega (arith, place.0)))
      ∙ sym (append_assoc (take k held) (drop (suc k) held) (drop m.held m.pairs))))

  module _ (none : find_in held x ≡ None) where
    -- there is room
    pub added : m.held < m.size → with_front m (m.held + 1) m.held x ≡ remembered m x
    added h =
        front (x ∷ held) (slid m.held x m.pairs) (m.held + 1)
        (ap (λ (r : List ℕ). take m.size (x ∷ r)) (found_none 0 held x none) ∙ take_all m.size (x ∷ held) (omega (arith, size)))
        (ap suc size ∙ sym (add-one m.held))
        (ap (λ (j : ℕ). x ∷ (held ++ drop j m.pairs)) (sym (add-one m.held)))

    -- there is none, and the last one falls off
    pub pushed : m.size ≤ m.held → 1 ≤ m.held → with_front m m.held (m.held - 1) x ≡ remembered m x
    pushed h g =
        let j = m.held - 1 in
        let one : suc j ≡ m.held = omega arith in
        let full : m.size ≡ suc j = omega arith in
        let l = x ∷ take j m.pairs in
        front l (slid j x m.pairs) m.held
        (ap (λ (r : List ℕ). take m.size (x ∷ r)) (found_none 0 held x none)
        ∙ ap (λ (k : ℕ). take k (x ∷ held)) full
        ∙ ap (λ (r : List ℕ). x ∷ r) (take-take j m.held m.pairs (omega arith)))
        (ap suc (length-take-le j m.pairs (omega arith)) ∙ one)
        (ap (λ (k : ℕ). x ∷ (take j m.pairs ++ drop k m.pairs)) one)

  -- nothing can be held
  pub nothing : m.size ≤ m.held → m.held < 1 → m ≡ remembered m x
  nothing h g =
      let none : m.size ≡ 0 = omega arith in
      let empty : m.held ≡ 0 = omega arith in
      front [] m.pairs m.held (ap (λ (k : ℕ). take k (x ∷ without x held)) none) (sym empty) (ap (λ (k : ℕ). drop k m.pairs) (sym empty))
