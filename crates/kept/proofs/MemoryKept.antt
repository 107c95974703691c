-- The remembered answers obey their rules of 9 after a question, after being emptied, and when more is made; and what their truth
-- says of places. Assumes nothing.
use mathlib.Core.Path.{◌≡◌, refl, sym, ap, ◌∙◌}
use mathlib.Core.Bool.{Bool, true, false, ◌||◌}
use mathlib.Core.List.{List, [], ◌∷◌}
use mathlib.Core.Logic.{◌↔◌, ⊎_elim}
use Prim.Native.Nat.{ℕ, zero, suc, ◌/◌, ◌%◌, ◌≤◌, ◌<◌, min}
use native.Mathlib.Nat.{zero-add, not-suc-le-zero, lt_of_lt_of_le}
use native.Mathlib.Omega.{arith}
use borrow.Author.Tests.{eqb-true, eq-eqb}
use lib.Dec.{eqb}
use lib.ListN.{length, get_or, take, length-take, get_or-replicate}
use lib.Seq.{length-take-le, length_front}
use Rattle.numbers.specs.Numbers.{one_more, most_remembered, count_top}
use Rattle.numbers.proofs.Bools.{or_left, or_right, or-either, never, by-test}
use Rattle.numbers.proofs.Says.{ltb-is, and_is, not_is}
use Rattle.store.proofs.Over.{over-after}
use Rattle.memory.specs.declared.Memory.{Memory}
use Rattle.memory.specs.Remembered.{Asked, Fits, held_pairs, holds, without, remembered, emptied, counted, answered}
use Rattle.memory.specs.Truth.{among, distinct, Truthful}
use Rattle.memory.proofs.Asking.{counted-fits}
use Rattle.memory.proofs.MemoryLaws.{holds-is, holds-remembered, remembered-fits, remembered-distinct}
use Rattle.memory_rules.specs.MemoryRules.{pair_made}
use Rattle.memory_rules.proofs.RuleLaws.{MemoryHolds}
use Rattle.state.specs.Start.{empty_memory}

-- ---- the first places of a list

-- a number is among them exactly where it stands at one of them
among-is : (n : ℕ) (l : List ℕ) (x : ℕ) → n ≤ length l → (among (take n l) x ≡ true) ↔ ((i : ℕ) × (i < n) × (get_or l i 0 ≡ x))
unfolding among
among-is zero l x h = (λ e. absurd (never e refl), λ w. absurd (not-suc-le-zero w.1))
among-is (suc n) [] x h = absurd (not-suc-le-zero h)
among-is (suc n) (y ∷ l) x h =
    let rest = among-is n l x (omega arith) in (
      λ e.
          ⊎_elim
          (λ t. (0, omega arith, eqb-true y x t))
          (λ t. let w = rest.0 t in (suc w.0, omega (arith, w.1), w.2))
          (or-either (eqb y x) (among (take n l) x) e),
      λ w. some rest.1 w.0 w.1 w.2,
    )
  where
    some :
        ((i : ℕ) × (i < n) × (get_or l i 0 ≡ x) → among (take n l) x ≡ true)
        → (i : ℕ) → i < suc n → get_or (y ∷ l) i 0 ≡ x → (eqb y x || among (take n l) x) ≡ true
    some f zero k e = or_left (eqb y x) (among (take n l) x) (eq-eqb y x e)
    some f (suc i) k e = or_right (eqb y x) (among (take n l) x) (f (i, omega arith, e))

-- they are distinct exactly where no two of them are equal
distinct-is : (n : ℕ) (l : List ℕ) → n ≤ length l → (distinct (take n l) ≡ true) ↔ ((i j : ℕ) → i < j → j < n → get_or l i 0 ≡ get_or l j 0 → ⊥)
unfolding distinct
distinct-is zero l h = (λ e i j a b q. not-suc-le-zero b, λ f. refl)
distinct-is (suc n) [] h = absurd (not-suc-le-zero h)
distinct-is (suc n) (y ∷ l) h =
    let parts = and_is (not_is (among-is n l y (omega arith))) (distinct-is n l (omega arith)) in (
      λ e. let w = parts.0 e in apart w.0 w.1,
      λ f. parts.1 (λ w. f 0 (suc w.0) (omega arith) (omega (arith, w.1)) (sym w.2), λ i j a b q. f (suc i) (suc j) (omega arith) (omega arith) q),
    )
  where
    apart :
        ((i : ℕ) × (i < n) × (get_or l i 0 ≡ y) → ⊥) → ((i j : ℕ) → i < j → j < n → get_or l i 0 ≡ get_or l j 0 → ⊥)
        → (i j : ℕ) → i < j → j < suc n → get_or (y ∷ l) i 0 ≡ get_or (y ∷ l) j 0 → ⊥
    apart out f i zero a b q = not-suc-le-zero a
    apart out f zero (suc j) a b q = out (j, omega arith, sym q)
    apart out f (suc i) (suc j) a b q = f i j (omega arith) (omega arith) q

-- a list loses at most one by `without`
without-length : (x : ℕ) (l : List ℕ) → length l ≤ suc (length (without x l))
unfolding without
without-length x [] = omega arith
without-length x (y ∷ l) =
    by-test (λ (r : List ℕ). suc (length l) ≤ suc (length r)) (eqb y x) (λ e. omega arith) (λ e. omega (arith, without-length x l))

-- ---- truth

-- a memory is truthful exactly where the walk says yes at each of its places
pub truthful-is :
    {m : Memory} → Fits m → length m.pairs ≡ most_remembered → (walk : ℕ → Bool)
    → Truthful m walk ↔ ((i : ℕ) → i < m.held → walk (get_or m.pairs i 0) ≡ true)
truthful-is {m} fits whole walk = (
  λ w i h. let x = get_or m.pairs i 0 in w x (holds-is m x ∙ (at x).1 (i, h, refl)),
  λ f x e. let w = (at x).0 (sym (holds-is m x) ∙ e) in ap walk (sym w.2) ∙ f w.0 w.1,
)
  where
    at : (x : ℕ) → (among (held_pairs m) x ≡ true) ↔ ((i : ℕ) × (i < m.held) × (get_or m.pairs i 0 ≡ x))
    at x = among-is m.held m.pairs x (omega arith)

-- ---- more is made, or nothing is held

-- a memory that obeys its rules does so where more is made
pub memory-more :
    {m : Memory} {tags principals tags2 principals2 : ℕ} → MemoryHolds m tags principals → tags ≤ tags2 → principals ≤ principals2
    → MemoryHolds m tags2 principals2
memory-more {m} {tags} {principals} {tags2} {principals2} w h g = record {
  fits = w.fits;
  made =
      λ i k.
      let x = get_or m.pairs i 0 in
      let halves = (and_is (ltb-is (x / 256) principals) (ltb-is (x % 256) tags)).0 (w.made i k) in
      (and_is (ltb-is (x / 256) principals2) (ltb-is (x % 256) tags2)).1 (lt_of_lt_of_le halves.0 g, lt_of_lt_of_le halves.1 h);
  unused = w.unused;
  doubled = w.doubled;
  hits = w.hits;
}

-- where nothing is held, the rules ask only for the size and the counters
none-held : (m : Memory) {tags principals : ℕ} → m.size ≤ most_remembered → m.hits ≤ m.questions → MemoryHolds (emptied m) tags principals
none-held m small h = record {
  fits = record { within = omega arith; small = small };
  made = λ i k. absurd (not-suc-le-zero k);
  unused = λ i g k. get_or-replicate most_remembered i 0 0 k;
  doubled = λ i j g k q. not-suc-le-zero k;
  hits = h;
}

-- emptied, it obeys them
pub memory-emptied : {m : Memory} {tags principals : ℕ} → MemoryHolds m tags principals → MemoryHolds (emptied m) tags principals
memory-emptied {m} w = none-held m w.fits.small w.hits

-- and so does a new one
pub memory-fresh : (size : ℕ) {tags principals : ℕ} → size ≤ most_remembered → MemoryHolds (empty_memory size) tags principals
memory-fresh size h = none-held (empty_memory size) h (omega arith)

-- the array of an emptied one is whole
pub pairs-emptied : (m : Memory) → length (emptied m).pairs ≡ most_remembered
pairs-emptied m = refl

-- ---- a pair that goes to the front

module _ (m : Memory) (x : ℕ) (whole : length m.pairs ≡ most_remembered) where
  -- the pairs that are held then
  abbrev front : List ℕ
  front = take m.size (x ∷ without x (held_pairs m))

  -- they are as many as there is room for
  front_length : length front ≡ min m.size (suc (length (without x (held_pairs m))))
  front_length = length-take m.size (x ∷ without x (held_pairs m))

  -- the array stays whole
  remembered-whole : Fits m → length (remembered m x).pairs ≡ most_remembered
  unfolding remembered
  remembered-whole fits =
      length_front m.pairs front (length front) (sym (length-take-le (length front) m.pairs (omega (arith, front_length)))) ∙ whole

  -- no fewer pairs are held
  remembered-more : Fits m → m.held ≤ (remembered m x).held
  unfolding remembered
  remembered-more fits =
      let n : length (held_pairs m) ≡ m.held = length-take-le m.held m.pairs (omega arith) in
      omega (arith, front_length, without-length x (held_pairs m))

  -- and what follows them is as it was
  remembered-after : (i : ℕ) → (remembered m x).held ≤ i → get_or (remembered m x).pairs i 0 ≡ get_or m.pairs i 0
  unfolding remembered
  remembered-after i h = simp zero-add at (over-after m.pairs 0 front i (omega arith) (omega arith))

  -- so all rules hold
  remembered-holds : {tags principals : ℕ} → MemoryHolds m tags principals → pair_made tags principals x ≡ true → MemoryHolds (remembered m x) tags principals
  unfolding remembered
  remembered-holds {tags} {principals} w ok =
      let fits = remembered-fits m x w.fits in
      let whole2 = remembered-whole w.fits in
      let made = (truthful-is w.fits whole (pair_made tags principals)).1 w.made in
      record {
        fits = fits;
        made =
            (truthful-is fits whole2 (pair_made tags principals)).0
            (λ y e. ⊎_elim (λ q. ap (pair_made tags principals) (sym q) ∙ ok) (made y) (holds-remembered m x y e));
        unused = λ i h k. remembered-after i h ∙ w.unused i (omega (arith, remembered-more w.fits)) k;
        doubled =
            (distinct-is (remembered m x).held (remembered m x).pairs (omega arith)).0
            (remembered-distinct m x ((distinct-is m.held m.pairs (omega arith)).1 w.doubled));
        hits = w.hits;
      }

-- ---- a question

-- a question counts, and may bring its pair to the front: what both keep, it keeps
by_answer :
    (P : Memory → Type 0) (m : Memory) (x : ℕ) (walk : Bool) → ((held : Bool) → P (counted m held)) → ((c : Memory) → P c → P (remembered c x))
    → P (answered m x walk).memory
by_answer P m x walk f g =
    let Q : Asked → Type 0 = λ a. P a.memory in
    by-test Q (holds m x) (λ e. g (counted m true) (f true)) (λ e. by-test Q walk (λ d. g (counted m false) (f false)) (λ d. f false))

-- the size stays
pub size-answered : (m : Memory) (x : ℕ) (walk : Bool) → (answered m x walk).memory.size ≡ m.size
unfolding remembered
size-answered m x walk = by_answer (λ (c : Memory). c.size ≡ m.size) m x walk (λ held. refl) (λ c e. e)

-- the array stays whole
pub pairs-answered :
    {m : Memory} → length m.pairs ≡ most_remembered → Fits m → (x : ℕ) (walk : Bool) → length (answered m x walk).memory.pairs ≡ most_remembered
pairs-answered {m} whole fits x walk =
    (by_answer (λ (c : Memory). (length c.pairs ≡ most_remembered) × Fits c) m x walk
    (λ held. (whole, counted-fits m held fits))
    (λ c w. (remembered-whole c x w.0 w.1, remembered-fits c x w.1))).0

-- the count of hits stays one that 32 bits hold
pub hits-answered : (m : Memory) → m.hits ≤ count_top → (x : ℕ) (walk : Bool) → (answered m x walk).memory.hits ≤ count_top
unfolding remembered
hits-answered m low x walk =
    by_answer (λ (c : Memory). c.hits ≤ count_top) m x walk
    (λ held. by-test (λ (k : ℕ). k ≤ count_top) held (λ e. omega arith) (λ e. low))
    (λ c h. h)

-- counting keeps the rules; of a hit count over what 32 bits hold it would not, since the questions stop there
counted-holds : {m : Memory} {tags principals : ℕ} → MemoryHolds m tags principals → m.hits ≤ count_top → (held : Bool) → MemoryHolds (counted m held) tags principals
counted-holds {m} w low held = record {
  fits = counted-fits m held w.fits;
  made = w.made;
  unused = w.unused;
  doubled = w.doubled;
  hits = let h = w.hits in by-test (λ (k : ℕ). k ≤ one_more m.questions) held (λ e. omega arith) (λ e. omega arith);
}

-- a question about a pair of made numbers keeps the rules
pub memory-answered :
    {m : Memory} {tags principals : ℕ} → MemoryHolds m tags principals → length m.pairs ≡ most_remembered → m.hits ≤ count_top → (x : ℕ)
    → pair_made tags principals x ≡ true → (walk : Bool) → MemoryHolds (answered m x walk).memory tags principals
memory-answered {m} {tags} {principals} w whole low x ok walk =
    (by_answer (λ (c : Memory). MemoryHolds c tags principals × (length c.pairs ≡ most_remembered)) m x walk
    (λ held. (counted-holds w low held, whole))
    (λ c v. (remembered-holds c x v.1 v.0 ok, remembered-whole c x v.1 v.0.fits))).0
