-- The kinds of 01's table end at 1B: a kind above it is in no list of kinds and needs nothing. Assumes nothing.
use mathlib.Core.Path.{◌≡◌, refl, sym, ◌∙◌, ap₂}
use mathlib.Core.Logic.{⊎_elim}
use mathlib.Core.Bool.{Bool, true, false, ◌||◌, ◌&&◌}
use mathlib.Core.List.{List, [], ◌∷◌}
use Prim.Native.Nat.{ℕ, ◌≤◌, ◌<◌}
use native.Mathlib.Omega.{arith}
use borrow.Author.Tests.{ltb-true, ltb-false, ne_eqb}
use lib.Dec.{ltb}
use lib.ListN.{get_or, get_or-eq_default}
use Rattle.numbers.proofs.Table.{values, entry}
use Rattle.numbers.specs.declared.flow.Need.TheVariants.{None}
use Rattle.numbers.proofs.Bools.{and_left, and_right, either}
use Rattle.needs.specs.Needs.{one_of, need_of}

-- every one of ks is below n
abbrev pub all_under : ℕ → List ℕ → Bool
all_under n [] = true
all_under n (k ∷ ks) = ltb k n && all_under n ks

pub none_of : (ks : List ℕ) (n k : ℕ) → all_under n ks ≡ true → n ≤ k → one_of ks k ≡ false
none_of [] n k e h = refl
none_of (x ∷ ks) n k e h =
    let low : x < n = ltb-true x n (and_left (ltb x n) (all_under n ks) e) in
    ap₂ ◌||◌ (ne_eqb k x (λ q. omega arith)) (none_of ks n k (and_right (ltb x n) (all_under n ks) e) h)

pub unknown_needs_none : (k : ℕ) → 0x1C ≤ k → need_of k ≡ None
unfolding need_of
unknown_needs_none k h =
    rw (none_of _ 0x1C k refl h, none_of _ 0x1C k refl h, none_of _ 0x1C k refl h, none_of _ 0x1C k refl h)

-- the known kinds' values as a table, read at any kind, where each other kind's value is the default
pub in_table : {A : Type 0} (f : ℕ → A) (d : A) → ((k : ℕ) → 0x1C ≤ k → f k ≡ d) → (k : ℕ) → get_or (values f 0 0x1C) k d ≡ f k
in_table f d past k =
    ⊎_elim
    (λ e. entry f 0x1C k d (ltb-true k 0x1C e))
    (λ e. let h : 0x1C ≤ k = ltb-false k 0x1C e in get_or-eq_default (values f 0 0x1C) d h ∙ sym (past k h))
    (either (ltb k 0x1C))
