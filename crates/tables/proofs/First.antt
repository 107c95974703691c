-- What the lowest number is that is found from the front: its row is the one sought, and none before it is; and where there is no number,
-- no row is. Assumes nothing.
use mathlib.Core.Path.{◌≡◌, subst}
use mathlib.Core.Bool.{Bool, true, false, cond}
use mathlib.Core.List.{List}
use mathlib.Core.Logic.{⊎_elim}
use Prim.Native.Nat.{ℕ, ◌<◌, ◌≤◌}
use native.Mathlib.Omega.{arith}
use borrow.Author.Tests.{ltb-false}
use lib.Dec.{ltb}
use lib.ListN.{length, get_or}
use Rattle.std.specs.List.{position, position_or_len}
use Rattle.std.proofs.Common.{Some, None}
use Rattle.std.proofs.lemmas.List.Quantifiers.{position-Some}
use Rattle.std.proofs.lemmas.List.Sums.{fails_before_first}
use Rattle.numbers.proofs.Bools.{either}

module _ (A : Type 0) (f : A → Bool) (d : A) (l : List A) where
  -- it is among the rows
  pub first-lt : (n : ℕ) → position f l ≡ Some n → n < length l
  first-lt n e = (position-Some f l n d e).0

  -- it is a free one
  pub first-is : (n : ℕ) → position f l ≡ Some n → f (get_or l n d) ≡ true
  first-is n e = (position-Some f l n d e).1

  -- and none before it is
  pub before-not : (n : ℕ) → position f l ≡ Some n → (j : ℕ) → j < n → f (get_or l j d) ≡ false
  before-not n e = (position-Some f l n d e).2

  -- where there is no number, none of the rows is
  pub none-is : position f l ≡ None → (j : ℕ) → j < length l → f (get_or l j d) ≡ false
  none-is e j h =
      let n = position_or_len f l in
      ⊎_elim
      (λ q. absurd (let w = subst (λ (b : Bool). cond b (Some n) None ≡ None) q e in cc))
      (λ q. let past : length l ≤ n = ltb-false n (length l) q in fails_before_first f l j d (omega arith))
      (either (ltb n (length l)))
