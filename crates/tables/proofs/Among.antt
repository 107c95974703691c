-- A live thread and an object in use have a row: past the last there are rows of nothing. Assumes nothing.
use mathlib.Core.Path.{◌≡◌, refl, ap, ◌∙◌}
use mathlib.Core.Bool.{Bool, true, false, not}
use mathlib.Core.List.{List}
use mathlib.Core.Logic.{⊎_elim}
use Prim.Native.Nat.{ℕ, ◌<◌}
use borrow.Author.Tests.{ltb-true, ltb-false}
use lib.Dec.{ltb}
use lib.ListN.{length, get_or, get_or-eq_default}
use Rattle.numbers.proofs.Bools.{either, never}
use Rattle.tables.specs.declared.rows.ThreadRow.{ThreadRow}
use Rattle.tables.specs.declared.rows.ObjectRow.{ObjectRow}
use Rattle.tables.specs.declared.rows.What.{What}
use Rattle.tables.specs.Things.{past_thread, no_object, thread_at, object_at}
use Rattle.tables.specs.Rows.{is_live, is_free, what_of}
use Rattle.tables.proofs.Said.{no-object-says}

-- a test that fails past the last row holds of a row
among : {A : Type 0} (f : A → Bool) (rows : List A) (d : A) (n : ℕ) → f d ≡ false → f (get_or rows n d) ≡ true → n < length rows
among f rows d n past e =
    ⊎_elim (ltb-true n (length rows))
    (λ h. absurd (never e (ap f (get_or-eq_default rows d {n = n} (ltb-false n (length rows) h)) ∙ past)))
    (either (ltb n (length rows)))

pub live-among : (rows : List ThreadRow) (n : ℕ) → is_live (thread_at rows n).live ≡ true → n < length rows
live-among rows n e = among (λ (r : ThreadRow). is_live r.live) rows past_thread n refl e

pub used-among : (rows : List ObjectRow) (o : ℕ) → is_free (what_of (object_at rows o)) ≡ false → o < length rows
used-among rows o e = among (λ (r : ObjectRow). not (is_free (what_of r))) rows no_object o (ap (λ (w : What). not (is_free w)) no-object-says) (ap not e)
