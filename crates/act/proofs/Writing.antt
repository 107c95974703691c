-- What a request writes into a state leaves the state that the step is defined to leave; and what it comes to has room for the row
-- that was read of its thread. Assumes nothing.
use mathlib.Core.Path.{◌≡◌, refl, ap}
use Prim.Native.Nat.{ℕ, ◌<◌}
use lib.ListN.{set}
use Rattle.numbers.specs.Numbers.{most_threads}
use Rattle.tables.specs.declared.Tables.{Tables}
use Rattle.tables.specs.declared.rows.ThreadRow.{ThreadRow}
use Rattle.tables.specs.Things.{thread_at}
use Rattle.lent.specs.declared.Counts.{Counts}
use Rattle.outcomes.specs.declared.RowChange.{RowChange}
use Rattle.outcomes.specs.declared.RowChange.TheVariants as rows
use Rattle.apply.specs.Apply.{labelled, forked, called, back_from, apply_rows, RowFits}
use Rattle.apply.specs.Writes.{written, row_writes}
use Rattle.act.specs.World.{with_counts}

-- the tables t, of which a caller with number n has read its own row
module _ (t : Tables) (n : ℕ) (own : ThreadRow) (read : n < most_threads → own ≡ thread_at t.threads n) where
  abbrev at_caller : Counts → ThreadRow → Tables
  at_caller c r =
      record { principals = c.principals; links = c.links; tags = c.tags; grants = c.grants; threads = set t.threads n r; kinds = t.kinds; objects = t.objects }

  -- ---- all that a change writes, where a and b links are in use then

  module _ (a b : ℕ) where
    abbrev counts : Counts
    counts = record { principals = t.principals; links = a; tags = t.tags; grants = b }

    pub all-written :
        (c : RowChange) → RowFits t.principals t.tags n (thread_at t.threads n) c → written t (row_writes n own counts c) ≡ with_counts (apply_rows t n c) a b
    all-written rows.Keep fits = refl
    all-written rows.NewPrincipal fits = refl
    all-written (rows.NewTag r) fits = refl
    all-written (rows.Labels l) fits = ap (λ (r : ThreadRow). at_caller counts (labelled r l)) (read fits)
    all-written (rows.NewThread k p) fits = ap (λ (r : ThreadRow). record { principals = t.principals; links = a; tags = t.tags; grants = b; threads = set t.threads k (forked r p); kinds = t.kinds; objects = t.objects }) (read fits.1)
    all-written rows.End fits = refl
    all-written (rows.Call p) fits = ap (λ (r : ThreadRow). at_caller counts (called r p)) (read fits.0)
    all-written rows.Return fits = ap (λ (r : ThreadRow). at_caller counts (back_from r)) (read fits.0)
    all-written (rows.Object o r) fits = refl

  -- ---- there is room for the row that was read as there is for its own

  pub read_fits : (c : RowChange) → RowFits t.principals t.tags n (thread_at t.threads n) c → RowFits t.principals t.tags n own c
  read_fits rows.Keep fits = tt
  read_fits rows.NewPrincipal fits = fits
  read_fits (rows.NewTag r) fits = fits
  read_fits (rows.Labels l) fits = fits
  read_fits (rows.NewThread k p) fits = fits
  read_fits rows.End fits = fits
  read_fits (rows.Call p) fits = rw (read fits.0) fits
  read_fits rows.Return fits = rw (read fits.0) fits
  read_fits (rows.Object o r) fits = fits
