-- What is read of the tables row by row is what a request sees. Assumes nothing.
use mathlib.Core.Path.{◌≡◌, refl, ap₂}
use mathlib.Core.List.{List, [], ◌∷◌}
use Prim.Native.Nat.{ℕ, zero, suc}
use lib.ListN.{get_or}
use Rattle.numbers.specs.declared.Thread.{Thread}
use Rattle.tables.specs.declared.Tables.{Tables}
use Rattle.tables.specs.declared.rows.ThreadRow.{ThreadRow}
use Rattle.tables.specs.Rows.{rank_of}
use Rattle.tables.specs.Things.{no_thread, thread_at, tag_at, object_at, supertag_of}
use Rattle.tables.proofs.Lineages.{lineage-read}
use Rattle.lent.specs.Lent.{counts_of}
use Rattle.frames.specs.declared.requests.Request.{Request}
use Rattle.links.specs.declared.authority.Lineage.{Lineage}
use Rattle.sight.specs.declared.Caller.{Caller}
use Rattle.sight.specs.declared.Sight.{Sight}
use Rattle.sight.specs.Sight.{tag_named, object_named, caller_in, free_for, sight_of, seen_in}

-- a thread past the last is seen as one that is not live, however its row is filled
caller-read : (rows : List ThreadRow) (n : ℕ) → caller_in (get_or rows n no_thread) ≡ caller_in (thread_at rows n)
caller-read [] n = refl
caller-read (x ∷ rows) zero = refl
caller-read (x ∷ rows) (suc n) = caller-read rows n

module _ (t : Tables) (n : Thread) (r : Request) where
  -- the sight with this caller and this lineage
  abbrev with : Caller → Lineage → Sight
  with c x =
      record {
        caller = c;
        principals = t.principals;
        tags = t.tags;
        links = t.links;
        grants = t.grants;
        lineage = x;
        object = object_at t.objects (object_named r).0;
        free = free_for t r;
      }

  pub sight-read :
      seen_in r (get_or t.threads n.0 no_thread) (tag_at t.kinds (tag_named r).0) (tag_at t.kinds (supertag_of (rank_of (tag_at t.kinds (tag_named r).0)))) (object_at t.objects (object_named r).0) (counts_of t) (free_for t r)
      ≡ sight_of t n r
  sight-read = ap₂ with (caller-read t.threads n.0) (lineage-read t.kinds (tag_named r) refl refl refl)
