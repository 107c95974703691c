-- What is known of the world after each change that a request makes to it, where its answer says so. Assumes nothing.
use mathlib.Core.Path.{◌≡◌, subst}
use mathlib.Core.Bool.{true}
use mathlib.Core.List.{List}
use Prim.Native.Nat.{ℕ, ◌<◌}
use lib.ListN.{length}
use Rattle.numbers.specs.declared.Tag.{Tag}
use Rattle.numbers.specs.declared.flow.LabelPair.{LabelPair}
use Rattle.links.specs.Paths.{Link}
use Rattle.tables.specs.Rows.{is_live}
use Rattle.tables.specs.declared.Tables.{Tables}
use Rattle.tables.specs.declared.rows.ThreadRow.{ThreadRow}
use Rattle.tables.specs.declared.rows.TagRow.{TagRow}
use Rattle.tables.specs.declared.rows.ObjectRow.{ObjectRow}
use Rattle.tables.specs.Things.{thread_at}
use Rattle.apply.specs.Apply.{with_tag, with_thread, labelled}
use Rattle.act.specs.World.{World, world_of, with_counts}
use Rattle.kept.proofs.LinksKept.{of_tag}
use Rattle.assurance.specs.Leaves.{Known, Made, changed, with_links, with_grants, with_tag_made, with_runs}
use Rattle.assurance.proofs.LeafLists.{Same}
use Rattle.assurance.proofs.Knows.{made_by, Ran, Knows, by_number, changed-own, changed-other, tags-known, runs-known, runs-stay}

module _ {k : Known} {w : World} (knows : Knows k w) where
  abbrev t : Tables
  t = w.tables

  abbrev with_objects : List ObjectRow → Tables
  with_objects o = record { principals = t.principals; links = t.links; tags = t.tags; grants = t.grants; threads = t.threads; kinds = t.kinds; objects = o }

  -- of objects and messages nothing is known
  pub elsewhere : (o : List ObjectRow) (s : List ℕ) → Knows k (world_of (with_objects o) w.links w.grants s)
  elsewhere o s = record { links = knows.links; grants = knows.grants; tags = knows.tags; runs = knows.runs }

  abbrev with_principals : ℕ → ℕ → Tables
  with_principals p n = record { principals = p; links = n; tags = t.tags; grants = t.grants; threads = t.threads; kinds = t.kinds; objects = t.objects }

  -- other principal links, and maybe a principal more
  pub links-learnt :
      (p : ℕ) (ls : List Link) (l : List ℕ) (n : ℕ) → Same ls (of_tag l n 0) →
      Knows (with_links k 0 0 ls) (world_of (with_principals p n) l w.grants w.store)
  links-learnt p ls l n same = record { links = same; grants = knows.grants; tags = knows.tags; runs = knows.runs }

  -- other links of one tag
  pub grants-learnt :
      (u : Tag) (gs : List Link) (g : List ℕ) (n : ℕ) → Same gs (of_tag g n u.0) →
      ((v : ℕ) → (v ≡ u.0 → ⊥) → of_tag w.grants t.grants v ≡ of_tag g n v) →
      Knows (with_grants k 0 0 u gs) (world_of (with_counts t t.links n) w.links g w.store)
  grants-learnt u gs g n same stay =
      record {
        links = knows.links;
        grants =
            by_number (λ v. Same (changed k.grants u.0 gs v) (of_tag g n v)) u.0 (rw (changed-own k.grants u.0 gs) same)
            (λ v apart. rw (changed-other k.grants u.0 gs v apart) (subst (λ (ls : List Link). Same (k.grants v) ls) (stay v apart) (knows.grants v)));
        tags = knows.tags;
        runs = knows.runs;
      }

  -- a tag more
  pub tag-learnt :
      (r : TagRow) (m : Made) → m ≡ made_by r → t.tags < length t.kinds →
      Knows (with_tag_made k 0 t.tags m) (world_of (with_tag t r) w.links w.grants w.store)
  tag-learnt r m e room =
      record {
        links = knows.links;
        grants = knows.grants;
        tags = rw e (tags-known k.tags t.tags t.kinds r room knows.tags);
        runs = knows.runs;
      }

  module _ (n : ℕ) (room : n < length t.threads) where
    -- another row of thread n, and what is known of it
    pub row-learnt :
        (r : ThreadRow) (l : List ℕ) → (is_live r.live ≡ true → Ran l r) →
        Knows (with_runs k 0 0 n l) (world_of (with_thread t n r) w.links w.grants w.store)
    row-learnt r l ran =
        record {
          links = knows.links;
          grants = knows.grants;
          tags = knows.tags;
          runs = runs-known k.runs t.threads n r room knows.runs l ran;
        }

    -- its labels alone
    pub labels-learnt : (l : LabelPair) → Knows k (world_of (with_thread t n (labelled (thread_at t.threads n) l)) w.links w.grants w.store)
    labels-learnt l =
        record {
          links = knows.links;
          grants = knows.grants;
          tags = knows.tags;
          runs = runs-stay k.runs t.threads n (labelled (thread_at t.threads n) l) room knows.runs
              (λ live. record { list = (knows.runs n live).list; places = (knows.runs n live).places });
        }
