-- Kinds 0A to 11 keep the rules of the world. Assumes nothing.
use mathlib.Core.Path.{◌≡◌}
use mathlib.Core.Bool.{Bool, true, ◌&&◌}
use mathlib.Core.List.{List}
use Prim.Native.Nat.{ℕ, ◌<◌}
use native.Mathlib.Omega.{arith}
use borrow.Author.Tests.{ltb-true}
use lib.Dec.{ltb}
use Rattle.numbers.specs.Numbers.{most_threads}
use Rattle.numbers.specs.declared.labels.Label.{Label}
use Rattle.numbers.specs.Labels.{names_only_made}
use Rattle.numbers.proofs.Bools.{and_left, and_right, implies}
use Rattle.numbers.proofs.LabelLaws.{made-with}
use Rattle.tables.specs.Rows.{is_live}
use Rattle.tables.specs.Fields.{labels_made}
use Rattle.tables.specs.declared.rows.ThreadRow.{ThreadRow}
use Rattle.tables.specs.Things.{thread_at}
use Rattle.tables.proofs.Among.{live-among}
use Rattle.frames.specs.Requests.{thread_of}
use Rattle.frames.specs.declared.requests.ThreadRequest.{ThreadRequest}
use Rattle.frames.specs.declared.requests.Request.TheVariants.{OfThread}
use Rattle.sight.specs.Sight.{sight_of}
use Rattle.outcomes.specs.declared.Outcome.{Outcome}
use Rattle.thread_rules.specs.ThreadRules.{aside_made}
use Rattle.apply.specs.Apply.{with_thread, labelled}
use Rattle.decide.proofs.ThreadComes as comes
use Rattle.act.specs.World.{World, world_of, applied}
use Rattle.kept.proofs.ThreadsKept.{RowHolds, row-holds, thread-set, ended-holds, labelled-holds, forked-holds, called-holds, back-holds}
use Rattle.kept.proofs.LabelsKept.{without-made, labels-are}
use Rattle.assurance.proofs.Worlds.{WorldHolds, SizedWorld}

module _ (w : World) (holds : WorldHolds w) (sized : SizedWorld w) (f : List ℕ) (live : is_live (thread_at w.tables.threads (thread_of f).0).live ≡ true) where
  -- the caller's row
  abbrev own : ThreadRow
  own = thread_at w.tables.threads (thread_of f).0

  low : (thread_of f).0 < most_threads
  low = omega (arith, live-among w.tables.threads (thread_of f).0 live, sized.threads)

  own-holds : RowHolds w.tables.principals w.tables.tags own
  own-holds = row-holds holds.threads (thread_of f).0 low

  -- who runs is made, and so are its labels
  pub caller-made : own.principal.0 < w.tables.principals
  caller-made =
      ltb-true own.principal.0 w.tables.principals
      (and_left _ (labels_made w.tables.tags own.labels && aside_made w.tables.principals own.aside own.calls) (implies (is_live own.live) _ own-holds.made live))

  labels-made : labels_made w.tables.tags own.labels ≡ true
  labels-made =
      and_left (labels_made w.tables.tags own.labels) (aside_made w.tables.principals own.aside own.calls)
      (and_right (ltb own.principal.0 w.tables.principals) _ (implies (is_live own.live) _ own-holds.made live))

  both : (names_only_made own.labels.secrecy w.tables.tags ≡ true) × (names_only_made own.labels.integrity w.tables.tags ≡ true)
  both = (labels-are w.tables.tags own.labels).0 labels-made

  -- the world with thread k's row changed so
  abbrev with_row : ℕ → ThreadRow → World
  with_row k r = world_of (with_thread w.tables k r) w.links w.grants w.store

  row-changed : (k : ℕ) (r : ThreadRow) → RowHolds w.tables.principals w.tables.tags r → WorldHolds (with_row k r)
  row-changed k r h =
      record {
        links = holds.links;
        grants = holds.grants;
        two = holds.two;
        links-unused = holds.links-unused;
        grants-unused = holds.grants-unused;
        tags = holds.tags;
        threads = thread-set k holds.threads h;
        objects = holds.objects;
        whole = holds.whole;
        store = holds.store;
      }

  -- the labels change; both were made
  labels-changed : (S I : Label) → names_only_made S w.tables.tags ≡ true → names_only_made I w.tables.tags ≡ true → WorldHolds (with_row (thread_of f).0 (labelled own (record { secrecy = S; integrity = I })))
  labels-changed S I a b = row-changed (thread_of f).0 _ (labelled-holds own-holds live (record { secrecy = S; integrity = I }) ((labels-are w.tables.tags (record { secrecy = S; integrity = I })).1 (a, b)))

  pub thread-keeps : {allowed : Bool} {r : ThreadRequest} {o : Outcome} → comes.ThreadComes (sight_of w.tables (thread_of f) (OfThread r)) w.links allowed r o → WorldHolds (applied w f o)
  thread-keeps (comes.stops x) = holds
  thread-keeps (comes.into-secrecy {t} made) = labels-changed _ _ (made-with own.labels.secrecy t w.tables.tags (ltb-true t.0 w.tables.tags made) both.0) both.1
  thread-keeps (comes.is-out a) = holds
  thread-keeps (comes.out-of-secrecy {t} a b) = labels-changed _ _ (without-made w.tables.tags own.labels.secrecy t both.0) both.1
  thread-keeps (comes.is-in a) = holds
  thread-keeps (comes.into-integrity {t} made a b) = labels-changed _ _ both.0 (made-with own.labels.integrity t w.tables.tags (ltb-true t.0 w.tables.tags made) both.1)
  thread-keeps (comes.out-of-integrity {t}) = labels-changed _ _ both.0 (without-made w.tables.tags own.labels.integrity t both.1)
  thread-keeps (comes.forks {p} n made a b room) = row-changed _ _ (forked-holds own-holds live (ltb-true p.0 w.tables.principals made))
  thread-keeps comes.ends = row-changed _ _ ended-holds
  thread-keeps (comes.calls {p} made a room) = row-changed _ _ (called-holds own-holds live room (ltb-true p.0 w.tables.principals made))
  thread-keeps (comes.returns some) = row-changed _ _ (back-holds own-holds live some)
