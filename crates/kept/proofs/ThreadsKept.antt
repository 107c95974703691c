-- The rows of threads that obey their rules of 9 still do after each change that a request makes to them, and when more principals
-- or tags are made. Assumes nothing.
use mathlib.Core.Path.{◌≡◌, refl}
use mathlib.Core.Bool.{Bool, true, not, ◌||◌}
use mathlib.Core.List.{List}
use mathlib.Core.Logic.{◌↔◌}
use Prim.Native.Nat.{ℕ, ◌-◌, ◌≤◌, ◌<◌}
use native.Mathlib.Omega.{arith}
use lib.ListN.{set, get_or-replicate}
use lib.Seq.{get_or-set_other}
use Rattle.numbers.specs.Below.{all_below}
use Rattle.numbers.specs.Numbers.{public, most_threads, most_put_aside}
use Rattle.numbers.specs.declared.Principal.{Principal}
use Rattle.numbers.specs.declared.flow.LabelPair.{LabelPair}
use Rattle.numbers.proofs.Bools.{implies, implied}
use Rattle.numbers.proofs.Says.{eqb_is, leb-is, ltb-is, itself, and_is, from_is, all-is}
use Rattle.tables.specs.Rows.{is_live}
use Rattle.tables.specs.declared.rows.ThreadRow.{ThreadRow}
use Rattle.tables.specs.Things.{nobody, no_thread, past_thread, thread_at}
use Rattle.tables.specs.Fields.{labels_made}
use Rattle.thread_rules.specs.ThreadRules.{aside_at, aside_made, aside_unused, thread_in_limits, thread_made, thread_unused}
use Rattle.thread_rules.proofs.RuleLaws.{ThreadsHold}
use Rattle.apply.specs.Apply.{labelled, forked, called, back_from}
use Rattle.kept.proofs.LabelsKept.{labels-more}
use Rattle.kept.proofs.Setting.{set_holds}

-- ---- one thread's row, in the words of its rules

-- one row that obeys the rules
pub record RowHolds (principals tags : ℕ) (r : ThreadRow) : Type 0 where
  pub limits : thread_in_limits r ≡ true
  pub made : thread_made principals tags r ≡ true
  pub unused : thread_unused r ≡ true

-- what they say of a live one
record LiveHolds (principals tags : ℕ) (r : ThreadRow) : Type 0 where
  flag : r.live ≤ 1
  principal : r.principal.0 < principals
  labels : labels_made tags r.labels ≡ true
  calls : r.calls ≤ most_put_aside
  aside : (k : ℕ) → k < r.calls → aside_at r.aside k < principals
  rest : (k : ℕ) → k < most_put_aside → r.calls ≤ k → aside_at r.aside k ≡ public

-- the first n put aside are made
aside_made-is :
    (principals : ℕ) (aside : List Principal) (n : ℕ) → (aside_made principals aside n ≡ true) ↔ ((k : ℕ) → k < n → aside_at aside k < principals)
unfolding aside_made
aside_made-is principals aside n = all-is n (λ k. ltb-is (aside_at aside k) principals)

-- those after the first n are zero
aside_unused-is :
    (aside : List Principal) (n : ℕ) → (aside_unused aside n ≡ true) ↔ ((k : ℕ) → k < most_put_aside → n ≤ k → aside_at aside k ≡ public)
unfolding aside_unused
aside_unused-is aside n = all-is most_put_aside (λ k. from_is n k (eqb_is (aside_at aside k) public))

-- a rule that speaks of live rows only
live-is : {q : Bool} {A : Type 0} (live : Bool) → (q ≡ true) ↔ A → ((not live || q) ≡ true) ↔ (live ≡ true → A)
live-is {q} live f = (λ e l. f.0 (implies live q e l), λ g. implied live q (λ l. f.1 (g l)))

-- "a limit"
thread_in_limits-is : (r : ThreadRow) → (thread_in_limits r ≡ true) ↔ ((r.live ≤ 1) × (is_live r.live ≡ true → r.calls ≤ most_put_aside))
thread_in_limits-is r = and_is (leb-is r.live 1) (live-is (is_live r.live) (leb-is r.calls most_put_aside))

-- "an unmade number"
thread_made-is :
    (principals tags : ℕ) (r : ThreadRow)
    → (thread_made principals tags r ≡ true) ↔ (
    is_live r.live ≡ true
    → (r.principal.0 < principals)
    × ((labels_made tags r.labels ≡ true) × ((k : ℕ) → k < r.calls → aside_at r.aside k < principals)))
thread_made-is principals tags r =
    live-is (is_live r.live)
    (and_is (ltb-is r.principal.0 principals) (and_is (itself (labels_made tags r.labels)) (aside_made-is principals r.aside r.calls)))

module _ {principals tags : ℕ} {r : ThreadRow} where
  -- a live row obeys the rules exactly where they say so
  live-says : RowHolds principals tags r → is_live r.live ≡ true → LiveHolds principals tags r
  live-says w live =
      let limits = (thread_in_limits-is r).0 w.limits in
      let m = (thread_made-is principals tags r).0 w.made live in
      record {
        flag = limits.0;
        principal = m.0;
        labels = m.1.0;
        calls = limits.1 live;
        aside = m.1.1;
        rest = (aside_unused-is r.aside r.calls).0 (rw live at w.unused);
      }

  live-holds : LiveHolds principals tags r → is_live r.live ≡ true → RowHolds principals tags r
  live-holds w live =
      record {
        limits = (thread_in_limits-is r).1 (w.flag, λ l. w.calls);
        made = (thread_made-is principals tags r).1 (λ l. (w.principal, (w.labels, w.aside)));
        unused = rw live ((aside_unused-is r.aside r.calls).1 w.rest);
      }

-- more principals and tags are made
row_more :
    {principals principals2 tags tags2 : ℕ} {r : ThreadRow} → RowHolds principals tags r → principals ≤ principals2 → tags ≤ tags2
    → RowHolds principals2 tags2 r
row_more {principals} {principals2} {tags} {tags2} {r} w h g =
    record {
      limits = w.limits;
      made = (thread_made-is principals2 tags2 r).1
          (λ live.
          let m = (thread_made-is principals tags r).0 w.made live in
          (omega (arith, m.0), (labels-more r.labels m.1.0 g, λ k l. omega (arith, m.1.1 k l))));
      unused = w.unused;
    }

-- ---- threads

module _ {principals tags : ℕ} {rows : List ThreadRow} where
  -- threads obey their rules exactly where each row does
  pub row-holds : ThreadsHold principals tags rows → (n : ℕ) → n < most_threads → RowHolds principals tags (thread_at rows n)
  row-holds w n h = record { limits = w.limits n h; made = w.made n h; unused = w.unused n h }

  each_holds : ((n : ℕ) → n < most_threads → RowHolds principals tags (thread_at rows n)) → ThreadsHold principals tags rows
  each_holds f = record { limits = λ n h. (f n h).limits; made = λ n h. (f n h).made; unused = λ n h. (f n h).unused }

-- more principals and tags are made
pub threads_more :
    {principals principals2 tags tags2 : ℕ} {rows : List ThreadRow} → ThreadsHold principals tags rows → principals ≤ principals2 → tags ≤ tags2
    → ThreadsHold principals2 tags2 rows
threads_more w h g = each_holds (λ n l. row_more (row-holds w n l) h g)

-- one row changes, at any number
pub thread-set :
    {principals tags : ℕ} {rows : List ThreadRow} {r : ThreadRow} (n : ℕ) → ThreadsHold principals tags rows → RowHolds principals tags r
    → ThreadsHold principals tags (set rows n r)
unfolding aside_unused all_below
thread-set {principals} {tags} {rows} {r} n w new =
    each_holds
    (λ j l.
    set_holds (λ x. RowHolds principals tags x) rows n r past_thread j new (record { limits = refl; made = refl; unused = refl }) (λ h. row-holds w j l))

-- ---- the rows that requests make

-- 0F: no thread
pub ended-holds : {principals tags : ℕ} → RowHolds principals tags no_thread
unfolding aside_unused all_below
ended-holds = record { limits = refl; made = refl; unused = refl }

module _ {principals tags : ℕ} {r : ThreadRow} (w : RowHolds principals tags r) (live : is_live r.live ≡ true) where
  -- 0A to 0D: other labels, of made tags
  pub labelled-holds : (l : LabelPair) → labels_made tags l ≡ true → RowHolds principals tags (labelled r l)
  labelled-holds l e =
      let a = live-says w live in
      live-holds (record { flag = a.flag; principal = a.principal; labels = e; calls = a.calls; aside = a.aside; rest = a.rest }) live

  -- 0E: a thread more, of a made principal
  pub forked-holds : {p : Principal} → p.0 < principals → RowHolds principals tags (forked r p)
  forked-holds h =
      live-holds
      (record {
        flag = omega arith;
        principal = h;
        labels = (live-says w live).labels;
        calls = omega arith;
        aside = λ k l. absurd (omega arith);
        rest = λ k l m. rw (get_or-replicate 8 k nobody nobody);
      })
      refl

  -- 10: a call, of a made principal
  pub called-holds : {p : Principal} → r.calls < most_put_aside → p.0 < principals → RowHolds principals tags (called r p)
  called-holds room h =
      let a = live-says w live in
      live-holds
      (record {
        flag = a.flag;
        principal = h;
        labels = a.labels;
        calls = omega arith;
        aside = λ k l.
            set_holds (λ p. p.0 < principals) r.aside r.calls r.principal nobody k a.principal (omega arith)
            (λ n. a.aside k (omega arith));
        rest = λ k l m. rw (get_or-set_other r.aside r.calls k r.principal nobody (λ e. omega arith), aside_at) (a.rest k l (omega arith));
      })
      live

  -- 11: back from a call
  pub back-holds : 0 < r.calls → RowHolds principals tags (back_from r)
  back-holds h =
      let a = live-says w live in
      live-holds
      (record {
        flag = a.flag;
        principal = a.aside (r.calls - 1) (omega arith);
        labels = a.labels;
        calls = omega arith;
        aside = λ k l.
            set_holds (λ p. p.0 < principals) r.aside (r.calls - 1) nobody nobody k (omega arith) (omega arith) (λ n. a.aside k (omega arith));
        rest = λ k l m. set_holds (λ p. p.0 ≡ public) r.aside (r.calls - 1) nobody nobody k refl refl (λ n. a.rest k l (omega arith));
      })
      live
