-- The rules of 9 that speak of threads (01, "Refusal numbers"), each a test on one row, in the order of 01. What a row says is
-- `Rows`'s. Assumes nothing.
use Rattle.std.specs.Prelude.{Bool, not, cond, ◌&&◌, ◌||◌, List, ℕ, eqb, ltb, leb, get_or}
use Rattle.numbers.specs.Below.{all_below}
use Rattle.numbers.specs.Numbers.{public, most_threads, most_put_aside}
use Rattle.numbers.specs.declared.Principal.{Principal}
use Rattle.tables.specs.Fields.{is_flag, labels_made, labels_empty}
use Rattle.tables.specs.Rows.{is_live}
use Rattle.tables.specs.Things.{nobody, thread_at}
use Rattle.tables.specs.declared.rows.ThreadRow.{ThreadRow}

-- the k-th principal put aside
abbrev pub aside_at : List Principal → ℕ → ℕ
aside_at aside k = (get_or aside k nobody).0

-- the first n put aside are made
unfoldable pub aside_made : ℕ → List Principal → ℕ → Bool
aside_made principals aside n = all_below n (λ k. ltb (aside_at aside k) principals)

-- those after the first n are zero
unfoldable pub aside_unused : List Principal → ℕ → Bool
aside_unused aside n = all_below most_put_aside (λ k. ltb k n || eqb (aside_at aside k) public)

abbrev pub is_no_thread : ThreadRow → Bool
is_no_thread r = eqb r.principal.0 public && (labels_empty r.labels && (eqb r.calls 0 && aside_unused r.aside 0))

-- "a limit"
abbrev pub thread_in_limits : ThreadRow → Bool
thread_in_limits r = is_flag r.live && (not (is_live r.live) || leb r.calls most_put_aside)

-- "nonzero unused place"
abbrev pub thread_unused : ThreadRow → Bool
thread_unused r = cond (not (is_live r.live)) (is_no_thread r) (aside_unused r.aside r.calls)

module _ (principals tags : ℕ) where
  -- "an unmade number"
  abbrev pub thread_made : ThreadRow → Bool
  thread_made r =
      not (is_live r.live) || (ltb r.principal.0 principals && (labels_made tags r.labels && aside_made principals r.aside r.calls))

  unfoldable pub thread_holds : ThreadRow → Bool
  thread_holds r = thread_in_limits r && (thread_made r && thread_unused r)

  unfoldable pub threads_hold : List ThreadRow → Bool
  threads_hold rows = all_below most_threads (λ n. thread_holds (thread_at rows n))
