-- What the rules of threads say, one by one. Assumes nothing.
use mathlib.Core.Path.{◌≡◌}
use mathlib.Core.Bool.{true}
use mathlib.Core.List.{List}
use mathlib.Core.Logic.{◌↔◌}
use Prim.Native.Nat.{ℕ, ◌<◌}
use Rattle.numbers.specs.Numbers.{most_threads}
use Rattle.numbers.proofs.Says.{itself, and_is, all-is}
use Rattle.tables.specs.Things.{thread_at}
use Rattle.tables.specs.declared.rows.ThreadRow.{ThreadRow}
use Rattle.thread_rules.specs.ThreadRules.{thread_in_limits, thread_made, thread_unused, thread_holds, threads_hold}

thread_holds-is :
    (principals tags : ℕ) (r : ThreadRow)
    → (thread_holds principals tags r ≡ true) ↔ ((thread_in_limits r ≡ true) × ((thread_made principals tags r ≡ true) × (thread_unused r ≡ true)))
unfolding thread_holds
thread_holds-is principals tags r =
    and_is (itself (thread_in_limits r)) (and_is (itself (thread_made principals tags r)) (itself (thread_unused r)))

-- threads that obey their rules, rule by rule
pub record ThreadsHold (principals tags : ℕ) (rows : List ThreadRow) : Type 0 where
  pub limits : (n : ℕ) → n < most_threads → thread_in_limits (thread_at rows n) ≡ true
  pub made : (n : ℕ) → n < most_threads → thread_made principals tags (thread_at rows n) ≡ true
  pub unused : (n : ℕ) → n < most_threads → thread_unused (thread_at rows n) ≡ true

pub threads_hold-is : (principals tags : ℕ) (rows : List ThreadRow) → (threads_hold principals tags rows ≡ true) ↔ ThreadsHold principals tags rows
unfolding threads_hold
threads_hold-is principals tags rows =
    let parts = all-is most_threads (λ n. thread_holds-is principals tags (thread_at rows n)) in (
      λ e. let w = parts.0 e in record { limits = λ n h. (w n h).0; made = λ n h. (w n h).1.0; unused = λ n h. (w n h).1.1 },
      λ r. parts.1 (λ n h. (r.limits n h, (r.made n h, r.unused n h))),
    )
