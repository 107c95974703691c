-- The same lists of requests through the entry that is lent the lists of links as records (crate `entry`): from request to request the
-- records are carried, and not their numbers. Assumes nothing.
use Rattle.std.specs.Prelude.{◌≡◌, Bool, cond, List, [], ◌∷◌, ℕ, zero, suc, ◌≤◌, replicate}
use Rattle.numbers.specs.Numbers.{most_remembered}
use Rattle.store.specs.Store.{store_size}
use Rattle.state.specs.declared.State.{State}
use Rattle.state.specs.Start.{fresh_state, cleared}
use Rattle.act.specs.Step.{After}
use Rattle.entry.specs.declared.Lists.{Lists}
use Rattle.entry.specs.Entry.{over_records, lists_of, no_links}
use Rattle.assurance.specs.Runs.{Call, Seen, fresh, seen_of, seen_all}

-- what stands between requests: the state, the two lists as records, and the store
pub record Holder : Type 0 where
  pub state : State
  pub lists : Lists
  pub store : List ℕ

abbrev pub fresh_holder : ℕ → Holder
fresh_holder size = record { state = fresh_state size; lists = no_links; store = replicate store_size 0 }

abbrev pub entered_over : Holder → Call → After
entered_over z c = over_records z.state z.lists.links z.lists.grants z.store c.frame c.buffer

abbrev pub next_over : Holder → Call → Holder
next_over z c = record { state = (entered_over z c).replied.state; lists = lists_of (entered_over z c); store = (entered_over z c).store }

abbrev pub cleared_over : Bool → Holder → Holder
cleared_over clear z = cond clear (record { state = cleared z.state; lists = z.lists; store = z.store }) z

-- what is seen of each request of a list
unfoldable pub seen_over : Holder → (ℕ → Bool) → List Call → List Seen
seen_over z clears [] = []
seen_over z clears (c ∷ cs) =
    seen_of (entered_over (cleared_over (clears zero) z) c) ∷ seen_over (next_over (cleared_over (clears zero) z) c) (λ n. clears (suc n)) cs

-- it is what is seen where the numbers are carried: so what the demands say of the one they say of the other
abbrev pub RecordsAgree : Type 0
RecordsAgree =
    (size : ℕ) → size ≤ most_remembered → (clears : ℕ → Bool) (calls : List Call) → seen_over (fresh_holder size) clears calls ≡ seen_all (fresh size) clears calls
