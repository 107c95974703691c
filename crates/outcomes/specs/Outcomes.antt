-- What a request comes to: its answer, and what changes in each list, in the store and in the rows. Assumes nothing.
use Rattle.std.specs.Prelude.{ℕ}
use Rattle.answers.specs.declared.Answer.{Answer}
use Rattle.answers.specs.declared.Answer.TheVariants.{Refused, Done, Value}
use Rattle.answers.specs.declared.Refusal.{Refusal}
use Rattle.outcomes.specs.declared.ListChange.{ListChange}
use Rattle.outcomes.specs.declared.ListChange.TheVariants as list
use Rattle.outcomes.specs.declared.StoreChange.TheVariants as store
use Rattle.outcomes.specs.declared.RowChange.{RowChange}
use Rattle.outcomes.specs.declared.RowChange.TheVariants as rows
use Rattle.outcomes.specs.declared.Outcome.{Outcome}

-- the rows change so, and nothing else does
abbrev pub rows_changed : Answer → RowChange → Outcome
rows_changed a c = record { answer = a; links = list.Keep; grants = list.Keep; store = store.Keep; rows = c }

-- "Tables stay"
abbrev pub refused : Refusal → Outcome
refused r = rows_changed (Refused r) rows.Keep

abbrev pub done : Outcome
done = rows_changed Done rows.Keep

abbrev pub told : ℕ → Outcome
told v = rows_changed (Value v) rows.Keep

-- one of the two lists changes
abbrev pub links_changed : ListChange → Outcome
links_changed c = record { answer = Done; links = c; grants = list.Keep; store = store.Keep; rows = rows.Keep }

abbrev pub grants_changed : ListChange → Outcome
grants_changed c = record { answer = Done; links = list.Keep; grants = c; store = store.Keep; rows = rows.Keep }
