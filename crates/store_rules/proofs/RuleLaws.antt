-- What the rules of the store of messages say, one by one. Assumes nothing.
use mathlib.Core.Path.{◌≡◌}
use mathlib.Core.Bool.{true}
use mathlib.Core.List.{List}
use mathlib.Core.Logic.{◌↔◌}
use Prim.Native.Nat.{ℕ, ◌+◌, ◌*◌, ◌≤◌, ◌<◌}
use Rattle.numbers.specs.Numbers.{longest_message, most_objects}
use Rattle.numbers.proofs.Says.{leb-is, and_is, all-is}
use Rattle.store.specs.Store.{place_size, object_size, place_at, byte_at}
use Rattle.store.proofs.StoreLaws.{zeros-between}
use Rattle.tables.specs.Rows.{what_of}
use Rattle.tables.specs.Things.{object_at}
use Rattle.tables.specs.declared.rows.ObjectRow.{ObjectRow}
use Rattle.store_rules.specs.StoreRules.{places_used, place_holds, places_hold, store_holds}

-- the message at a place, and the zeros that follow it
place_holds-is :
    (s : List ℕ) (at : ℕ)
    → (place_holds s at ≡ true) ↔ ((byte_at s at ≤ longest_message) × ((i : ℕ) → byte_at s at ≤ i → i < longest_message → byte_at s (at + 1 + i) ≡ 0))
place_holds-is s at = and_is (leb-is (byte_at s at) longest_message) (zeros-between s (at + 1) (byte_at s at) longest_message)

module _ (s : List ℕ) (rows : List ObjectRow) where
  -- how many places object o uses
  abbrev places : ℕ → ℕ
  places o = places_used (what_of (object_at rows o))

  -- a store that obeys its rules, rule by rule: its messages, what follows them, and the places that no object uses
  pub record StoreHolds : Type 0 where
    pub limits : (o k : ℕ) → o < most_objects → k < places o → byte_at s (place_at o k) ≤ longest_message
    pub rests : (o k i : ℕ) → o < most_objects → k < places o → byte_at s (place_at o k) ≤ i → i < longest_message → byte_at s (place_at o k + 1 + i) ≡ 0
    pub unused : (o i : ℕ) → o < most_objects → places o * place_size ≤ i → i < object_size → byte_at s (o * object_size + i) ≡ 0

  pub store_holds-is : (store_holds s rows ≡ true) ↔ StoreHolds
  unfolding store_holds places_hold
  store_holds-is =
      let parts = all-is most_objects (λ o. and_is (zeros-between s (o * object_size) (places o * place_size) object_size) (all-is (places o) (λ k. place_holds-is s (place_at o k)))) in (
        λ e.
            let w = parts.0 e in
            record { limits = λ o k h u. ((w o h).1 k u).0; rests = λ o k i h u. ((w o h).1 k u).1 i; unused = λ o i h. (w o h).0 i },
        λ r. parts.1 (λ o h. (λ i. r.unused o i h, λ k u. (r.limits o k h u, λ i. r.rests o k i h u))),
      )
