-- What a request comes to has room in tables that obey the rules of 9: what is new has a place, what changes is there, and so is the
-- message of an answer. The laws match on what is known of it, group by group. Assumes nothing.
use mathlib.Core.Path.{◌≡◌, refl, ap, ◌∙◌}
use mathlib.Core.Bool.{Bool, true, false, cond}
use mathlib.Core.List.{List}
use Prim.Native.Nat.{ℕ, ◌+◌, ◌≤◌, ◌<◌}
use native.Mathlib.Omega.{arith}
use borrow.Author.Tests.{leb-true}
use lib.Dec.{leb}
use lib.ListN.{length}
use Rattle.numbers.specs.Numbers.{most_threads, most_put_aside, most_objects, most_queued}
use Rattle.numbers.proofs.Bools.{and_right, by-test, implies}
use Rattle.links.proofs.LinkLaws.{found-used}
use Rattle.store.specs.Store.{place_size, object_size, place_at}
use Rattle.memory.specs.declared.Memory.{Memory}
use Rattle.tables.specs.Rows.{is_live, is_free, what_of}
use Rattle.tables.specs.declared.Tables.{Tables}
use Rattle.tables.specs.declared.rows.ThreadRow.{ThreadRow}
use Rattle.tables.specs.declared.rows.What.{What}
use Rattle.tables.specs.declared.rows.What.TheVariants as what
use Rattle.tables.specs.Things.{thread_at, object_at}
use Rattle.tables.proofs.Among.{live-among, used-among}
use Rattle.lent.specs.Lent.{counts_of}
use Rattle.rules.specs.Rules.{OnlyTruthBroken}
use Rattle.frames.specs.declared.requests.AuthorityRequest.{AuthorityRequest}
use Rattle.frames.specs.declared.requests.ThreadRequest.{ThreadRequest}
use Rattle.frames.specs.declared.requests.ObjectRequest.{ObjectRequest}
use Rattle.frames.specs.declared.requests.OutsideRequest.TheVariants.{SendOut, BringIn}
use Rattle.frames.specs.declared.requests.Request.{Request}
use Rattle.frames.specs.declared.requests.Request.TheVariants.{OfAuthority, OfThread, OfObject, OfOutside}
use Rattle.frames.specs.Requests.{thread_of, request_of}
use Rattle.frames.proofs.Spans.{ObjectSpans, Spans, spans_fit}
use Rattle.answers.specs.declared.Answer.{Answer}
use Rattle.answers.specs.Answers.{Ready}
use Rattle.sight.specs.declared.Sight.{Sight}
use Rattle.sight.specs.Sight.{sight_of}
use Rattle.named.specs.Named.{named}
use Rattle.outcomes.specs.declared.Outcome.{Outcome}
use Rattle.outcomes.specs.declared.ListChange.{ListChange}
use Rattle.outcomes.specs.declared.ListChange.TheVariants as list
use Rattle.outcomes.specs.declared.StoreChange.{StoreChange}
use Rattle.outcomes.specs.declared.StoreChange.TheVariants as store
use Rattle.outcomes.specs.declared.RowChange.{RowChange}
use Rattle.outcomes.specs.Outcomes.{rows_changed, told, links_changed, grants_changed}
use Rattle.apply.specs.Apply.{ListFits, StoreFits, RowFits}
use Rattle.decide.specs.Decide.{decide}
use Rattle.decide.proofs.AuthorityComes as authority
use Rattle.decide.proofs.ThreadComes as thread
use Rattle.decide.proofs.ObjectComes as object
use Rattle.act.specs.World.{HasRoom}
use Rattle.act.specs.Step.{outcome}
use Rattle.act.proofs.Ind.{outcome-ind}

-- the rules of 9 do not count the rows of threads and objects: their arrays do
module _
    (t : Tables)
    (m : Memory)
    (l g s : List ℕ)
    (rules : OnlyTruthBroken t m l g s)
    (threads : length t.threads ≡ most_threads)
    (objects : length t.objects ≡ most_objects)
    (f : List ℕ)
  where
    -- the caller's number
    abbrev n : ℕ
    n = (thread_of f).0

    -- and row
    abbrev own : ThreadRow
    own = thread_at t.threads n

    abbrev Roomy : Outcome → Type 0
    Roomy o = HasRoom (counts_of t) own s f o

    -- what request r sees
    abbrev sight : Request → Sight
    sight r = sight_of t (thread_of f) r

    -- ---- there is room for a change where there is room in the table that it changes

    links-room : (c : ListChange) → ListFits c t.links → Roomy (links_changed c)
    links-room c fits = record { rows = tt; links = fits; grants = tt; store = tt; answer = tt }

    grants-room : (c : ListChange) → ListFits c t.grants → Roomy (grants_changed c)
    grants-room c fits = record { rows = tt; links = tt; grants = fits; store = tt; answer = tt }

    -- of the store and the rows
    both-room : (a : Answer) (c : StoreChange) (d : RowChange) → Ready f s a → StoreFits c f s → RowFits t.principals t.tags n own d → Roomy (record { answer = a; links = list.Keep; grants = list.Keep; store = c; rows = d })
    both-room a c d ready kept fits = record { rows = fits; links = tt; grants = tt; store = kept; answer = ready }

    -- of the rows alone, or of nothing
    rows-room : (a : Answer) (c : RowChange) → Ready f s a → RowFits t.principals t.tags n own c → Roomy (rows_changed a c)
    rows-room a c ready fits = both-room a store.Keep c ready tt fits

    -- ---- kinds 01 to 09

    told-room : (b : Bool) → Roomy (cond b (told 1) (told 0))
    told-room b = by-test (Roomy) b (λ e. rows-room _ _ tt tt) (λ e. rows-room _ _ tt tt)

    -- the tests have shown that there is room, and what is removed was found
    authority-room : {allowed : Bool} {r : AuthorityRequest} {o : Outcome} → authority.AuthorityComes (sight (OfAuthority r)) l g allowed r o → Roomy o
    authority-room (authority.stops x) = rows-room _ _ tt tt
    authority-room (authority.makes-principal a few room) = record { rows = few; links = room; grants = tt; store = tt; answer = tt }
    authority-room (authority.had-link a) = rows-room _ _ tt tt
    authority-room (authority.gives-link a b c d e room) = links-room _ room
    authority-room (authority.has-no-link a) = rows-room _ _ tt tt
    authority-room (authority.takes-link i e) = links-room _ (found-used l t.links _ i e, rules.limits.links)
    authority-room (authority.tells-acts-for b) = told-room b
    authority-room (authority.makes-tag a room) = rows-room _ _ tt room
    authority-room (authority.makes-subtag a b c room) = rows-room _ _ tt room
    authority-room (authority.had-grant a) = rows-room _ _ tt tt
    authority-room (authority.gives-grant a b c d e h i room) = grants-room _ room
    authority-room (authority.has-no-grant a) = rows-room _ _ tt tt
    authority-room (authority.takes-grant i e) = grants-room _ (found-used g t.grants _ i e, rules.limits.grants)
    authority-room {allowed} authority.tells = told-room allowed

    -- ---- kinds 0A to 11

    module _ (live : is_live (thread_at t.threads n).live ≡ true) where
      -- a live thread is one of the 16
      low : n < most_threads
      low = omega (arith, live-among t.threads n live)

      -- no more are put aside than there may be
      aside : (thread_at t.threads n).calls ≤ most_put_aside
      aside =
          let r = thread_at t.threads n in
          leb-true r.calls most_put_aside
          (implies (is_live r.live) (leb r.calls most_put_aside) (and_right (leb r.live 1) _ (rules.limits.threads n low)) live)

      -- the tests have shown the rest
      thread-room : {allowed : Bool} {r : ThreadRequest} {o : Outcome} → thread.ThreadComes (sight (OfThread r)) l allowed r o → Roomy o
      thread-room (thread.stops x) = rows-room _ _ tt tt
      thread-room (thread.into-secrecy a) = rows-room _ _ tt low
      thread-room (thread.is-out a) = rows-room _ _ tt tt
      thread-room (thread.out-of-secrecy a b) = rows-room _ _ tt low
      thread-room (thread.is-in a) = rows-room _ _ tt tt
      thread-room (thread.into-integrity a b c) = rows-room _ _ tt low
      thread-room thread.out-of-integrity = rows-room _ _ tt low
      thread-room (thread.forks k a b free room) = rows-room _ _ tt (room, low)
      thread-room thread.ends = rows-room _ _ tt low
      thread-room (thread.calls a b room) = rows-room _ _ tt (low, room)
      thread-room (thread.returns some) = rows-room _ _ tt (low, some, aside)

    -- ---- kinds 12 to 19

    -- an object in use is one of the 64
    in_use : (o : ℕ) (k : What) → what_of (object_at t.objects o) ≡ k → is_free k ≡ false → o < most_objects
    in_use o k e used = omega (arith, used-among t.objects o (ap is_free e ∙ used))

    -- its places are there
    place : (o k : ℕ) → o < most_objects → k < most_queued → place_at o k + place_size ≤ length s
    place o k low few = omega (arith, rules.whole.store)

    places : (o : ℕ) → o < most_objects → place_at o 0 + object_size ≤ length s
    places o low = omega (arith, rules.whole.store)

    -- messages that are put fit, and those that are answered are within the limit
    object-room : {r : ObjectRequest} {o : Outcome} → ObjectSpans f r → object.ObjectComes (sight (OfObject r)) r o → Roomy o
    object-room m (object.stops x) = rows-room _ _ tt tt
    object-room m (object.makes k a b free room) = rows-room _ _ tt room
    object-room m (object.deletes {o} used) = let low = in_use o.0 _ refl used in both-room _ _ _ tt (places o.0 low) low
    object-room m (object.reads {o} e) =
        let low = in_use o.0 what.Cell e refl in
        rows-room _ _ (place o.0 0 low (omega arith), rules.limits.messages o.0 0 low (rw e (omega arith))) tt
    object-room m (object.writes {o} e) = both-room _ _ _ tt (m.there, m.short, place o.0 0 (in_use o.0 what.Cell e refl) (omega arith)) tt
    object-room m (object.puts {o} held e few) =
        let low = in_use o.0 (what.Queue held) e refl in
        both-room _ _ _ tt (m.there, m.short, place o.0 held low few) low
    object-room m (object.gets {o} held e some) =
        let low = in_use o.0 (what.Queue held) e refl in
        both-room _ _ _ (place o.0 0 low (omega arith), rules.limits.messages o.0 0 low (rw e some)) (places o.0 low) low
    object-room m (object.locks {o} e) = rows-room _ _ tt (in_use o.0 (what.Lock false) e refl)
    object-room m (object.unlocks {o} locked e) = rows-room _ _ tt (in_use o.0 (what.Lock locked) e refl)

    -- ---- all kinds

    module _ (allowed : Bool) where
      -- a request that passed 1 to 3
      decided : (r : Request) → Spans f r → (sight r).caller.live ≡ true → named (sight r) r ≡ true → Roomy (decide (sight r) l g r allowed)
      decided (OfAuthority r) fits live there = authority-room (authority.authority-comes (sight (OfAuthority r)) l g allowed r there)
      decided (OfThread r) fits live there = thread-room live (thread.thread-comes (sight (OfThread r)) l allowed r there)
      decided (OfObject r) fits live there = object-room fits (object.object-comes (sight (OfObject r)) r there)
      decided (OfOutside (SendOut m)) fits live there = rows-room _ _ (fits.there, fits.short) tt
      decided (OfOutside (BringIn m)) fits live there = rows-room _ _ (fits.there, fits.short) tt

      -- and any other comes to a refusal
      pub has_room : Roomy (outcome t l g f allowed)
      has_room =
          outcome-ind t l g f allowed (Roomy) (λ x. rows-room _ _ tt tt)
          (λ formed live there flow. decided (request_of f) (spans_fit f formed) live there)
