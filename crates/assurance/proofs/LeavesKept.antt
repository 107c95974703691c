-- Each request and its answer say what becomes of the world: what is known of it before is known after it too. Assumes nothing.
use mathlib.Core.Path.{◌≡◌, refl, ap}
use mathlib.Core.Bool.{Bool, true, false, cond, ◌&&◌}
use mathlib.Core.List.{List, [], ◌∷◌}
use Prim.Native.Nat.{ℕ, ◌≤◌, ◌<◌}
use native.Mathlib.Omega.{arith}
use borrow.Author.Tests.{ltb-true}
use lib.Dec.{eqb, ltb}
use lib.ListN.{length, get_or}
use Rattle.numbers.specs.declared.Principal.{Principal}
use Rattle.numbers.specs.declared.Tag.{Tag}
use Rattle.numbers.proofs.Bools.{and_left, and_right, by-test, never}
use Rattle.tables.specs.Rows.{is_live, rank_of}
use Rattle.tables.specs.declared.Tables.{Tables}
use Rattle.tables.specs.declared.rows.ThreadRow.{ThreadRow}
use Rattle.tables.specs.Things.{no_thread, thread_at}
use Rattle.tables.proofs.Among.{live-among}
use Rattle.frames.specs.Requests.{thread_of, request_of}
use Rattle.frames.specs.declared.requests.AuthorityRequest.{AuthorityRequest}
use Rattle.frames.specs.declared.requests.AuthorityRequest.TheVariants.{ActsFor, Authoritative}
use Rattle.frames.specs.declared.requests.ThreadRequest.{ThreadRequest}
use Rattle.frames.specs.declared.requests.ObjectRequest.{ObjectRequest}
use Rattle.frames.specs.declared.requests.OutsideRequest.TheVariants.{SendOut, BringIn}
use Rattle.frames.specs.declared.requests.Request.{Request}
use Rattle.frames.specs.declared.requests.Request.TheVariants.{OfAuthority, OfThread, OfObject, OfOutside}
use Rattle.answers.specs.declared.Refusal.{Refusal}
use Rattle.answers.specs.declared.Refusal.TheVariants.{Malformed, NotLive, Unnamed, Flow, Authority, Cycle, Full, Empty, BrokenRule}
use Rattle.answers.specs.Answers.{refusal_number, status_of, answer_bytes, front}
use Rattle.sight.specs.declared.Sight.{Sight}
use Rattle.sight.specs.Sight.{sight_of}
use Rattle.named.specs.Named.{authority_named, named}
use Rattle.outcomes.specs.declared.Outcome.{Outcome}
use Rattle.outcomes.specs.Outcomes.{refused}
use Rattle.apply.specs.Apply.{forked, called, back_from}
use Rattle.decide.specs.Decide.{decide}
use Rattle.decide.proofs.AuthorityComes as authority
use Rattle.decide.proofs.ThreadComes as thread
use Rattle.decide.proofs.ObjectComes as object
use Rattle.act.specs.World.{World, applied}
use Rattle.act.specs.Step.{outcome}
use Rattle.act.proofs.Ind.{outcome-ind}
use Rattle.assurance.specs.Leaves.{Known, runner, request_learnt}
use Rattle.assurance.proofs.Worlds.{WorldHolds, SizedWorld}
use Rattle.assurance.proofs.ThreadsKeep.{caller-made}
use Rattle.assurance.proofs.LentLinks.{appended-apart, removed-apart, leaf-had, leaf-given, leaf-lacked, leaf-taken}
use Rattle.assurance.proofs.Knows.{put_aside, Knows, called-ran, back-ran}
use Rattle.assurance.proofs.Learnt.{elsewhere, links-learnt, grants-learnt, tag-learnt, row-learnt, labels-learnt}

-- no refusal's number is 0
refused-not-done : (x : Refusal) → eqb (refusal_number x) 0 ≡ false
refused-not-done Malformed = refl
refused-not-done NotLive = refl
refused-not-done Unnamed = refl
refused-not-done Flow = refl
refused-not-done Authority = refl
refused-not-done Cycle = refl
refused-not-done Full = refl
refused-not-done Empty = refl
refused-not-done BrokenRule = refl

module _ (k : Known) (w : World) (holds : WorldHolds w) (sized : SizedWorld w) (knows : Knows k w) (f a : List ℕ) where
  abbrev t : Tables
  t = w.tables

  -- the caller's number and row
  abbrev n : ℕ
  n = (thread_of f).0

  abbrev own : ThreadRow
  own = thread_at t.threads n

  abbrev sees : Request → Sight
  sees r = sight_of t (thread_of f) r

  -- what the request r and its answer teach, where it came to o and a is the buffer for its answer
  abbrev Learns : Request → Outcome → Type 0
  Learns r o =
      Knows (cond (eqb (status_of o.answer) 0) (request_learnt k n (get_or (front (answer_bytes f w.store o.answer) a) 1 0) r) k) (applied w f o)

  -- a refusal teaches nothing
  refused-learns : (r : Request) (x : Refusal) → Learns r (refused x)
  refused-learns r x = rw (refused-not-done x) knows

  -- kinds 12 to 19
  object-learns : {r : ObjectRequest} {o : Outcome} → object.ObjectComes (sees (OfObject r)) r o → Learns (OfObject r) o
  object-learns {r} (object.stops x) = refused-learns (OfObject r) x
  object-learns (object.makes o b c d e) = elsewhere knows _ _
  object-learns (object.deletes b) = elsewhere knows _ _
  object-learns (object.reads b) = knows
  object-learns (object.writes b) = elsewhere knows _ _
  object-learns (object.puts held b c) = elsewhere knows _ _
  object-learns (object.gets held b c) = elsewhere knows _ _
  object-learns (object.locks b) = elsewhere knows _ _
  object-learns (object.unlocks c b) = elsewhere knows _ _

  -- ---- the caller is live

  module _ (live : is_live own.live ≡ true) where
    -- its row is one of those there are
    low : n < length t.threads
    low = live-among t.threads n live

    -- who the caller runs as
    runs_as_own : runner (k.runs n) ≡ own.principal.0
    runs_as_own = ap runner (knows.runs n live).list

    -- kinds 0A to 11
    thread-learns : {allowed : Bool} {r : ThreadRequest} {o : Outcome} → thread.ThreadComes (sees (OfThread r)) w.links allowed r o → Learns (OfThread r) o
    unfolding put_aside
    thread-learns {r = r} (thread.stops x) = refused-learns (OfThread r) x
    thread-learns (thread.into-secrecy b) = labels-learnt knows n low _
    thread-learns (thread.is-out b) = knows
    thread-learns (thread.out-of-secrecy b c) = labels-learnt knows n low _
    thread-learns (thread.is-in b) = knows
    thread-learns (thread.into-integrity b c d) = labels-learnt knows n low _
    thread-learns thread.out-of-integrity = labels-learnt knows n low _
    thread-learns (thread.forks {p} o b c free room) =
        row-learnt knows _ (omega (arith, room, sized.threads)) (forked own p) (p.0 ∷ []) (λ e. record { list = refl; places = refl })
    thread-learns thread.ends = row-learnt knows n low no_thread [] (λ e. absurd (never e refl))
    thread-learns (thread.calls {p} b c room) = row-learnt knows n low (called own p) _ (λ e. called-ran (knows.runs n live) p room)
    thread-learns (thread.returns some) = row-learnt knows n low (back_from own) _ (λ e. back-ran (knows.runs n live) some)

    -- ---- kinds 01 to 09

    abbrev EndsMade : Principal → Principal → Bool
    EndsMade p q = ltb p.0 t.principals && ltb q.0 t.principals

    -- both ends of a link are made
    ends_low : (p q : Principal) → EndsMade p q ≡ true → (p.0 < 64) × (q.0 < 64)
    ends_low p q e =
        let near = ltb-true p.0 t.principals (and_left _ (ltb q.0 t.principals) e) in
        let far = ltb-true q.0 t.principals (and_right (ltb p.0 t.principals) _ e) in
        (omega (arith, near, holds.links.limits.principals-low), omega (arith, far, holds.links.limits.principals-low))

    -- the same, of a link of a tag
    tag-ends-low : (u : Tag) (p q : Principal) → (ltb u.0 t.tags && EndsMade p q) ≡ true → (p.0 < 64) × (q.0 < 64)
    tag-ends-low u p q e = ends_low p q (and_right (ltb u.0 t.tags) (EndsMade p q) e)

    -- no count lies
    links-fit : t.links ≤ length w.links
    links-fit = omega (arith, holds.links.limits.whole, holds.links.limits.few)

    grants-fit : t.grants ≤ length w.grants
    grants-fit = omega (arith, holds.grants.limits.whole, holds.grants.limits.few)

    -- as each outcome's facts show
    authority-learns :
        {allowed : Bool} {r : AuthorityRequest} {o : Outcome} →
        authority.AuthorityComes (sees (OfAuthority r)) w.links w.grants allowed r o → authority_named (sees (OfAuthority r)) r ≡ true →
        Learns (OfAuthority r) o
    unfolding rank_of
    authority-learns {r = r} (authority.stops x) there = refused-learns (OfAuthority r) x
    authority-learns (authority.makes-principal b few room) there =
        let made : own.principal.0 < 64 = omega (arith, caller-made w holds sized f live, few) in
        let fits : t.links < length w.links = omega (arith, room, holds.links.limits.whole) in
        rw runs_as_own (links-learnt knows _ _ _ _ (leaf-given w.links t.links 0 t.principals own.principal.0 few made knows.links fits))
    authority-learns (authority.had-link {p} {q} e) there =
        let h = ends_low p q there in
        links-learnt knows _ _ _ _ (leaf-had w.links t.links 0 p.0 q.0 h.0 h.1 knows.links e)
    authority-learns (authority.gives-link {p} {q} b c d e g room) there =
        let h = ends_low p q there in
        let fits : t.links < length w.links = omega (arith, room, holds.links.limits.whole) in
        links-learnt knows _ _ _ _ (leaf-given w.links t.links 0 p.0 q.0 h.0 h.1 knows.links fits)
    authority-learns (authority.has-no-link {p} {q} e) there =
        let h = ends_low p q there in
        links-learnt knows _ _ _ _ (leaf-lacked w.links t.links 0 p.0 q.0 h.0 h.1 knows.links links-fit e)
    authority-learns (authority.takes-link {p} {q} i e) there =
        let h = ends_low p q there in
        links-learnt knows _ _ _ _ (leaf-taken w.links t.links 0 p.0 q.0 h.0 h.1 knows.links holds.links i e)
    authority-learns (authority.tells-acts-for {p} {q} b) there = by-test (Learns (OfAuthority (ActsFor p q))) b (λ e. knows) (λ e. knows)
    authority-learns (authority.makes-tag b room) there =
        tag-learnt knows _ _ (ap (λ (m : ℕ). record { maker = m; is_subtag = false; above = 0 }) runs_as_own) (omega (arith, room, sized.kinds))
    authority-learns (authority.makes-subtag {t = u} b c d room) there =
        tag-learnt knows _ _ (ap (λ (m : ℕ). record { maker = m; is_subtag = true; above = u.0 }) runs_as_own) (omega (arith, room, sized.kinds))
    authority-learns (authority.had-grant {t = u} {p} {q} e) there =
        let h = tag-ends-low u p q there in
        grants-learnt knows u _ _ _ (leaf-had w.grants t.grants u.0 p.0 q.0 h.0 h.1 (knows.grants u.0) e) (λ v apart. refl)
    authority-learns (authority.gives-grant {t = u} {p} {q} b c d e g j i room) there =
        let h = tag-ends-low u p q there in
        let fits : t.grants < length w.grants = omega (arith, room, holds.grants.limits.whole) in
        grants-learnt knows u _ _ _ (leaf-given w.grants t.grants u.0 p.0 q.0 h.0 h.1 (knows.grants u.0) fits)
        (appended-apart w.grants t.grants u.0 p.0 q.0 h.0 h.1 fits)
    authority-learns (authority.has-no-grant {t = u} {p} {q} e) there =
        let h = tag-ends-low u p q there in
        grants-learnt knows u _ _ _ (leaf-lacked w.grants t.grants u.0 p.0 q.0 h.0 h.1 (knows.grants u.0) grants-fit e) (λ v apart. refl)
    authority-learns (authority.takes-grant {t = u} {p} {q} i e) there =
        let h = tag-ends-low u p q there in
        grants-learnt knows u _ _ _ (leaf-taken w.grants t.grants u.0 p.0 q.0 h.0 h.1 (knows.grants u.0) holds.grants i e)
        (removed-apart w.grants t.grants u.0 p.0 q.0 h.0 h.1 holds.grants i e)
    authority-learns {allowed} (authority.tells {t = u}) there = by-test (Learns (OfAuthority (Authoritative u))) allowed (λ e. knows) (λ e. knows)

    -- ---- all kinds

    decided : (allowed : Bool) (r : Request) → named (sees r) r ≡ true → Learns r (decide (sees r) w.links w.grants r allowed)
    decided allowed (OfAuthority r) there = authority-learns (authority.authority-comes (sees (OfAuthority r)) w.links w.grants allowed r there) there
    decided allowed (OfThread r) there = thread-learns (thread.thread-comes (sees (OfThread r)) w.links allowed r there)
    decided allowed (OfObject r) there = object-learns (object.object-comes (sees (OfObject r)) r there)
    decided allowed (OfOutside (SendOut m)) there = knows
    decided allowed (OfOutside (BringIn m)) there = knows

  -- what a request comes to, and its answer, teach what the world then is
  pub outcome-learns : (allowed : Bool) → Learns (request_of f) (outcome t w.links w.grants f allowed)
  outcome-learns allowed =
      outcome-ind t w.links w.grants f allowed (Learns (request_of f)) (refused-learns (request_of f))
      (λ formed live there flow. decided live allowed (request_of f) there)
