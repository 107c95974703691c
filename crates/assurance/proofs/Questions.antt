-- A question that is reached is about a tag that is made, and asked by one who is made. Assumes nothing.
use mathlib.Core.Path.{◌≡◌, refl, sym, ap₂}
use mathlib.Core.Bool.{true, not, ◌&&◌}
use mathlib.Core.List.{List}
use Prim.Native.Nat.{ℕ, ◌+◌, ◌*◌, ◌/◌, ◌%◌, ◌<◌}
use native.Mathlib.Omega.{arith}
use borrow.Author.Tests.{ltb-true, not-false}
use Rattle.std.specs.Prelude.{Result}
use Rattle.numbers.specs.Numbers.{most_threads}
use Rattle.numbers.proofs.Bools.{and_left, and_right, implies, never, by-test}
use Rattle.links.specs.declared.lists.Graph.TheVariants.{Principals}
use Rattle.links.specs.Links.{links_in}
use Rattle.links.specs.Authority.{authoritative}
use Rattle.tables.specs.Rows.{is_live}
use Rattle.tables.specs.Fields.{labels_made}
use Rattle.tables.specs.declared.Tables.{Tables}
use Rattle.tables.specs.Things.{thread_at, lineage_of}
use Rattle.tables.proofs.Among.{live-among}
use Rattle.frames.specs.declared.requests.AuthorityRequest.TheVariants.{NewPrincipal, Delegate, Revoke, ActsFor, NewTag, NewSubtag, Grant, Ungrant, Authoritative}
use Rattle.frames.specs.declared.requests.ThreadRequest.TheVariants.{IntoSecrecy, OutOfSecrecy, IntoIntegrity, OutOfIntegrity, Fork, End, Call, Return}
use Rattle.frames.specs.declared.requests.Request.{Request}
use Rattle.frames.specs.declared.requests.Request.TheVariants.{OfAuthority, OfThread, OfObject, OfOutside}
use Rattle.frames.specs.Requests.{thread_of, kind_of, request_of, well_formed}
use Rattle.answers.specs.declared.Refusal.{Refusal}
use Rattle.sight.specs.declared.Sight.{Sight}
use Rattle.sight.specs.Sight.{tag_named}
use Rattle.named.specs.Named.{is_supertag, tag_made, named}
use Rattle.flows.specs.Flows.{flows}
use Rattle.prelude.specs.Prelude.{prelude, asks}
use Rattle.thread_rules.specs.ThreadRules.{aside_made}
use Rattle.act.specs.Step.{passes, seen, checked, asks_one, pair_asked, walked}
use Rattle.assurance.specs.Runs.{Machine}
use Rattle.assurance.proofs.Sound.{Sound, walk_in}

-- who asks names a tag that is made
asks-made : (s : Sight) (r : Request) → asks s r ≡ true → named s r ≡ true → tag_made s (tag_named r) ≡ true
asks-made s (OfAuthority NewPrincipal) a n = absurd (never a refl)
asks-made s (OfAuthority (Delegate p q)) a n = absurd (never a refl)
asks-made s (OfAuthority (Revoke p q)) a n = absurd (never a refl)
asks-made s (OfAuthority (ActsFor p q)) a n = absurd (never a refl)
asks-made s (OfAuthority NewTag) a n = absurd (never a refl)
asks-made s (OfAuthority (NewSubtag t)) a n = and_left (tag_made s t) (is_supertag s.lineage) n
asks-made s (OfAuthority (Grant t p q)) a n = absurd (never a refl)
asks-made s (OfAuthority (Ungrant t p q)) a n = absurd (never a refl)
asks-made s (OfAuthority (Authoritative t)) a n = n
asks-made s (OfThread (IntoSecrecy t)) a n = n
asks-made s (OfThread (OutOfSecrecy t)) a n = n
asks-made s (OfThread (IntoIntegrity t)) a n = n
asks-made s (OfThread (OutOfIntegrity t)) a n = n
asks-made s (OfThread (Fork p)) a n = absurd (never a refl)
asks-made s (OfThread End) a n = absurd (never a refl)
asks-made s (OfThread (Call p)) a n = absurd (never a refl)
asks-made s (OfThread Return) a n = absurd (never a refl)
asks-made s (OfObject r) a n = absurd (never a refl)
asks-made s (OfOutside r) a n = absurd (never a refl)

-- who passed 2, 3 and 4 is live and names what there is
pub passed-gives : (s : Sight) (k : ℕ) (r : Request) → passes (prelude s k r) ≡ true → (s.caller.live ≡ true) × (named s r ≡ true)
unfolding prelude
passed-gives s k r =
    let P : Result Unit Refusal → Type 0 = λ c. passes c ≡ true → (s.caller.live ≡ true) × (named s r ≡ true) in
    by-test P (not s.caller.live) (λ e q. absurd (never q refl)) (λ live.
    by-test P (not (named s r)) (λ e q. absurd (never q refl)) (λ there.
    by-test P (not (flows s k r)) (λ e q. absurd (never q refl)) (λ flow q. (not-false _ live, not-false _ there))))

-- a pair of bytes read back from its number
pair_parts : (p t : ℕ) → p < 256 → t < 256 → ((p * 256 + t) / 256 % 256 ≡ p) × ((p * 256 + t) % 256 ≡ t)
pair_parts p t a b = (omega arith, omega arith)

module _ (z : Machine) (sound : Sound z) (f : List ℕ) where
  abbrev t : Tables
  t = z.world.tables

  abbrev s : Sight
  s = seen t z.world.links z.world.grants f

  -- the question is reached
  module _ (reached : asks_one t z.world.links z.world.grants f ≡ true) where
    pub gives : (s.caller.live ≡ true) × (named s (request_of f) ≡ true)
    gives = passed-gives s (kind_of f) (request_of f) (and_left (passes (checked t z.world.links z.world.grants f)) (asks s (request_of f)) (and_right (well_formed f) _ reached))

    -- the caller's row is one of the 16, and what it names is made
    pub asker-made : s.caller.principal.0 < t.principals
    asker-made =
        let n = (thread_of f).0 in
        let r = thread_at t.threads n in
        let low : n < most_threads = omega (arith, live-among t.threads n gives.0, sound.sized.threads) in
        ltb-true r.principal.0 t.principals
        (and_left _ (labels_made t.tags r.labels && aside_made t.principals r.aside r.calls) (implies (is_live r.live) _ (sound.rules.made.threads n low) gives.0))

    pub tag-made : (tag_named (request_of f)).0 < t.tags
    tag-made = ltb-true _ t.tags (asks-made s (request_of f) (and_right (passes (checked t z.world.links z.world.grants f)) (asks s (request_of f)) (and_right (well_formed f) _ reached)) gives.1)

    -- the walk of the question is the walk of its pair
    pub walked-is : walked s z.world.links z.world.grants (request_of f) ≡ walk_in z.world (pair_asked s z.world.links z.world.grants (request_of f))
    walked-is =
        let p = s.caller.principal.0 in
        let u = (tag_named (request_of f)).0 in
        let w = pair_parts p u (omega (arith, asker-made, sound.rules.limits.principals)) (omega (arith, tag-made, sound.rules.limits.tags)) in
        sym (ap₂ (λ (a b : ℕ). authoritative (links_in z.world.links t.links Principals) z.world.grants t.grants (lineage_of t.kinds (record { 0 = b })) (record { 0 = a })) w.0 w.1)
