-- "A leave is a link that an accepted 01, 02 or 07 names; an accepted 03 or 08 withdraws it" (01). The leaves are folded from the
-- requests and their answers alone; with them who made each tag, and who each thread runs as, since 01 links to the caller.
-- Assumes nothing.
use Rattle.std.specs.Prelude.{Bool, true, false, cond, ◌&&◌, List, [], ◌∷◌, ℕ, eqb, get_or}
use Rattle.numbers.specs.Numbers.{office}
use Rattle.numbers.specs.declared.Tag.{Tag}
use Rattle.links.specs.Paths.{Link}
use Rattle.frames.specs.Requests.{thread_of, request_of}
use Rattle.frames.specs.declared.requests.AuthorityRequest.{AuthorityRequest}
use Rattle.frames.specs.declared.requests.AuthorityRequest.TheVariants.{NewPrincipal, Delegate, Revoke, ActsFor, NewTag, NewSubtag, Grant, Ungrant, Authoritative}
use Rattle.frames.specs.declared.requests.ThreadRequest.{ThreadRequest}
use Rattle.frames.specs.declared.requests.ThreadRequest.TheVariants.{IntoSecrecy, OutOfSecrecy, IntoIntegrity, OutOfIntegrity, Fork, End, Call, Return}
use Rattle.frames.specs.declared.requests.Request.{Request}
use Rattle.frames.specs.declared.requests.Request.TheVariants.{OfAuthority, OfThread, OfObject, OfOutside}

-- a tag's maker and, for a subtag, its supertag
pub record Made : Type 0 where
  pub maker : ℕ
  pub is_subtag : Bool
  pub above : ℕ

-- what the requests so far and their answers say
pub record Known : Type 0 where
  -- the leaves: between principals, and of each tag
  pub links : List Link
  pub grants : ℕ → List Link
  pub tags : ℕ → Made
  -- who a thread runs as, and after it those put aside, the last one first
  pub runs : ℕ → List ℕ

-- a function with one value changed
abbrev pub changed : {A : Type 0} → (ℕ → A) → ℕ → A → ℕ → A
changed f n x k = cond (eqb n k) x (f k)

-- a list of leaves without those from p to q
unfoldable pub withdrawn : List Link → ℕ → ℕ → List Link
withdrawn [] p q = []
withdrawn (l ∷ ls) p q = cond (eqb l.from p && eqb l.to q) (withdrawn ls p q) (l ∷ withdrawn ls p q)

abbrev pub link : ℕ → ℕ → Link
link p q = record { from = p; to = q }

-- who runs, of a thread's list
abbrev pub runner : List ℕ → ℕ
runner l = get_or l 0 0

unfoldable pub rest : List ℕ → List ℕ
rest [] = []
rest (p ∷ l) = l

-- an accepted request of thread n whose answer has the value v
module _ (k : Known) (n v : ℕ) where
  abbrev pub caller : ℕ
  caller = runner (k.runs n)

  abbrev pub with_links : List Link → Known
  with_links l = record { links = l; grants = k.grants; tags = k.tags; runs = k.runs }

  abbrev pub with_grants : Tag → List Link → Known
  with_grants t l = record { links = k.links; grants = changed k.grants t.0 l; tags = k.tags; runs = k.runs }

  abbrev pub with_tag_made : Made → Known
  with_tag_made m = record { links = k.links; grants = k.grants; tags = changed k.tags v m; runs = k.runs }

  abbrev pub with_runs : ℕ → List ℕ → Known
  with_runs t l = record { links = k.links; grants = k.grants; tags = k.tags; runs = changed k.runs t l }

  abbrev pub authority_learnt : AuthorityRequest → Known
  authority_learnt NewPrincipal = with_links (link v caller ∷ k.links)
  authority_learnt (Delegate p q) = with_links (link p.0 q.0 ∷ k.links)
  authority_learnt (Revoke p q) = with_links (withdrawn k.links p.0 q.0)
  authority_learnt (ActsFor p q) = k
  authority_learnt NewTag = with_tag_made (record { maker = caller; is_subtag = false; above = 0 })
  authority_learnt (NewSubtag t) = with_tag_made (record { maker = caller; is_subtag = true; above = t.0 })
  authority_learnt (Grant t p q) = with_grants t (link p.0 q.0 ∷ k.grants t.0)
  authority_learnt (Ungrant t p q) = with_grants t (withdrawn (k.grants t.0) p.0 q.0)
  authority_learnt (Authoritative t) = k

  abbrev pub thread_learnt : ThreadRequest → Known
  thread_learnt (IntoSecrecy t) = k
  thread_learnt (OutOfSecrecy t) = k
  thread_learnt (IntoIntegrity t) = k
  thread_learnt (OutOfIntegrity t) = k
  thread_learnt (Fork p) = with_runs v (p.0 ∷ [])
  thread_learnt End = with_runs n []
  thread_learnt (Call p) = with_runs n (p.0 ∷ k.runs n)
  thread_learnt Return = with_runs n (rest (k.runs n))

  abbrev pub request_learnt : Request → Known
  request_learnt (OfAuthority r) = authority_learnt r
  request_learnt (OfThread r) = thread_learnt r
  request_learnt (OfObject r) = k
  request_learnt (OfOutside r) = k

-- of a frame and its answer: a status, and where it has one the value byte; a refusal teaches nothing
abbrev pub learnt : Known → List ℕ → ℕ → ℕ → Known
learnt k f status v = cond (eqb status 0) (request_learnt k (thread_of f).0 v (request_of f)) k

-- at the start: thread 0 runs as the office
abbrev pub at_first : Known
at_first =
    record {
      links = [];
      grants = λ t. [];
      tags = λ t. record { maker = 0; is_subtag = false; above = 0 };
      runs = λ n. cond (eqb n 0) (office ∷ []) [];
    }
