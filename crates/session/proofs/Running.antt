-- A whole list: what is left where not all of it was read, and where its end was reached; and that a run that is complete has written
-- what the list has. Assumes nothing.
use mathlib.Core.Path.{◌≡◌, refl, sym, ap, ap₂, ◌∙◌}
use mathlib.Core.Bool.{Bool, true, false, cond}
use mathlib.Core.List.{List, [], ◌++◌, append-nil}
use Prim.Native.Nat.{ℕ, ◌+◌, ◌≤◌, ◌<◌}
use native.Mathlib.Omega.{arith}
use borrow.Author.Tests.{eqb-true, eq-eqb, ne_eqb}
use Rattle.std.specs.Prelude.{Option, Some, None, is_some, unwrap_or}
use lib.Dec.{eqb, leb}
use lib.ListN.{length, take, length-append}
use lib.Seq.{take-length}
use Rattle.numbers.proofs.Bools.{and_left}
use Rattle.numbers.proofs.Chain.{hit, and-stop, and-go}
use Rattle.state.specs.declared.Started.{Started}
use Rattle.state.specs.Start.{started, zeroed}
use Rattle.store.specs.Store.{over}
use Rattle.store.proofs.Over.{over-over}
use Rattle.session.specs.declared.Fed.{Fed}
use Rattle.session.specs.declared.Session.{Session}
use Rattle.session.specs.declared.Ran.{Ran}
use Rattle.session.specs.Session.{Carried, session_of, opened, after, output, ending, ended}
use Rattle.session.specs.Run.{ending_room, readable, fed, fed_session, fed_bytes, can_end, end_session, end_bytes, finished, begin, lines_of, complete, ran, ran_session, ran_bytes}
use Rattle.session.proofs.SessionLaws.{readable-within}
use Rattle.session.proofs.Feeding.{over-fits}

-- what feeding the input from z into o leaves: f, the session y and the buffer p
pub record Leaves (z : Carried) (input o : List ℕ) (f : Fed) (y : Carried) (p : List ℕ) : Type 0 where
  pub value : f ≡ fed z input o
  pub session : y ≡ fed_session z input o
  pub bytes : p ≡ over o 0 (fed_bytes z input o)
  pub kept : length p ≡ length o

-- feeding from the fresh state that `start` made, with no links: there the session is x, with the store d
pub fed-fresh :
    (size : ℕ) (b₀ input o : List ℕ) {a : Started} {x : Session} {d : List ℕ} {f : Fed} {y : Carried} {p : List ℕ} → a ≡ started size → x ≡ opened a.state
    → d ≡ zeroed b₀ → f ≡ fed (session_of x d) input o → y ≡ fed_session (session_of x d) input o → p ≡ over o 0 (fed_bytes (session_of x d) input o)
    → length p ≡ length o → Leaves (begin size b₀) input o f y p
fed-fresh size b₀ input o {a} {x} {d} s n w e q b k =
    let begun : session_of x d ≡ begin size b₀ =
    ap₂ (λ (v : Session) (l : List ℕ). session_of v l) n w ∙ ap (λ (v : Started). session_of (opened v.state) (zeroed b₀)) s in
    record {
      value = e ∙ ap (λ (v : Carried). fed v input o) begun;
      session = q ∙ ap (λ (v : Carried). fed_session v input o) begun;
      bytes = b ∙ ap (λ (v : Carried). over o 0 (fed_bytes v input o)) begun;
      kept = k;
    }

-- what a run says that began so
abbrev pub said : Started → Carried → ℕ → ℕ → Bool → Ran
said a v i n k = record { status = a.status; state = v.state; lists = v.lists; read = i; written = n; complete = k }

-- whether there was room for the end, and how many bytes it has
some-is : (k : Bool) (n : ℕ) → is_some (cond k (Some n) None) ≡ k
some-is true n = refl
some-is false n = refl

count-is : (k : Bool) (bs : List ℕ) → unwrap_or (cond k (Some (length (cond k bs []))) None) 0 ≡ length (cond k bs [])
count-is true bs = refl
count-is false bs = refl

module _ (size : ℕ) (b₀ input o : List ℕ) where
  abbrev z : Carried
  z = begin size b₀

  abbrev y : Carried
  y = fed_session z input o

  abbrev done : Bool
  done = complete size b₀ input o

  -- a run gives r, and leaves the session v and the buffer q
  pub record Runs (r : Ran) (v : Carried) (q : List ℕ) : Type 0 where
    pub value : r ≡ ran size b₀ input o
    pub store : v.store ≡ (ran_session size b₀ input o).store
    pub bytes : q ≡ over o 0 (ran_bytes size b₀ input o)

  -- from the start a and what feeding the input left
  module _ {a : Started} {f : Fed} {x : Carried} {p : List ℕ} (begun : a ≡ started size) (h : Leaves z input o f x p) where
    read : f.read ≡ readable z input (length o)
    read = ap (λ (v : Fed). v.read) h.value

    wrote : f.written ≡ length (fed_bytes z input o)
    wrote = ap (λ (v : Fed). v.written) h.value

    -- the block's bytes lie within the buffer
    within : 0 + length (fed_bytes z input o) ≤ length o
    within = over-fits o 0 (fed_bytes z input o) (omega arith) (sym (ap length h.bytes) ∙ h.kept)

    -- all of it, from what is written after the bytes of the block
    runs :
        {v : Carried} {q bs : List ℕ} {n : ℕ} {k : Bool} → k ≡ done → v ≡ cond k (ended y) y → bs ≡ cond k (ending y) [] → n ≡ length (fed_bytes z input o ++ bs)
        → q ≡ over o 0 (fed_bytes z input o ++ bs) → Runs (said a v f.read n k) v q
    runs {v} {q} {bs} {n} {k} c e s m w =
        let session : v ≡ ran_session size b₀ input o = e ∙ ap (λ (j : Bool). cond j (ended y) y) c in
        let bytes : fed_bytes z input o ++ bs ≡ ran_bytes size b₀ input o =
        ap (λ (u : List ℕ). fed_bytes z input o ++ u) (s ∙ ap (λ (j : Bool). cond j (ending y) []) c) in
        record {
          value =
              ap₂ (λ (u : Carried) (j : ℕ). said a u f.read j k) session (m ∙ ap length bytes)
              ∙ ap₂ (λ (i : ℕ) (j : Bool). said a (ran_session size b₀ input o) i (length (ran_bytes size b₀ input o)) j) read c
              ∙ ap (λ (u : Started). said u (ran_session size b₀ input o) (readable z input (length o)) (length (ran_bytes size b₀ input o)) done) begun;
          store = ap (λ (u : Carried). u.store) session;
          bytes = w ∙ ap (over o 0) bytes;
        }

    -- not all was read
    pub part-read :
        {e : Option ℕ} {v : Carried} {q : List ℕ} {n : ℕ} {k : Bool} → f.read < length input → e ≡ None → v ≡ x → q ≡ p → n ≡ unwrap_or e 0 → k ≡ is_some e
        → Runs (said a v f.read (f.written + n) k) v q
    part-read {e} {v} {q} {n} {k} i e-is s w n-is k-is =
        let end = append-nil (fed_bytes z input o) in
        let none : n ≡ 0 = n-is ∙ ap (λ (u : Option ℕ). unwrap_or u 0) e-is in
        let no : false ≡ done = and-stop (can_end y o (length (fed_bytes z input o))) (ne_eqb (readable z input (length o)) (length input) (λ q. omega (arith, q, read))) refl in
        let stop : k ≡ false = k-is ∙ ap (λ (u : Option ℕ). is_some u) e-is in
        runs {bs = []} (stop ∙ no) (s ∙ h.session ∙ ap (λ (j : Bool). cond j (ended y) y) (sym stop)) (ap (λ (j : Bool). cond j (ending y) []) (sym stop)) (omega (arith, none, wrote, ap length end)) (w ∙ h.bytes ∙ ap (over o 0) (sym end))

    -- all was read, and e is what the end gives
    pub all_read :
        {e : Option ℕ} {v : Carried} {q : List ℕ} {n : ℕ} {k : Bool} → length input ≤ f.read → e ≡ finished x p f.written → v ≡ end_session x p f.written
        → q ≡ over p f.written (end_bytes x p f.written) → n ≡ unwrap_or e 0 → k ≡ is_some e → Runs (said a v f.read (f.written + n) k) v q
    all_read {e} {v} {q} {n} {k} i e-is s w n-is k-is =
        let bs = fed_bytes z input o in
        let cs = end_bytes x p f.written in
        let room = can_end x p f.written in
        let c : room ≡ done =
        and-go (eq-eqb (readable z input (length o)) (length input) (omega (arith, read, readable-within z input (length o))))
        (ap₂ (λ (j r : ℕ). leb (j + ending_room) r) wrote h.kept) in
        let from : f.written ≡ 0 + length bs = omega (arith, wrote) in
        let put = w ∙ ap₂ (λ (u : List ℕ) (j : ℕ). over u j cs) h.bytes from ∙ over-over o 0 bs cs within in
        let some : k ≡ room = k-is ∙ ap (λ (u : Option ℕ). is_some u) e-is ∙ some-is room (length cs) in
        let count : n ≡ length cs = n-is ∙ ap (λ (u : Option ℕ). unwrap_or u 0) e-is ∙ count-is room (ending x) in
        let m : f.written + n ≡ length (bs ++ cs) = omega (arith, count, wrote, length-append bs cs) in
        let here = s ∙ ap₂ (λ (j : Bool) (u : Carried). cond j (ended u) u) (sym some) h.session in
        runs (some ∙ c) here (ap₂ (λ (j : Bool) (u : Carried). cond j (ending u) []) (sym some) h.session) m put

-- a run that is complete has written what the list has
pub complete-run :
    (size : ℕ) (b input o : List ℕ) → complete size b input o ≡ true → ran_bytes size b input o ≡ lines_of (begin size b) input
complete-run size b input o e =
    let z = begin size b in
    let n : readable z input (length o) ≡ length input =
    eqb-true (readable z input (length o)) (length input) (and_left (eqb (readable z input (length o)) (length input)) (can_end (fed_session z input o) o (length (fed_bytes z input o))) e) in
    let all : take (readable z input (length o)) input ≡ input = ap (λ (k : ℕ). take k input) n ∙ take-length input in
    ap (λ (u : List ℕ). fed_bytes z input o ++ u) (sym (hit [] e refl)) ∙ ap (λ (u : List ℕ). output z u ++ ending (after z u)) all
