-- A block of input as a loop feeds it: what stands after i of its bytes, and what is left to do. Assumes nothing.
use mathlib.Core.Path.{◌≡◌, refl, sym, ap, ap₂, ◌∙◌}
use mathlib.Core.List.{List, [], ◌++◌}
use Prim.Native.Nat.{ℕ, suc, ◌+◌, ◌-◌, ◌≤◌, ◌<◌}
use native.Mathlib.Nat.{zero-add}
use native.Mathlib.Omega.{arith}
use borrow.Author.Tests.{eq-eqb, ne_eqb}
use lib.ListN.{length, take, drop, get_or, length-append}
use lib.Seq.{length-take-le}
use Rattle.numbers.proofs.Chain.{skip, hit}
use Rattle.lines.specs.Lines.{line_feed}
use Rattle.store.specs.Store.{over}
use Rattle.store.proofs.Over.{over_none, over-over}
use Rattle.session.specs.Session.{Carried, pushed, turned, printed, takes, says, after, output}
use Rattle.session.specs.Run.{answer_room, readable, fed, fed_session, fed_bytes}
use Rattle.session.proofs.SessionLaws.{after_next, output-next, readable-next}

-- from the session z with the output buffer o: i bytes of the input were taken, the session is y, the buffer is p, and `at` bytes are
-- written
pub record FedSoFar (z : Carried) (input o : List ℕ) (i : ℕ) (y : Carried) (p : List ℕ) (at : ℕ) : Type 0 where
  pub within : i ≤ length input
  pub session : y ≡ after z (take i input)
  pub kept : length p ≡ length o
  pub bytes : p ≡ over o 0 (output z (take i input))
  pub wrote : at ≡ length (output z (take i input))
  pub room : at ≤ length o
  -- how many bytes are taken in all
  pub rest : readable z input (length o) ≡ i + readable y (drop i input) (length o - at)

-- bytes put over a part of a list that keeps its length fit there
pub over-fits : (l : List ℕ) (at : ℕ) (bs : List ℕ) → at ≤ length l → length (over l at bs) ≡ length l → at + length bs ≤ length l
over-fits l at bs h e =
    omega (arith, e, length-append (take at l) (bs ++ drop (at + length bs) l), length-append bs (drop (at + length bs) l), length-take-le at l h)

module _ (z : Carried) (input o : List ℕ) where
  -- nothing was taken yet
  pub fed-none : FedSoFar z input o 0 z o 0
  unfolding after output
  fed-none =
      let e : length o ≡ length o - 0 = omega arith in
      record {
        within = omega arith;
        session = refl;
        kept = refl;
        bytes = sym (over_none o 0);
        wrote = refl;
        room = omega arith;
        rest = ap (readable z input) e ∙ sym (zero-add (readable z input (length o - 0)));
      }

  module _ {i at : ℕ} {y : Carried} {p : List ℕ} (f : FedSoFar z input o i y p at) where
    -- one byte more
    module _ (h : i < length input) (k : answer_room ≤ length p - at) where
      fed-next :
          {x : Carried} {q : List ℕ} {n : ℕ} → x ≡ takes y (get_or input i 0) → q ≡ over p at (says y (get_or input i 0)) → n ≡ at + length (says y (get_or input i 0))
          → length q ≡ length o → FedSoFar z input o (i + 1) x q n
      fed-next {x} {q} {n} e g w l =
          let b = get_or input i 0 in
          let out = output z (take i input) in
          let more : output z (take (i + 1) input) ≡ out ++ says y b = output-next z input i h ∙ ap (λ (v : Carried). out ++ says v b) (sym f.session) in
          let from : at ≡ 0 + length out = omega (arith, f.wrote) in
          let left : length o - at - length (says y b) ≡ length o - n = omega arith in
          let m = readable x (drop (i + 1) input) (length o - n) in
          let last : i + suc m ≡ i + 1 + m = omega arith in
          record {
            within = omega arith;
            session = e ∙ ap (λ (v : Carried). takes v b) f.session ∙ sym (after_next z input i h);
            kept = l;
            bytes =
                g ∙ ap₂ (λ (u : List ℕ) (j : ℕ). over u j (says y b)) f.bytes from ∙ over-over o 0 out (says y b) (omega (arith, f.wrote, f.room))
                ∙ ap (over o 0) (sym more);
            wrote = w ∙ ap (λ (j : ℕ). j + length (says y b)) f.wrote ∙ sym (ap length more ∙ length-append out (says y b));
            room = omega (arith, w, f.kept, over-fits p at (says y b) (omega (arith, f.kept, f.room)) (sym (ap length g) ∙ l ∙ sym f.kept));
            rest =
                f.rest ∙ ap (λ (j : ℕ). i + j) (readable-next y input i (length o - at) h (omega (arith, f.kept)))
                ∙ ap₂ (λ (v : Carried) (j : ℕ). i + suc (readable v (drop (i + 1) input) j)) (sym e) left ∙ last;
          }

      -- the end of a line
      pub fed-line :
          {x : Carried} {q : List ℕ} {j n : ℕ} → get_or input i 0 ≡ line_feed → x ≡ turned y → q ≡ over p at (printed y) → n ≡ length (printed y) → length q ≡ length o
          → j ≡ at + n → FedSoFar z input o (i + 1) x q j
      fed-line b e g m l k =
          let says-it = hit {x = printed y} [] (eq-eqb (get_or input i 0) line_feed b) refl in
          fed-next (e ∙ hit _ (eq-eqb (get_or input i 0) line_feed b) refl) (g ∙ ap (over p at) says-it) (k ∙ ap (λ (r : ℕ). at + r) (m ∙ ap length says-it)) l

      -- any other byte
      pub fed-byte :
          {x : Carried} {q : List ℕ} {n : ℕ} → (get_or input i 0 ≡ line_feed → ⊥)
          → x ≡ record { state = y.state; lists = y.lists; store = y.store; line = pushed y.line (get_or input i 0) } → q ≡ p → n ≡ at
          → FedSoFar z input o (i + 1) x q n
      fed-byte b e g m =
          let none = skip (printed y) {y = []} (ne_eqb (get_or input i 0) line_feed b) refl in
          fed-next (e ∙ skip (turned y) (ne_eqb (get_or input i 0) line_feed b) refl) (g ∙ sym (over_none p at) ∙ ap (over p at) none) (omega (arith, m, ap length none)) (ap length g ∙ f.kept)

    -- no more is taken
    module _ (done : readable y (drop i input) (length o - at) ≡ 0) where
      -- as many as there is room for
      all : i ≡ readable z input (length o)
      all = omega (arith, f.rest)

      pub value : record { read = i; written = at } ≡ fed z input o
      value = ap₂ (λ (n j : ℕ). record { read = n; written = j }) all (f.wrote ∙ ap (λ (n : ℕ). length (output z (take n input))) all)

      pub whole : y ≡ fed_session z input o
      whole = f.session ∙ ap (λ (n : ℕ). after z (take n input)) all

      pub all-bytes : p ≡ over o 0 (fed_bytes z input o)
      all-bytes = f.bytes ∙ ap (λ (n : ℕ). over o 0 (output z (take n input))) all
