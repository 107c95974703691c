-- What the requests and their answers say is what the world holds: its links, its tags and who its threads run as. Assumes nothing.
use mathlib.Core.Path.{◌≡◌, refl, sym, ap, ap₂, subst, ◌∙◌}
use mathlib.Core.Bool.{true}
use mathlib.Core.List.{List, [], ◌∷◌}
use mathlib.Core.Logic.{⊎_elim}
use Prim.Native.Nat.{ℕ, zero, suc, ◌+◌, ◌-◌, ◌≤◌, ◌<◌}
use native.Mathlib.Numerals.{add-one}
use native.Mathlib.Omega.{arith}
use borrow.Author.Tests.{eqb-true, eqb-false, eq-eqb, ne_eqb}
use lib.Dec.{eqb}
use lib.ListN.{length, set, length-set, get_or-replicate}
use lib.Seq.{get_or-set_same, get_or-set_other}
use Rattle.numbers.specs.Numbers.{most_put_aside}
use Rattle.numbers.specs.declared.Principal.{Principal}
use Rattle.numbers.proofs.Bools.{either, never}
use Rattle.links.specs.Links.{links_from}
use Rattle.tables.specs.Rows.{is_live, rank_of, is_subtag, supertag_in}
use Rattle.tables.specs.declared.rows.ThreadRow.{ThreadRow}
use Rattle.tables.specs.declared.rows.TagRow.{TagRow}
use Rattle.tables.specs.Things.{nobody, no_thread, no_tag, past_thread, thread_at, tag_at, fresh_tables}
use Rattle.tables.proofs.Among.{live-among}
use Rattle.thread_rules.specs.ThreadRules.{aside_at}
use Rattle.apply.specs.Apply.{called, back_from}
use Rattle.act.specs.World.{World}
use Rattle.kept.proofs.LinksKept.{of_tag}
use Rattle.assurance.specs.Runs.{fresh}
use Rattle.assurance.specs.Leaves.{Made, Known, changed, rest, at_first}
use Rattle.assurance.proofs.LeafLists.{Same}

-- ---- what a row says

-- who made a tag and what it is
abbrev pub made_by : TagRow → Made
made_by r = record { maker = r.root.0; is_subtag = is_subtag (rank_of r); above = (supertag_in (rank_of r)).0 }

-- the first c put aside, the last one first
unfoldable pub put_aside : List Principal → ℕ → List ℕ
put_aside aside zero = []
put_aside aside (suc c) = aside_at aside c ∷ put_aside aside c

-- who a thread runs as, and after it those put aside
abbrev pub runs_as : ThreadRow → List ℕ
runs_as r = r.principal.0 ∷ put_aside r.aside r.calls

-- that, and the places for those put aside: the rules do not count them, in the code their array does
pub record Ran (l : List ℕ) (r : ThreadRow) : Type 0 where
  pub list : l ≡ runs_as r
  pub places : length r.aside ≡ most_put_aside

-- of each made tag, its maker and what it is
abbrev pub TagsTold : (ℕ → Made) → ℕ → List TagRow → Type 0
TagsTold known tags rows = (t : ℕ) → t < tags → known t ≡ made_by (tag_at rows t)

-- of each live thread, who it runs as
abbrev pub RunsTold : (ℕ → List ℕ) → List ThreadRow → Type 0
RunsTold known rows = (n : ℕ) → is_live (thread_at rows n).live ≡ true → Ran (known n) (thread_at rows n)

-- ---- the whole; a principal link is one of tag 0

pub record Knows (k : Known) (w : World) : Type 0 where
  pub links : Same k.links (of_tag w.links w.tables.links 0)
  pub grants : (t : ℕ) → Same (k.grants t) (of_tag w.grants w.tables.grants t)
  pub tags : TagsTold k.tags w.tables.tags w.tables.kinds
  pub runs : RunsTold k.runs w.tables.threads

-- ---- the fresh world

-- thread 0 runs as the office, and no other is live
fresh-runs : RunsTold at_first.runs fresh_tables.threads
unfolding put_aside
fresh-runs zero live = record { list = refl; places = refl }
fresh-runs (suc n) live =
    let low = live-among fresh_tables.threads (suc n) live in
    absurd (never live (ap (λ (r : ThreadRow). is_live r.live) (get_or-replicate 15 n no_thread past_thread (omega arith))))

-- there is nothing else to know
pub fresh-known : (size : ℕ) → Knows at_first (fresh size).world
unfolding links_from
fresh-known size =
    record {
      links = record { joined = λ a b. refl };
      grants = λ t. record { joined = λ a b. refl };
      tags = λ t low. absurd (omega arith);
      runs = fresh-runs;
    }

-- ---- one value changed

-- what holds of a number and of all others holds of each
pub by_number : (P : ℕ → Type 0) (n : ℕ) → P n → ((j : ℕ) → (j ≡ n → ⊥) → P j) → (j : ℕ) → P j
by_number P n own other j = ⊎_elim (λ e. subst P (sym (eqb-true j n e)) own) (λ e. other j (eqb-false j n e)) (either (eqb j n))

-- a function with one value changed, there and elsewhere
module _ {A : Type 0} (f : ℕ → A) (n : ℕ) (x : A) where
  pub changed-own : changed f n x n ≡ x
  changed-own = rw (eq-eqb n n refl)

  pub changed-other : (j : ℕ) → (j ≡ n → ⊥) → changed f n x j ≡ f j
  changed-other j apart = rw (ne_eqb n j (λ e. apart (sym e)))

-- a row more, for the tag that is made next
pub tags-known :
    (known : ℕ → Made) (tags : ℕ) (rows : List TagRow) (row : TagRow) → tags < length rows → TagsTold known tags rows →
    TagsTold (changed known tags (made_by row)) (tags + 1) (set rows tags row)
tags-known known tags rows row room old =
    by_number (λ t. t < tags + 1 → changed known tags (made_by row) t ≡ made_by (tag_at (set rows tags row) t)) tags
    (λ h. changed-own known tags (made_by row) ∙ ap made_by (sym (get_or-set_same rows tags row no_tag room)))
    (λ t apart h. changed-other known tags (made_by row) t apart ∙ old t (omega arith) ∙ ap made_by (sym (get_or-set_other rows tags t row no_tag apart)))

module _ (known : ℕ → List ℕ) (rows : List ThreadRow) (n : ℕ) (r : ThreadRow) (room : n < length rows) (old : RunsTold known rows) where
  abbrev row_at : ℕ → ThreadRow
  row_at j = thread_at (set rows n r) j

  -- a thread's row is another, and what is known of it
  pub runs-known : (l : List ℕ) → (is_live r.live ≡ true → Ran l r) → RunsTold (changed known n l) (set rows n r)
  runs-known l new =
      by_number (λ j. is_live (row_at j).live ≡ true → Ran (changed known n l j) (row_at j)) n
      (rw (changed-own known n l, get_or-set_same rows n r past_thread room) new)
      (λ j apart. rw (changed-other known n l j apart, get_or-set_other rows n j r past_thread apart) (old j))

  -- who it runs as stays
  pub runs-stay : (is_live r.live ≡ true → Ran (known n) r) → RunsTold known (set rows n r)
  runs-stay new =
      by_number (λ j. is_live (row_at j).live ≡ true → Ran (known j) (row_at j)) n
      (rw (get_or-set_same rows n r past_thread room) new) (λ j apart. rw (get_or-set_other rows n j r past_thread apart) (old j))

-- ---- calls

-- who is put aside past the first c is not among them
aside-other : (aside : List Principal) (i c : ℕ) (p : Principal) → c ≤ i → put_aside (set aside i p) c ≡ put_aside aside c
unfolding put_aside
aside-other aside i zero p h = refl
aside-other aside i (suc c) p h =
    ap₂ (λ (a : Principal) (l : List ℕ). a.0 ∷ l) (get_or-set_other aside i c p nobody (λ e. omega arith)) (aside-other aside i c p (omega arith))

module _ {l : List ℕ} {r : ThreadRow} (ran : Ran l r) where
  -- 10: who ran is put aside
  pub called-ran : (p : Principal) → r.calls < most_put_aside → Ran (p.0 ∷ l) (called r p)
  unfolding put_aside
  called-ran p room =
      let c = r.calls in
      let aside = set r.aside c r.principal in
      let same : put_aside aside (c + 1) ≡ runs_as r =
      ap (put_aside aside) (add-one c)
      ∙ ap₂ (λ (a : Principal) (m : List ℕ). a.0 ∷ m) (get_or-set_same r.aside c r.principal nobody (omega (arith, ran.places)))
      (aside-other r.aside c c r.principal (omega arith)) in
      record { list = ap (λ (m : List ℕ). p.0 ∷ m) (ran.list ∙ sym same); places = length-set r.aside c r.principal ∙ ran.places }

  -- 11: the last one put aside is back
  pub back-ran : 0 < r.calls → Ran (rest l) (back_from r)
  unfolding put_aside rest
  back-ran some =
      let c = r.calls - 1 in
      let more : r.calls ≡ suc c = omega arith in
      record {
        list =
            ap rest ran.list ∙ ap (put_aside r.aside) more
            ∙ ap (λ (m : List ℕ). aside_at r.aside c ∷ m) (sym (aside-other r.aside c c nobody (omega arith)));
        places = length-set r.aside c nobody ∙ ran.places;
      }
