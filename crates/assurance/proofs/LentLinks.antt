-- The links of a tag in a lent list, and the number of one of them: where it stands, and what appending or removing it does. A principal
-- link is one of tag 0. Assumes nothing.
use mathlib.Core.Path.{◌≡◌, refl, sym, ap, ap₂, subst, ◌∙◌}
use mathlib.Core.Bool.{true, false, ◌&&◌}
use mathlib.Core.List.{List, [], ◌∷◌}
use mathlib.Core.Logic.{⊎_elim}
use Prim.Native.Nat.{ℕ, suc, ◌+◌, ◌-◌, ◌*◌, ◌/◌, ◌%◌, ◌≤◌, ◌<◌}
use native.Mathlib.Omega.{arith}
use borrow.Author.Tests.{eqb-true, le-leb, lt-ltb, ltb-true, ltb-false}
use lib.Dec.{eqb, ltb, leb}
use lib.ListN.{length, take, length-take}
use lib.Seq.{get_or-take}
use Rattle.numbers.proofs.Bools.{and_both, either, never}
use Rattle.std.specs.Prelude.{Option, Some, None, is_some}
use Rattle.links.specs.declared.lists.Graph.TheVariants.{OfTag}
use Rattle.links.specs.Paths.{Link, joins}
use Rattle.links.specs.Links.{is_link_of, find_from, find_in, stands, appended, removed}
use Rattle.links.proofs.LinkLaws.{Names, test-names, number-joins, said}
use Rattle.links.proofs.ListLaws.{appended-joins, appended-other, removed-joins, removed-other}
use Rattle.link_rules.specs.LinkRules.{at}
use Rattle.link_rules.proofs.RuleLaws.{LinksHold}
use Rattle.link_rules.proofs.FillLaws.{tag-parts}
use Rattle.kept.proofs.LinksKept.{of_tag, Parts, number-parts, names-parts, linked-at, stood, removed-at, stands-nowhere}
use Rattle.assurance.specs.Leaves.{link, withdrawn}
use Rattle.assurance.proofs.LeafLists.{Same, same_then, given_both, withdrawn-both, given-again, withdrawn-none, withdrawn-one}

-- ---- where a number is found

-- the place of what is found, counted from k
found_at : (k : ℕ) (ys : List ℕ) (x i : ℕ) → find_from k ys x ≡ Some i → (j : ℕ) × (i ≡ k + j) × (j < length ys) × (at ys j ≡ x)
unfolding find_from
found_at k [] x i e = absurd (let z : ◌≡◌ {A = ℕ} 0 1 = cc in omega arith)
found_at k (y ∷ ys) x i e =
    ⊎_elim
    (λ t. let z : k ≡ i = cc in (0, omega arith, omega arith, eqb-true y x t))
    (λ t. let w = found_at (suc k) ys x i (rw t at e) in (suc w.0, omega (arith, w.1), omega (arith, w.2), w.3))
    (either (eqb y x))

-- what is found has a place
found_some : (f : Option ℕ) → is_some f ≡ true → (i : ℕ) × (f ≡ Some i)
found_some (Some i) e = (i, refl)
found_some None e = absurd (never e refl)

-- ---- the links of a tag in a lent list, of which n places are in use, and the number of the link from p to q of tag t

module _ (l : List ℕ) (n t p q : ℕ) (near : p < 64) (far : q < 64) where
  abbrev x : ℕ
  x = (t * 256 + p) * 256 + q

  -- it names the link
  names : Names (t * 256) x p q
  names = record { near = omega arith; far = omega arith; from_low = near; to_low = far }

  -- so it is one of tag t
  own-link : is_link_of (t * 256) x ≡ true
  own-link =
      let w = names in
      and_both (leb (t * 256) (x / 256)) (ltb (x / 256) (t * 256 + 64) && ltb (x % 256) 64) (le-leb (t * 256) (x / 256) (omega (arith, w.near)))
      (and_both (ltb (x / 256) (t * 256 + 64)) (ltb (x % 256) 64) (lt-ltb (x / 256) (t * 256 + 64) (omega (arith, w.near)))
      (lt-ltb (x % 256) 64 (omega (arith, w.far))))

  -- and says from where to where
  says : said (t * 256) x ≡ link p q
  says =
      let w = names in
      let from : x / 256 - t * 256 ≡ p = omega (arith, w.near) in
      ap₂ link from w.far

  -- it is one of no other tag
  other-link : (u : ℕ) → (u ≡ t → ⊥) → is_link_of (u * 256) x ≡ false
  other-link u apart =
      ⊎_elim
      (λ e. absurd (apart (sym (names-parts u (test-names (u * 256) x e)).0 ∙ (number-parts t p q near far x refl).0)))
      (λ e. e)
      (either (is_link_of (u * 256) x))

  -- a number with these parts is it
  parts-number : (y : ℕ) → Parts y t p q → y ≡ x
  parts-number y w = omega (arith, tag-parts y, w.0, w.1.0, w.1.1)

  -- ---- it stands or it does not

  -- at a place in use it is a link
  place-linked : (i : ℕ) → i < n → i < length l → at l i ≡ x → joins (of_tag l n t) p q ≡ true
  place-linked i low there e =
      number-joins (t * 256) (take n l) i p q (omega (arith, length-take n l))
      (subst (λ (y : ℕ). Names (t * 256) y p q) (sym (get_or-take n l i 0 low ∙ e)) names)

  -- where it is found
  found-place : (i : ℕ) → find_in (take n l) x ≡ Some i → (i < n) × (i < length l) × (at l i ≡ x)
  found-place i e =
      let w = found_at 0 (take n l) x i e in
      let same : i ≡ w.0 = omega (arith, w.1) in
      let low : i < n = omega (arith, same, w.2, length-take n l) in
      (low, omega (arith, same, w.2, length-take n l), sym (get_or-take n l i 0 low) ∙ ap (at (take n l)) same ∙ w.3)

  -- it stands: it is a link
  standing : stands l n x ≡ true → joins (of_tag l n t) p q ≡ true
  standing e =
      let f = found_some (find_in (take n l) x) e in
      let w = found-place f.0 f.1 in
      place-linked f.0 w.0 w.1 w.2

  -- it does not: it is none
  not-standing : n ≤ length l → find_in (take n l) x ≡ None → joins (of_tag l n t) p q ≡ false
  not-standing fits e =
      ⊎_elim
      (λ h. let w = linked-at l n t p q h in absurd (stands-nowhere l n x fits (ap is_some e) w.0 w.1 (parts-number (at l w.0) w.2)))
      (λ h. h)
      (either (joins (of_tag l n t) p q))

  -- ---- it is appended

  -- tag t has this link more
  appended-own : n < length l → Same (link p q ∷ of_tag l n t) (of_tag (appended l n x) (n + 1) t)
  appended-own room =
      record {
        joined = λ a b.
            sym (appended-joins l n x (OfTag (record { 0 = t })) room own-link a b ∙ ap (λ (k : Link). joins (k ∷ of_tag l n t) a b) says);
      }

  -- the other tags have what they had
  pub appended-apart : n < length l → (u : ℕ) → (u ≡ t → ⊥) → of_tag l n u ≡ of_tag (appended l n x) (n + 1) u
  appended-apart room u apart = sym (appended-other l n x (OfTag (record { 0 = u })) room (other-link u apart))

  -- ---- it is removed

  module _ {tags principals : ℕ} (holds : LinksHold l n tags principals) (i : ℕ) (found : find_in (take n l) x ≡ Some i) where
    abbrev less : List ℕ
    less = removed l n i

    fits : n ≤ length l
    fits = omega (arith, holds.limits.whole, holds.limits.few)

    -- the place where it stood
    low : i < n
    low = (found-place i found).0

    there : at l i ≡ x
    there = (found-place i found).2

    -- it stood once
    gone : joins (of_tag less (n - 1) t) p q ≡ false
    gone =
        ⊎_elim
        (λ h.
        let w = linked-at less (n - 1) t p q h in
        let k = w.0 in
        let j = stood i k in
        let again : at l j ≡ at l i = sym (removed-at l n i low fits k w.1) ∙ parts-number (at less k) w.2 ∙ sym there in
        absurd
        (⊎_elim (λ b. holds.doubled j i (ltb-true j i b) low again)
        (λ b. holds.doubled i j (omega (arith, ltb-false j i b)) (omega (arith, w.1)) (sym again)) (either (ltb j i))))
        (λ h. h)
        (either (joins (of_tag less (n - 1) t) p q))

    -- tag t has this link fewer
    removed-own : Same (of_tag l n t) (link p q ∷ of_tag less (n - 1) t)
    removed-own =
        let own : is_link_of (t * 256) (at l i) ≡ true = ap (is_link_of (t * 256)) there ∙ own-link in
        record {
          joined = λ a b.
              removed-joins l n i (OfTag (record { 0 = t })) low fits own a b
              ∙ ap (λ (k : Link). joins (k ∷ of_tag less (n - 1) t) a b) (ap (said (t * 256)) there ∙ says);
        }

    -- the other tags have what they had
    pub removed-apart : (u : ℕ) → (u ≡ t → ⊥) → of_tag l n u ≡ of_tag less (n - 1) u
    removed-apart u apart = removed-other l n i (OfTag (record { 0 = u })) low fits (ap (is_link_of (u * 256)) there ∙ other-link u apart)

  -- ---- leaves that are the links of tag t stay so

  module _ {ks : List Link} (same : Same ks (of_tag l n t)) where
    -- a leave given that was there
    pub leaf-had : stands l n x ≡ true → Same (link p q ∷ ks) (of_tag l n t)
    leaf-had e = same_then (given_both p q same) (given-again (of_tag l n t) p q (standing e))

    -- one that was not
    pub leaf-given : n < length l → Same (link p q ∷ ks) (of_tag (appended l n x) (n + 1) t)
    leaf-given room = same_then (given_both p q same) (appended-own room)

    -- a leave withdrawn that was not there
    pub leaf-lacked : n ≤ length l → find_in (take n l) x ≡ None → Same (withdrawn ks p q) (of_tag l n t)
    leaf-lacked fits e = same_then (withdrawn-both p q same) (withdrawn-none (of_tag l n t) p q (not-standing fits e))

    -- one that was
    pub leaf-taken :
        {tags principals : ℕ} → LinksHold l n tags principals → (i : ℕ) → find_in (take n l) x ≡ Some i →
        Same (withdrawn ks p q) (of_tag (removed l n i) (n - 1) t)
    leaf-taken holds i e =
        same_then (withdrawn-both p q (same_then same (removed-own holds i e))) (withdrawn-one (of_tag (removed l n i) (n - 1) t) p q (gone holds i e))
