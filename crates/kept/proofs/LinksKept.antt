-- A list of links that obeys its rules of 9 still does when a link is appended or removed and when more tags or principals are made;
-- and what the tests of kinds 01, 02 and 07 have shown makes a link that may be appended. Assumes nothing.
use mathlib.Core.Path.{◌≡◌, refl, sym, ap, subst, subst₂, ◌∙◌}
use mathlib.Core.Bool.{true, false}
use mathlib.Core.List.{List, [], ◌∷◌, ◌++◌, append_assoc}
use mathlib.Core.Logic.{◌↔◌, ⊎_elim}
use Prim.Native.Nat.{ℕ, zero, suc, ◌+◌, ◌-◌, ◌*◌, ◌≤◌, ◌<◌, min}
use native.Mathlib.Nat.{le_of_suc-le-suc, not-suc-le-zero}
use native.Mathlib.Omega.{arith}
use borrow.Author.Tests.{eq-eqb, eqb-true, eqb-false, lt-ltb, ltb-true, ltb-false}
use lib.Dec.{eqb, ltb}
use lib.ListN.{length, get_or, take, drop, set, length-append, length-take, length-drop, length-set, get_or-append}
use lib.Seq.{length-take-le, get_or-append-add, get_or-drop, get_or-set_other, get_or-set_same, get_or-take}
use Rattle.numbers.specs.declared.Principal.{Principal}
use Rattle.numbers.specs.declared.Tag.{Tag}
use Rattle.numbers.specs.Numbers.{public, link_places}
use Rattle.numbers.proofs.Bools.{either, never, by-test}
use Rattle.numbers.proofs.Says.{ltb-is, and_is}
use Rattle.std.specs.Prelude.{Option, is_some}
use Rattle.links.specs.declared.lists.Graph.{Graph}
use Rattle.links.specs.declared.lists.Graph.TheVariants.{Principals, OfTag}
use Rattle.links.specs.Paths.{Link, joins, Path}
use Rattle.links.specs.Links.{is_link_of, base_of, links_in, link_number, find_from, stands, appended, removed, gap_closed}
use Rattle.links.specs.Cycles.{NoCycle, closes_cycle}
use Rattle.links.proofs.PathLaws.{Among, joins-tail, path-unlinked, leads-is}
use Rattle.links.proofs.LinkLaws.{Names, test-names, joins-number, said}
use Rattle.links.proofs.CycleLaws.{no_cycle-fewer, closes_cycle-is}
use Rattle.links.proofs.ListLaws.{appended-no_cycle, appended-other, removed-joins, removed-other}
use Rattle.link_rules.specs.LinkRules.{tag_in, from_in, to_in, at, made}
use Rattle.link_rules.proofs.RuleLaws.{LinksHold}
use Rattle.link_rules.proofs.FillLaws.{tag-parts}

-- x may join the list: its numbers are made, it does not lead to the public, it is not there, and closes no cycle of its tag
pub record NewLink (l : List ℕ) (n tags principals x : ℕ) : Type 0 where
  pub tag-made : tag_in x < tags
  pub from-made : from_in x < principals
  pub to_made : to_in x < principals
  pub to-public : to_in x ≡ public → ⊥
  pub new : (i : ℕ) → i < n → at l i ≡ x → ⊥
  pub acyclic : Path (links_in l n (OfTag (record { 0 = tag_in x }))) (to_in x) (from_in x) → ⊥

-- the links of one tag
abbrev pub of_tag : List ℕ → ℕ → ℕ → List Link
of_tag l n t = links_in l n (OfTag (record { 0 = t }))

-- ---- the parts of a link's number

-- x is the link from p to q of tag t
abbrev pub Parts : ℕ → ℕ → ℕ → ℕ → Type 0
Parts x t p q = (tag_in x ≡ t) × ((from_in x ≡ p) × (to_in x ≡ q))

-- the number made of three parts has them
pub number-parts : (t p q : ℕ) → p < 64 → q < 64 → (x : ℕ) → x ≡ (t * 256 + p) * 256 + q → Parts x t p q
number-parts t p q near far x e = omega (arith, tag-parts x)

-- and so has one that names a link of a tag
pub names-parts : (t : ℕ) {x p q : ℕ} → Names (t * 256) x p q → Parts x t p q
names-parts t {x} w = omega (arith, tag-parts x)

-- its tag and its ends are made
abbrev Made : ℕ → ℕ → ℕ → Type 0
Made tags principals x = (tag_in x < tags) × ((from_in x < principals) × (to_in x < principals))

-- which is the rule's test
made-is : (l : List ℕ) (tags principals i : ℕ) → (made l tags principals i ≡ true) ↔ Made tags principals (at l i)
made-is l tags principals i =
    and_is (ltb-is (tag_in (at l i)) tags) (and_is (ltb-is (from_in (at l i)) principals) (ltb-is (to_in (at l i)) principals))

-- so it is at each place of a list that obeys
each-made : {l : List ℕ} {n tags principals : ℕ} → LinksHold l n tags principals → (i : ℕ) → i < n → Made tags principals (at l i)
each-made {l} {n} {tags} {principals} h i low = (made-is l tags principals i).0 (h.made i low)

-- a link of a tag stands at one of the places in use
pub linked-at : (l : List ℕ) (n t p q : ℕ) → joins (of_tag l n t) p q ≡ true → (i : ℕ) × (i < n) × Parts (at l i) t p q
linked-at l n t p q e =
    let w = joins-number (t * 256) (take n l) p q e in
    let low : w.0 < n = omega (arith, w.1, length-take n l) in
    (w.0, low, names-parts t (rw (get_or-take n l w.0 0 low) at w.2))

-- ---- one more

module _ (l : List ℕ) (n x : ℕ) (fits : n < length l) where
  -- there is a place for x
  appended-set : appended l n x ≡ set l n x
  appended-set = rw (lt-ltb n (length l) fits)

  -- the other places stay
  appended-at : (i : ℕ) → (i ≡ n → ⊥) → at (appended l n x) i ≡ at l i
  appended-at i apart = ap (λ (m : List ℕ). at m i) appended-set ∙ get_or-set_other l n i x 0 apart

  -- what holds of each place, and of x at place n, holds of each place after
  appended-each : (P : ℕ → ℕ → Type 0) → ((i : ℕ) → i < n → P i (at l i)) → P n x → (i : ℕ) → i < n + 1 → P i (at (appended l n x) i)
  appended-each P old new i h =
      ⊎_elim
      (λ e.
      subst (λ (j : ℕ). P j (at (appended l n x) j)) (sym (eqb-true i n e))
      (subst (P n) (sym (ap (λ (m : List ℕ). at m n) appended-set ∙ get_or-set_same l n x 0 fits)) new))
      (λ e. let apart = eqb-false i n e in subst (P i) (sym (appended-at i apart)) (old i (omega arith)))
      (either (eqb i n))

  -- no cycle of a tag is closed, where x closes none of its own
  appended-cycles : (t : ℕ) → NoCycle (of_tag l n t) → (Path (of_tag l n (tag_in x)) (to_in x) (from_in x) → ⊥) → NoCycle (of_tag (appended l n x) (n + 1) t)
  appended-cycles t none acyclic =
      ⊎_elim
      (λ e.
      let parts = names-parts t (test-names (t * 256) x e) in
      appended-no_cycle l n x (OfTag (record { 0 = t })) fits e none
      (λ w. acyclic (subst₂ (λ (a b : ℕ). Path (of_tag l n a) (to_in x) b) (sym parts.0) (sym parts.1.0) w)))
      (λ e. subst NoCycle (sym (appended-other l n x (OfTag (record { 0 = t })) fits e)) none)
      (either (is_link_of (t * 256) x))

-- a new link keeps the rules
pub links-appended :
    {l : List ℕ} {n tags principals x : ℕ} →
    LinksHold l n tags principals → n < link_places → NewLink l n tags principals x → LinksHold (appended l n x) (n + 1) tags principals
links-appended {l} {n} {tags} {principals} {x} h room w =
    let fits : n < length l = omega arith in
    let size : length (appended l n x) ≡ length l = ap length (appended-set l n x fits) ∙ length-set l n x in
    record {
      limits = omega arith;
      made = λ i low. (made-is (appended l n x) tags principals i).1
          (appended-each l n x fits (λ j. Made tags principals) (each-made h) (w.tag-made, (w.from-made, w.to_made)) i low);
      cycles = λ t low. appended-cycles l n x fits t (h.cycles t low) w.acyclic;
      doubled = λ i j less low.
          appended-each l n x fits (λ k y. (a : ℕ) → a < k → at (appended l n x) a ≡ y → ⊥)
          (λ k old a b e. h.doubled a k b old (sym (appended-at l n x fits a (omega arith)) ∙ e))
          (λ a b e. w.new a b (sym (appended-at l n x fits a (omega arith)) ∙ e)) j low i less;
      to-public = appended-each l n x fits (λ j y. to_in y ≡ public → ⊥) h.to-public w.to-public;
    }

-- the places that are not in use stay zero
pub unused-appended :
    (l : List ℕ) (n x : ℕ) → length l ≡ link_places → n < link_places →
    ((i : ℕ) → n ≤ i → i < link_places → get_or l i 0 ≡ 0) →
    (i : ℕ) → n + 1 ≤ i → i < link_places → get_or (appended l n x) i 0 ≡ 0
unused-appended l n x size room zeros i h low = appended-at l n x (omega arith) i (omega arith) ∙ zeros i (omega arith) low

-- ---- one fewer

-- what stands past the first list stands in the second
at-later : (xs ys : List ℕ) (m j : ℕ) → length xs ≡ m → m ≤ j → at (xs ++ ys) j ≡ at ys (j - m)
at-later xs ys m j e h =
    let same : j ≡ length xs + (j - m) = omega arith in
    ap (at (xs ++ ys)) same ∙ get_or-append-add xs ys (j - m) 0

-- a zero before zeros
zero-then : (ys : List ℕ) (k : ℕ) → ((m : ℕ) → k ≡ suc m → at ys m ≡ 0) → at (0 ∷ ys) k ≡ 0
zero-then ys zero zeros = refl
zero-then ys (suc m) zeros = zeros m refl

-- where that stood which a removal at i leaves at j: there, or from i on one place later
abbrev pub stood : ℕ → ℕ → ℕ
stood i j = j + (1 - (i - j))

module _ (l : List ℕ) (n i : ℕ) (h : i < n) (fits : n ≤ length l) where
  -- what stands before place i, and what after it
  abbrev front : List ℕ
  front = take i l

  abbrev back : List ℕ
  back = drop (suc i) (take n l)

  -- a removal puts them together
  removed-cut : removed l n i ≡ front ++ (back ++ (0 ∷ drop n l))
  unfolding gap_closed
  removed-cut = rw (lt-ltb i (min n (length l)) (omega arith))

  -- how long they are
  front_length : length front ≡ i
  front_length = length-take-le i l (omega arith)

  back-length : length back ≡ n - 1 - i
  back-length = omega (arith, length-drop (suc i) (take n l), length-take-le n l fits)

  -- the list stays as long as it was
  removed-length : length (removed l n i) ≡ length l
  removed-length =
      ap length removed-cut
      ∙ omega (arith, length-append front (back ++ (0 ∷ drop n l)), length-append back (0 ∷ drop n l), length-drop n l, front_length, back-length)

  -- the places in use
  pub removed-at : (j : ℕ) → j < n - 1 → at (removed l n i) j ≡ at l (stood i j)
  removed-at j low =
      ap (λ (m : List ℕ). at m j) removed-cut
      ∙ ⊎_elim
      (λ e.
      let less = ltb-true j i e in
      let same : j ≡ stood i j = omega arith in
      get_or-append front (back ++ (0 ∷ drop n l)) 0 j (omega (arith, front_length)) ∙ get_or-take i l j 0 less ∙ ap (at l) same)
      (λ e.
      let more = ltb-false j i e in
      let same : suc i + (j - i) ≡ stood i j = omega arith in
      at-later front (back ++ (0 ∷ drop n l)) i j front_length more
      ∙ get_or-append back (0 ∷ drop n l) 0 (j - i) (omega (arith, back-length))
      ∙ get_or-drop (suc i) (take n l) (j - i) 0
      ∙ get_or-take n l (suc i + (j - i)) 0 (omega arith)
      ∙ ap (at l) same)
      (either (ltb j i))

  -- and those past them
  removed-past : (j : ℕ) → n - 1 ≤ j → at (removed l n i) j ≡ at (0 ∷ drop n l) (j - (n - 1))
  removed-past j low =
      ap (λ (m : List ℕ). at m j) (removed-cut ∙ sym (append_assoc front back (0 ∷ drop n l)))
      ∙ at-later (front ++ back) (0 ∷ drop n l) (n - 1) j (omega (arith, length-append front back, front_length, back-length)) low

  -- no link is new
  removed-among : (g : Graph) → Among (links_in (removed l n i) (n - 1) g) (links_in l n g)
  removed-among g p q e =
      ⊎_elim
      (λ t. removed-joins l n i g h fits t p q ∙ joins-tail (said (base_of g) (at l i)) (links_in (removed l n i) (n - 1) g) p q e)
      (λ t. ap (λ (ls : List Link). joins ls p q) (removed-other l n i g h fits t) ∙ e)
      (either (is_link_of (base_of g) (at l i)))

-- one link fewer keeps the rules
pub links-removed :
    {l : List ℕ} {n tags principals : ℕ} (i : ℕ) → LinksHold l n tags principals → i < n → LinksHold (removed l n i) (n - 1) tags principals
links-removed {l} {n} {tags} {principals} i w h =
    let fits : n ≤ length l = omega arith in
    let size = removed-length l n i h fits in
    let at-is = removed-at l n i h fits in
    record {
      limits = omega arith;
      made = λ j low. (made-is (removed l n i) tags principals j).1
          (subst (Made tags principals) (sym (at-is j low)) (each-made w (stood i j) (omega arith)));
      cycles = λ t low. no_cycle-fewer (of_tag l n t) (of_tag (removed l n i) (n - 1) t) (removed-among l n i h fits (OfTag (record { 0 = t }))) (w.cycles t low);
      doubled = λ j k less low e. w.doubled (stood i j) (stood i k) (omega arith) (omega arith) (sym (at-is j (omega arith)) ∙ e ∙ at-is k low);
      to-public = λ j low e. w.to-public (stood i j) (omega arith) (ap to_in (sym (at-is j low)) ∙ e);
    }

-- and leaves zeros in the places that are not in use
pub unused-removed :
    (l : List ℕ) (n i : ℕ) → length l ≡ link_places → n ≤ link_places → i < n →
    ((j : ℕ) → n ≤ j → j < link_places → get_or l j 0 ≡ 0) →
    (j : ℕ) → n - 1 ≤ j → j < link_places → get_or (removed l n i) j 0 ≡ 0
unused-removed l n i size few h zeros j more low =
    removed-past l n i h (omega arith) j more
    ∙ zero-then (drop n l) (j - (n - 1)) (λ m e. get_or-drop n l m 0 ∙ zeros (n + m) (omega arith) (omega arith))

-- ---- more is made

-- no link speaks of the new tags, so none of theirs is in a cycle
pub links-more :
    {l : List ℕ} {n tags principals tags2 principals2 : ℕ} → LinksHold l n tags principals →
    tags ≤ tags2 → tags2 ≤ 64 → principals ≤ principals2 → principals2 ≤ 64 → LinksHold l n tags2 principals2
links-more {l} {n} {tags} {principals} {tags2} {principals2} h more low more-principals low-principals =
    record {
      limits = omega arith;
      made = λ i k. (made-is l tags2 principals2 i).1 (omega (arith, each-made h i k));
      cycles = λ t k p q e. let w = linked-at l n t p q e in h.cycles t (omega (arith, each-made h w.0 w.1)) p q e;
      doubled = h.doubled;
      to-public = h.to-public;
    }

-- ---- what the tests have shown

-- what is found at a place is found
found-there : (k : ℕ) (ys : List ℕ) (x i : ℕ) → i < length ys → at ys i ≡ x → is_some (find_from k ys x) ≡ true
unfolding find_from
found-there k [] x i h e = absurd (not-suc-le-zero h)
found-there k (y ∷ ys) x zero h e = rw (eq-eqb y x e)
found-there k (y ∷ ys) x (suc i) h e =
    by-test (λ (f : Option ℕ). is_some f ≡ true) (eqb y x) (λ t. refl) (λ t. found-there (suc k) ys x i (le_of_suc-le-suc h) e)

-- so what does not stand in the list is at no place in use
pub stands-nowhere : (l : List ℕ) (n x : ℕ) → n ≤ length l → stands l n x ≡ false → (i : ℕ) → i < n → at l i ≡ x → ⊥
stands-nowhere l n x fits e i low f =
    never (found-there 0 (take n l) x i (omega (arith, length-take-le n l fits)) (get_or-take n l i 0 low ∙ f)) e

-- a link is new by its tag and its ends
new-link :
    (l : List ℕ) (n tags principals t p q : ℕ) → principals ≤ 64 → t < tags → p < principals → q < principals → (q ≡ public → ⊥) →
    ((i : ℕ) → i < n → at l i ≡ (t * 256 + p) * 256 + q → ⊥) → (Path (of_tag l n t) q p → ⊥) →
    NewLink l n tags principals ((t * 256 + p) * 256 + q)
new-link l n tags principals t p q low ht hp hq own new acyclic =
    let w = number-parts t p q (omega arith) (omega arith) ((t * 256 + p) * 256 + q) refl in
    record {
      tag-made = omega arith;
      from-made = omega arith;
      to_made = omega arith;
      to-public = λ e. own (sym w.1.1 ∙ e);
      new = new;
      acyclic = λ path. acyclic (rw (w.0, w.1.0, w.1.1) at path);
    }

-- 07: a grant
pub grant-new :
    {g : List ℕ} {n tags principals : ℕ} (t : Tag) (p q : Principal) → LinksHold g n tags principals →
    t.0 < tags → p.0 < principals → q.0 < principals → (q.0 ≡ public → ⊥) →
    stands g n (link_number (t.0 * 256) p q) ≡ false → closes_cycle (links_in g n (OfTag t)) p q ≡ false →
    NewLink g n tags principals (link_number (t.0 * 256) p q)
grant-new {g} {n} {tags} {principals} t p q h ht hp hq own new acyclic =
    let gs = links_in g n (OfTag t) in
    new-link g n tags principals t.0 p.0 q.0 h.limits.principals-low ht hp hq own
    (stands-nowhere g n (link_number (t.0 * 256) p q) (omega arith) new)
    (λ path. never (closes_cycle-is gs p q ∙ (leads-is gs q.0 p.0).1 path) acyclic)

-- 02: a delegation, which is read as a grant of tag 0
pub delegate-new :
    {l : List ℕ} {n principals : ℕ} (p q : Principal) → LinksHold l n 1 principals →
    p.0 < principals → q.0 < principals → (q.0 ≡ public → ⊥) →
    stands l n (link_number 0 p q) ≡ false → closes_cycle (links_in l n Principals) p q ≡ false →
    NewLink l n 1 principals (link_number 0 p q)
delegate-new p q h = grant-new (record { 0 = 0 }) p q h (omega arith)

-- no link leads to the principal that is made next
unlinked-next : {l : List ℕ} {n tags principals : ℕ} → LinksHold l n tags principals → (t p : ℕ) → joins (of_tag l n t) p principals ≡ false
unlinked-next {l} {n} {tags} {principals} h t p =
    ⊎_elim
    (λ e. let w = linked-at l n t p principals e in absurd (omega (arith, each-made h w.0 w.1)))
    (λ e. e)
    (either (joins (of_tag l n t) p principals))

-- 01: a link from a principal that is new (its number is the count before) to one that was made before: nothing leads to it yet
pub principal-new :
    {l : List ℕ} {n principals : ℕ} (q : Principal) → LinksHold l n 1 principals → principals < 64 → q.0 < principals → (q.0 ≡ public → ⊥) →
    NewLink l n 1 (principals + 1) (link_number 0 (record { 0 = principals }) q)
principal-new {l} {n} {principals} q h room hq own =
    new-link l n 1 (principals + 1) 0 principals q.0 (omega arith) (omega arith) (omega arith) (omega arith) own
    (λ i low e. omega (arith, each-made h i low, number-parts 0 principals q.0 room (omega arith) (at l i) e))
    (λ path. omega (arith, path-unlinked (of_tag l n 0) principals (unlinked-next h 0) path refl))
