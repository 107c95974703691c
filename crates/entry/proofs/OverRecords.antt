-- What the entry over records leaves, from what the request over their numbers tells: the same answer, and in the lists the records of the
-- definition's numbers. Assumes nothing.
use mathlib.Core.Path.{◌≡◌, refl, sym, ap, ap₂, ◌∙◌}
use mathlib.Core.Bool.{Bool, true, false, not, cond}
use mathlib.Core.List.{List, [], ◌∷◌, ◌++◌, map, append-nil}
use mathlib.Core.Logic.{⊎_elim}
use Prim.Native.Nat.{ℕ, zero, suc, min}
use native.Mathlib.Omega.{arith}
use borrow.Author.Tests.{eq-eqb, eqb-true, eqb-false}
use lib.Dec.{eqb, ltb}
use lib.ListN.{length, take, drop, set, replicate, length-map, length-replicate, drop_of_length-le}
use lib.Seq.{take_all}
use Rattle.numbers.proofs.Bools.{either, and_left}
use Rattle.numbers.proofs.Chain.{hit, skip}
use Rattle.links.specs.Links.{gap_closed}
use Rattle.outcomes.specs.declared.ListChange.{ListChange}
use Rattle.outcomes.specs.declared.ListChange.TheVariants.{Keep, Append, Remove}
use Rattle.apply.specs.Apply.{apply_list}
use Rattle.rules.specs.Tested.{break_no_rule, hold_but_truth, pairs_true}
use Rattle.rules.proofs.RuleLaws.{rules-but-truth}
use Rattle.state.specs.declared.State.{State}
use Rattle.step.specs.declared.Stepped.{Stepped}
use Rattle.act.specs.Step.{After}
use Rattle.monitor.specs.declared.Stop.TheVariants.{NoRoom, BrokenRule}
use Rattle.monitor.specs.Monitor.{shortest_buffer, quiet, requested, reply_of}
use Rattle.monitor.proofs.Entering.{when-short, when-broken, told-status, told-written, told-links, told-grants}
use Rattle.records.specs.declared.principals.PrincipalLink.{PrincipalLink}
use Rattle.records.specs.declared.tags.TagLink.{TagLink}
use Rattle.records.specs.Records.{principal_number, principal_link, tag_number, tag_link, gathered, changed}
use Rattle.entry.specs.declared.Reply.{Reply}
use Rattle.entry.specs.Entry.{over_records, whole_places, reply_in}

-- ---- a change of the numbers is the same change of the records

module _ {A : Type 0} (link : ℕ → A) where
  map-take : (n : ℕ) (l : List ℕ) → map link (take n l) ≡ take n (map link l)
  map-take zero l = refl
  map-take (suc n) [] = refl
  map-take (suc n) (x ∷ l) = ap (λ (ys : List A). link x ∷ ys) (map-take n l)

  map-drop : (n : ℕ) (l : List ℕ) → map link (drop n l) ≡ drop n (map link l)
  map-drop zero l = refl
  map-drop (suc n) [] = refl
  map-drop (suc n) (x ∷ l) = map-drop n l

  map-append : (l k : List ℕ) → map link (l ++ k) ≡ map link l ++ map link k
  map-append [] k = refl
  map-append (x ∷ l) k = ap (λ (ys : List A). link x ∷ ys) (map-append l k)

  map-set : (l : List ℕ) (i x : ℕ) → map link (set l i x) ≡ set (map link l) i (link x)
  map-set [] i x = refl
  map-set (y ∷ l) zero x = refl
  map-set (y ∷ l) (suc i) x = ap (λ (ys : List A). link y ∷ ys) (map-set l i x)

  map-cond : (b : Bool) (l k : List ℕ) → map link (cond b l k) ≡ cond b (map link l) (map link k)
  map-cond true l k = refl
  map-cond false l k = refl

  map-changed : (c : ListChange) (n : ℕ) (l : List ℕ) → changed link c n (map link l) ≡ map link (apply_list c n l)
  unfolding gap_closed
  map-changed Keep n l = refl
  map-changed (Append x) n l =
      ap₂ (λ (k : ℕ) (ys : List A). cond (ltb n k) ys (map link l)) (length-map l link) (sym (map-set l n x)) ∙ sym (map-cond (ltb n (length l)) (set l n x) l)
  map-changed (Remove i) n l =
      ap (λ (k : ℕ). cond (ltb i (min n k)) (take i (map link l) ++ (drop (suc i) (take n (map link l)) ++ (link 0 ∷ drop n (map link l)))) (map link l)) (length-map l link)
      ∙ ap (λ (ys : List A). cond (ltb i (min n (length l))) ys (map link l)) (sym parts)
      ∙ sym (map-cond (ltb i (min n (length l))) (take i l ++ (drop (suc i) (take n l) ++ (0 ∷ drop n l))) l)
    where
      parts : map link (take i l ++ (drop (suc i) (take n l) ++ (0 ∷ drop n l))) ≡ take i (map link l) ++ (drop (suc i) (take n (map link l)) ++ (link 0 ∷ drop n (map link l)))
      parts =
          map-append (take i l) (drop (suc i) (take n l) ++ (0 ∷ drop n l))
          ∙ ap₂ (λ (xs ys : List A). xs ++ ys) (map-take i l)
          (map-append (drop (suc i) (take n l)) (0 ∷ drop n l)
          ∙ ap₂ (λ (xs ys : List A). xs ++ (link 0 ∷ ys)) (map-drop (suc i) (take n l) ∙ ap (drop (suc i)) (map-take n l)) (map-drop n l))

  -- and so where the change is one that was told, of the numbers of all records
  changed-all : (number : A → ℕ) (change : Stepped → ListChange) (n : ℕ) (ys : List A) (ms : List ℕ) (t u : Stepped) → t ≡ u → map link (map number ys) ≡ ys
      → apply_list (change u) n (map number ys) ≡ ms → changed link (change t) n ys ≡ map link ms
  changed-all number change n ys ms t u e same is =
      ap₂ (λ (x : Stepped) (xs : List A). changed link (change x) n xs) e (sym same) ∙ map-changed (change u) n (map number ys) ∙ ap (map link) is

-- ---- the numbers that are handed on

abbrev zeros : List ℕ
zeros = replicate 256 0

places-whole : (n : ℕ) → n ≡ 256 → whole_places n ≡ 256
places-whole n e = sym (hit 0 (eq-eqb n 256 e) refl)

places-odd : (n : ℕ) → eqb n 256 ≡ false → whole_places n ≡ 0
places-odd n e = sym (skip 256 e refl)

module _ {A : Type 0} (number : A → ℕ) (ys : List A) where
  abbrev handed : List ℕ
  handed = take (whole_places (length ys)) (gathered number ys zeros)

  -- those of a list of 256 places are all there are
  handed-whole : length ys ≡ 256 → handed ≡ map number ys
  handed-whole e =
      let long : length zeros ≡ 256 = length-replicate {A = ℕ} 256 0 in
      ap (λ (n : ℕ). take n (gathered number ys zeros)) (places-whole (length ys) e)
      ∙ ap (take 256)
      (ap₂ (λ (xs : List A) (ns : List ℕ). map number xs ++ ns) (take_all (length zeros) ys (omega (arith, e, long))) (drop_of_length-le zeros {i = length ys} (omega (arith, e, long)))
      ∙ append-nil (map number ys))
      ∙ take_all 256 (map number ys) (omega (arith, e, length-map ys number))

  -- and of another list there are none
  handed-long : length handed ≡ 256 → length ys ≡ 256
  handed-long e =
      ⊎_elim (λ t. eqb-true (length ys) 256 t)
      (λ t.
      let none : length handed ≡ 0 = ap (λ (n : ℕ). length (take n (gathered number ys zeros))) (places-odd (length ys) t) in
      omega (arith, e, none))
      (either (eqb (length ys) 256))

-- ---- the request over them

module _ (s : State) (b f a : List ℕ) where
  -- all that the lists do not show
  record Same (l g k h : List ℕ) : Type 0 where
    pub told : reply_of s l g b f a ≡ reply_of s k h b f a
    pub state : (requested s l g b f a).replied.state ≡ (requested s k h b f a).replied.state
    pub store : (requested s l g b f a).store ≡ (requested s k h b f a).store
    pub answer : (requested s l g b f a).answer ≡ (requested s k h b f a).answer

  -- what is told, by the tests
  told-short : (l g : List ℕ) → ltb (length a) shortest_buffer ≡ true → quiet NoRoom ≡ reply_of s l g b f a
  unfolding reply_of
  told-short l g e = hit _ e refl

  told-broken : (l g : List ℕ) → ltb (length a) shortest_buffer ≡ false → not (break_no_rule s.tables s.memory l g b) ≡ true → quiet BrokenRule ≡ reply_of s l g b f a
  unfolding reply_of
  told-broken l g e q = skip _ e (hit _ q refl)

  -- where the two requests are known to leave y and z
  same-as : {l g k h : List ℕ} {t : Stepped} {y z : After} → t ≡ reply_of s l g b f a → t ≡ reply_of s k h b f a → y ≡ requested s l g b f a → z ≡ requested s k h b f a
      → y.replied.state ≡ z.replied.state → y.store ≡ z.store → y.answer ≡ z.answer → Same l g k h
  same-as p q y z state store answer =
      record {
        told = sym p ∙ q;
        state = sym (ap (λ (x : After). x.replied.state) y) ∙ state ∙ ap (λ (x : After). x.replied.state) z;
        store = sym (ap (λ (x : After). x.store) y) ∙ store ∙ ap (λ (x : After). x.store) z;
        answer = sym (ap (λ (x : After). x.answer) y) ∙ answer ∙ ap (λ (x : After). x.answer) z;
      }

  equal : {l g k h : List ℕ} → l ≡ k → g ≡ h → Same l g k h
  equal p q = same-as refl (ap₂ (λ (x y : List ℕ). reply_of s x y b f a) p q) refl (ap₂ (λ (x y : List ℕ). requested s x y b f a) p q) refl refl refl

  -- two lists of which one is not whole break a rule
  odd-break : (l g : List ℕ) → (length l ≡ 256 → length g ≡ 256 → ⊥) → not (break_no_rule s.tables s.memory l g b) ≡ true
  odd-break l g odd =
      ⊎_elim
      (λ e.
      let whole = ((rules-but-truth s.tables s.memory l g b).0 (and_left (hold_but_truth s.tables s.memory l g b) (pairs_true s.tables s.memory l g) e)).whole in
      absurd (odd whole.links whole.grants))
      (λ e. ap not e)
      (either (break_no_rule s.tables s.memory l g b))

  both-odd : (l g k h : List ℕ) → (length l ≡ 256 → length g ≡ 256 → ⊥) → (length k ≡ 256 → length h ≡ 256 → ⊥) → Same l g k h
  both-odd l g k h odd even =
      ⊎_elim
      (λ e. same-as (told-short l g e) (told-short k h e) (when-short s l g b f a e) (when-short s k h b f a e) refl refl refl)
      (λ e.
      let x = odd-break l g odd in
      let y = odd-break k h even in
      same-as (told-broken l g e x) (told-broken k h e y) (when-broken s l g b f a e x) (when-broken s k h b f a e y) refl refl refl)
      (either (ltb (length a) shortest_buffer))

  -- what is handed on comes to the same as all the numbers
  handed-same : (ys : List PrincipalLink) (zs : List TagLink) → Same (handed principal_number ys) (handed tag_number zs) (map principal_number ys) (map tag_number zs)
  handed-same ys zs =
      ⊎_elim
      (λ p.
      ⊎_elim
      (λ q. equal (handed-whole principal_number ys (eqb-true (length ys) 256 p)) (handed-whole tag_number zs (eqb-true (length zs) 256 q)))
      (λ q. odd (λ _ e. eqb-false (length zs) 256 q e))
      (either (eqb (length zs) 256)))
      (λ p. odd (λ e _. eqb-false (length ys) 256 p e))
      (either (eqb (length ys) 256))
    where
      odd : (length ys ≡ 256 → length zs ≡ 256 → ⊥) → Same (handed principal_number ys) (handed tag_number zs) (map principal_number ys) (map tag_number zs)
      odd not-both =
          both-odd (handed principal_number ys) (handed tag_number zs) (map principal_number ys) (map tag_number zs)
          (λ p q. not-both (handed-long principal_number ys p) (handed-long tag_number zs q))
          (λ p q. not-both (sym (length-map ys principal_number) ∙ p) (sym (length-map zs tag_number) ∙ q))

-- a reply of these numbers
abbrev pub given : ℕ → ℕ → Reply
given n k = record { status = n; written = k }

module _ (s : State) (ys : List PrincipalLink) (zs : List TagLink) (b f a : List ℕ) where
  -- the numbers that are handed on
  abbrev pub handed_links : List ℕ
  handed_links = handed principal_number ys

  abbrev pub handed_grants : List ℕ
  handed_grants = handed tag_number zs

  abbrev numbers : List ℕ
  numbers = map principal_number ys

  abbrev tag_numbers : List ℕ
  tag_numbers = map tag_number zs

  pub reply-is : given (reply_of s handed_links handed_grants b f a).status (reply_of s handed_links handed_grants b f a).written ≡ reply_in (over_records s ys zs b f a).replied
  reply-is =
      ap (λ (x : Stepped). given x.status x.written) (handed-same s b f a ys zs).told
      ∙ ap₂ given (told-status s numbers tag_numbers b f a) (told-written s numbers tag_numbers b f a)

  pub state-is : (requested s handed_links handed_grants b f a).replied.state ≡ (over_records s ys zs b f a).replied.state
  state-is = (handed-same s b f a ys zs).state

  pub links-are : map principal_link (map principal_number ys) ≡ ys
      → changed principal_link (reply_of s handed_links handed_grants b f a).links s.tables.links ys ≡ map principal_link (over_records s ys zs b f a).links
  links-are same = changed-all principal_link principal_number (λ x. x.links) s.tables.links ys _ _ _ (handed-same s b f a ys zs).told same (told-links s numbers tag_numbers b f a)

  pub grants-are : map tag_link (map tag_number zs) ≡ zs
      → changed tag_link (reply_of s handed_links handed_grants b f a).grants s.tables.grants zs ≡ map tag_link (over_records s ys zs b f a).grants
  grants-are same = changed-all tag_link tag_number (λ x. x.grants) s.tables.grants zs _ _ _ (handed-same s b f a ys zs).told same (told-grants s numbers tag_numbers b f a)

  pub store_is : (requested s handed_links handed_grants b f a).store ≡ (over_records s ys zs b f a).store
  store_is = (handed-same s b f a ys zs).store

  pub answer-is : (requested s handed_links handed_grants b f a).answer ≡ (over_records s ys zs b f a).answer
  answer-is = (handed-same s b f a ys zs).answer
