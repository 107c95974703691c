-- The laws of authority: what computes is what 01 words, more links take no authority away, and the public has none. Assumes nothing.
use mathlib.Core.Path.{◌≡◌, ap, subst, ◌∙◌}
use mathlib.Core.Bool.{Bool, true, ◌&&◌, false}
use mathlib.Core.List.{List}
use mathlib.Core.Logic.{◌↔◌, inl, inr, ⊎_elim}
use Prim.Native.Nat.{ℕ, ◌<◌}
use Rattle.numbers.specs.declared.Principal.{Principal}
use Rattle.numbers.specs.Sets.{contains}
use Rattle.numbers.proofs.Bools.{and_left, and_right, and_both, or_left, or_right, or-either, either}
use Rattle.numbers.proofs.Below.{any-is, any_same}
use Rattle.numbers.proofs.Sets.{contains-set_of}
use Rattle.numbers.specs.Below.{any_below}
use Rattle.numbers.specs.Numbers.{public}
use Rattle.links.specs.Links.{links_in}
use Rattle.links.specs.declared.lists.Graph.TheVariants.{OfTag}
use Rattle.links.specs.declared.lists.Graph.{Graph}
use Rattle.links.specs.declared.authority.Lineage.{Lineage}
use Rattle.links.specs.declared.authority.Lineage.TheVariants.{Supertag, Subtag}
use Rattle.links.specs.Paths.{Link, leads, joins}
use Rattle.links.specs.Walk.{led_to, led_to_from}
use Rattle.links.specs.Authority.{ActsForSome, Authoritative, links_of, acts_for_some, authoritative}
use Rattle.links.proofs.PathLaws.{Among, leads-is, leads-grows, path-unlinked}
use Rattle.links.proofs.LedTo.{LowEnds, links_from-low, path-low, contains-led_to_from}

-- the code's two walks: from the root, and from all that they counted
pub two-walks : (ls gs : List Link) → LowEnds ls → (root p : Principal) → contains (led_to_from ls (led_to gs root.0)) p.0 ≡ acts_for_some ls gs root p
unfolding acts_for_some led_to
two-walks ls gs low root p =
    contains-led_to_from ls low (led_to gs root.0) p.0
    ∙ any_same 64 (λ n. contains (led_to gs root.0) n && leads ls n p.0) (λ n. leads gs root.0 n && leads ls n p.0)
    (λ n h. ap (λ (b : Bool). b && leads ls n p.0) (contains-set_of 64 (leads gs root.0) n h))

-- ---- as 01 words it

module _ (ls gs : List Link) (low : LowEnds gs) (root p : Principal) (made : root.0 < 64) where
  pub acts_for_some-is : (acts_for_some ls gs root p ≡ true) ↔ ActsForSome ls gs root p
  unfolding acts_for_some
  acts_for_some-is = (
    (λ e.
        let w = (any-is 64 (λ n. leads gs root.0 n && leads ls n p.0)).0 e in
        record {
          node = record { 0 = w.0 };
          counted = (leads-is gs root.0 w.0).0 (and_left (leads gs root.0 w.0) (leads ls w.0 p.0) w.2);
          acts = (leads-is ls w.0 p.0).0 (and_right (leads gs root.0 w.0) (leads ls w.0 p.0) w.2);
        }),
    (λ w.
        let n = w.node.0 in
        let below : n < 64 = ⊎_elim (λ x. subst (λ (z : ℕ). z < 64) x made) (λ x. x.1) (path-low gs low w.counted) in
        (any-is 64 (λ m. leads gs root.0 m && leads ls m p.0)).1
        (n, below, and_both (leads gs root.0 n) (leads ls n p.0) ((leads-is gs root.0 n).1 w.counted) ((leads-is ls n p.0).1 w.acts))),
  )

-- the roots that a lineage names are principals
abbrev pub RootsMade : Lineage → Type 0
RootsMade (Supertag t) = t.root.0 < 64
RootsMade (Subtag t above) = (t.root.0 < 64) × (above.root.0 < 64)

pub authoritative-is : (ls : List Link) (l : List ℕ) (m : ℕ) (x : Lineage) (p : Principal) → RootsMade x → (authoritative ls l m x p ≡ true) ↔ Authoritative ls l m x p
authoritative-is ls l m (Supertag t) p made = acts_for_some-is ls (links_of l m t) (links_from-low _ _) t.root p made
authoritative-is ls l m (Subtag t above) p made =
    let own = acts_for_some-is ls (links_of l m t) (links_from-low _ _) t.root p made.0 in
    let over = acts_for_some-is ls (links_of l m above) (links_from-low _ _) above.root p made.1 in
    let a = acts_for_some ls (links_of l m t) t.root p in
    let b = acts_for_some ls (links_of l m above) above.root p in (
      (λ e. ⊎_elim (λ x. inl (own.0 x)) (λ x. inr (over.0 x)) (or-either a b e)),
      (λ w. ⊎_elim (λ x. or_left a b (own.1 x)) (λ x. or_right a b (over.1 x)) w),
    )

-- ---- more links take no authority away

pub acts_for_some-grows : (ls ms gs hs : List Link) → Among ls ms → Among gs hs → (root p : Principal) → acts_for_some ls gs root p ≡ true → acts_for_some ms hs root p ≡ true
unfolding acts_for_some
acts_for_some-grows ls ms gs hs f g root p e =
    let w = (any-is 64 (λ n. leads gs root.0 n && leads ls n p.0)).0 e in
    let n = w.0 in
    (any-is 64 (λ m. leads hs root.0 m && leads ms m p.0)).1 (
      n,
      w.1,
      and_both (leads hs root.0 n) (leads ms n p.0)
          (leads-grows gs hs g root.0 n (and_left (leads gs root.0 n) (leads ls n p.0) w.2))
          (leads-grows ls ms f n p.0 (and_right (leads gs root.0 n) (leads ls n p.0) w.2)),
    )

pub authoritative-grows :
    (ls ms : List Link) (l k : List ℕ) (m n : ℕ) → Among ls ms → ((g : Graph) → Among (links_in l m g) (links_in k n g)) →
    (x : Lineage) (p : Principal) → authoritative ls l m x p ≡ true → authoritative ms k n x p ≡ true
authoritative-grows ls ms l k m n f g (Supertag t) p e = acts_for_some-grows ls ms (links_of l m t) (links_of k n t) f (g (OfTag t.tag)) t.root p e
authoritative-grows ls ms l k m n f g (Subtag t above) p e =
    let a = acts_for_some ms (links_of k n t) t.root p in
    let b = acts_for_some ms (links_of k n above) above.root p in
    ⊎_elim
    (λ x. or_left a b (acts_for_some-grows ls ms (links_of l m t) (links_of k n t) f (g (OfTag t.tag)) t.root p x))
    (λ x. or_right a b (acts_for_some-grows ls ms (links_of l m above) (links_of k n above) f (g (OfTag above.tag)) above.root p x))
    (or-either (acts_for_some ls (links_of l m t) t.root p) (acts_for_some ls (links_of l m above) above.root p) e)

-- ---- the public

-- where no link leads to the public, and no root is the public, the public acts for no counted node
pub public-has-none :
    (ls gs : List Link) (root p : Principal) → ((q : ℕ) → joins ls q public ≡ false) → ((q : ℕ) → joins gs q public ≡ false) →
    (root.0 ≡ public → ⊥) → p.0 ≡ public → acts_for_some ls gs root p ≡ false
unfolding acts_for_some
public-has-none ls gs root p none-p none-t made is-public =
    ⊎_elim
    (λ e.
    let w = (any-is 64 (λ n. leads gs root.0 n && leads ls n p.0)).0 e in
    let node = path-unlinked ls public none-p ((leads-is ls w.0 p.0).0 (and_right (leads gs root.0 w.0) (leads ls w.0 p.0) w.2)) is-public in
    absurd (made (path-unlinked gs public none-t ((leads-is gs root.0 w.0).0 (and_left (leads gs root.0 w.0) (leads ls w.0 p.0) w.2)) node)))
    (λ e. e)
    (either (any_below 64 (λ n. leads gs root.0 n && leads ls n p.0)))
