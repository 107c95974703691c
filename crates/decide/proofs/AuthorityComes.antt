-- What is known of what kinds 01 to 09 come to: each outcome with the facts that its row's tests have shown. The laws above match on
-- it and never unfold the tests. Assumes nothing.
use mathlib.Core.Path.{◌≡◌, refl}
use mathlib.Core.Bool.{Bool, true, false, not, ◌&&◌}
use mathlib.Core.List.{List}
use Prim.Native.Nat.{ℕ, ◌*◌, ◌<◌}
use lib.Dec.{leb}
use lib.ListN.{take}
use borrow.Author.Tests.{leb-false, not-false}
use Rattle.numbers.specs.declared.Principal.{Principal}
use Rattle.numbers.specs.declared.Tag.{Tag}
use Rattle.numbers.specs.Numbers.{most_principals, most_tags, link_places}
use Rattle.numbers.proofs.Bools.{and_left, and_right, by-test}
use Rattle.std.specs.Prelude.{Option, Some, None}
use Rattle.links.specs.declared.lists.Graph.TheVariants.{Principals, OfTag}
use Rattle.links.specs.Links.{links_in, link_number, find_in, stands}
use Rattle.links.specs.Authority.{acts_for}
use Rattle.links.specs.Cycles.{closes_cycle}
use Rattle.tables.specs.declared.rows.Rank.{Rank}
use Rattle.tables.specs.declared.rows.Rank.TheVariants.{Supertag, SubtagOf}
use Rattle.frames.specs.declared.requests.AuthorityRequest.{AuthorityRequest}
use Rattle.frames.specs.declared.requests.AuthorityRequest.TheVariants.{NewPrincipal, Delegate, Revoke, ActsFor, NewTag, NewSubtag, Grant, Ungrant, Authoritative}
use Rattle.answers.specs.declared.Refusal.{Refusal}
use Rattle.answers.specs.declared.Refusal.TheVariants.{Authority, Cycle, Full}
use Rattle.sight.specs.declared.Sight.{Sight}
use Rattle.named.specs.Named.{principal_made, tag_made, is_supertag, authority_named}
use Rattle.outcomes.specs.declared.Outcome.{Outcome}
use Rattle.outcomes.specs.declared.ListChange.{ListChange}
use Rattle.outcomes.specs.declared.ListChange.TheVariants as list
use Rattle.outcomes.specs.Outcomes.{refused, done, links_changed, grants_changed}
use Rattle.decide_authority.specs.Authority.{is_public, removal, told_bool, caller, principal_added, new_principal, caller_acts_for, delegate, revoke, tells_acts_for, tag_added, tag_if_room, new_tag, new_subtag, counted, grant, ungrant, decide_authority}

-- a removal is of what was found, if anything was
by-found :
    (P : ListChange → Type 0) (f : Option ℕ) →
    ((i : ℕ) → f ≡ Some i → P (list.Remove i)) →
    (f ≡ None → P list.Keep) →
    P (removal f)
by-found P (Some i) there gone = there i refl
by-found P None there gone = gone refl

module _ (s : Sight) (l g : List ℕ) (allowed : Bool) where
  pub data AuthorityComes : AuthorityRequest → Outcome → Type 0 where
    stops : {r : AuthorityRequest} (x : Refusal) → AuthorityComes r (refused x)
    makes-principal : is_public (caller s) ≡ false → s.principals < most_principals → s.links < link_places → AuthorityComes NewPrincipal (principal_added s)
    had-link : {p q : Principal} → stands l s.links (link_number 0 p q) ≡ true → AuthorityComes (Delegate p q) done
    gives-link :
        {p q : Principal} →
        principal_made s p ≡ true →
        principal_made s q ≡ true →
        is_public q ≡ false →
        stands l s.links (link_number 0 p q) ≡ false →
        closes_cycle (links_in l s.links Principals) p q ≡ false →
        s.links < link_places →
        AuthorityComes (Delegate p q) (links_changed (list.Append (link_number 0 p q)))
    has-no-link : {p q : Principal} → find_in (take s.links l) (link_number 0 p q) ≡ None → AuthorityComes (Revoke p q) done
    takes-link :
        {p q : Principal} (i : ℕ) →
        find_in (take s.links l) (link_number 0 p q) ≡ Some i →
        AuthorityComes (Revoke p q) (links_changed (list.Remove i))
    tells-acts-for : {p q : Principal} (b : Bool) → AuthorityComes (ActsFor p q) (told_bool b)
    makes-tag : is_public (caller s) ≡ false → s.tags < most_tags → AuthorityComes NewTag (tag_added s Supertag)
    makes-subtag :
        {t : Tag} →
        tag_made s t ≡ true →
        is_supertag s.lineage ≡ true →
        allowed ≡ true →
        s.tags < most_tags →
        AuthorityComes (NewSubtag t) (tag_added s (SubtagOf t))
    had-grant : {t : Tag} {p q : Principal} → stands g s.grants (link_number (t.0 * 256) p q) ≡ true → AuthorityComes (Grant t p q) done
    gives-grant :
        {t : Tag} {p q : Principal} →
        tag_made s t ≡ true →
        principal_made s p ≡ true →
        principal_made s q ≡ true →
        counted s g p ≡ true →
        is_public q ≡ false →
        stands g s.grants (link_number (t.0 * 256) p q) ≡ false →
        closes_cycle (links_in g s.grants (OfTag t)) p q ≡ false →
        s.grants < link_places →
        AuthorityComes (Grant t p q) (grants_changed (list.Append (link_number (t.0 * 256) p q)))
    has-no-grant : {t : Tag} {p q : Principal} → find_in (take s.grants g) (link_number (t.0 * 256) p q) ≡ None → AuthorityComes (Ungrant t p q) done
    takes-grant :
        {t : Tag} {p q : Principal} (i : ℕ) →
        find_in (take s.grants g) (link_number (t.0 * 256) p q) ≡ Some i →
        AuthorityComes (Ungrant t p q) (grants_changed (list.Remove i))
    tells : {t : Tag} → AuthorityComes (Authoritative t) (told_bool allowed)

  -- a new tag, where there is room for one
  tag-comes : {r : AuthorityRequest} (rank : Rank) → (s.tags < most_tags → AuthorityComes r (tag_added s rank)) → AuthorityComes r (tag_if_room s rank)
  unfolding tag_if_room
  tag-comes {r} rank f = by-test (AuthorityComes r) (leb most_tags s.tags) (λ e. stops Full) (λ room. f (leb-false most_tags s.tags room))

  -- a request that names what there is comes to one of these
  pub authority-comes : (r : AuthorityRequest) → authority_named s r ≡ true → AuthorityComes r (decide_authority s l g r allowed)
  unfolding new_principal delegate revoke tells_acts_for new_tag new_subtag grant ungrant
  authority-comes NewPrincipal named =
      let C = AuthorityComes NewPrincipal in
      by-test C (is_public (caller s)) (λ e. stops Authority)
      (λ own. by-test C (leb most_principals s.principals) (λ e. stops Full)
      (λ room. by-test C (leb link_places s.links) (λ e. stops Full)
      (λ place. makes-principal own (leb-false most_principals s.principals room) (leb-false link_places s.links place))))
  authority-comes (Delegate p q) named =
      let C = AuthorityComes (Delegate p q) in
      let P = principal_made s p in
      let Q = principal_made s q in
      by-test C (not (caller_acts_for s l p)) (λ e. stops Authority)
      (λ may. by-test C (is_public q) (λ e. stops Authority)
      (λ own. by-test C (stands l s.links (link_number 0 p q)) had-link
      (λ new. by-test C (closes_cycle (links_in l s.links Principals) p q) (λ e. stops Cycle)
      (λ acyclic. by-test C (leb link_places s.links) (λ e. stops Full)
      (λ place. gives-link (and_left P Q named) (and_right P Q named) own new acyclic (leb-false link_places s.links place))))))
  authority-comes (Revoke p q) named =
      by-test (AuthorityComes (Revoke p q)) (not (caller_acts_for s l p)) (λ e. stops Authority)
      (λ may. by-found (λ c. AuthorityComes (Revoke p q) (links_changed c)) (find_in (take s.links l) (link_number 0 p q)) takes-link has-no-link)
  authority-comes (ActsFor p q) named = tells-acts-for (acts_for (links_in l s.links Principals) p q)
  authority-comes NewTag named = by-test (AuthorityComes NewTag) (is_public (caller s)) (λ e. stops Authority) (λ own. tag-comes Supertag (makes-tag own))
  authority-comes (NewSubtag t) named =
      let T = tag_made s t in
      let super = is_supertag s.lineage in
      by-test (AuthorityComes (NewSubtag t)) (not allowed) (λ e. stops Authority)
      (λ may. tag-comes (SubtagOf t) (makes-subtag (and_left T super named) (and_right T super named) (not-false allowed may)))
  authority-comes (Grant t p q) named =
      let C = AuthorityComes (Grant t p q) in
      let T = tag_made s t in
      let P = principal_made s p in
      let Q = principal_made s q in
      let two = and_right T (P && Q) named in
      by-test C (not (caller_acts_for s l p)) (λ e. stops Authority)
      (λ may. by-test C (not (counted s g p)) (λ e. stops Authority)
      (λ node. by-test C (is_public q) (λ e. stops Authority)
      (λ own. by-test C (stands g s.grants (link_number (t.0 * 256) p q)) had-grant
      (λ new. by-test C (closes_cycle (links_in g s.grants (OfTag t)) p q) (λ e. stops Cycle)
      (λ acyclic. by-test C (leb link_places s.grants) (λ e. stops Full)
      (λ place. gives-grant (and_left T (P && Q) named) (and_left P Q two) (and_right P Q two)
      (not-false (counted s g p) node) own new acyclic (leb-false link_places s.grants place)))))))
  authority-comes (Ungrant t p q) named =
      by-test (AuthorityComes (Ungrant t p q)) (not (caller_acts_for s l p)) (λ e. stops Authority)
      (λ may. by-found (λ c. AuthorityComes (Ungrant t p q) (grants_changed c)) (find_in (take s.grants g) (link_number (t.0 * 256) p q))
      takes-grant has-no-grant)
  authority-comes (Authoritative t) named = tells
