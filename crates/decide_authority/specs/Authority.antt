-- Kinds 01 to 09 (01, "Requests"): their rows' refusals in order, and what is done. s is what the request sees, l the list of
-- principal links, g that of tag links, and `allowed` the answer to the question of authority, where one was asked. Assumes nothing.
use Rattle.std.specs.Prelude.{Bool, not, cond, List, ℕ, ◌*◌, eqb, leb, take}
use Rattle.numbers.specs.declared.Principal.{Principal}
use Rattle.numbers.specs.declared.Tag.{Tag}
use Rattle.numbers.specs.Numbers.{public, most_principals, most_tags, link_places}
use Rattle.std.specs.Prelude.{Option, Some, None}
use Rattle.links.specs.declared.lists.Graph.TheVariants.{Principals, OfTag}
use Rattle.links.specs.declared.authority.Rooted.{Rooted}
use Rattle.links.specs.declared.authority.Lineage.{Lineage}
use Rattle.links.specs.declared.authority.Lineage.TheVariants as lineage
use Rattle.links.specs.Links.{links_in, link_number, find_in, stands}
use Rattle.links.specs.Authority.{acts_for, counted_node, links_of}
use Rattle.links.specs.Cycles.{closes_cycle}
use Rattle.tables.specs.Rows.{tag_row}
use Rattle.tables.specs.declared.rows.Rank.{Rank}
use Rattle.tables.specs.declared.rows.Rank.TheVariants.{Supertag, SubtagOf}
use Rattle.frames.specs.declared.requests.AuthorityRequest.{AuthorityRequest}
use Rattle.frames.specs.declared.requests.AuthorityRequest.TheVariants.{NewPrincipal, Delegate, Revoke, ActsFor, NewTag, NewSubtag, Grant, Ungrant, Authoritative}
use Rattle.answers.specs.declared.Answer.TheVariants.{Value}
use Rattle.answers.specs.declared.Refusal.TheVariants.{Authority, Cycle, Full}
use Rattle.sight.specs.declared.Sight.{Sight}
use Rattle.outcomes.specs.declared.Outcome.{Outcome}
use Rattle.outcomes.specs.declared.ListChange.{ListChange}
use Rattle.outcomes.specs.declared.ListChange.TheVariants as list
use Rattle.outcomes.specs.declared.StoreChange.TheVariants as store
use Rattle.outcomes.specs.declared.RowChange.TheVariants as rows
use Rattle.outcomes.specs.Outcomes.{rows_changed, refused, done, told, links_changed, grants_changed}

abbrev pub is_public : Principal → Bool
is_public p = eqb p.0 public

-- a tag and its maker, whatever its rank
abbrev pub own_of : Lineage → Rooted
own_of (lineage.Supertag t) = t
own_of (lineage.Subtag t above) = t

-- "link removed", or none there: "done, no change"
abbrev pub removal : Option ℕ → ListChange
removal (Some i) = list.Remove i
removal None = list.Keep

-- "01 .. else 00"
abbrev pub told_bool : Bool → Outcome
told_bool b = cond b (told 1) (told 0)

module _ (s : Sight) where
  -- "caller": who the thread runs as
  abbrev pub caller : Principal
  caller = s.caller.principal

  -- "link new to caller; answers number"
  abbrev pub principal_added : Outcome
  principal_added =
      record {
        answer = Value s.principals;
        links = list.Append (link_number 0 (record { 0 = s.principals }) caller);
        grants = list.Keep;
        store = store.Keep;
        rows = rows.NewPrincipal;
      }

  -- 01: "caller public 5; 64 principals or 256 links 7"
  unfoldable pub new_principal : Outcome
  new_principal =
      cond (is_public caller) (refused Authority)
      (cond (leb most_principals s.principals) (refused Full)
      (cond (leb link_places s.links) (refused Full)
      principal_added))

  module _ (l : List ℕ) where
    -- "caller does not act for P"
    abbrev pub caller_acts_for : Principal → Bool
    caller_acts_for p = acts_for (links_in l s.links Principals) caller p

    -- 02: "caller does not act for P, or Q public 5; link there: done, no change; P = Q or a path Q to P: 6; 256 links 7"
    unfoldable pub delegate : Principal → Principal → Outcome
    delegate p q =
        cond (not (caller_acts_for p)) (refused Authority)
        (cond (is_public q) (refused Authority)
        (cond (stands l s.links (link_number 0 p q)) done
        (cond (closes_cycle (links_in l s.links Principals) p q) (refused Cycle)
        (cond (leb link_places s.links) (refused Full)
        (links_changed (list.Append (link_number 0 p q)))))))

    -- 03: "caller does not act for P 5; no link: done, no change"
    unfoldable pub revoke : Principal → Principal → Outcome
    revoke p q = cond (not (caller_acts_for p)) (refused Authority) (links_changed (removal (find_in (take s.links l) (link_number 0 p q))))

    -- 04: "01 if P acts for Q, else 00"
    unfoldable pub tells_acts_for : Principal → Principal → Outcome
    tells_acts_for p q = told_bool (acts_for (links_in l s.links Principals) p q)

  -- the next number, and the caller as its maker
  abbrev pub tag_added : Rank → Outcome
  tag_added rank = rows_changed (Value s.tags) (rows.NewTag (tag_row caller rank))

  -- "64 tags 7"
  unfoldable pub tag_if_room : Rank → Outcome
  tag_if_room rank = cond (leb most_tags s.tags) (refused Full) (tag_added rank)

  -- 05: "caller public 5; 64 tags 7"
  unfoldable pub new_tag : Outcome
  new_tag = cond (is_public caller) (refused Authority) (tag_if_room Supertag)

  -- 06: "not authoritative 5; 64 tags 7"
  unfoldable pub new_subtag : Tag → Bool → Outcome
  new_subtag t allowed = cond (not allowed) (refused Authority) (tag_if_room (SubtagOf t))

  module _ (g : List ℕ) where
    -- "P not a counted node of T's own graph"
    abbrev pub counted : Principal → Bool
    counted p = counted_node (links_of g s.grants (own_of s.lineage)) (own_of s.lineage).root p

  module _ (l g : List ℕ) where
    -- 07: "caller does not act for P, P not a counted node of T's own graph, or Q public 5; link there: done; P = Q or a recorded path
    -- of T from Q to P: 6; 256 links 7"
    unfoldable pub grant : Tag → Principal → Principal → Outcome
    grant t p q =
        cond (not (caller_acts_for l p)) (refused Authority)
        (cond (not (counted g p)) (refused Authority)
        (cond (is_public q) (refused Authority)
        (cond (stands g s.grants (link_number (t.0 * 256) p q)) done
        (cond (closes_cycle (links_in g s.grants (OfTag t)) p q) (refused Cycle)
        (cond (leb link_places s.grants) (refused Full)
        (grants_changed (list.Append (link_number (t.0 * 256) p q))))))))

    -- 08: "caller does not act for P 5; no link: done"
    unfoldable pub ungrant : Tag → Principal → Principal → Outcome
    ungrant t p q = cond (not (caller_acts_for l p)) (refused Authority) (grants_changed (removal (find_in (take s.grants g) (link_number (t.0 * 256) p q))))

    abbrev pub decide_authority : AuthorityRequest → Bool → Outcome
    decide_authority NewPrincipal allowed = new_principal
    decide_authority (Delegate p q) allowed = delegate l p q
    decide_authority (Revoke p q) allowed = revoke l p q
    decide_authority (ActsFor p q) allowed = tells_acts_for l p q
    decide_authority NewTag allowed = new_tag
    decide_authority (NewSubtag t) allowed = new_subtag t allowed
    decide_authority (Grant t p q) allowed = grant t p q
    decide_authority (Ungrant t p q) allowed = ungrant t p q
    -- 09: "01 or 00 for the caller"
    decide_authority (Authoritative t) allowed = told_bool allowed
