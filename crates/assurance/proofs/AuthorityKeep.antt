-- Kinds 01 to 09 keep the rules of the world. Assumes nothing.
use mathlib.Core.Path.{◌≡◌, refl}
use mathlib.Core.Bool.{Bool, true, false}
use mathlib.Core.List.{List}
use Prim.Native.Nat.{ℕ, ◌+◌, ◌≤◌, ◌<◌}
use native.Mathlib.Omega.{arith}
use borrow.Author.Tests.{ltb-true, eq-eqb}
use lib.Dec.{ltb}
use lib.ListN.{get_or}
use Rattle.numbers.specs.Numbers.{public, most_principals, most_tags, link_places}
use Rattle.numbers.specs.declared.Principal.{Principal}
use Rattle.numbers.specs.declared.Tag.{Tag}
use Rattle.numbers.proofs.Bools.{and_both, never, by-test}
use Rattle.links.proofs.LinkLaws.{found-used}
use Rattle.link_rules.proofs.RuleLaws.{LinksHold}
use Rattle.tables.specs.Rows.{rank_of, tag_row}
use Rattle.tables.specs.declared.rows.TagRow.{TagRow}
use Rattle.tables.specs.declared.rows.Rank.{Rank}
use Rattle.tables.specs.declared.rows.Rank.TheVariants.{Supertag, SubtagOf}
use Rattle.tables.specs.Things.{thread_at, tag_at, lineage_by}
use Rattle.frames.specs.Requests.{thread_of}
use Rattle.frames.specs.declared.requests.AuthorityRequest.{AuthorityRequest}
use Rattle.frames.specs.declared.requests.AuthorityRequest.TheVariants.{NewPrincipal}
use Rattle.frames.specs.declared.requests.Request.TheVariants.{OfAuthority}
use Rattle.sight.specs.Sight.{sight_of}
use Rattle.named.specs.Named.{is_supertag}
use Rattle.outcomes.specs.declared.Outcome.{Outcome}
use Rattle.tag_rules.specs.TagRules.{rank_holds}
use Rattle.tag_rules.specs.TagRules as rank
use Rattle.decide_authority.specs.Authority.{is_public, principal_added}
use Rattle.decide.proofs.AuthorityComes as comes
use Rattle.apply.specs.Apply.{with_tag}
use Rattle.act.specs.World.{World, world_of, with_counts, applied}
use Rattle.kept.proofs.LinksKept.{links-appended, links-removed, links-more, unused-appended, unused-removed, delegate-new, grant-new, principal-new}
use Rattle.kept.proofs.TagsKept.{tags-more, tag-added}
use Rattle.kept.proofs.ThreadsKept.{threads_more}
use Rattle.kept.proofs.ObjectsKept.{objects-more}
use Rattle.assurance.proofs.Worlds.{WorldHolds, SizedWorld}

-- one who is not the public
not-public : (p : Principal) → is_public p ≡ false → p.0 ≡ public → ⊥
not-public p e q = never (eq-eqb p.0 public q) e

-- a tag that is seen to be a supertag is one
seen-supertag : (kinds : List TagRow) (u : Tag) (r : Rank) → is_supertag (lineage_by kinds u r) ≡ true → rank.is_supertag r ≡ true
seen-supertag kinds u Supertag e = refl
seen-supertag kinds u (SubtagOf above) e = absurd (never e refl)

module _ (w : World) (holds : WorldHolds w) (sized : SizedWorld w) (f : List ℕ) where
  -- who asks
  abbrev asker : Principal
  asker = (thread_at w.tables.threads (thread_of f).0).principal

  -- a list of links has one more or one fewer; the rest stays
  links-changed : (l : List ℕ) (n : ℕ) → LinksHold l n 1 w.tables.principals → ((i : ℕ) → n ≤ i → i < link_places → get_or l i 0 ≡ 0) → WorldHolds (world_of (with_counts w.tables n w.tables.grants) l w.grants w.store)
  links-changed l n h unused =
      record {
        links = h;
        grants = holds.grants;
        two = holds.two;
        links-unused = unused;
        grants-unused = holds.grants-unused;
        tags = holds.tags;
        threads = holds.threads;
        objects = holds.objects;
        whole = holds.whole;
        store = holds.store;
      }

  grants-changed : (g : List ℕ) (n : ℕ) → LinksHold g n w.tables.tags w.tables.principals → ((i : ℕ) → n ≤ i → i < link_places → get_or g i 0 ≡ 0) → WorldHolds (world_of (with_counts w.tables w.tables.links n) w.links g w.store)
  grants-changed g n h unused =
      record {
        links = holds.links;
        grants = h;
        two = holds.two;
        links-unused = holds.links-unused;
        grants-unused = unused;
        tags = holds.tags;
        threads = holds.threads;
        objects = holds.objects;
        whole = holds.whole;
        store = holds.store;
      }

  -- a tag more, made by who asks
  tag-made : (r : Rank) → w.tables.tags < most_tags → asker.0 < w.tables.principals → (asker.0 ≡ public → ⊥) → rank_holds w.tables.kinds w.tables.tags r ≡ true → WorldHolds (world_of (with_tag w.tables (tag_row asker r)) w.links w.grants w.store)
  tag-made r room made other ranked =
      record {
        links = holds.links;
        grants = links-more holds.grants (omega arith) (omega (arith, room)) (omega arith) holds.grants.limits.principals-low;
        two = holds.two;
        links-unused = holds.links-unused;
        grants-unused = holds.grants-unused;
        tags = tag-added asker r holds.tags sized.kinds room made other ranked;
        threads = threads_more holds.threads (omega arith) (omega arith);
        objects = objects-more holds.objects (omega arith);
        whole = holds.whole;
        store = holds.store;
      }

  -- a principal more, linked to who asks
  principal-made : w.tables.principals < most_principals → w.tables.links < link_places → asker.0 < w.tables.principals → (asker.0 ≡ public → ⊥) → WorldHolds (applied w f (principal_added (sight_of w.tables (thread_of f) (OfAuthority NewPrincipal))))
  principal-made few room made other =
      let more = links-more {tags2 = 1} {principals2 = w.tables.principals + 1} holds.links (omega arith) (omega arith) (omega arith) (omega (arith, few)) in
      record {
        links = links-appended more room (principal-new asker holds.links few made other);
        grants = links-more holds.grants (omega arith) holds.grants.limits.tags-low (omega arith) (omega (arith, few));
        two = omega (arith, holds.two);
        links-unused = unused-appended w.links w.tables.links _ holds.links.limits.whole room holds.links-unused;
        grants-unused = holds.grants-unused;
        tags = tags-more holds.tags (omega arith);
        threads = threads_more holds.threads (omega arith) (omega arith);
        objects = holds.objects;
        whole = holds.whole;
        store = holds.store;
      }

  -- where a question was allowed, who asked is not the public
  module _ {allowed : Bool} (made : asker.0 < w.tables.principals) (other : allowed ≡ true → asker.0 ≡ public → ⊥) where
    pub authority-keeps :
        {r : AuthorityRequest} {o : Outcome} →
        comes.AuthorityComes (sight_of w.tables (thread_of f) (OfAuthority r)) w.links w.grants allowed r o →
        WorldHolds (applied w f o)
    authority-keeps (comes.stops x) = holds
    authority-keeps (comes.makes-principal a few room) = principal-made few room made (not-public asker a)
    authority-keeps (comes.had-link a) = holds
    authority-keeps (comes.gives-link {p} {q} a b c d e room) =
        links-changed _ _
        (links-appended holds.links room (delegate-new p q holds.links (ltb-true p.0 w.tables.principals a) (ltb-true q.0 w.tables.principals b) (not-public q c) d e))
        (unused-appended w.links w.tables.links _ holds.links.limits.whole room holds.links-unused)
    authority-keeps (comes.has-no-link a) = holds
    authority-keeps (comes.takes-link i e) =
        let low = found-used w.links w.tables.links _ i e in
        links-changed _ _ (links-removed i holds.links low) (unused-removed w.links w.tables.links i holds.links.limits.whole holds.links.limits.few low holds.links-unused)
    authority-keeps (comes.tells-acts-for b) = by-test (λ o. WorldHolds (applied w f o)) b (λ e. holds) (λ e. holds)
    authority-keeps (comes.makes-tag a room) = tag-made Supertag room made (not-public asker a) refl
    authority-keeps (comes.makes-subtag {t} a b c room) =
        tag-made (SubtagOf t) room made (other c) (and_both (ltb t.0 w.tables.tags) (rank.is_supertag (rank_of (tag_at w.tables.kinds t.0))) a (seen-supertag w.tables.kinds t (rank_of (tag_at w.tables.kinds t.0)) b))
    authority-keeps (comes.had-grant a) = holds
    authority-keeps (comes.gives-grant {t} {p} {q} a b c h d e i room) =
        grants-changed _ _
        (links-appended holds.grants room (grant-new t p q holds.grants (ltb-true t.0 w.tables.tags a) (ltb-true p.0 w.tables.principals b) (ltb-true q.0 w.tables.principals c) (not-public q d) e i))
        (unused-appended w.grants w.tables.grants _ holds.grants.limits.whole room holds.grants-unused)
    authority-keeps (comes.has-no-grant a) = holds
    authority-keeps (comes.takes-grant i e) =
        let low = found-used w.grants w.tables.grants _ i e in
        grants-changed _ _ (links-removed i holds.grants low) (unused-removed w.grants w.tables.grants i holds.grants.limits.whole holds.grants.limits.few low holds.grants-unused)
    authority-keeps comes.tells = by-test (λ o. WorldHolds (applied w f o)) allowed (λ e. holds) (λ e. holds)
