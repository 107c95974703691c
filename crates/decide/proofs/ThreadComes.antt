-- What is known of what kinds 0A to 11 come to: each outcome with the facts that its row's tests have shown. The laws above match on
-- it and never unfold the tests. Assumes nothing.
use mathlib.Core.Path.{◌≡◌, refl}
use mathlib.Core.Bool.{Bool, true, false, not}
use mathlib.Core.List.{List}
use Prim.Native.Nat.{ℕ, ◌<◌}
use lib.Dec.{leb, ltb}
use borrow.Author.Tests.{leb-false, ltb-false, not-true, not-false}
use Rattle.std.specs.Prelude.{Option, Some, None}
use Rattle.numbers.specs.declared.Principal.{Principal}
use Rattle.numbers.specs.declared.Tag.{Tag}
use Rattle.numbers.specs.declared.flow.LabelPair.{LabelPair}
use Rattle.numbers.specs.Labels.{has, with_tag, without_tag}
use Rattle.numbers.specs.Numbers.{most_threads, most_put_aside}
use Rattle.numbers.proofs.Bools.{by-test}
use Rattle.frames.specs.declared.requests.ThreadRequest.{ThreadRequest}
use Rattle.frames.specs.declared.requests.ThreadRequest.TheVariants.{IntoSecrecy, OutOfSecrecy, IntoIntegrity, OutOfIntegrity, Fork, End, Call, Return}
use Rattle.answers.specs.declared.Answer.TheVariants.{Done, Value}
use Rattle.answers.specs.declared.Refusal.{Refusal}
use Rattle.answers.specs.declared.Refusal.TheVariants.{Authority, Full, Empty}
use Rattle.sight.specs.declared.Sight.{Sight}
use Rattle.named.specs.Named.{principal_made, tag_made, thread_named}
use Rattle.outcomes.specs.declared.Outcome.{Outcome}
use Rattle.outcomes.specs.declared.RowChange.TheVariants as rows
use Rattle.outcomes.specs.Outcomes.{rows_changed, refused, done}
use Rattle.decide_authority.specs.Authority.{caller_acts_for}
use Rattle.decide_threads.specs.Threads.{with_labels, out_of_secrecy, into_integrity, returned, forked_to, fork, call, decide_thread}

-- a new thread has the number that is free, if one is
by-free :
    (P : Outcome → Type 0) (p : Principal) (x : Option ℕ) →
    P (refused Full) →
    ((n : ℕ) → x ≡ Some n → n < most_threads → P (rows_changed (Value n) (rows.NewThread n p))) →
    P (forked_to p x)
by-free P p None full one = full
by-free P p (Some n) full one = by-test P (leb most_threads n) (λ e. full) (λ room. one n refl (leb-false most_threads n room))

module _ (s : Sight) (l : List ℕ) (allowed : Bool) where
  -- the caller's labels
  abbrev own : LabelPair
  own = s.caller.labels

  pub data ThreadComes : ThreadRequest → Outcome → Type 0 where
    stops : {r : ThreadRequest} (x : Refusal) → ThreadComes r (refused x)
    into-secrecy : {t : Tag} → tag_made s t ≡ true → ThreadComes (IntoSecrecy t) (with_labels (with_tag own.secrecy t) own.integrity)
    is-out : {t : Tag} → has own.secrecy t ≡ false → ThreadComes (OutOfSecrecy t) done
    out-of-secrecy :
        {t : Tag} →
        has own.secrecy t ≡ true →
        allowed ≡ true →
        ThreadComes (OutOfSecrecy t) (with_labels (without_tag own.secrecy t) own.integrity)
    is-in : {t : Tag} → has own.integrity t ≡ true → ThreadComes (IntoIntegrity t) done
    into-integrity :
        {t : Tag} →
        tag_made s t ≡ true →
        has own.integrity t ≡ false →
        allowed ≡ true →
        ThreadComes (IntoIntegrity t) (with_labels own.secrecy (with_tag own.integrity t))
    out-of-integrity : {t : Tag} → ThreadComes (OutOfIntegrity t) (with_labels own.secrecy (without_tag own.integrity t))
    forks :
        {p : Principal} (n : ℕ) →
        principal_made s p ≡ true →
        caller_acts_for s l p ≡ true →
        s.free ≡ Some n →
        n < most_threads →
        ThreadComes (Fork p) (rows_changed (Value n) (rows.NewThread n p))
    ends : ThreadComes End (rows_changed Done rows.End)
    calls :
        {p : Principal} →
        principal_made s p ≡ true →
        caller_acts_for s l p ≡ true →
        s.caller.calls < most_put_aside →
        ThreadComes (Call p) (rows_changed Done (rows.Call p))
    returns : 0 < s.caller.calls → ThreadComes Return (rows_changed Done rows.Return)

  -- a request that names what there is comes to one of these
  pub thread-comes : (r : ThreadRequest) → thread_named s r ≡ true → ThreadComes r (decide_thread s l r allowed)
  unfolding out_of_secrecy into_integrity returned fork call
  thread-comes (IntoSecrecy t) named = into-secrecy named
  thread-comes (OutOfSecrecy t) named =
      let C = ThreadComes (OutOfSecrecy t) in
      let held = has own.secrecy t in
      by-test C (not held) (λ e. is-out (not-true held e))
      (λ e. by-test C (not allowed) (λ n. stops Authority) (λ may. out-of-secrecy (not-false held e) (not-false allowed may)))
  thread-comes (IntoIntegrity t) named =
      let C = ThreadComes (IntoIntegrity t) in
      by-test C (has own.integrity t) is-in
      (λ out. by-test C (not allowed) (λ e. stops Authority) (λ may. into-integrity named out (not-false allowed may)))
  thread-comes (OutOfIntegrity t) named = out-of-integrity
  thread-comes (Fork p) named =
      let C = ThreadComes (Fork p) in
      let acts = caller_acts_for s l p in
      by-test C (not acts) (λ e. stops Authority)
      (λ may. by-free C p s.free (stops Full) (λ n. forks n named (not-false acts may)))
  thread-comes End named = ends
  thread-comes (Call p) named =
      let C = ThreadComes (Call p) in
      let acts = caller_acts_for s l p in
      by-test C (not acts) (λ e. stops Authority)
      (λ may. by-test C (leb most_put_aside s.caller.calls) (λ e. stops Full)
      (λ room. calls named (not-false acts may) (leb-false most_put_aside s.caller.calls room)))
  thread-comes Return named =
      by-test (ThreadComes Return) (ltb s.caller.calls 1) (λ e. stops Empty) (λ some. returns (ltb-false s.caller.calls 1 some))
