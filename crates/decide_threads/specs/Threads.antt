-- Kinds 0A to 11 (01, "Requests"): their rows' refusals in order, and what is done. s is what the request sees, l the list of
-- principal links, and `allowed` the answer to the question of authority, where one was asked. Assumes nothing.
use Rattle.std.specs.Prelude.{Bool, not, cond, List, ℕ, Option, Some, None, leb, ltb}
use Rattle.numbers.specs.declared.Principal.{Principal}
use Rattle.numbers.specs.declared.Tag.{Tag}
use Rattle.numbers.specs.declared.labels.Label.{Label}
use Rattle.numbers.specs.declared.flow.LabelPair.{LabelPair}
use Rattle.numbers.specs.Labels.{has, with_tag, without_tag}
use Rattle.numbers.specs.Numbers.{most_threads, most_put_aside}
use Rattle.frames.specs.declared.requests.ThreadRequest.{ThreadRequest}
use Rattle.frames.specs.declared.requests.ThreadRequest.TheVariants.{IntoSecrecy, OutOfSecrecy, IntoIntegrity, OutOfIntegrity, Fork, End, Call, Return}
use Rattle.answers.specs.declared.Answer.TheVariants.{Done, Value}
use Rattle.answers.specs.declared.Refusal.TheVariants.{Authority, Full, Empty}
use Rattle.sight.specs.declared.Sight.{Sight}
use Rattle.outcomes.specs.declared.Outcome.{Outcome}
use Rattle.outcomes.specs.declared.RowChange.TheVariants as rows
use Rattle.outcomes.specs.Outcomes.{rows_changed, refused, done}
use Rattle.decide_authority.specs.Authority.{caller_acts_for}

abbrev pub with_labels : Label → Label → Outcome
with_labels S I = rows_changed Done (rows.Labels (record { secrecy = S; integrity = I }))

-- own are the labels S and I of the caller
module _ (own : LabelPair) where
  -- 0B: "T already out of S: done; not authoritative 5"; "T out of S"
  unfoldable pub out_of_secrecy : Tag → Bool → Outcome
  out_of_secrecy t allowed =
      cond (not (has own.secrecy t)) done
      (cond (not allowed) (refused Authority)
      (with_labels (without_tag own.secrecy t) own.integrity))

  -- 0C: "T already in I: done; not authoritative 5"; "T into I"
  unfoldable pub into_integrity : Tag → Bool → Outcome
  into_integrity t allowed =
      cond (has own.integrity t) done
      (cond (not allowed) (refused Authority)
      (with_labels own.secrecy (with_tag own.integrity t)))

-- 11: "none put aside 8"; "last one put aside is back; labels stay"
unfoldable pub returned : ℕ → Outcome
returned calls = cond (ltb calls 1) (refused Empty) (rows_changed Done rows.Return)

-- 0E, where this number is the lowest free: "16 threads 7"; "copy of labels, principal P, nothing put aside; answers number"
abbrev pub forked_to : Principal → Option ℕ → Outcome
forked_to p None = refused Full
forked_to p (Some n) =
    cond (leb most_threads n) (refused Full)
    (rows_changed (Value n) (rows.NewThread n p))

module _ (s : Sight) (l : List ℕ) where
  -- 0E: "caller does not act for P 5; 16 threads 7"
  unfoldable pub fork : Principal → Outcome
  fork p =
      cond (not (caller_acts_for s l p)) (refused Authority)
      (forked_to p s.free)

  -- 10: "caller does not act for P 5; 8 put aside 7"; "caller put aside, runs as P"
  unfoldable pub call : Principal → Outcome
  call p =
      cond (not (caller_acts_for s l p)) (refused Authority)
      (cond (leb most_put_aside s.caller.calls) (refused Full)
      (rows_changed Done (rows.Call p)))

  abbrev pub decide_thread : ThreadRequest → Bool → Outcome
  -- 0A: "T into S"
  decide_thread (IntoSecrecy t) allowed = with_labels (with_tag s.caller.labels.secrecy t) s.caller.labels.integrity
  decide_thread (OutOfSecrecy t) allowed = out_of_secrecy s.caller.labels t allowed
  decide_thread (IntoIntegrity t) allowed = into_integrity s.caller.labels t allowed
  -- 0D: "T out of I"
  decide_thread (OutOfIntegrity t) allowed = with_labels s.caller.labels.secrecy (without_tag s.caller.labels.integrity t)
  decide_thread (Fork p) allowed = fork p
  -- 0F: "thread freed"
  decide_thread End allowed = rows_changed Done rows.End
  decide_thread (Call p) allowed = call p
  decide_thread Return allowed = returned s.caller.calls
