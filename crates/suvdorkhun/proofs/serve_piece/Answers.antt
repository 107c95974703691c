-- What `feed` reads: no more than there is, and something where the output buffer has room for an answer.
use mathlib.Core.Path.{sym, ap, subst}
use mathlib.Core.Logic.{inl, inr, ⊎_elim}
use Rattle.std.proofs.Common.{rules, ◌≤◌, ◌<◌, length, ℕ}
use Rattle.session.specs.declared.Fed.{Fed}
use Rattle.session.proofs.SessionLaws.{readable-within, readable-some}
use Rattle.suvdorkhun.proofs.serve_piece.Goals as goal

pub returns-clause-read_in_bounds : goal.returns-clause-read_in_bounds
returns-clause-read_in_bounds c =
    subst (λ (n : ℕ). n ≤ length c.args.piece.now) (sym (ap (λ (x : Fed). x.read) c.feed-fed.ensures.value))
    (readable-within _ c.args.piece.now _)

pub returns-clause-piece_len : goal.returns-clause-piece_len
returns-clause-piece_len c =
    ⊎_elim inl (λ h. inr (subst (λ (n : ℕ). 0 < n) (sym (ap (λ (x : Fed). x.read) c.feed-fed.ensures.value)) h))
    (readable-some _ c.args.piece.now _ (search rules))
