-- `candidate::first::held_up` meets its contract. Assumes nothing.
use borrow.Author.Rules.{rules}
use Rattle.queue_peek.proofs.OfferedLaws.{kept_some, kept_none}
use Rattle.candidate.proofs.SumLaws.{before_end, before_end_is, held_none, held_late, held_by}
use Rattle.candidate.proofs.first.held_up.Goals as goal

pub returns-in_err-h : goal.returns-in_err-h
returns-in_err-h c =
    rw c.from_residual.ensures (kept_none (before_end c.args.end.0) _ _ c.filter.ensures (λ x b q. search (rules, before_end_is)) c.in_err-h.was (λ e. search (held_none, e)) (λ x e l. search (held_late, e, l)))

pub returns : goal.returns
returns c =
    let k = kept_some (before_end c.args.end.0) _ _ c.filter.ensures (λ x b q. search (rules, before_end_is)) _ c.in_ok-h.was in
    search (held_by, k.0, k.1)
