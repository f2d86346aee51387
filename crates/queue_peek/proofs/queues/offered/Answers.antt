-- `queue_peek::queues::offered` meets its contract. Assumes nothing.
use borrow.Author.Rules.{rules}
use Rattle.queue_peek.proofs.OfferedLaws.{kept_some, kept_none, in_time, in_time_is, offered_none, offered_late, offered_kind, offered_behind, offered_head}
use Rattle.queue_peek.proofs.queues.offered.Goals as goal

pub returns-in_err-h : goal.returns-in_err-h
returns-in_err-h c =
    rw c.from_residual.ensures (kept_none (in_time c.args.time.at.0 c.args.least) _ _ c.filter.ensures (λ x b q. search (rules, in_time_is)) c.in_err-h.was (offered_none _ _ _ _ _ c.peek-found.ensures) (offered_late _ _ _ _ _ c.peek-found.ensures))

pub held_back-requires : goal.held_back-requires
held_back-requires c =
    let k = kept_some (in_time c.args.time.at.0 c.args.least) _ _ c.filter.ensures (λ x b q. search (rules, in_time_is)) _ c.in_ok-h.was in
    offered_kind _ _ _ c.args.least _ c.peek-found.ensures _ k.0

pub returns-then-held_back : goal.returns-then-held_back
returns-then-held_back c =
    let k = kept_some (in_time c.args.time.at.0 c.args.least) _ _ c.filter.ensures (λ x b q. search (rules, in_time_is)) _ c.in_ok-h.was in
    offered_behind _ _ _ _ _ c.peek-found.ensures _ k.0 k.1 _ c.held_back.ensures _ c.if-held_back.true c.peek_queue_earliest_side.ensures

pub returns : goal.returns
returns c =
    let k = kept_some (in_time c.args.time.at.0 c.args.least) _ _ c.filter.ensures (λ x b q. search (rules, in_time_is)) _ c.in_ok-h.was in
    offered_head _ _ _ _ _ c.peek-found.ensures _ k.0 k.1 _ c.held_back.ensures c.if-held_back.false
