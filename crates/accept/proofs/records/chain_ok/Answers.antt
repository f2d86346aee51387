-- `accept::records::chain_ok` meets its contract. Assumes nothing.
use native.Mathlib.Omega.{arith}
use borrow.Author.Rules.{rules}
use Rattle.layout.proofs.Walk.{walk_ended, walk_outside, walk_unfit, walk_disorder, walk_turn, walk_ends}
use Rattle.accept.proofs.Found.{some_if}
use Rattle.accept.proofs.records.chain_ok.Goals.{then-at-eq0-via-then-at-eq0, then-at-eq0-via-else-at-eq0+then-last-at}
use Rattle.accept.proofs.records.chain_ok.Goals as goal

pub returns-then-at-eq0 : goal.returns-then-at-eq0
returns-then-at-eq0 c = elim c.then-at-eq0.branch [ then-at-eq0-via-then-at-eq0 w ↦ search (rules, arith, walk_ended) | then-at-eq0-via-else-at-eq0+then-last-at w ↦ search (rules, arith, walk_outside) ]

pub returns-then-not-record_ok : goal.returns-then-not-record_ok
returns-then-not-record_ok c = search (rules, arith, walk_unfit)

pub returns-then-not-follows : goal.returns-then-not-follows
returns-then-not-follows c = search (rules, arith, walk_disorder)

pub loop-preserved : goal.loop-preserved
loop-preserved c = walk_turn _ _ _ _ _ _ _ _ c.loop.invariant c.loop-test.true _ _ _ _ _ c.get-m.ensures c.get.ensures c.get-tag.ensures c.record_ok.ensures c.if-not-record_ok.false _ c.kind-r.ensures c.follows.ensures c.if-not-follows.false c.if-at-eq0.false c.if-last-at.false _ c.get-at.ensures

pub returns : goal.returns
returns c = some_if _ _ c.then_some.ensures (walk_ends _ _ _ _ _ _ _ c.loop.invariant (omega arith))
