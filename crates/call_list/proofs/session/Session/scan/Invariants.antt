-- What the walk over a piece keeps: the session holds what it was lent. Assumes nothing.
use Rattle.call_list.specs.Session.{HoldsThose}
use Rattle.call_list.proofs.session.Session.scan.Given as goal

abbrev pub invariant-loop-b : goal.invariant-loop-b
invariant-loop-b l = HoldsThose l.self l.fn.self
