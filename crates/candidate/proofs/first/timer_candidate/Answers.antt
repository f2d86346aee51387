-- `candidate::first::timer_candidate` meets its contract. Assumes nothing.
use Rattle.candidate.proofs.PickLaws.{timer_absent, ahead_fits, timer_none, timer_some}
use Rattle.candidate.proofs.first.timer_candidate.Goals as goal

pub returns-in_err-l : goal.returns-in_err-l
returns-in_err-l c = rw c.from_residual.ensures (search (timer_absent, c.in_err-l.was))

pub plus-requires : goal.plus-requires
plus-requires c = search (ahead_fits, c.in_ok-l.was)

pub returns-in_err-d : goal.returns-in_err-d
returns-in_err-d c = rw c.from_residual-in_err-d.ensures (let p = rw c.of.ensures at c.due.ensures in search (timer_none, p, c.in_ok-l.was, c.in_err-d.was))

pub returns : goal.returns
returns c = let p = rw c.of.ensures at c.due.ensures in search (timer_some, p, c.in_ok-l.was, c.in_ok-d.was)
