-- `calls::list::make_rows` meets its contract. Assumes nothing.
use Rattle.simulator.specs.Numbers.{refused_with}
use Rattle.calls.proofs.Listing.{Listing}
use Rattle.calls.proofs.list.make_rows.Given as goal

abbrev pub invariant-loop-at : goal.invariant-loop-at
invariant-loop-at l = Listing l.initial.block l.rows l.initial.out l.most (refused_with l.tested) l.block l.out l.last l.at
