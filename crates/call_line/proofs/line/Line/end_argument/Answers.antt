-- `call_line::line::Line::end_argument` meets its contract. Assumes nothing.
use Rattle.call_line.specs.Steps.{argument_stored, argument_left_out}
use Rattle.call_line.proofs.line.Line.end_argument.Goals as goal

pub returns-then-at-ge-ARGUMENTS-clause-ends : goal.returns-then-at-ge-ARGUMENTS-clause-ends
returns-then-at-ge-ARGUMENTS-clause-ends c = search argument_left_out

pub returns-clause-ends : goal.returns-clause-ends
returns-clause-ends c = search argument_stored
