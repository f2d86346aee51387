-- `call_line::line::Line::at_cr` meets its contract. Assumes nothing.
use Rattle.call_line.specs.Steps.{cr_in_argument, cr_in_first}
use Rattle.call_line.proofs.line.Line.at_cr.Goals as goal

pub returns-in-Arguments : goal.returns-in-Arguments
returns-in-Arguments c = search cr_in_argument

pub returns-in_default : goal.returns-in_default
returns-in_default c = search cr_in_first
