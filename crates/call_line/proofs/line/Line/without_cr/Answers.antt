-- `call_line::line::Line::without_cr` meets its contract. Assumes nothing.
use Rattle.call_line.specs.Steps.{end_in_argument, end_none}
use Rattle.call_line.proofs.line.Line.without_cr.Goals as goal

pub returns-in-ArgumentsCr : goal.returns-in-ArgumentsCr
returns-in-ArgumentsCr c = search end_in_argument

pub returns-in_default : goal.returns-in_default
returns-in_default c = search end_none
