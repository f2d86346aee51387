-- `call_line::line::Line::add_byte` meets its contract. Assumes nothing.
use Rattle.call_line.proofs.JoinLaws.{joins_late, joins_first}
use Rattle.call_line.proofs.line.Line.add_byte.Goals as goal

pub returns-in_default : goal.returns-in_default
returns-in_default c = search joins_late

pub returns : goal.returns
returns c = search joins_first
