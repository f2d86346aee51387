-- `call_line::line::Line::add_digit` meets its contract. Assumes nothing.
use Rattle.call_line.proofs.JoinLaws.{joins_first, joins_other, joins_large, joins_number}
use Rattle.call_line.proofs.line.Line.add_digit.Goals as goal

pub returns-in-NoWord : goal.returns-in-NoWord
returns-in-NoWord c = search joins_first

pub returns-then-not-numeric : goal.returns-then-not-numeric
returns-then-not-numeric c = search joins_other

pub returns-in_default-longer : goal.returns-in_default-longer
returns-in_default-longer c = search joins_large

pub returns : goal.returns
returns c = search joins_number
