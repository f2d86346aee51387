-- `call_line::line::Line::take` meets its contract. Assumes nothing.
use Rattle.call_line.proofs.TakeLaws.{takes_space, takes_letter}
use Rattle.call_line.proofs.line.Line.take.Goals as goal

pub returns-then-is_space : goal.returns-then-is_space
returns-then-is_space c = search takes_space

pub returns : goal.returns
returns c = search takes_letter
