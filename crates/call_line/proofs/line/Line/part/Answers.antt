-- `call_line::line::Line::part` meets its contract. Assumes nothing.
use Rattle.call_line.proofs.PartLaws.{parts_first, parts_none, parts_argument}
use Rattle.call_line.proofs.line.Line.part.Goals as goal

pub returns-in_default-clause-parts : goal.returns-in_default-clause-parts
returns-in_default-clause-parts c = search parts_first

pub returns-in-NoWord-clause-parts : goal.returns-in-NoWord-clause-parts
returns-in-NoWord-clause-parts c = search parts_none

pub returns-in_default-form-clause-parts : goal.returns-in_default-form-clause-parts
returns-in_default-form-clause-parts c = search parts_argument
