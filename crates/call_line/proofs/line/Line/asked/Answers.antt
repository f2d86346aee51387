-- `call_line::line::Line::asked` meets its contract. Assumes nothing.
use Rattle.call_line.proofs.AskedLaws.{asks_none, asks_kept, asked_ok, asked_err}
use Rattle.call_line.proofs.line.Line.asked.Goals as goal

pub returns-then-passed_over-clause-asks : goal.returns-then-passed_over-clause-asks
returns-then-passed_over-clause-asks c = search asks_none

pub returns-in_err-understood-clause-asks : goal.returns-in_err-understood-clause-asks
returns-in_err-understood-clause-asks c =
    asks_kept _ _ c.part.new.self _ _ _ _ _ _ c.passed_over.ensures c.if-passed_over.false c.without_cr.ensures c.part.ensures.parts
    c.part.ensures.name (asked_err _ _ _ _ c.in_err-understood.was c.understood.ensures c.from_residual.ensures.0)

pub returns-clause-asks : goal.returns-clause-asks
returns-clause-asks c =
    asks_kept _ _ c.part.new.self _ _ _ _ _ _ c.passed_over.ensures c.if-passed_over.false c.without_cr.ensures c.part.ensures.parts
    c.part.ensures.name (asked_ok _ _ _ c.in_ok-understood.was c.understood.ensures)
