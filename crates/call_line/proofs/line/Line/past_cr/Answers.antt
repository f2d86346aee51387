-- `call_line::line::Line::past_cr` meets its contract. Assumes nothing.
use Rattle.call_line.proofs.ReadLaws.{past_spoilt}
use Rattle.call_line.specs.Steps.{past_in_first, past_none}
use Rattle.call_line.proofs.line.Line.past_cr.Goals as goal

pub returns-in-ArgumentsCr : goal.returns-in-ArgumentsCr
returns-in-ArgumentsCr c = search past_spoilt

pub returns-in-FirstWordCr : goal.returns-in-FirstWordCr
returns-in-FirstWordCr c = search past_in_first

pub returns-in_default : goal.returns-in_default
returns-in_default c = search past_none
