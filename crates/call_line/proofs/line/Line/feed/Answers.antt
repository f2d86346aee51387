-- `call_line::line::Line::feed` meets its contract. Assumes nothing.
use Rattle.call_line.proofs.ReadLaws.{reads_comment, reads_cr, reads_taken}
use Rattle.call_line.proofs.line.Line.feed.Goals as goal

pub returns-in-Comment : goal.returns-in-Comment
returns-in-Comment c = search reads_comment

pub returns-then-b-eq13 : goal.returns-then-b-eq13
returns-then-b-eq13 c = search reads_cr

pub returns : goal.returns
returns c = search reads_taken
