-- `call_line::line::Line::add_letter` meets its contract. Assumes nothing.
use Rattle.call_line.specs.Steps.{letter_left_out}
use Rattle.call_line.proofs.TakeLaws.{spells_kept}
use Rattle.call_line.proofs.line.Line.add_letter.Goals as goal

pub returns-then-at-ge-LETTERS-clause-spells : goal.returns-then-at-ge-LETTERS-clause-spells
returns-then-at-ge-LETTERS-clause-spells c = search letter_left_out

pub returns-clause-spells : goal.returns-clause-spells
returns-clause-spells c = search spells_kept
