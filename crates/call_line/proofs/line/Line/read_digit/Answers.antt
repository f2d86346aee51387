-- `call_line::line::Line::read_digit` meets its contract. Assumes nothing.
use mathlib.Core.Path.{refl, sym}
use Rattle.call_line.proofs.DigitLaws.{digit_there}
use Rattle.call_line.proofs.ReadLaws.{reads_digit}
use Rattle.call_line.proofs.line.Line.read_digit.Goals as goal

pub add_digit-requires : goal.add_digit-requires
add_digit-requires c = (digit_there c.args.self.now c.args.b c.requires).1

pub returns : goal.returns
returns c = λ name kept.
    let there = digit_there c.args.self.now c.args.b c.requires in
    reads_digit c.args.self.now c.add_digit.new.self name kept c.args.b _ there.0 (sym there.1) refl c.add_digit.ensures
