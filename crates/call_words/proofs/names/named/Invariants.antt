-- `call_words::names::named` meets its contract. What the rows that are left have is what the line names. Assumes nothing.
use Rattle.std.specs.Prelude.{◌≡◌, drop}
use Rattle.call_words.specs.Names.{named}
use Rattle.call_words.proofs.NameLaws.{looked_up}
use Rattle.call_words.proofs.names.named.Given as goal

abbrev pub invariant-loop-row : goal.invariant-loop-row
invariant-loop-row l = looked_up l.letters (drop l.row-index l.row-items) ≡ named l.letters
