-- `candidate::first::event_first` meets its contract. Assumes nothing.
use mathlib.Core.Path.{◌∙◌}
use Rattle.candidate.proofs.OrderLaws.{both_then, both_else, event_goes}
use Rattle.candidate.proofs.first.event_first.Goals as goal

pub returns-then-not_later : goal.returns-then-not_later
returns-then-not_later c = both_then _ _ _ c.not_later.ensures _ c.if-not_later.true c.not_later-then-not_later.ensures ∙ event_goes c.args.d

pub returns-else-not_later : goal.returns-else-not_later
returns-else-not_later c = both_else _ _ _ c.not_later.ensures c.if-not_later.false ∙ event_goes c.args.d
