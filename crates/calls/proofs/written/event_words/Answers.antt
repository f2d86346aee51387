-- `calls::written::event_words` meets its contract. Assumes nothing.
use Rattle.calls.proofs.Writing.{event_none, event_is}
use Rattle.calls.proofs.written.event_words.Goals as goal

pub returns-then-e-gt-TIMER_END : goal.returns-then-e-gt-TIMER_END
returns-then-e-gt-TIMER_END c = event_none _ _ c.if-e-gt-TIMER_END.true

pub returns : goal.returns
returns c = search event_is
