-- `queue_event::tag::event_tag` meets its contract. Assumes nothing.
use native.Mathlib.Omega.{arith}
use Rattle.queue_event.specs.Tag.{event_tag}
use Rattle.queue_event.proofs.tag.event_tag.Goals as goal

pub returns : goal.returns
unfolding event_tag
returns c = omega arith
