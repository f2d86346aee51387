-- `queue_event::tag::stamp_tag` meets its contract. Assumes nothing.
use Rattle.queue_event.specs.Tag.{stamp_tag}
use mathlib.Core.Path.{refl}
use Rattle.queue_event.proofs.tag.stamp_tag.Goals as goal

pub returns : goal.returns
unfolding stamp_tag
returns c = refl
