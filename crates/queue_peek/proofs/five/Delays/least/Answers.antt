-- `queue_peek::five::Delays::least` meets its contract. Assumes nothing.
use Rattle.queue_peek.proofs.FiveLaws.{least_four}
use Rattle.queue_peek.proofs.five.Delays.least.Goals as goal

pub returns : goal.returns
returns c = search least_four
