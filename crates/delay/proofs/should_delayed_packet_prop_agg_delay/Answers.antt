-- `delay::should_delayed_packet_prop_agg_delay` meets its contract. Assumes nothing.
use Rattle.delay.proofs.Judged.{delayed_adjacent, delayed_yes}
use Rattle.delay.proofs.should_delayed_packet_prop_agg_delay.Goals as goal

pub returns-then-adjacent : goal.returns-then-adjacent
returns-then-adjacent c = search delayed_adjacent

pub returns : goal.returns
returns c = search delayed_yes
