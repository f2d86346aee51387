-- `delay::agg_delay_on_padding_bypass_replace` meets its contract. Assumes nothing.
use Rattle.delay.proofs.Judged.{replace_adjacent, replace_near, replace_by_lem}
use Rattle.delay.proofs.agg_delay_on_padding_bypass_replace.Goals as goal

pub returns-then-beside : goal.returns-then-beside
returns-then-beside c = search replace_adjacent

pub returns-then-base_within : goal.returns-then-base_within
returns-then-base_within c = search replace_near

pub returns : goal.returns
returns c = search replace_by_lem
