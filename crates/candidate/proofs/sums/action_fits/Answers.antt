-- `candidate::sums::action_fits` meets its contract. Assumes nothing.
use Rattle.candidate.proofs.ActionSums.{padding_fits, delays_small, action_sums_lem, action_long}
use Rattle.candidate.proofs.sums.action_fits.Goals as goal

pub returns-then-a-eq-SEND_PADDING : goal.returns-then-a-eq-SEND_PADDING
returns-then-a-eq-SEND_PADDING c = search padding_fits

pub returns-then-not-fits : goal.returns-then-not-fits
returns-then-not-fits c = search action_long

pub both_delays-requires : goal.both_delays-requires
both_delays-requires c = search delays_small

pub returns : goal.returns
returns c = search (action_sums_lem, c.both_delays.ensures.is)
