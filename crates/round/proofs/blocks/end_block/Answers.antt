-- `round::blocks::end_block` meets its contract. Assumes nothing.
use Rattle.round.proofs.BlockLaws.{end_fits, end_returned, end_may, end_queued}
use Rattle.round.proofs.blocks.end_block.Goals as goal

pub end_event-e-requires : goal.end_event-e-requires
end_event-e-requires c = search (end_fits, c.reporting_delay-reporting.ensures)

pub returns-then-reporting-eq0 : goal.returns-then-reporting-eq0
returns-then-reporting-eq0 c = search (end_returned, c.reporting_delay-reporting.ensures)

pub push_sim-requires : goal.push_sim-requires
push_sim-requires c = search (end_may, c.reporting_delay-reporting.ensures)

pub returns : goal.returns
returns c = search (end_queued, c.reporting_delay-reporting.ensures, c.if-reporting-eq0.false)
