-- `packing::chain::link` meets its contract. Assumes nothing.
use Rattle.packing.proofs.Copied.{link_last, link_next}
use Rattle.packing.proofs.chain.link.Goals as goal

pub returns-then-left-eq1 : goal.returns-then-left-eq1
returns-then-left-eq1 c = search link_last

pub returns-else-left-eq1 : goal.returns-else-left-eq1
returns-else-left-eq1 c = search link_next
