-- `packing::header::first` meets its contract. Assumes nothing.
use Rattle.packing.proofs.Headers.{first_none, first_some}
use Rattle.packing.proofs.header.first.Goals as goal

pub returns-then-count-eq0 : goal.returns-then-count-eq0
returns-then-count-eq0 c = search first_none

pub returns-else-count-eq0 : goal.returns-else-count-eq0
returns-else-count-eq0 c = search first_some
