-- `packing::header::write_header` meets its contract. Assumes nothing.
use Rattle.packing.proofs.Headers.{header_all}
use Rattle.packing.proofs.header.write_header.Goals as goal

pub returns : goal.returns
returns c = search header_all
