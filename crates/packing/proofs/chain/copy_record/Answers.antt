-- `packing::chain::copy_record` meets its contract. Assumes nothing.
use Rattle.packing.specs.Copying.{copied}
use Rattle.packing.proofs.chain.copy_record.Goals as goal

pub returns : goal.returns
unfolding copied
returns c = cc
