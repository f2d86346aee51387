-- `maybenot_core::maybenot_core_pack` meets its contract. Assumes nothing.
use Rattle.maybenot_core.proofs.Packing.{pack_told}
use Rattle.maybenot_core.proofs.maybenot_core_pack.Goals as goal

pub returns : goal.returns
returns c = search pack_told
