-- `queue::records::set_chain` meets its contract. Assumes nothing.
use Rattle.layout.specs.Changes.{put_chain}
use lib.ListN.{length-set}
use native.Mathlib.Omega.{arith}
use mathlib.Core.Path.{refl}
use Rattle.queue.proofs.records.set_chain.Goals as goal

pub bounds-block-k-2 : goal.bounds-block-k-2
bounds-block-k-2 c = simp length-set (omega arith)

pub returns : goal.returns
unfolding put_chain
returns c = refl
