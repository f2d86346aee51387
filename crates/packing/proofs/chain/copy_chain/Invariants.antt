-- `packing::chain::copy_chain` meets its contract. Assumes nothing.
use Rattle.std.specs.Prelude.{◌+◌, ◌-◌, ◌*◌, ◌++◌, take}
use Rattle.std.specs.Iterator.Adapters.{enumerate_source, enumerate_count}
use Rattle.queue_event.specs.Chain.{recs}
use Rattle.queue_event.specs.Walks.{left}
use Rattle.layout.specs.Packed.{chain_words}
use Rattle.packing.specs.Copying.{Copies}
use Rattle.packing.proofs.chain.copy_chain.Given as goal

abbrev pub invariant-loop-i : goal.invariant-loop-i
invariant-loop-i l =
    Copies (take (4 * l.place - 4) l.initial.out ++ chain_words l.place (recs (left l.from))) l.initial.out l.end l.out (left (enumerate_source l.i-iterator)) (l.place + enumerate_count l.i-iterator)
