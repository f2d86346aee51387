-- `simulator::pack::pack` meets its contract. Assumes nothing.
use Rattle.simulator.proofs.Packing.{packs_length, packs_other, packs_bad, packs_done}
use Rattle.simulator.proofs.pack.pack.Goals.{then-not-size_ok-via-then-not-size_ok, then-not-size_ok-via-else-not-size_ok+then-second-block}
use Rattle.simulator.proofs.pack.pack.Goals as goal

pub returns-then-not-size_ok : goal.returns-then-not-size_ok
returns-then-not-size_ok c =
    elim c.then-not-size_ok.branch [ then-not-size_ok-via-then-not-size_ok w ↦ search packs_length | then-not-size_ok-via-else-not-size_ok+then-second-block w ↦ search packs_other ]

pub returns-then-not-accepted : goal.returns-then-not-accepted
returns-then-not-accepted c = search packs_bad

pub returns : goal.returns
returns c = search packs_done
