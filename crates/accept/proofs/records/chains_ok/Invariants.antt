-- `accept::records::chains_ok` meets its contract. Assumes nothing.
use Rattle.std.specs.Prelude.{ℕ, ◌<◌}
use Rattle.layout.specs.Records.{ChainOk}
use Rattle.accept.proofs.records.chains_ok.Given as goal

abbrev pub invariant-loop-k : goal.invariant-loop-k
invariant-loop-k l = (j : ℕ) → j < l.k → ChainOk l.header.words.now l.records j
