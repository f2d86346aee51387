-- `accept::records::chain_ok` meets its contract. Assumes nothing.
use Rattle.std.specs.Prelude.{◌-◌}
use Rattle.layout.specs.Records.{Chain}
use Rattle.layout.proofs.Walk.{Rest}
use Rattle.accept.proofs.records.chain_ok.Given as goal

abbrev pub invariant-loop : goal.invariant-loop
invariant-loop l = Rest (Chain l.rest l.k l.machines l.fn.chain.count 0 0 l.fn.chain.head) (Chain l.rest l.k l.machines (l.fn.chain.count - l.counter) l.moment l.rank l.at)
