-- `accept::records::chains_ok` meets its contract. Assumes nothing.
use mathlib.Core.Path.{ap}
use native.Mathlib.Omega.{arith}
use borrow.Author.Count.{below_more}
use Rattle.std.specs.Prelude.{is_some}
use Rattle.layout.proofs.Walk.{chain_ok, ok_chain}
use Rattle.layout.proofs.Deciding.{fails, denied}
use Rattle.accept.proofs.records.chains_ok.Goals as goal

pub returns-in_default : goal.returns-in_default
returns-in_default c = fails (λ p. denied (rw (c.of-chain.ensures.count, c.of-chain.ensures.head) at c.chain_ok.ensures) (ap is_some c.in_default.is) (ok_chain _ _ _ (p _ (omega arith))))

pub loop-k-preserved : goal.loop-k-preserved
loop-k-preserved c = below_more _ _ c.loop-k.invariant (chain_ok _ _ _ (omega arith) (rw (c.of-chain.ensures.count, c.of-chain.ensures.head) at (c.chain_ok.ensures.sound (ap is_some c.in-Some.is))))
