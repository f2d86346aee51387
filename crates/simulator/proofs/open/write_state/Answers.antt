-- `simulator::open::write_state` meets its contract. Assumes nothing.
use Prim.Native.Nat.{◌-◌, ◌/◌}
use mathlib.Core.Path.{refl}
use lib.ListN.{length}
use Rattle.simulator.specs.Openings.{opening_of}
use Rattle.simulator.proofs.OpenWords.{rest_ready, state_written}
use Rattle.simulator.proofs.open.write_state.Goals as goal

pub chain_free-requires-clause-zero : goal.chain_free-requires-clause-zero
chain_free-requires-clause-zero c = (rest_ready c.args.block.now c.fill.new.self c.write_settings.new.block (opening_of c.args.o) c.requires (c.fill.ensures.after (λ y e. e)) c.write_settings.ensures ((length c.write_settings.new.block - 256) / 4) refl).1

pub returns : goal.returns
returns c = state_written c.args.block.now c.fill.new.self c.write_settings.new.block (opening_of c.args.o) c.requires (c.fill.ensures.after (λ y e. e)) c.write_settings.ensures ((length c.write_settings.new.block - 256) / 4) refl c.chain_free.new.rest c.chain_free.ensures
