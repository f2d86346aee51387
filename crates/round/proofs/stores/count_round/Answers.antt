-- `round::stores::count_round` meets its contract. Assumes nothing.
use Rattle.round.proofs.HeaderWords.{rounds_raised, rounds_word}
use native.Mathlib.Omega.{arith}
use Rattle.round.proofs.stores.count_round.Goals as goal

pub overflow_add-block : goal.overflow_add-block
overflow_add-block c = record { fits = omega (arith, rounds_word c.args.block.now, c.requires.total_small) }

pub returns : goal.returns
returns c = rounds_raised _ c.requires.shaped
