-- What the walk keeps: the place for the answers is the one that was lent. Assumes nothing.
use Rattle.std.specs.Prelude.{◌≡◌}
use Rattle.answer_text.proofs.chains.put_stamps.Given as goal

abbrev pub invariant-loop-r : goal.invariant-loop-r
invariant-loop-r l = l.out.buffer.ghost_name ≡ l.fn.out.buffer.ghost_name
