-- What the walk keeps: the place for the answers is the one that was lent. Assumes nothing.
use Rattle.std.specs.Prelude.{◌≡◌}
use Rattle.answer_text.proofs.slots.put_side_actions.Given as goal

abbrev pub invariant-loop-machine : goal.invariant-loop-machine
invariant-loop-machine l = l.out.buffer.ghost_name ≡ l.fn.out.buffer.ghost_name
