-- What the walk keeps: the place for the answers is the one that was lent. Assumes nothing.
use Rattle.std.specs.Prelude.{◌≡◌}
use Rattle.answer_text.proofs.header.put_settings.Given as goal

abbrev pub invariant-loop-word : goal.invariant-loop-word
invariant-loop-word l = l.out.buffer.ghost_name ≡ l.fn.out.buffer.ghost_name
