-- `delay::waiting::burst_tail` meets its contract. Assumes nothing.
use native.Mathlib.Omega.{arith}
use Rattle.std.specs.Prelude.{◌+◌, ◌<◌, ◌≤◌}
use Rattle.delay.proofs.Packets.{tail_few, tail_found}
use Rattle.delay.proofs.waiting.burst_tail.Goals as goal

pub returns-then-packets-lt3 : goal.returns-then-packets-lt3
returns-then-packets-lt3 c = let few : c.entry-blocking.result.count + c.entry-bypassable.result.count < 3 = omega (arith, c.saturating_add-packets.ensures) in search tail_few

pub returns : goal.returns
returns c = let many : 3 ≤ c.entry-blocking.result.count + c.entry-bypassable.result.count = omega (arith, c.saturating_add-packets.ensures) in search tail_found
