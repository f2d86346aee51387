-- `network_stack::window_count::evict` meets its contract. Assumes nothing.
use Rattle.std.specs.Prelude.{◌-◌}
use Rattle.event.specs.HandedIn.{side_of}
use Rattle.network_stack.specs.Windows.{Evicting}
use Rattle.network_stack.proofs.window_count.evict.Given as goal

abbrev pub invariant-loop : goal.invariant-loop
invariant-loop l = Evicting l.initial.block l.block (side_of l.client) l.gone (l.gone - l.counter) l.first
