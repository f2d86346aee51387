-- `queue::view::Words::both_delays` meets its contract. Assumes nothing.
use Prim.Native.Nat.{◌+◌}
use native.Mathlib.Omega.{arith}
use mathlib.Core.Path.{ap₂, ◌∙◌}
use mathlib.Core.List.{[]}
use Rattle.queue.proofs.ViewLaws.{action_held, reporting_held, action_within, reporting_within}
use Rattle.queue.proofs.view.Words.both_delays.Goals as goal

pub plus-requires : goal.plus-requires
plus-requires c =
    omega (arith, c.requires, c.action_delay.ensures [], c.reporting_delay.ensures [])

pub returns-clause-is : goal.returns-clause-is
returns-clause-is c = λ rs. c.plus.ensures ∙ ap₂ ◌+◌ (c.action_delay.ensures rs) (c.reporting_delay.ensures rs)

pub returns-clause-small : goal.returns-clause-small
returns-clause-small c = λ l.
    let h = c.args.self.now.header.now in
    let b = c.args.client in
    omega (
      arith,
      c.plus.ensures,
      action_within h b _ l (c.action_delay.ensures [] ∙ action_held h [] b),
      reporting_within h b _ l (c.reporting_delay.ensures [] ∙ reporting_held h [] b),
    )
