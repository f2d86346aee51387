-- `network::tunnel::link_of` meets its contract. Assumes nothing.
use mathlib.Core.Path.{◌∙◌}
use mathlib.Core.List.{[]}
use Rattle.queue.proofs.ViewLaws.{reporting_held, reporting_within}
use Rattle.network.proofs.TunnelLaws.{link_as}
use Rattle.network.proofs.tunnel.link_of.Goals as goal

pub invariant_of-result : goal.invariant_of-result
invariant_of-result c = record { within = reporting_within _ _ _ c.args.side.now.view.good.limits (c.reporting_delay.ensures [] ∙ reporting_held _ [] _) }

pub returns : goal.returns
returns c = search (link_as, c.window.ensures, c.reporting_delay.ensures)
