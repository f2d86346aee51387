-- `queue_event::chain::Linked::end_at` meets its contract. Assumes nothing.
use mathlib.Core.Path.{◌∙◌}
use Rattle.queue_event.proofs.chain.Linked.end_at.Goals as goal

pub returns-in-Some : goal.returns-in-Some
returns-in-Some c = let f = c.in-Some.ensures in record { number = f.1 ∙ c.requires.last _ f.2; of = f.0 }
