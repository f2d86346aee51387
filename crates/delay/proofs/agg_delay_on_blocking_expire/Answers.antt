-- `delay::agg_delay_on_blocking_expire` meets its contract. Assumes nothing.
use Rattle.delay.proofs.Judged.{expire_level, expire_near, expire_by}
use Rattle.delay.proofs.agg_delay_on_blocking_expire.Goals.{then-eq-via-then-eq, then-eq-via-else-eq+then-base_within}
use Rattle.delay.proofs.agg_delay_on_blocking_expire.Goals as goal

pub returns-then-eq : goal.returns-then-eq
returns-then-eq c = elim c.then-eq.branch [ then-eq-via-then-eq w ↦ search expire_level | then-eq-via-else-eq+then-base_within w ↦ search expire_near ]

pub returns : goal.returns
returns c = search expire_by
