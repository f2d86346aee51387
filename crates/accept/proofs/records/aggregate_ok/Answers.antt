-- `accept::records::aggregate_ok` meets its contract. Assumes nothing.
use mathlib.Core.Path.{sym, ◌∙◌}
use native.Mathlib.Omega.{arith}
use Rattle.layout.proofs.Deciding.{by_eqb}
use Rattle.accept.proofs.Fields.{aggregate_of_client, aggregate_of_server, aggregate_of_none}
use Rattle.accept.proofs.records.aggregate_ok.Goals as goal

pub returns-then-tag-aggregate_tag : goal.returns-then-tag-aggregate_tag
returns-then-tag-aggregate_tag c = by_eqb _ _ (λ e. record { shape = aggregate_of_client _ (e ∙ c.aggregate_tag.ensures); limits = record { moments = omega arith; spans = omega arith } }) (λ p. c.if-tag-aggregate_tag.true)

pub returns-else-tag-aggregate_tag : goal.returns-else-tag-aggregate_tag
returns-else-tag-aggregate_tag c = by_eqb _ _ (λ e. record { shape = aggregate_of_server _ (e ∙ c.aggregate_tag-else-tag-aggregate_tag.ensures); limits = record { moments = omega arith; spans = omega arith } }) (λ p. aggregate_of_none _ p.shape (λ t. c.if-tag-aggregate_tag.false (t ∙ sym c.aggregate_tag.ensures)) ∙ sym c.aggregate_tag-else-tag-aggregate_tag.ensures)
