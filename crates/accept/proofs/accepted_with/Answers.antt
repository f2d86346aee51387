-- `accept::accepted_with` meets its contract. Assumes nothing.
use Rattle.layout.proofs.Deciding.{hands}
use Rattle.accept.proofs.accepted_with.Goals as goal

pub returns : goal.returns
returns c =
    let size = c.size_ok.ensures.sound c.if-not-size_ok.false in
    let parts = rw c.unwrap.ensures at c.split_first_chunk.ensures.cases in
    hands (rw (parts.0, parts.1) at c.good.ensures) (λ q. record { size = size; good = q }) (λ p. p.good)
