-- `accept::good` meets its contract. Assumes nothing.
use mathlib.Core.Path.{sym, ◌∙◌}
use native.Mathlib.Omega.{arith}
use Rattle.layout.proofs.Deciding.{by_leb}
use Rattle.layout.proofs.Counts.{reserve_state, reserve_words}
use Rattle.accept.specs.Slots.{FoundAll}
use Rattle.accept.proofs.good.Goals as goal

pub returns : goal.returns
unfolding FoundAll
returns c =
    let chains = c.chains_ok.ensures.sound c.if-not-chains_ok.false in
    let found = c.in-Some.ensures in
    let sum = sym c.counted.ensures ∙ c.if-counted-last.false in
    by_leb _ _
    (λ l. record { limits = c.limited.ensures.sound c.if-not-limited.false; slots = found.0; chains = chains; counts = sum; reserve = reserve_state _ _ sum (omega (arith, found.1, l)) })
    (λ p. omega (arith, reserve_words _ _ p, found.1))
