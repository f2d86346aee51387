-- `candidate::sums::always_fits` meets its contract. Assumes nothing.
use mathlib.Core.Path.{◌≡◌, ◌∙◌}
use Rattle.candidate.proofs.OrderLaws.{both_then, both_else}
use Rattle.candidate.proofs.SumLaws.{below_then, below_else, first_within, always_all}
use Rattle.candidate.proofs.sums.always_fits.Goals.{then-view-lt-LIMIT, else-view-lt-LIMIT}
use Rattle.candidate.proofs.sums.always_fits.Goals as goal

pub returns-then-base_fits : goal.returns-then-base_fits
returns-then-base_fits c =
    let v = c.args.view.now in
    let first : c.if-view-lt-LIMIT.value ≡ first_within v.words.header.now v.records.now = elim c.if-view-lt-LIMIT.branch [ then-view-lt-LIMIT w ↦ below_then _ _ _ _ w.if-view-lt-LIMIT.true w.value-is (rw (w.side.ensures.view, w.side.ensures.client) at w.base_fits.ensures) | else-view-lt-LIMIT w ↦ below_else _ _ _ w.if-view-lt-LIMIT.false w.value-is ] in
    let second = rw (c.side-then-base_fits.ensures.view, c.side-then-base_fits.ensures.client) at c.base_fits-then-base_fits.ensures in
    both_then _ _ _ first _ c.if-base_fits.true second ∙ always_all v.words.header.now v.records.now

pub returns-else-base_fits : goal.returns-else-base_fits
returns-else-base_fits c =
    let v = c.args.view.now in
    let first : c.if-view-lt-LIMIT.value ≡ first_within v.words.header.now v.records.now = elim c.if-view-lt-LIMIT.branch [ then-view-lt-LIMIT w ↦ below_then _ _ _ _ w.if-view-lt-LIMIT.true w.value-is (rw (w.side.ensures.view, w.side.ensures.client) at w.base_fits.ensures) | else-view-lt-LIMIT w ↦ below_else _ _ _ w.if-view-lt-LIMIT.false w.value-is ] in
    both_else _ _ _ first c.if-base_fits.false ∙ always_all v.words.header.now v.records.now
