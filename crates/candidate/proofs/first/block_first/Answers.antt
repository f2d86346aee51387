-- `candidate::first::block_first` meets its contract. Assumes nothing.
use mathlib.Core.Path.{◌≡◌, ◌∙◌}
use Rattle.candidate.proofs.OrderLaws.{both_then, both_else, before_two, block_goes}
use Rattle.candidate.proofs.first.block_first.Goals.{then-not_later, else-not_later}
use Rattle.candidate.proofs.first.block_first.Goals as goal

pub returns-then-not_later-2 : goal.returns-then-not_later-2
returns-then-not_later-2 c =
    let two : c.if-not_later.value ≡ before_two c.args.d c.args.d.b = elim c.if-not_later.branch [ then-not_later w ↦ w.value-is ∙ both_then _ _ _ c.not_later.ensures _ w.if-not_later.true w.not_later-then-not_later.ensures | else-not_later w ↦ w.value-is ∙ both_else _ _ _ c.not_later.ensures w.if-not_later.false ] in
    both_then _ _ _ two _ c.if-not_later-2.true c.not_later-then-not_later-2.ensures ∙ block_goes c.args.d

pub returns-else-not_later-2 : goal.returns-else-not_later-2
returns-else-not_later-2 c =
    let two : c.if-not_later.value ≡ before_two c.args.d c.args.d.b = elim c.if-not_later.branch [ then-not_later w ↦ w.value-is ∙ both_then _ _ _ c.not_later.ensures _ w.if-not_later.true w.not_later-then-not_later.ensures | else-not_later w ↦ w.value-is ∙ both_else _ _ _ c.not_later.ensures w.if-not_later.false ] in
    both_else _ _ _ two c.if-not_later-2.false ∙ block_goes c.args.d
