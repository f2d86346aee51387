-- `candidate::first::aggregate_first` meets its contract. Assumes nothing.
use mathlib.Core.Path.{◌≡◌, ◌∙◌}
use Rattle.candidate.proofs.OrderLaws.{both_then, both_else, before_two, before_three, aggregate_goes}
use Rattle.candidate.proofs.first.aggregate_first.Goals.{then-not_later, else-not_later, then-not_later-2, else-not_later-2}
use Rattle.candidate.proofs.first.aggregate_first.Goals as goal

pub returns-then-not_later-3 : goal.returns-then-not_later-3
returns-then-not_later-3 c =
    let two : c.if-not_later.value ≡ before_two c.args.d c.args.d.n = elim c.if-not_later.branch [ then-not_later w ↦ w.value-is ∙ both_then _ _ _ c.not_later.ensures _ w.if-not_later.true w.not_later-then-not_later.ensures | else-not_later w ↦ w.value-is ∙ both_else _ _ _ c.not_later.ensures w.if-not_later.false ] in
    let three : c.if-not_later-2.value ≡ before_three c.args.d c.args.d.n = elim c.if-not_later-2.branch [ then-not_later-2 w ↦ w.value-is ∙ both_then _ _ _ two _ w.if-not_later-2.true w.not_later-then-not_later-2.ensures | else-not_later-2 w ↦ w.value-is ∙ both_else _ _ _ two w.if-not_later-2.false ] in
    both_then _ _ _ three _ c.if-not_later-3.true c.not_later-then-not_later-3.ensures ∙ aggregate_goes c.args.d

pub returns-else-not_later-3 : goal.returns-else-not_later-3
returns-else-not_later-3 c =
    let two : c.if-not_later.value ≡ before_two c.args.d c.args.d.n = elim c.if-not_later.branch [ then-not_later w ↦ w.value-is ∙ both_then _ _ _ c.not_later.ensures _ w.if-not_later.true w.not_later-then-not_later.ensures | else-not_later w ↦ w.value-is ∙ both_else _ _ _ c.not_later.ensures w.if-not_later.false ] in
    let three : c.if-not_later-2.value ≡ before_three c.args.d c.args.d.n = elim c.if-not_later-2.branch [ then-not_later-2 w ↦ w.value-is ∙ both_then _ _ _ two _ w.if-not_later-2.true w.not_later-then-not_later-2.ensures | else-not_later-2 w ↦ w.value-is ∙ both_else _ _ _ two w.if-not_later-2.false ] in
    both_else _ _ _ three c.if-not_later-3.false ∙ aggregate_goes c.args.d
