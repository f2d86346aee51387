-- `network_stack::network_step` meets its contract. Assumes nothing.
use native.Mathlib.Omega.{arith}
use lib.ListN.{length-drop}
use Rattle.network_stack.proofs.StepLaws.{plan_small, step_nine, step_ten, make_may, step_done}
use Rattle.network_stack.proofs.network_step.Goals as goal

pub plan_of-p-requires-clause-few : goal.plan_of-p-requires-clause-few
plan_of-p-requires-clause-few c = rw c.of-view.ensures.records (omega (arith, length-drop 256 c.args.block.now, c.requires.accepted.size.most))

pub no_room-requires-clause-given_back_small : goal.no_room-requires-clause-given_back_small
no_room-requires-clause-given_back_small c = search plan_small

pub returns-then-no_room : goal.returns-then-no_room
returns-then-no_room c = search step_nine

pub returns-then-not-fit : goal.returns-then-not-fit
returns-then-not-fit c = search step_ten

pub make-falls-requires : goal.make-falls-requires
make-falls-requires c = search make_may

pub returns : goal.returns
returns c = search step_done
