-- `calls::row::Arguments::call` meets its contract. Assumes nothing.
use Rattle.calls.proofs.RowLaws.{code_0, code_1, code_2, code_3, code_4, code_5, code_6}
use Rattle.calls.proofs.row.Arguments.call.Goals as goal

pub returns-in-Push : goal.returns-in-Push
returns-in-Push c = search code_0

pub returns-in-SetAction : goal.returns-in-SetAction
returns-in-SetAction c = search code_1

pub returns-in-ClearAction : goal.returns-in-ClearAction
returns-in-ClearAction c = search code_2

pub returns-in-SetTimer : goal.returns-in-SetTimer
returns-in-SetTimer c = search code_3

pub returns-in-ClearTimer : goal.returns-in-ClearTimer
returns-in-ClearTimer c = search code_4

pub returns-in-PickNext : goal.returns-in-PickNext
returns-in-PickNext c = search code_5

pub returns-in-SimNetworkStack : goal.returns-in-SimNetworkStack
returns-in-SimNetworkStack c = search code_6
