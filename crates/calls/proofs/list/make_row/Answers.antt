-- `calls::list::make_row` meets its contract. Assumes nothing.
use Rattle.moment.proofs.Order.{max_is}
use Rattle.calls.proofs.RowLaws.{bad_made, row_call, row_turn}
use Rattle.calls.proofs.list.make_row.Goals as goal

pub returns-in-Err : goal.returns-in-Err
returns-in-Err c = first_of (search bad_made, cc)

pub returns-in-Call : goal.returns-in-Call
returns-in-Call c = λ rows at row. row_call _ rows at _ _ _ _ c.args.row.now.code c.args.row.now.coded row _ c.in-Call.is c.call.ensures

pub returns-in-Turn : goal.returns-in-Turn
returns-in-Turn c = λ rows at row. row_turn _ rows at _ _ _ _ c.args.row.now.code c.args.row.now.coded row _ _ c.in-Turn.is c.time.ensures (max_is _ _ _ c.max.ensures) c.turn.ensures
