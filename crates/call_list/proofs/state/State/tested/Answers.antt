-- `call_list::state::State::tested` meets its contract. Assumes nothing.
use Rattle.call_list.proofs.Refusing.{tested_refused}
use Rattle.call_list.proofs.state.State.tested.Goals as goal

pub returns-in_err-number-clause-tested : goal.returns-in_err-number-clause-tested
returns-in_err-number-clause-tested c = search (tested_refused, c.in_err-number.ensures)
