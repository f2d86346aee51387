-- `network::padding::records_for` meets its contract. Assumes nothing.
use Rattle.network.proofs.PaddingLaws.{records_own, records_dropped, records_taken_lem}
use Rattle.network.proofs.padding.records_for.Goals as goal

pub returns-in-Own : goal.returns-in-Own
returns-in-Own c = search records_own

pub returns-in-Dropped : goal.returns-in-Dropped
returns-in-Dropped c = search records_dropped

pub returns-in-Replaces : goal.returns-in-Replaces
returns-in-Replaces c = search records_taken_lem
