-- `round::actions::do_scheduled_action` meets its contract. Assumes nothing.
use Rattle.round.proofs.ActionDone.{still_free, send_done, start_may, start_done}
use Rattle.round.proofs.actions.do_scheduled_action.Goals as goal

pub send_padding-requires : goal.send_padding-requires
send_padding-requires c = still_free _ c.args.p c.requires _ c.clear_action.ensures

pub returns-then-kind-eq-SEND_PADDING : goal.returns-then-kind-eq-SEND_PADDING
returns-then-kind-eq-SEND_PADDING c = send_done _ c.args.p c.requires _ c.clear_action.ensures c.if-kind-eq-SEND_PADDING.true _ c.send_padding.ensures

pub start_block-requires : goal.start_block-requires
start_block-requires c = start_may _ c.args.p c.requires _ c.clear_action.ensures c.if-kind-eq-SEND_PADDING.false

pub returns : goal.returns
returns c = start_done _ c.args.p c.requires _ c.clear_action.ensures c.if-kind-eq-SEND_PADDING.false _ c.start_block.ensures
