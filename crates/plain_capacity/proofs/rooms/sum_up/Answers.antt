use Rattle.event_history.proofs.ByHour.{near_all}
use Rattle.plain_capacity.proofs.rooms.sum_up.Goals as goal

pub note_from-requires-clause-near : goal.note_from-requires-clause-near
note_from-requires-clause-near c = near_all c.args.hour c.args.events.now c.as_slice.result.now c.as_slice.ensures
