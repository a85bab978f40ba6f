use Rattle.zone_graph.proofs.Places.{item_at_place}
use Rattle.desk_entering.proofs.opening.any_opens.Goals as goal

pub opens-requires : goal.opens-requires
opens-requires c =
    c.requires c.event-item.result (item_at_place c.args.events.now c.loop-event.event-index c.event-item.result c.loop-event-test.true c.event-item.is)
