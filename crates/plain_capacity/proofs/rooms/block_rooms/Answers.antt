use Rattle.std.proofs.Common.{◌∙◌, ap, ap₂, sym, arith, min}
use Rattle.market_model.specs.Room.{room}
use Rattle.plain_capacity.proofs.RoomLemmas.{block-first, room-more}
use Rattle.plain_capacity.proofs.rooms.block_rooms.Goals as goal

pub loop-hour-init : goal.loop-hour-init
loop-hour-init c = record {
  size = c.in_ok-rooms.ensures.size;
  rooms = λ arc known. c.in_ok-rooms.ensures.rooms arc known ∙ ap (λ quarters. room c.args.events.now quarters arc) (sym (block-first c.args.first));
}

pub loop-hour-preserved : goal.loop-hour-preserved
loop-hour-preserved c = record {
  size = c.least_with.ensures.size ∙ c.loop-hour.invariant.size;
  rooms = λ arc known.
      c.least_with.ensures.rooms arc ∙ ap₂ min (c.loop-hour.invariant.rooms arc known) (c.in_ok-hour_rooms.ensures.rooms arc known)
      ∙ sym (room-more c.args.events.now c.args.first c.loop-hour.hour arc (omega arith));
}
