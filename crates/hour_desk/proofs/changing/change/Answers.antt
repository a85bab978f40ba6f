use Rattle.std.proofs.Common.{◌∙◌, ap, sym, subst}
use Rattle.market_model.specs.Market.{events_done}
use Rattle.market_model.specs.Sweep.{all_parts}
use Rattle.match_core.specs.Walks.{AreRoomsOf}
use Rattle.desk_changes.specs.Planned.{with_planned}
use Rattle.hour_desk.specs.Placed.{CanChange}
use Rattle.hour_desk.proofs.Commands.{not-refused, order-next, order-part, order-planned, quiet}
use Rattle.hour_desk.proofs.Touching.{no-entry}
use Rattle.hour_desk.proofs.Views.{order-rooms}
use Rattle.hour_desk.proofs.changing.change.Goals as goal

pub number_of-requires : goal.number_of-requires
number_of-requires c = record {
  known = order-part c.args.setup.now c.args.hour.now c.args.caller c.in-Enter.order
      (subst (CanChange c.args.setup.now c.args.hour.now c.args.caller) c.in-Enter.is c.requires.can);
}

pub enter_order-requires-clause-rooms : goal.enter_order-requires-clause-rooms
enter_order-requires-clause-rooms c =
    subst (λ part. AreRoomsOf c.args.hour.now.board part c.rooms-rooms.result.now) c.number_of.ensures.number
    (order-rooms c.args.hour.now c.args.views.now c.number_of.result c.rooms-rooms.result.now c.requires.can.placed.unplanned c.requires.can.placed.seven
    c.requires.stands c.number_of.ensures.few c.rooms-rooms.ensures)

pub enter_order-requires-clause-next : goal.enter_order-requires-clause-next
enter_order-requires-clause-next c =
    order-next c.args.setup.now c.args.hour.now c.args.caller c.in-Enter.order
    (subst (CanChange c.args.setup.now c.args.hour.now c.args.caller) c.in-Enter.is c.requires.can)

pub enter_order-requires-clause-quiet : goal.enter_order-requires-clause-quiet
enter_order-requires-clause-quiet c = quiet c.args.setup.now c.args.hour.now c.args.caller c.args.command.now c.requires.can c.args.grid.now c.requires.grid

pub returns-in-Enter-clause-done : goal.returns-in-Enter-clause-done
returns-in-Enter-clause-done c none =
    order-planned c.args.setup.now c.args.hour.now c.args.caller c.in-Enter.order
    (subst (CanChange c.args.setup.now c.args.hour.now c.args.caller) c.in-Enter.is c.requires.can) c.args.grid.now c.enter_order.new.hour c.requires.grid
    (c.enter_order.ensures.planned none)
    ∙ ap (λ g. with_planned c.args.hour.now (events_done all_parts c.args.setup.now c.args.hour.now.settled c.args.caller g)) (sym c.in-Enter.is)

pub returns-in_ok-change_others-in_default : goal.returns-in_ok-change_others-in_default
returns-in_ok-change_others-in_default c = record {
  refusal = not-refused c.args.setup.now c.args.hour.now c.args.caller c.args.command.now c.requires.can
      (no-entry c.args.setup.now c.args.hour.now c.args.caller c.args.command.now c.requires.can.placed c.requires.can.early c.in_default.not-Enter) c.args.grid.now;
  done = λ none. c.in_ok-change_others-in_default.ensures.done;
  refused = λ broken no. absurd (cc);
  unchanged = tt;
}
