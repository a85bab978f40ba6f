use Rattle.std.proofs.Common.{◌∙◌, ◌<◌, ap, subst, sym, arith}
use Rattle.order_kinds.specs.Contract.{contract_at}
use Rattle.order_kinds.specs.Period.{contract_quarters}
use Rattle.zone_graph.specs.Graph.{border_count}
use Rattle.market_model.specs.Room.{room}
use Rattle.laws_of_hours.specs.Standing.{Stands}
use Rattle.laws_of_hours.proofs.Rooms.{rooms}
use Rattle.kept_hour.specs.State.{HourState}
use Rattle.kept_hour.proofs.Keeping.{own}
use Rattle.kept_hour.proofs.Shows.{known-at}
use Rattle.kept_hour.proofs.Wrapped.{to-own}
use Rattle.kept_hour.proofs.board.KeptHourBoard.rooms.Goals as goal

pub returns-clause-rooms : goal.returns-clause-rooms
returns-clause-rooms c arc known =
    let mine : HourState = own c.self.inside.grid.value c.self.inside.hour c.self.inside.events c.self.inside.settled c.self.inside.hand in
    let there : arc.border < border_count c.self.inside.grid.value = to-own c.self.inside.grid.value c.self.inside.hour c.self.inside.events c.self.inside.settled c.self.inside.hand c.self.inside.numbers c.self.inside.settled_numbers c.self.inside.store c.self.invariant c.args.self.now c.self.view_is (λ h. arc.border < border_count h.board.grid) known in
    let low : c.args.part < 7 = to-own c.self.inside.grid.value c.self.inside.hour c.self.inside.events c.self.inside.settled c.self.inside.hand c.self.inside.numbers c.self.inside.settled_numbers c.self.inside.store c.self.invariant c.args.self.now c.self.view_is (λ h. c.args.part < h.board.parts) c.requires.part in
    let is : Stands c.self.inside.grid.value c.self.inside.events c.self.inside.hour c.flows.result.now =
    subst (Stands c.self.inside.grid.value c.self.inside.events c.self.inside.hour) (sym c.flows.ensures.flows) c.self.invariant.keeps.contents.flows in
    c.rooms.ensures.rooms arc (let size = is.size in omega (arith, size, there))
    ∙ rooms c.self.inside.grid.value c.self.inside.events (contract_at c.self.inside.hour c.args.part) c.flows.result.now c.quarters_of.result arc is
    (known-at c.args.part low) c.quarters_of.ensures there
    ∙ ap (λ (h : HourState). room h.board.events (contract_quarters (contract_at h.board.hour c.args.part)) arc) c.self.view_is
