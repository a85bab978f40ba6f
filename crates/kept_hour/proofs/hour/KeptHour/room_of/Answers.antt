use Rattle.std.proofs.Common.{◌∙◌, ◌<◌, ap, subst, sym, arith}
use Rattle.order_kinds.specs.Contract.{contract_at}
use Rattle.order_kinds.specs.Period.{contract_quarters}
use Rattle.zone_graph.specs.Graph.{border_count}
use Rattle.market_model.specs.Room.{room}
use Rattle.laws_of_hours.specs.Standing.{Stands}
use Rattle.laws_of_hours.proofs.Rooms.{rooms}
use Rattle.kept_hour.specs.State.{HourState}
use Rattle.kept_hour.proofs.Shows.{known-at}
use Rattle.kept_hour.proofs.Wrapped.{to-own}
use Rattle.kept_hour.proofs.hour.KeptHour.room_of.Goals as goal

pub room-requires : goal.room-requires
room-requires c =
    let there : c.args.arc.border < border_count c.self.inside.grid.value = to-own c.self.inside.grid.value c.self.inside.hour c.self.inside.events c.self.inside.settled c.self.inside.hand c.self.inside.numbers c.self.inside.settled_numbers c.self.inside.store c.self.invariant c.args.self.now c.self.view_is (λ h. c.args.arc.border < border_count h.board.grid) c.requires.arc in
    let is : Stands c.self.inside.grid.value c.self.inside.events c.self.inside.hour c.flows.result.now =
    subst (Stands c.self.inside.grid.value c.self.inside.events c.self.inside.hour) (sym c.flows.ensures.flows) c.self.invariant.keeps.contents.flows in
    record { border = (let size = is.size in omega (arith, size, there)) }

pub returns-clause-room : goal.returns-clause-room
returns-clause-room c =
    let there : c.args.arc.border < border_count c.self.inside.grid.value = to-own c.self.inside.grid.value c.self.inside.hour c.self.inside.events c.self.inside.settled c.self.inside.hand c.self.inside.numbers c.self.inside.settled_numbers c.self.inside.store c.self.invariant c.args.self.now c.self.view_is (λ h. c.args.arc.border < border_count h.board.grid) c.requires.arc in
    let is : Stands c.self.inside.grid.value c.self.inside.events c.self.inside.hour c.flows.result.now =
    subst (Stands c.self.inside.grid.value c.self.inside.events c.self.inside.hour) (sym c.flows.ensures.flows) c.self.invariant.keeps.contents.flows in
    c.room.ensures.room
    ∙ rooms c.self.inside.grid.value c.self.inside.events (contract_at c.self.inside.hour c.args.part) c.flows.result.now c.quarters_of.result c.args.arc is
    (known-at c.args.part c.requires.part) c.quarters_of.ensures there
    ∙ ap (λ (h : HourState). room h.board.events (contract_quarters (contract_at h.board.hour c.args.part)) c.args.arc) c.self.view_is
