use Rattle.std.proofs.Common.{◌≡◌, ◌∙◌, ap, sym, subst}
use Rattle.order_kinds.specs.Period.{contract_quarters}
use Rattle.zone_graph.specs.declared.route.Arc.{Arc}
use Rattle.zone_graph.specs.Graph.{HasArc, IsGraph}
use Rattle.zone_graph.specs.Rooms.{room_of}
use Rattle.market_model.specs.Room.{room}
use Rattle.laws_of_boards.proofs.Shared.{board-graph}
use Rattle.desk_entering.proofs.Certified.{ok-then, reach-by}
use Rattle.desk_entering.proofs.ending.zones_left.Goals as goal

pub returns-clause-zones : goal.returns-clause-zones
returns-clause-zones c =
    let order = c.args.order.now in
    let board = c.args.hour.now.board in
    let same : (arc : Arc) → HasArc c.args.grid.now arc → room_of c.rooms.new.into arc ≡ room board.events (contract_quarters order.contract) arc =
    λ arc has. c.rooms.ensures.rooms arc (subst (λ g. HasArc g arc) c.requires.grid has) ∙ ap (λ k. room board.events (contract_quarters k) arc) (sym c.requires.of_part) in
    ok-then c.zones_in_reach.result (λ zones is. is ∙ reach-by c.args.grid.now (room_of c.rooms.new.into) (room board.events (contract_quarters order.contract)) same
    (subst IsGraph (sym c.requires.grid) (board-graph board c.rooms.ensures.board)) order.side order.zone) c.zones_in_reach.ensures.zones
