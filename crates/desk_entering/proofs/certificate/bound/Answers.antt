use Rattle.std.proofs.Common.{◌≡◌, ◌∙◌, ◌+◌, ap, ap₂, arith}
use Rattle.zone_graph.specs.Rooms.{room_of}
use Rattle.market_model.specs.Certificate.{room_across}
use Rattle.cut_proof.specs.Cut.{crossing_room}
use Rattle.desk_entering.proofs.Crosses.{across-is}
use Rattle.desk_entering.proofs.Records.{across-most}
use Rattle.desk_entering.proofs.certificate.bound.Goals as goal

pub overflow_add-result : goal.overflow_add-result
overflow_add-result c =
    let order = c.args.order.now in
    let rooms = room_of c.args.rooms.now in
    let across : c.border_bound.result ≡ room_across c.args.grid.now rooms order.side c.args.zones.now =
    c.border_bound.ensures ∙ ap (crossing_room c.args.grid.now rooms c.args.zones.now) c.is_buy.ensures ∙ across-is c.args.grid.now rooms order.side c.args.zones.now in
    let most = across-most c.args.grid.now rooms order.side c.args.zones.now c.borders-borders.ensures.grid.few_borders c.requires.rooms in
    omega (arith, across, most, c.crossing_lots_inside-inside.ensures.most)

pub returns : goal.returns
returns c =
    let order = c.args.order.now in
    let rooms = room_of c.args.rooms.now in
    ap₂ (λ inside across. inside + across) c.crossing_lots_inside-inside.ensures.lots
    (c.border_bound.ensures ∙ ap (crossing_room c.args.grid.now rooms c.args.zones.now) c.is_buy.ensures ∙ across-is c.args.grid.now rooms order.side c.args.zones.now)
