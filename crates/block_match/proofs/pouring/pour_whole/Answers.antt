use Rattle.std.proofs.Common.{◌∙◌, ap, arith}
use Rattle.zone_graph.specs.Rooms.{room_of}
use Rattle.route_choice.specs.Poured.{lots_of}
use Rattle.route_choice.proofs.Pours.{pour-within}
use Rattle.block_match.proofs.pouring.pour_whole.Goals as goal

pub lots_of-requires : goal.lots_of-requires
lots_of-requires c =
    let legs = c.as_slice.ensures ∙ c.in_ok-legs.ensures.legs in
    let within = pour-within c.args.grid.now (room_of c.copy_from.new.self) c.seller_zone-seller.result c.buyer_zone-buyer.result c.args.own.now.quantity c.zones-zones.ensures.grid.is_graph in
    omega (arith, within, ap lots_of legs)
