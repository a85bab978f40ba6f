-- How much room the events of an hour can leave an arc.
use Rattle.std.proofs.Common.{arith}
use Rattle.laws_of_market.proofs.MostRoom.{room-most}
use Rattle.laws_of_market.proofs.Uses.{within_offers}
use Rattle.desk_entering.specs.CertificateLaws.{RoomsOfEventsFit}

pub rooms-fit : RoomsOfEventsFit
rooms-fit setup events quarters graph rooms fit same arc known =
    let one = same arc known in
    let most = room-most events (within_offers setup events fit) quarters arc in
    omega (arith, one, most)
