-- How much room events within their offers can leave an arc: no more than is ever offered.
use Rattle.std.proofs.Common.{◌≤◌, ◌&&◌, ℕ, Bool, true, false, not, List, [], ◌∷◌, fold, map, min, pos, ◌≤ℤ◌, ℤ, negsuc, arith, if◌then◌else◌}
use Rattle.std.proofs.lemmas.Int.{ints}
use Rattle.order_kinds.specs.declared.contract.Quarter.{Quarter}
use Rattle.zone_graph.specs.declared.route.Arc.{Arc}
use Rattle.market_model.specs.declared.event.Event.{Event}
use Rattle.market_model.specs.Capacity.{remaining}
use Rattle.market_model.specs.Room.{is_halted, is_open_phase, lots_of, phase_of, quarter_room, room}
use Rattle.laws_of_market.proofs.Uses.{IsWithinOffers, remaining-within}

lots_of-most : (z : ℤ) → z ≤ℤ pos 2000000 → lots_of z ≤ 2000000
lots_of-most (pos n) h = omega (arith, ints)
lots_of-most (negsuc n) h = omega arith

chosen-most : (b : Bool) (lots : ℕ) → lots ≤ 2000000 → (if b then lots else 0) ≤ 2000000
chosen-most true lots h = h
chosen-most false lots h = omega arith

fold-min-le : (n : ℕ) (ns : List ℕ) → fold min n ns ≤ n
fold-min-le n [] = omega arith
fold-min-le n (m ∷ ns) = let rest = fold-min-le (min n m) ns in omega arith

module _ (events : List Event) (within : IsWithinOffers events) where
  quarter-most : (arc : Arc) (quarter : Quarter) → quarter_room events arc quarter ≤ 2000000
  quarter-most arc quarter =
      chosen-most (is_open_phase (phase_of events quarter.hour) && not (is_halted events arc.border quarter.hour)) (lots_of (remaining events quarter arc))
      (lots_of-most (remaining events quarter arc) (remaining-within events within quarter arc).1)

  pub room-most : (quarters : List Quarter) (arc : Arc) → room events quarters arc ≤ 2000000
  room-most [] arc = omega arith
  room-most (quarter ∷ quarters) arc =
      let one = quarter-most arc quarter in
      let rest = fold-min-le (quarter_room events arc quarter) (map (quarter_room events arc) quarters) in
      omega arith
