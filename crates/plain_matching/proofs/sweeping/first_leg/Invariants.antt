use Rattle.std.proofs.Common.{◌≡◌, drop}
use Rattle.zone_graph.specs.Rooms.{room_of}
use Rattle.market_model.specs.Sweep.{first_answer}
use Rattle.plain_matching.specs.Over.{leg_of_buy_over}
use Rattle.plain_matching.proofs.sweeping.first_leg.Given as goal

-- the buys so far have no partner
abbrev pub invariant-loop-buy : goal.invariant-loop-buy
invariant-loop-buy l =
    first_answer (leg_of_buy_over l.grid (room_of l.rooms) l.sells) (drop l.buy-index l.buys)
    ≡ first_answer (leg_of_buy_over l.grid (room_of l.rooms) l.sells) l.buys
