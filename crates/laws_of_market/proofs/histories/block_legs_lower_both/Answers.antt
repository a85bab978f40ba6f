use Rattle.std.proofs.Common.{arith}
use Rattle.laws_of_market.proofs.Balances.{left-block_leg, names-maker, names-taker}
use Rattle.laws_of_market.proofs.histories.block_legs_lower_both.Goals as goal

pub returns : goal.returns
returns c = λ setup events first last leg fits.
    let of_taker = left-block_leg events first last leg leg.taker (names-taker leg) in
    let of_maker = left-block_leg events first last leg leg.maker (names-maker leg) in
    let taker_has = fits.taker_has in
    let maker_has = fits.maker_has in
    (omega arith, omega arith)
