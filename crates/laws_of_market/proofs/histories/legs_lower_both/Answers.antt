use Rattle.std.proofs.Common.{arith}
use Rattle.laws_of_market.proofs.Balances.{left-leg, maker_has-leg, names-maker, names-taker, taker_has-leg}
use Rattle.laws_of_market.proofs.histories.legs_lower_both.Goals as goal

pub returns : goal.returns
returns c = λ setup events contract leg fits.
    let of_taker = left-leg events contract leg leg.taker (names-taker leg) in
    let of_maker = left-leg events contract leg leg.maker (names-maker leg) in
    let taker_has = taker_has-leg setup events contract leg fits in
    let maker_has = maker_has-leg setup events contract leg fits in
    (omega arith, omega arith)
