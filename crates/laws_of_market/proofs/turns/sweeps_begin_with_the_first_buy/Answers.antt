use Rattle.std.proofs.Common.{subst}
use Rattle.market_model.specs.declared.event.Event.TheVariants as event
use Rattle.laws_of_market.proofs.TurnsEntered.{sweep-turns}
use Rattle.laws_of_market.proofs.Holding.{HoldAfter, hold-at}
use Rattle.laws_of_market.proofs.InTurn.{IsFirstTurn}
use Rattle.laws_of_market.proofs.turns.sweeps_begin_with_the_first_buy.Goals as goal

pub returns : goal.returns
returns c = λ graph parts hour events before after contract leg is.
    hold-at (IsFirstTurn graph) events before (event.Leg contract leg) after (subst (HoldAfter (IsFirstTurn graph) events) is (sweep-turns graph parts hour events))
