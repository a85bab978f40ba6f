use Rattle.std.proofs.Common.{subst}
use Rattle.market_model.specs.declared.event.Event.TheVariants as event
use Rattle.laws_of_market.proofs.TurnsEntered.{take-turns}
use Rattle.laws_of_market.proofs.Holding.{HoldAfter, hold-at}
use Rattle.laws_of_market.proofs.InTurn.{IsTurn}
use Rattle.laws_of_market.proofs.turns.takings_pass_none_over.Goals as goal

pub returns : goal.returns
returns c = λ graph events name before after contract leg is.
    hold-at (IsTurn graph) events before (event.Leg contract leg) after (subst (HoldAfter (IsTurn graph) events) is (take-turns graph events name))
