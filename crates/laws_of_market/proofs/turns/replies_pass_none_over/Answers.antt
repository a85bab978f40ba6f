use Rattle.std.proofs.Common.{subst}
use Rattle.market_model.specs.declared.event.Event.TheVariants as event
use Rattle.market_model.specs.Grid.{graph_of}
use Rattle.laws_of_market.proofs.TurnsEntered.{reply-turns}
use Rattle.laws_of_market.proofs.Holding.{HoldAfter, hold-at}
use Rattle.laws_of_market.proofs.InTurn.{IsTurn}
use Rattle.laws_of_market.proofs.turns.replies_pass_none_over.Goals as goal

pub returns : goal.returns
returns c = λ setup parts events caller given before after contract leg is_setup history is.
    hold-at (IsTurn (graph_of setup)) events before (event.Leg contract leg) after
    (subst (HoldAfter (IsTurn (graph_of setup)) events) is (reply-turns setup is_setup parts events caller given history))
