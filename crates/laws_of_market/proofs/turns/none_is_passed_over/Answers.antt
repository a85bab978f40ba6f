use Rattle.std.proofs.Common.{[], subst}
use Rattle.market_model.specs.declared.event.Event.TheVariants as event
use Rattle.market_model.specs.Grid.{graph_of}
use Rattle.market_model.specs.Sweep.{all_parts}
use Rattle.laws_of_market.proofs.TurnsEntered.{run-turns}
use Rattle.laws_of_market.proofs.Holding.{HoldAfter, hold-at}
use Rattle.laws_of_market.proofs.InTurn.{IsTurn}
use Rattle.laws_of_market.proofs.turns.none_is_passed_over.Goals as goal

pub returns : goal.returns
returns c = λ setup turns before after contract leg is_setup is.
    hold-at (IsTurn (graph_of setup)) [] before (event.Leg contract leg) after
    (subst (HoldAfter (IsTurn (graph_of setup)) []) is (run-turns setup is_setup all_parts turns))
