use Rattle.std.proofs.Common.{subst, sym}
use Rattle.zone_graph.proofs.Runs.{run-unique}
use Rattle.market_model.specs.Grid.{graph_of}
use Rattle.market_model.specs.History.{and_then}
use Rattle.market_model.specs.Taking.{IsTaking, next_leg, take}
use Rattle.laws_of_market.proofs.Falls.{take-run}
use Rattle.laws_of_market.proofs.repetitions.takings_are_runs.Goals as goal

pub returns : goal.returns
returns c = λ setup events name legs is_setup history.
    let run = take-run setup is_setup events history.fit name in (
      λ other. run-unique (next_leg (graph_of setup) name) and_then events legs (take (graph_of setup) events name) other run,
      λ same. subst (IsTaking (graph_of setup) events name) (sym same) run,
    )
