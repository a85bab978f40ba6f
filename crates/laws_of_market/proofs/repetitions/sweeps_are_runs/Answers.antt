use Rattle.std.proofs.Common.{subst, sym}
use Rattle.zone_graph.proofs.Runs.{run-unique}
use Rattle.market_model.specs.Grid.{graph_of}
use Rattle.market_model.specs.History.{and_then}
use Rattle.market_model.specs.Sweep.{IsSweep, sweep, sweep_leg}
use Rattle.laws_of_market.proofs.Falls.{sweep-run}
use Rattle.laws_of_market.proofs.repetitions.sweeps_are_runs.Goals as goal

pub returns : goal.returns
returns c = λ setup parts hour events legs is_setup history.
    let run = sweep-run setup is_setup parts hour events history.fit in (
      λ other. run-unique (sweep_leg parts (graph_of setup) hour) and_then events legs (sweep parts (graph_of setup) hour events) other run,
      λ same. subst (IsSweep parts (graph_of setup) hour events) (sym same) run,
    )
