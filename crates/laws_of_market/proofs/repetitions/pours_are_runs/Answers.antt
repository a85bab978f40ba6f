use Rattle.std.proofs.Common.{subst, sym}
use Rattle.zone_graph.proofs.Runs.{run-unique}
use Rattle.market_model.specs.Blocks.{IsBlockPour, block_leg, block_legs, standing_block}
use Rattle.market_model.specs.Grid.{graph_of}
use Rattle.market_model.specs.History.{and_then}
use Rattle.laws_of_market.proofs.BlockEntries.{partner_legs-run}
use Rattle.laws_of_market.proofs.repetitions.pours_are_runs.Goals as goal

pub returns : goal.returns
returns c = λ setup events block partner legs is_setup history opened found.
    let own = standing_block events block in
    let run = partner_legs-run setup is_setup events history block partner (record { is_placed = opened.is_placed; is_left = opened.is_left }) found in (
      λ other. run-unique (block_leg (graph_of setup) own partner) and_then events legs (block_legs (graph_of setup) own partner events) other run,
      λ same. subst (IsBlockPour (graph_of setup) own partner events) (sym same) run,
    )
