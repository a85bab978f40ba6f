use Rattle.std.proofs.Common.{List, subst, sym, ◌++◌}
use Rattle.zone_graph.proofs.Runs.{run-unique}
use Rattle.market_model.specs.declared.event.Event.{Event}
use Rattle.market_model.specs.Blocks.{AreBlockDeals, block_deal, block_deals}
use Rattle.market_model.specs.Grid.{graph_of}
use Rattle.laws_of_market.proofs.BlockEntries.{deals-run}
use Rattle.laws_of_market.proofs.repetitions.deals_are_runs.Goals as goal

pub returns : goal.returns
returns c = λ setup first last events deals is_setup history.
    let run = deals-run setup is_setup first last events history in (
      λ other. run-unique (block_deal (graph_of setup) first last) (λ (before deal : List Event). before ++ deal) events deals (block_deals (graph_of setup) first last events) other run,
      λ same. subst (AreBlockDeals (graph_of setup) first last events) (sym same) run,
    )
