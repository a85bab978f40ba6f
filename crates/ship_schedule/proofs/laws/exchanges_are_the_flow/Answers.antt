use Rattle.std.proofs.Common.{pos, neg_ℤ, ◌≤ℤ◌, sym, subst}
use Rattle.zone_graph.specs.Pour.{opposite_arc}
use Rattle.market_model.specs.Capacity.{offered}
use Rattle.market_model.specs.HistoryLaws.{history_of}
use Rattle.market_model.specs.Sweep.{all_parts}
use Rattle.laws_of_market.proofs.Journals.{run-history}
use Rattle.ship_schedule.specs.Schedule.{forward_arc}
use Rattle.ship_schedule.proofs.Flows.{exchange-flow, flow-offered}
use Rattle.ship_schedule.proofs.laws.exchanges_are_the_flow.Goals as goal

pub returns : goal.returns
returns c = λ setup turns border quarter is_setup.
    let events = history_of setup turns in
    let same = exchange-flow events border quarter in
    let bounds = flow-offered setup events (run-history setup is_setup all_parts turns).fit border quarter in (
      same,
      subst (λ carried. carried ≤ℤ pos (offered events quarter (forward_arc border))) (sym same) bounds.0,
      subst (λ carried. neg_ℤ carried ≤ℤ pos (offered events quarter (opposite_arc (forward_arc border)))) (sym same) bounds.1,
    )
