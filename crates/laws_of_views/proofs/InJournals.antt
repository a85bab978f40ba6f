-- After every journal a view takes less than it asks for: so the laws of views hold there without that case.
use Rattle.std.proofs.Common.{◌≡◌, inl, inr, ℕ, ◌≤◌, List, length, arith}
use Rattle.order_kinds.specs.declared.contract.Contract.{Contract}
use Rattle.order_kinds.specs.declared.side.Side.{Side}
use Rattle.zone_graph.specs.Graph.{HasZone}
use Rattle.market_model.specs.declared.setup.Setup.{Setup}
use Rattle.market_model.specs.Grid.{graph_of}
use Rattle.market_model.specs.History.{journal_events}
use Rattle.market_model.specs.Market.{Turn, run_of}
use Rattle.market_model.specs.Orders.{open_names}
use Rattle.market_model.specs.Sweep.{all_parts}
use Rattle.market_model.specs.WellFormed.{IsMarketSetup}
use Rattle.laws_of_market.proofs.Journals.{run-history}
use Rattle.laws_of_market.proofs.HoursAlone.{few-open}
use Rattle.laws_of_views.specs.Views.{EachPlaceInJournalsGetsTheMost, ViewsInJournalsAddUp, lots_of_rows}
use Rattle.laws_of_views.proofs.Viewed.{add_up, each_place, take_little}

not_all : (setup : Setup) (turns : List Turn) (contract : Contract) (side : Side) (zone : ℕ) → IsMarketSetup setup → HasZone (graph_of setup) zone
    → lots_of_rows (graph_of setup) (journal_events (run_of setup turns)) contract side zone ≡ 4294967295 → ⊥
not_all setup turns contract side zone is_setup known all =
    let little = take_little setup (journal_events (run_of setup turns)) contract side zone is_setup (run-history setup is_setup all_parts turns) known in
    let few : length (open_names (journal_events (run_of setup turns)) contract.hour) ≤ 4096 = few-open setup is_setup all_parts turns contract.hour in
    omega (arith, little, few, all)

pub adds_up : ViewsInJournalsAddUp
adds_up setup turns contract side zone is_setup known =
    elim (add_up setup (journal_events (run_of setup turns)) contract side zone is_setup (run-history setup is_setup all_parts turns) known) [
      | inl all ↦ absurd (not_all setup turns contract side zone is_setup known all)
      | inr sum ↦ sum
    ]

pub each_place_most : EachPlaceInJournalsGetsTheMost
each_place_most setup turns contract side zone count plan is_setup known planned =
    elim (each_place setup (journal_events (run_of setup turns)) contract side zone count plan is_setup (run-history setup is_setup all_parts turns) known planned) [
      | inl all ↦ absurd (not_all setup turns contract side zone is_setup known all)
      | inr most ↦ most
    ]
