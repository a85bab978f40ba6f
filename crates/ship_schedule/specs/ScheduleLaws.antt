-- What is true of the schedule of every journal.
use Rattle.std.specs.Prelude.{◌≡◌, ℕ, pos, neg_ℤ, ◌+ℤ◌, ◌-ℤ◌, ◌≤ℤ◌, List}
use Rattle.std.specs.List.{range_with_len}
use Rattle.order_kinds.specs.declared.contract.Quarter.{Quarter}
use Rattle.zone_graph.specs.Graph.{zone_count}
use Rattle.zone_graph.specs.Pour.{opposite_arc}
use Rattle.market_model.specs.declared.setup.Setup.{Setup}
use Rattle.market_model.specs.Capacity.{flow, offered}
use Rattle.market_model.specs.HistoryLaws.{history_of}
use Rattle.market_model.specs.Grid.{graph_of}
use Rattle.market_model.specs.Market.{Turn}
use Rattle.market_model.specs.WellFormed.{IsMarketSetup}
use Rattle.ship_schedule.specs.Schedule.{borders_from, borders_to, exchange, explicit, forward_arc, net_position, total_by}

-- the net position of a zone is what the borders that lead from it carry, less what those that lead to
-- it carry
abbrev pub PositionsAreWhatBordersCarry : Type 0
PositionsAreWhatBordersCarry = (setup : Setup) (turns : List Turn) (zone : ℕ) (quarter : Quarter) → IsMarketSetup setup
    → let events = history_of setup turns in
    net_position events zone quarter
    ≡ total_by (λ border. exchange events border quarter) (borders_from (graph_of setup) zone)
    -ℤ total_by (λ border. exchange events border quarter) (borders_to (graph_of setup) zone)

-- the net positions of all zones add up to nothing
abbrev pub PositionsAddUpToNothing : Type 0
PositionsAddUpToNothing = (setup : Setup) (turns : List Turn) (quarter : Quarter) → IsMarketSetup setup
    → total_by (λ zone. net_position (history_of setup turns) zone quarter) (range_with_len 0 (zone_count (graph_of setup))) ≡ pos 0

-- what trades and grants carry over a border is the flow of its forward arc; it is no more than what
-- is offered on that arc, and the other way no more than what is offered on the other one
abbrev pub ExchangesAreTheFlow : Type 0
ExchangesAreTheFlow = (setup : Setup) (turns : List Turn) (border : ℕ) (quarter : Quarter) → IsMarketSetup setup
    → let events = history_of setup turns in
    let carried = exchange events border quarter +ℤ explicit events border quarter in
    (carried ≡ flow events quarter (forward_arc border))
    × (carried ≤ℤ pos (offered events quarter (forward_arc border)))
    × (neg_ℤ carried ≤ℤ pos (offered events quarter (opposite_arc (forward_arc border))))
