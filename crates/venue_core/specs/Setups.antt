-- The setups that a venue opens for.
use Rattle.std.specs.Prelude.{◌≤◌, length}
use Rattle.zone_graph.specs.Grid.{JoinsZones}
use Rattle.market_model.specs.declared.setup.Setup.{Setup}
use Rattle.market_model.specs.Grid.{graph_of}
use Rattle.market_model.specs.WellFormed.{IsMarketSetup}
use Rattle.trade_journal.specs.Journals.{all_rooms}

-- a delivery day of 23 to 25 hours, at most 64 callers, who may have at most 262144 entries together, and borders
-- between zones that there are
pub record IsVenueSetup (setup : Setup) : Type 0 where
  pub least_hours : 23 ≤ setup.hours
  pub most_hours : setup.hours ≤ 25
  pub few_callers : length setup.callers ≤ 64
  pub few_entries : all_rooms setup ≤ 262144
  pub joins_zones : JoinsZones (graph_of setup)

-- and no border joins a zone with itself
pub record IsOpenSetup (setup : Setup) : Type 0 where
  pub asked : IsVenueSetup setup
  pub is_setup : IsMarketSetup setup
