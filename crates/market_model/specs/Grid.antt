-- The graph of zones and borders that a setup has.
use Rattle.zone_graph.specs.Graph.{Graph}
use Rattle.market_model.specs.declared.setup.Setup.{Setup}

-- the zones and borders of a setup
abbrev pub graph_of : Setup → Graph
graph_of setup = record { zones = setup.zones; borders = setup.borders }
