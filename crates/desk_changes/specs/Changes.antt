-- What an event brings about in one hour.
use Rattle.std.specs.Prelude.{List, [], ◌∷◌, ◌++◌}
use Rattle.zone_graph.specs.Graph.{Graph}
use Rattle.market_model.specs.declared.event.Event.{Event}
use Rattle.market_model.specs.Sweep.{all_parts, sweep}
use Rattle.kept_hour.specs.State.{HourState}

-- one event behind those that are settled, and then the sweep of the hour
abbrev pub then_sweep : Graph → HourState → Event → List Event
then_sweep graph hour event = event ∷ sweep all_parts graph hour.board.hour (hour.settled ++ event ∷ [])
