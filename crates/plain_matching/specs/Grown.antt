-- Histories that grow.
use Rattle.std.specs.Prelude.{◌≡◌, List, ◌++◌}
use Rattle.market_model.specs.declared.event.Event.{Event}

-- a history grew by some events
pub record Grew (old new : List Event) : Type 0 where
  pub more : List Event
  pub grew : new ≡ old ++ more

-- a history grew by a first part of some legs; the rest is missing
pub record GrewByPart (legs old new : List Event) : Type 0 where
  pub done : List Event
  pub rest : List Event
  pub parts : legs ≡ done ++ rest
  pub grew : new ≡ old ++ done
