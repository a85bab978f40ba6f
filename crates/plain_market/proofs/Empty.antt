-- The history before any event.
use Rattle.std.proofs.Common.{[]}
use Rattle.market_model.specs.declared.setup.Setup.{Setup}
use Rattle.market_model.specs.WellFormed.{IsHistory}

pub empty_history : (setup : Setup) → IsHistory setup []
empty_history setup = record { fit = tt; whole = λ block h opened. absurd h }
