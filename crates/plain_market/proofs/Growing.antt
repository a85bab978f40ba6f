-- Histories that grow.
use Rattle.std.proofs.Common.{◌≡◌, ◌∙◌, List, [], ◌++◌, sym}
use Rattle.std.proofs.lemmas.List.{append-nil}
use Rattle.market_model.specs.declared.event.Event.{Event}
use Rattle.plain_matching.specs.Grown.{Grew}

-- a history that stays grew by nothing
pub stays : (events : List Event) → Grew events events
stays events = record { more = []; grew = sym (append-nil events) }

pub grows : (old new more : List Event) → new ≡ old ++ more → Grew old new
grows old new more is = record { more = more; grew = is }

-- one that is again as it was
pub goes-back : (old new : List Event) → new ≡ old → Grew old new
goes-back old new is = record { more = []; grew = is ∙ sym (append-nil old) }
