-- What the test of this crate keeps under its lock: the seats of a day of two hours with two traders.
use Rattle.std.specs.Prelude.{◌≡◌, Bool, true, false, List, [], ◌∷◌}
use Rattle.market_model.specs.declared.command.Command.TheVariants as command
use Rattle.market_model.specs.declared.entry.Entry.{Entry}
use Rattle.market_model.specs.declared.setup.Caller.{Caller}
use Rattle.market_model.specs.declared.setup.Role.TheVariants as role
use Rattle.market_model.specs.declared.setup.Setup.{Setup}
use Rattle.journal_front.specs.Fronts.{DeskSeatState, FrontState, IsJournalOf, JournalSeatState, desk_of}

-- a trader without a name
abbrev pub trader : Caller
trader = record { name = []; role = role.Trader; room = 500 }

-- two of them, in a day of two hours
abbrev pub two_traders : Setup
two_traders = record { hours = 2; zones = []; borders = []; callers = trader ∷ trader ∷ [] }

-- the seats are those of a front of the two traders: the journal's, and the desks' of hours 1 and 2
pub record AreSeats (front : FrontState) (journal : JournalSeatState) (desks : List DeskSeatState) : Type 0 where
  pub traders : front.setup ≡ two_traders
  pub own : IsJournalOf front journal
  pub first : List Entry
  pub second : List Entry
  pub desks_are : desks ≡ desk_of front first 1 ∷ desk_of front second 2 ∷ []

-- an entry touches hour 1, or hours 1 and 2
abbrev pub IsOfHours : (both : Bool) → Entry → Type 0
IsOfHours false entry = entry.command ≡ command.Cancel (record { hour = 1; number = 1 })
IsOfHours true entry = entry.command ≡ command.Blocks 1 2
