-- The desks that are held for a command, and those that plan its reply.
use Rattle.std.specs.Prelude.{◌≡◌, ℕ, List, filter, map}
use Rattle.order_kinds.specs.Period.{hours_from}
use Rattle.zone_graph.specs.Route.{has}
use Rattle.market_model.specs.declared.command.Command.{Command}
use Rattle.market_model.specs.declared.entry.Entry.{Entry}
use Rattle.market_model.specs.declared.reply.Reply.{Reply}
use Rattle.market_model.specs.declared.setup.Setup.{Setup}
use Rattle.market_model.specs.History.{events_of, journal_events}
use Rattle.market_model.specs.Market.{reply_to}
use Rattle.market_model.specs.Rules.{touched_hours}
use Rattle.desk_locks.specs.Desk.{DeskState}
use Rattle.journal_front.specs.Fronts.{FrontState}
use Rattle.desk_locks.specs.Rows.{IsJournalOf, planning_all}
use Rattle.desk_locks.specs.Held.{AllInPlace, HeldState, IsAllInPlace}
use Rattle.desk_locks.specs.Places.{place_at}

-- the hours of the day that a caller's command touches, ascending
abbrev pub hours_asked : Setup → (caller : ℕ) → Command → List ℕ
hours_asked setup caller given = filter (λ hour. has hour (touched_hours setup caller given)) (hours_from 1 setup.hours)

-- the desks of these hours are held, and each is in its place
pub record IsHeldFor (front : FrontState) (caller : ℕ) (given : Command) (held : HeldState) : Type 0 where
  pub places : held.places ≡ map (place_at front) (hours_asked front.setup caller given)
  pub all_in_place : IsAllInPlace held

-- desks of some hours of a front are held, and each is in its place
pub record ArePlaced (front : FrontState) (held : HeldState) : Type 0 where
  pub hours : List ℕ
  pub places : held.places ≡ map (place_at front) hours
  pub all_in_place : IsAllInPlace held

-- they were in their places, and each plans now what a reply has of its hour: the market's reply after every legal
-- journal after which they stand
pub record IsPlannedFor (front : FrontState) (caller : ℕ) (given : Command) (reply : Reply) (held : HeldState) : Type 0 where
  pub before : List DeskState
  pub places : held.places ≡ map (place_at front) (hours_asked front.setup caller given)
  pub were_in_place : AllInPlace held.places before held.seats
  pub desks : held.desks ≡ planning_all before (events_of reply)
  pub fresh : (entries : List Entry) → IsJournalOf front.setup before entries → reply ≡ reply_to front.setup (journal_events entries) caller given
