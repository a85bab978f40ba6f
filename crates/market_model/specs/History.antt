-- Histories: lists of events, in the order in which they happened.
use Rattle.std.specs.Prelude.{ℕ, Bool, true, false, ◌==◌, List, [], ◌∷◌, ◌++◌, count_by, filter, flat_map, fold, unwrap_or, Option}
use Rattle.order_kinds.specs.Period.{is_within}
use Rattle.market_model.specs.declared.entry.Entry.{Entry}
use Rattle.market_model.specs.declared.event.Event.{Event}
use Rattle.market_model.specs.declared.event.Event.TheVariants as event
use Rattle.market_model.specs.declared.reply.Reply.{Reply}
use Rattle.market_model.specs.declared.reply.Reply.TheVariants as reply

-- a history and one more event
abbrev pub and_then : List Event → Event → List Event
and_then events event = events ++ event ∷ []

-- an order or a block enters the market
abbrev pub enters : Event → Bool
enters (event.Entered name caller order) = true
enters (event.EnteredBlock name caller order) = true
enters _ = false

-- how many orders and blocks entered
abbrev pub entered_count : List Event → ℕ
entered_count events = count_by enters events

-- an order or a block enters that is named by this hour: a block is named by its first
abbrev pub enters_in : (hour : ℕ) → Event → Bool
enters_in hour (event.Entered name caller order) = name.hour == hour
enters_in hour (event.EnteredBlock name caller order) = name.hour == hour
enters_in hour _ = false

-- an event touches an hour: the hour of the name for what one order or block does by itself, the
-- contract's hour for a leg, each hour of the period for a leg of blocks and for what happens to
-- arcs and borders, the hour itself for a gate
abbrev pub touches : (hour : ℕ) → Event → Bool
touches hour (event.Entered name caller order) = name.hour == hour
touches hour (event.EnteredBlock name caller order) = name.hour == hour
touches hour (event.Leg contract leg) = contract.hour == hour
touches hour (event.BlockLeg first last leg) = is_within first last hour
touches hour (event.Granted arc first last lots) = is_within first.hour last.hour hour
touches hour (event.Offered arc first last lots) = is_within first.hour last.hour hour
touches hour (event.Halted border first last) = is_within first last hour
touches hour (event.Resumed border first last) = is_within first last hour
touches hour (event.Gated gated phase) = gated == hour
touches hour (event.Withdrawn name lots) = name.hour == hour
touches hour (event.Reduced name by) = name.hour == hour

-- the events of an hour: those that touch it
abbrev pub of_hour : (hour : ℕ) → List Event → List Event
of_hour hour events = filter (touches hour) events

-- what the last event that says something says, else what stood at the start
abbrev pub last_said : {X : Type 0} → (Event → Option X) → X → List Event → X
last_said says start events = fold (λ said event. unwrap_or (says event) said) start events

-- the events that a reply brings about: none, unless the command was done
abbrev pub events_of : Reply → List Event
events_of (reply.Done events) = events
events_of _ = []

-- the events of a journal, in order
abbrev pub journal_events : List Entry → List Event
journal_events entries = flat_map (λ entry. events_of entry.reply) entries
