-- What may come next in an hour, by the hour's own events: what fits them fits the history whose hour
-- they are, and leaves the events of an hour.
use Rattle.std.specs.Prelude.{◌≡◌, ℕ, ◌≤◌, List, [], ◌∷◌, ◌++◌}
use Rattle.order_kinds.specs.declared.contract.Part.{Part}
use Rattle.order_kinds.specs.declared.order.Order.{Order}
use Rattle.order_kinds.specs.declared.order.OrderName.{OrderName}
use Rattle.zone_graph.specs.Route.{IsIn}
use Rattle.market_model.specs.declared.command.Command.{Command}
use Rattle.market_model.specs.declared.event.Event.{Event}
use Rattle.market_model.specs.declared.event.Event.TheVariants as event
use Rattle.market_model.specs.declared.setup.Setup.{Setup}
use Rattle.market_model.specs.Board.{IsHourOf}
use Rattle.market_model.specs.Entering.{legs_taken, name_of_next}
use Rattle.market_model.specs.Grid.{graph_of}
use Rattle.market_model.specs.History.{events_of, of_hour}
use Rattle.market_model.specs.Market.{reply_by}
use Rattle.market_model.specs.Orders.{left}
use Rattle.market_model.specs.Rules.{touched_hours}
use Rattle.market_model.specs.Sweep.{sweep}
use Rattle.market_model.specs.Taking.{take}
use Rattle.market_model.specs.WellFormed.{BlocksAreWhole, FitAfter, Fits, IsMarketSetup, OrderEnters}

-- an event is of one hour alone; the entry of a block is of the block's first, a leg of blocks of none
abbrev pub IsOfHour : (hour : ℕ) → Event → Type 0
IsOfHour hour (event.Entered name caller order) = order.contract.hour ≡ hour
IsOfHour hour (event.EnteredBlock name caller order) = order.first ≡ hour
IsOfHour hour (event.Leg contract leg) = contract.hour ≡ hour
IsOfHour hour (event.BlockLeg first last leg) = ⊥
IsOfHour hour (event.Granted arc first last lots) = (first.hour ≡ hour) × (last.hour ≡ hour)
IsOfHour hour (event.Offered arc first last lots) = (first.hour ≡ hour) × (last.hour ≡ hour)
IsOfHour hour (event.Halted border first last) = (first ≡ hour) × (last ≡ hour)
IsOfHour hour (event.Resumed border first last) = (first ≡ hour) × (last ≡ hour)
IsOfHour hour (event.Gated gated phase) = gated ≡ hour
IsOfHour hour (event.Withdrawn name lots) = name.hour ≡ hour
IsOfHour hour (event.Reduced name by) = name.hour ≡ hour

-- some events are those of an hour of a history over a setup, each event of which fits those before it
pub record IsHourIn (setup : Setup) (hour : ℕ) (history before : List Event) : Type 0 where
  pub is_setup : IsMarketSetup setup
  pub fit : FitAfter setup [] history
  pub in_hour : of_hour hour history ≡ before

-- the history goes on with more events, and they are all of the hour: behind those that it had they are
-- its events of the hour
pub record GoesOn (setup : Setup) (hour : ℕ) (history before more : List Event) : Type 0 where
  pub fit : FitAfter setup [] (history ++ more)
  pub in_hour : of_hour hour (history ++ more) ≡ before ++ more
  pub stands : IsHourOf (graph_of setup) hour (before ++ more)

-- an event of an hour alone that fits the hour's events fits the history, which goes on with it
abbrev pub FitsInItsHour : Type 0
FitsInItsHour = (setup : Setup) (hour : ℕ) (history before : List Event) (event : Event) → IsHourIn setup hour history before
    → IsOfHour hour event → Fits setup before event → Fits setup history event × GoesOn setup hour history before (event ∷ [])

-- a history goes on with each first part of the legs that an order of the hour takes after the hour's
-- events, whatever its kind
abbrev pub TakingsStayHours : Type 0
TakingsStayHours = (setup : Setup) (hour : ℕ) (history before : List Event) (name : OrderName) (some rest : List Event)
    → IsHourIn setup hour history before → name.hour ≡ hour → take (graph_of setup) before name ≡ some ++ rest
    → GoesOn setup hour history before some

-- so it does with the entry of an order that may enter, and each first part of what it takes
abbrev pub EntriesStayHours : Type 0
EntriesStayHours = (setup : Setup) (hour : ℕ) (history before : List Event) (caller : ℕ) (order : Order) (some rest : List Event)
    → IsHourIn setup hour history before → order.contract.hour ≡ hour → OrderEnters setup before (name_of_next before order) caller order
    → legs_taken (graph_of setup) before caller order ≡ some ++ rest
    → GoesOn setup hour history before (event.Entered (name_of_next before order) caller order ∷ some)

-- and with the withdrawal of what is then left of it
abbrev pub WithdrawalsStayHours : Type 0
WithdrawalsStayHours = (setup : Setup) (hour : ℕ) (history before : List Event) (caller : ℕ) (order : Order) (some rest : List Event) (lots : ℕ)
    → IsHourIn setup hour history before → order.contract.hour ≡ hour → OrderEnters setup before (name_of_next before order) caller order
    → legs_taken (graph_of setup) before caller order ≡ some ++ rest
    → let taken = event.Entered (name_of_next before order) caller order ∷ some in
    lots ≡ left (before ++ taken) (name_of_next before order) → 1 ≤ lots
    → GoesOn setup hour history before (taken ++ event.Withdrawn (name_of_next before order) lots ∷ [])

-- and with each first part of the hour's sweep
abbrev pub SweepsStayHours : Type 0
SweepsStayHours = (setup : Setup) (parts : List Part) (hour : ℕ) (history before some rest : List Event)
    → IsHourIn setup hour history before → sweep parts (graph_of setup) hour before ≡ some ++ rest → GoesOn setup hour history before some

-- and with each first part of the reply that a command which touches no other hour has after the hour's
-- events, where open blocks are whole
abbrev pub PrefixesAreHours : Type 0
PrefixesAreHours = (setup : Setup) (parts : List Part) (hour : ℕ) (history before : List Event) (caller : ℕ) (given : Command) (some rest : List Event)
    → IsHourIn setup hour history before → BlocksAreWhole history → ((other : ℕ) → IsIn other (touched_hours setup caller given) → other ≡ hour)
    → events_of (reply_by parts setup before caller given) ≡ some ++ rest → GoesOn setup hour history before some

-- the reply after the hour's events is the reply after the whole history, which goes on with its events
-- and leaves open blocks whole
pub record RepliesAlone (setup : Setup) (parts : List Part) (hour : ℕ) (history before : List Event) (caller : ℕ) (given : Command) : Type 0 where
  pub same : reply_by parts setup before caller given ≡ reply_by parts setup history caller given
  pub goes_on : GoesOn setup hour history before (events_of (reply_by parts setup before caller given))
  pub whole : BlocksAreWhole (history ++ events_of (reply_by parts setup before caller given))

-- so it is for each command that touches no other hour
abbrev pub RepliesStayHours : Type 0
RepliesStayHours = (setup : Setup) (parts : List Part) (hour : ℕ) (history before : List Event) (caller : ℕ) (given : Command)
    → IsHourIn setup hour history before → BlocksAreWhole history → ((other : ℕ) → IsIn other (touched_hours setup caller given) → other ≡ hour)
    → RepliesAlone setup parts hour history before caller given
