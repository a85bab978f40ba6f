-- What is counted event by event: for the rows of a schedule, and who an order or a block is of.
use Rattle.std.specs.Prelude.{◌≡◌, ℕ, ◌+◌, ◌-◌, ◌*◌, ◌<◌, ◌==◌, ◌&&◌, Bool, true, false, List, [], ◌∷◌, length, map, sum_by, slice_get, slice_index_or, Option, Some, None, if◌then◌else◌}
use Rattle.std.specs.List.{filter_map}
use Rattle.order_kinds.specs.declared.contract.Quarter.{Quarter}
use Rattle.order_kinds.specs.declared.order.OrderName.{OrderName}
use Rattle.order_kinds.specs.declared.side.Side.{Side}
use Rattle.order_kinds.specs.declared.side.Side.TheVariants.{Buy, Sell}
use Rattle.zone_graph.specs.declared.route.Arc.{Arc}
use Rattle.zone_graph.specs.Pour.{lots_if}
use Rattle.zone_graph.specs.Route.{AreDifferent, IsIn}
use Rattle.market_model.specs.declared.event.Event.{Event}
use Rattle.market_model.specs.declared.event.Event.TheVariants as event
use Rattle.market_model.specs.declared.event.Leg.{Leg}
use Rattle.market_model.specs.declared.setup.Setup.{Setup}
use Rattle.market_model.specs.Capacity.{allocated_by}
use Rattle.market_model.specs.History.{and_then}
use Rattle.ship_schedule.specs.declared.period.Period.{Period}
use Rattle.ship_schedule.specs.declared.period.Period.TheVariants as period
use Rattle.ship_schedule.specs.Places.{period_has, quarter_at}
use Rattle.ship_schedule.specs.Rows.{InRows, SameShape, amount, is_number, row_at}
use Rattle.ship_schedule.specs.declared.party_index.Party.{Party}
use Rattle.ship_schedule.specs.declared.tally.Tally.{Tally}
use Rattle.ship_schedule.specs.Schedule.{is_grant, is_trade}

-- ---- who an order or a block is of

-- a side sells
abbrev pub sells : Side → Bool
sells Sell = true
sells Buy = false

-- the zone and the side of an order or a block that enters by this hour
abbrev pub party_in : (hour : ℕ) → Event → Option Party
party_in hour (event.Entered name caller order) = if name.hour == hour then Some (record { zone = order.zone; sells = sells order.side }) else None
party_in hour (event.EnteredBlock name caller order) = if name.hour == hour then Some (record { zone = order.zone; sells = sells order.side }) else None
party_in hour _ = None

-- those that entered by this hour, in order
abbrev pub parties_in : List Event → (hour : ℕ) → List Party
parties_in events hour = filter_map (party_in hour) events

-- in a list by hour, those of an hour, and the one of a name: names are numbered from 1
abbrev pub row_of : List (List Party) → (hour : ℕ) → List Party
row_of parties hour = slice_index_or parties hour []

abbrev pub party_at : List (List Party) → OrderName → Option Party
party_at parties name = slice_get (row_of parties name.hour) (name.number - 1)

-- the one of a name in a history
abbrev pub party_of : List Event → OrderName → Option Party
party_of events name = slice_get (parties_in events name.hour) (name.number - 1)

-- ---- what an event counts

-- the arc over a border, forward or back
abbrev pub arc_over : (border : ℕ) → (forward : Bool) → Arc
arc_over border forward = record { border = border; forward = forward }

-- the lots that a trade carries over an arc in a quarter, and those that are granted there
abbrev pub trade_lots : Quarter → Arc → Event → ℕ
trade_lots quarter arc e = lots_if (is_trade e) (allocated_by quarter arc e)

abbrev pub grant_lots : Quarter → Arc → Event → ℕ
grant_lots quarter arc e = lots_if (is_grant e) (allocated_by quarter arc e)

-- the lots of a trade for a zone in a quarter: if the party is of the zone, and sells where sales are counted
abbrev pub party_lots : Period → Quarter → (zone : ℕ) → (selling : Bool) → (lots : ℕ) → Option Party → ℕ
party_lots period quarter zone selling lots None = 0
party_lots period quarter zone selling lots (Some party) = lots_if (period_has period quarter && is_number party.zone party.sells zone selling) lots

-- those of the taker and of the maker of a leg
abbrev pub leg_lots : Period → Quarter → (zone : ℕ) → (selling : Bool) → List Event → Leg → ℕ
leg_lots period quarter zone selling before leg =
    party_lots period quarter zone selling leg.lots (party_of before leg.taker) + party_lots period quarter zone selling leg.lots (party_of before leg.maker)

-- those of an event, after the events before it
abbrev pub position_lots : Quarter → (zone : ℕ) → (selling : Bool) → (before : List Event) → Event → ℕ
position_lots quarter zone selling before (event.Leg contract leg) = leg_lots (period.Contract contract) quarter zone selling before leg
position_lots quarter zone selling before (event.BlockLeg first last leg) = leg_lots (period.Hours first last) quarter zone selling before leg
position_lots quarter zone selling before _ = 0

-- what events count, each after those before it
abbrev pub sum_along : (List Event → Event → ℕ) → (before : List Event) → List Event → ℕ
sum_along count before [] = 0
sum_along count before (e ∷ events) = count before e + sum_along count (and_then before e) events

-- ---- a tally

-- what was counted of some events
pub record Counts (events : List Event) (tally : Tally) : Type 0 where
  pub traded : (place border : ℕ) (forward : Bool) → InRows tally.sums.traded place border
      → amount tally.sums.traded place border forward ≡ sum_by (trade_lots (quarter_at place) (arc_over border forward)) events
  pub granted : (place border : ℕ) (forward : Bool) → InRows tally.sums.granted place border
      → amount tally.sums.granted place border forward ≡ sum_by (grant_lots (quarter_at place) (arc_over border forward)) events
  pub positions : (place zone : ℕ) (selling : Bool) → InRows tally.sums.positions place zone
      → amount tally.sums.positions place zone selling ≡ sum_along (position_lots (quarter_at place) zone selling) [] events
  pub parties : (hour : ℕ) → hour < length tally.parties → row_of tally.parties hour ≡ parties_in events hour

-- the rows are as long as before, and there are parties of as many hours
pub record SameSize (old new : Tally) : Type 0 where
  pub traded : SameShape old.sums.traded new.sums.traded
  pub granted : SameShape old.sums.granted new.sums.granted
  pub positions : SameShape old.sums.positions new.sums.positions
  pub parties : length new.parties ≡ length old.parties

-- a leg names orders or blocks of so many hours, and its route no border twice
pub record IsLegWithin (hours : ℕ) (leg : Leg) : Type 0 where
  pub different : AreDifferent (map (λ arc. arc.border) leg.route)
  pub taker : leg.taker.hour < hours
  pub maker : leg.maker.hour < hours

-- so does an event, if it is a trade
abbrev pub IsWithin : (hours : ℕ) → Event → Type 0
IsWithin hours (event.Leg contract leg) = IsLegWithin hours leg
IsWithin hours (event.BlockLeg first last leg) = IsLegWithin hours leg
IsWithin hours _ = Unit {0}

-- and each of some events
abbrev pub AreWithin : (hours : ℕ) → List Event → Type 0
AreWithin hours events = (e : Event) → IsIn e events → IsWithin hours e

-- a tally has a row for each quarter of the day with each border and each zone, and the parties of each
-- hour of it
pub record IsSized (setup : Setup) (tally : Tally) : Type 0 where
  pub traded : (place : ℕ) → place < 4 * setup.hours → length (row_at tally.sums.traded place) ≡ length setup.borders
  pub granted : (place : ℕ) → place < 4 * setup.hours → length (row_at tally.sums.granted place) ≡ length setup.borders
  pub positions : (place : ℕ) → place < 4 * setup.hours → length (row_at tally.sums.positions place) ≡ length setup.zones
  pub parties : length tally.parties ≡ setup.hours + 1
