-- A market on one thread: the desks of a day, which stand after the entries so far.
use Rattle.std.specs.Prelude.{◌≡◌, ℕ, ◌-◌, ◌*◌, ◌<◌, ◌≤◌, ◌^◌, List, [], length, map, None, is_none, slice_index, if◌then◌else◌}
use Rattle.std.specs.List.{range_with_len}
use Rattle.zone_graph.specs.Graph.{Graph}
use Rattle.zone_graph.specs.Route.{has}
use Rattle.market_model.specs.declared.command.Command.{Command}
use Rattle.market_model.specs.declared.entry.Entry.{Entry}
use Rattle.market_model.specs.declared.event.Event.{Event}
use Rattle.market_model.specs.declared.setup.Setup.{Setup}
use Rattle.market_model.specs.Concerned.{left_for}
use Rattle.market_model.specs.Grid.{graph_of}
use Rattle.market_model.specs.History.{of_hour}
use Rattle.market_model.specs.HourSet.{IsSetOf}
use Rattle.market_model.specs.Market.{IsLegal}
use Rattle.market_model.specs.Rules.{early_refusal, touched_hours}
use Rattle.market_model.specs.WellFormed.{IsMarketSetup}
use Rattle.trade_journal.specs.Journals.{all_rooms, made_by}
use Rattle.basket_match.specs.Desk.{DeskState, planning}
use Rattle.desk_market.specs.Day.{DayState}

-- the desk of an hour after some entries, with nothing planned
abbrev pub settled_desk : Graph → List Entry → (hour : ℕ) → DeskState
settled_desk graph entries hour = record { hour = hour; grid = graph; settled = left_for hour entries; planned = None }

-- the desks of all hours of a day
abbrev pub settled_desks : Setup → List Entry → List DeskState
settled_desks setup entries = map (settled_desk (graph_of setup) entries) (range_with_len 1 setup.hours)

-- the hours in which a command plans: those that it touches, and none where a rule refuses it by itself
abbrev pub planned_hours : Setup → (caller : ℕ) → Command → List ℕ
planned_hours setup caller given = if is_none (early_refusal setup caller given) then touched_hours setup caller given else []

-- the desk of an hour that plans what some events have of it, where it is one of some hours
abbrev pub planned_desk : Graph → List Entry → (hours : List ℕ) → List Event → (hour : ℕ) → DeskState
planned_desk graph entries hours events hour =
    if has hour hours then planning (settled_desk graph entries hour) (of_hour hour events) else settled_desk graph entries hour

abbrev pub planned_desks : Setup → List Entry → (hours : List ℕ) → List Event → List DeskState
planned_desks setup entries hours events = map (planned_desk (graph_of setup) entries hours events) (range_with_len 1 setup.hours)

-- a setup whose hours are those of a day and whose callers have few commands
pub record IsOfDay (setup : Setup) : Type 0 where
  pub is_setup : IsMarketSetup setup
  pub hours : setup.hours ≤ 32
  pub few : 8 * all_rooms setup < 2 ^ 32 - 1

-- a day that stands after a legal journal, of which the desks are chosen that a command touches: it breaks no rule by itself
pub record IsChosen (setup : Setup) (entries : List Entry) (caller : ℕ) (given : Command) (day : DayState) : Type 0 where
  pub of_day : IsOfDay setup
  pub legal : IsLegal setup entries
  pub within : length entries ≤ all_rooms setup
  pub stand : day.desks ≡ settled_desks setup entries
  pub early : early_refusal setup caller given ≡ None
  pub set : IsSetOf (touched_hours setup caller given) day.chosen

-- the desks of a market, and how many entries each caller has
pub record IsMarket (graph : Graph) (setup : Setup) (entries : List Entry) (desks : List DeskState) (given : List ℕ) : Type 0 where
  pub over : graph ≡ graph_of setup
  pub of_day : IsOfDay setup
  pub stand : desks ≡ settled_desks setup entries
  pub callers : length given ≡ length setup.callers
  pub counted : (caller : ℕ) → slice_index given caller ≡ made_by entries caller
