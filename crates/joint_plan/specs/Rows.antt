-- Rows of desks, each of an hour of its own, and the journals after which they stand.
use Rattle.std.specs.Prelude.{◌≡◌, ℕ, ◌-◌, ◌<◌, ◌^◌, List, None, count_by, map}
use Rattle.zone_graph.specs.Graph.{Graph}
use Rattle.zone_graph.specs.Route.{IsIn}
use Rattle.market_model.specs.declared.command.Command.{Command}
use Rattle.market_model.specs.declared.entry.Entry.{Entry}
use Rattle.market_model.specs.declared.event.Event.{Event}
use Rattle.market_model.specs.declared.setup.Setup.{Setup}
use Rattle.market_model.specs.Concerned.{left_for}
use Rattle.market_model.specs.Grid.{graph_of}
use Rattle.market_model.specs.History.{enters_in, of_hour}
use Rattle.market_model.specs.Market.{IsLegal}
use Rattle.market_model.specs.Rules.{early_refusal, touched_hours}
use Rattle.market_model.specs.WellFormed.{IsHistory, IsMarketSetup}
use Rattle.hour_desk.specs.Desk.{DeskState, planning, with_nothing_planned}

-- the hours of desks, in order
abbrev pub hours_of : List DeskState → List ℕ
hours_of desks = map (λ desk. desk.hour) desks

-- the desks with nothing planned
abbrev pub dropped : List DeskState → List DeskState
dropped desks = map with_nothing_planned desks

-- the desks that plan, each of its own hour, what some events have of it
abbrev pub planning_all : List DeskState → List Event → List DeskState
planning_all desks events = map (λ desk. planning desk (of_hour desk.hour events)) desks

-- a journal of a setup is legal, and the settled events of each desk are what it leaves for the desk's hour
pub record IsJournalOf (setup : Setup) (desks : List DeskState) (entries : List Entry) : Type 0 where
  pub is_setup : IsMarketSetup setup
  pub legal : IsLegal setup entries
  pub left : (desk : DeskState) → IsIn desk desks → left_for desk.hour entries ≡ desk.settled

-- there is such a journal
pub record AreAfterJournal (setup : Setup) (desks : List DeskState) : Type 0 where
  pub entries : List Entry
  pub journal : IsJournalOf setup desks entries

-- the desks are of one grid
abbrev pub AreOver : Graph → List DeskState → Type 0
AreOver graph desks = (desk : DeskState) → IsIn desk desks → desk.grid ≡ graph

-- each has a number left for one that enters
abbrev pub HaveNumbers : List DeskState → Type 0
HaveNumbers desks = (desk : DeskState) → IsIn desk desks → count_by (enters_in desk.hour) desk.settled < 2 ^ 32 - 1

-- the same, of a well-formed history in place of a journal's
pub record IsHistoryOf (setup : Setup) (desks : List DeskState) (history : List Event) : Type 0 where
  pub is_setup : IsMarketSetup setup
  pub is_history : IsHistory setup history
  pub left : (desk : DeskState) → IsIn desk desks → of_hour desk.hour history ≡ desk.settled

-- nothing is planned on the desks
abbrev pub AreUnplanned : List DeskState → Type 0
AreUnplanned desks = (desk : DeskState) → IsIn desk desks → desk.planned ≡ None

-- the desks are of the grid of a setup, have numbers left, and stand after a legal journal
pub record AreReady (setup : Setup) (graph : Graph) (desks : List DeskState) : Type 0 where
  pub over_setup : graph_of setup ≡ graph
  pub over : AreOver graph desks
  pub numbers : HaveNumbers desks
  pub place : AreAfterJournal setup desks

-- and nothing is planned on them, and their hours are those that a command touches which breaks no rule by itself
pub record AreAsked (setup : Setup) (graph : Graph) (caller : ℕ) (given : Command) (desks : List DeskState) : Type 0 where
  pub ready : AreReady setup graph desks
  pub unplanned : AreUnplanned desks
  pub early : early_refusal setup caller given ≡ None
  pub hours : hours_of desks ≡ touched_hours setup caller given
