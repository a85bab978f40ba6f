-- One hour's part of what happens in several hours: the events that it shares with others, and then its
-- own sweep.
use Rattle.std.specs.Prelude.{◌≡◌, ℕ, ◌<◌, List, [], ◌∷◌, ◌++◌, length, Option, Some, None}
use Rattle.block_match.specs.declared.deal.BlockDeal.{BlockDeal}
use Rattle.market_model.specs.declared.event.Event.{Event}
use Rattle.market_model.specs.declared.event.Event.TheVariants as event
use Rattle.market_model.specs.Board.{IsHourOf}
use Rattle.market_model.specs.Orders.{next_name, open_names}
use Rattle.market_model.specs.Refusals.{desk_room}
use Rattle.market_model.specs.Sweep.{all_parts, sweep}
use Rattle.laws_of_joint_commands.specs.EnteringBlocks.{block_entry}
use Rattle.laws_of_joint_commands.specs.MatchingBlocks.{legs_of}
use Rattle.desk_changes.specs.Plans.{CloseInTurn}
use Rattle.hour_desk.specs.declared.part_work.BlockEntry.{BlockEntry}
use Rattle.hour_desk.specs.declared.part_work.PartWork.{PartWork}
use Rattle.hour_desk.specs.declared.part_work.PartWork.TheVariants as work
use Rattle.hour_desk.specs.Desk.{DeskState}

-- the entry of a block after the events of its first hour, where one enters
abbrev pub entry_events : List Event → Option BlockEntry → List Event
entry_events events None = []
entry_events events (Some entry) = block_entry events entry.caller entry.order ∷ []

-- the entry of a block, where one enters, and the legs of the deals of a period
abbrev pub block_events : List Event → (first last : ℕ) → Option BlockEntry → List BlockDeal → List Event
block_events events first last entered deals = entry_events events entered ++ legs_of first last deals

-- the events that an hour shares with others
abbrev pub shared_events : List Event → PartWork → List Event
shared_events events (work.Offer arc first last lots) = event.Offered arc first last lots ∷ []
shared_events events (work.Grant arc first last lots) = event.Granted arc first last lots ∷ []
shared_events events (work.Halt border first last) = event.Halted border first last ∷ []
shared_events events (work.Resume border first last) = event.Resumed border first last ∷ []
shared_events events (work.Block first last entered deals) = block_events events first last entered deals

-- some events behind those that are settled, and then the sweep of the hour
abbrev pub then_swept : DeskState → List Event → List Event
then_swept desk events = events ++ sweep all_parts desk.grid desk.hour (desk.settled ++ events)

-- the part of the hour: what it shares, and then its own sweep
abbrev pub part_events : DeskState → PartWork → List Event
part_events desk given = then_swept desk (shared_events desk.settled given)

-- a block that enters the hour takes in the one deal that it finds, or else has room on the desk
abbrev pub TakesOrRests : (hour : ℕ) → List Event → List BlockDeal → Type 0
TakesOrRests hour events [] = length (open_names events hour) < desk_room
TakesOrRests hour events (deal ∷ []) = deal.taker ≡ (next_name events hour).number
TakesOrRests hour events (deal ∷ other ∷ deals) = ⊥

-- a block enters the hour, which is the first of its period
pub record EntersFirst (desk : DeskState) (first last : ℕ) (entry : BlockEntry) (deals : List BlockDeal) : Type 0 where
  pub here : first ≡ desk.hour
  pub from_hour : entry.order.first ≡ first
  pub to_hour : entry.order.last ≡ last
  pub trades : TakesOrRests desk.hour desk.settled deals

-- blocks of a period trade in the hour: in its first hour each deal closes both its blocks
pub record TradesBlocks (desk : DeskState) (first last : ℕ) (entered : Option BlockEntry) (deals : List BlockDeal) : Type 0 where
  pub enters : (entry : BlockEntry) → entered ≡ Some entry → EntersFirst desk first last entry deals
  pub closes : first ≡ desk.hour → CloseInTurn first last (desk.settled ++ entry_events desk.settled entered) deals

-- what is asked of the blocks of some work, if there are any
abbrev pub BlocksFit : DeskState → PartWork → Type 0
BlocksFit desk (work.Block first last entered deals) = TradesBlocks desk first last entered deals
BlocksFit desk given = Unit {0}

-- the hour can take its part: it goes on with what it shares
pub record CanShare (desk : DeskState) (given : PartWork) : Type 0 where
  pub follows : IsHourOf desk.grid desk.hour (desk.settled ++ shared_events desk.settled given)
  pub blocks : BlocksFit desk given
