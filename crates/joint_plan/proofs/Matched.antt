-- The resting blocks of a period, once their deals are found and planned on the first desk.
use Rattle.std.proofs.Common.{◌≡◌, ◌∙◌, ℕ, ◌<◌, ◌≤◌, List, ◌++◌, drop, flat_map, length, map, set, slice_get, take, None, Some}
use Rattle.block_match.specs.declared.deal.BlockDeal.{BlockDeal}
use Rattle.market_model.specs.declared.command.Command.TheVariants as command
use Rattle.market_model.specs.declared.event.Event.{Event}
use Rattle.market_model.specs.declared.reply.Reply.TheVariants as reply
use Rattle.market_model.specs.declared.setup.Setup.{Setup}
use Rattle.market_model.specs.Market.{reply_to}
use Rattle.zone_graph.specs.Graph.{Graph}
use Rattle.zone_graph.specs.Route.{IsIn}
use Rattle.laws_of_joint_commands.specs.ByHour.{hour_events}
use Rattle.laws_of_joint_commands.specs.MatchingBlocks.{ArePeriodDeals, legs_of}
use Rattle.hour_desk.specs.Periods.{AreDealsOf}
use Rattle.hour_desk.specs.declared.part_work.PartWork.{PartWork}
use Rattle.hour_desk.specs.declared.part_work.PartWork.TheVariants as work
use Rattle.hour_desk.specs.Desk.{DeskState, planned_events, planning}
use Rattle.hour_desk.specs.Shared.{part_events, then_swept}
use Rattle.market_model.specs.Grid.{graph_of}
use Rattle.joint_plan.specs.Refusing as refusing
use Rattle.joint_plan.specs.Rooms.{AreRoomsOver}
use Rattle.joint_plan.specs.Rows.{AreAsked, IsHistoryOf, planning_all}
use Rattle.joint_plan.specs.Works.{CanPlanPart, events_over, swept, with_part}
use Rattle.joint_plan.proofs.AskedPeriods.{period-can_plan, period-deals, period-events, period-legs, period-planned, period-planned_first, period-reply, period-row, period-some}
use Rattle.joint_plan.proofs.Lists.{get-within, set-first}

-- the deals are those that the first desk finds within rooms of the period, and it plans them with the sweep of its hour
pub record AreMatched (graph : Graph) (last : ℕ) (desks row : List DeskState) (deals : List BlockDeal) : Type 0 where
  pub rooms : List (ℕ × ℕ)
  pub are : AreRoomsOver graph desks rooms
  pub free : None ≡ refusing.closed_refusal desks
  pub found : (desk : DeskState) → slice_get desks 0 ≡ Some desk → AreDealsOf desk.grid desk.hour last desk.settled rooms deals
  pub done : (desk : DeskState) → slice_get desks 0 ≡ Some desk → row ≡ set desks 0 (planning desk (then_swept desk (legs_of desk.hour last deals)))

module _ (setup : Setup) (graph : Graph) (caller first last : ℕ) (desks : List DeskState) (asked : AreAsked setup graph caller (command.Blocks first last) desks)
    (row : List DeskState) (deals : List BlockDeal) (matched : AreMatched graph last desks row deals) where
  abbrev given : PartWork
  given = work.Block first last None deals

  one : (desk : DeskState) × (slice_get desks 0 ≡ Some desk)
  one = get-within desks 0 (period-some setup graph caller first last desks asked)

  abbrev desk : DeskState
  desk = one.0

  at : slice_get desks 0 ≡ Some desk
  at = one.1

  done : row ≡ set desks 0 (planning desk (then_swept desk (legs_of desk.hour last deals)))
  done = matched.done desk at

  found : (history : List Event) → IsHistoryOf setup desks history → ArePeriodDeals (graph_of setup) first last (hour_events history) deals
  found = period-deals setup graph caller first last desks asked desk at matched.rooms matched.are deals (matched.found desk at)

  -- the other desks can plan their part
  pub matched-can : (other : DeskState) → IsIn other (drop 1 row) → CanPlanPart graph given other
  matched-can = period-can_plan setup graph caller first last desks asked desk at matched.free deals found row done

  -- what the first desk plans
  module _ (planned : List Event) (copied : (first_desk : DeskState) → slice_get row 0 ≡ Some first_desk → planned ≡ planned_events first_desk) where
    planned-is : planned ≡ part_events desk given
    planned-is =
        copied (with_part given desk) (set-first desks row (with_part given desk) desk at
        (period-row setup graph caller first last desks asked desk at matched.free deals found row done))
        ∙ period-planned_first setup graph caller first last desks asked desk at matched.free deals found row done

    -- the legs are some of it
    pub matched-legs : length (legs_of first last deals) ≤ length planned
    matched-legs = period-legs setup graph caller first last desks asked desk at matched.free deals found row done planned planned-is

    -- with what the other desks plan it is the market's reply
    module _ (events : List Event) (are : events ≡ planned ++ flat_map (swept given) (drop 1 row)) where
      all-events : events ≡ events_over given desks
      all-events = period-events setup graph caller first last desks asked desk at matched.free deals found row done planned events planned-is are

      pub matched-reply : (history : List Event) → IsHistoryOf setup desks history → reply.Done events ≡ reply_to setup history caller (command.Blocks first last)
      matched-reply = period-reply setup graph caller first last desks asked desk at matched.free deals found row done events all-events

      pub matched-planned : (after : List DeskState) → after ≡ take 1 row ++ map (with_part given) (drop 1 row) → after ≡ planning_all desks events
      matched-planned after = period-planned setup graph caller first last desks asked desk at matched.free deals found row done after events all-events
