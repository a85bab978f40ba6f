-- The resting blocks of a period are matched: deal by deal, each found in the block book of the first hour and
-- the rooms of the period, and then each hour of the period sweeps.
use Rattle.std.specs.Prelude.{◌≡◌, ℕ, ◌≤◌, List, [], ◌++◌, flat_map, Option, Some, None, if◌then◌else◌}
use Rattle.std.specs.Option.{option_map}
use Rattle.order_kinds.specs.declared.contract.Part.{Part}
use Rattle.order_kinds.specs.Period.{hours_from, is_within}
use Rattle.zone_graph.specs.Graph.{Graph}
use Rattle.zone_graph.specs.Steps.{IsRun}
use Rattle.block_match.specs.declared.deal.BlockDeal.{BlockDeal}
use Rattle.market_model.specs.declared.command.Command.TheVariants as command
use Rattle.market_model.specs.declared.event.Event.{Event}
use Rattle.market_model.specs.declared.reply.Reply.TheVariants as reply
use Rattle.market_model.specs.declared.setup.Setup.{Setup}
use Rattle.market_model.specs.Blocks.{block_deal, match_blocks}
use Rattle.market_model.specs.Grid.{graph_of}
use Rattle.market_model.specs.History.{of_hour}
use Rattle.market_model.specs.Market.{reply_by}
use Rattle.market_model.specs.Refusals.{refusal_of_command}
use Rattle.market_model.specs.Sweep.{sweep}
use Rattle.market_model.specs.WellFormed.{IsHistory, IsMarketSetup}
use Rattle.laws_of_books.specs.BlocksOf.{blocks_of}
use Rattle.block_match.specs.Deals.{deal_of_period}
use Rattle.block_match.specs.Market.{deal_events}
use Rattle.laws_of_joint_commands.specs.ByHour.{hour_events}
use Rattle.laws_of_joint_commands.specs.EnteringBlocks.{AreClosed}
use Rattle.laws_of_joint_commands.specs.GoingOn.{GoesOnInHours}
use Rattle.laws_of_joint_commands.specs.PeriodRooms.{period_room}

-- the next deal of a period, by the hours' own events: in the block book of its first hour and its rooms
abbrev pub next_deal : Graph → (first last : ℕ) → (own : ℕ → List Event) → Option BlockDeal
next_deal graph first last own = deal_of_period graph (period_room own first last) (blocks_of (own first) first) last

-- the hours' events with the legs of a deal behind them
abbrev pub with_legs : (first last : ℕ) → (own : ℕ → List Event) → BlockDeal → (hour : ℕ) → List Event
with_legs first last own deal hour = own hour ++ deal_events first last deal

-- these are the deals of a period: each is the next one, and after the last there is none
abbrev pub ArePeriodDeals : Graph → (first last : ℕ) → (own : ℕ → List Event) → List BlockDeal → Type 0
ArePeriodDeals graph first last own deals = IsRun (next_deal graph first last) (with_legs first last) own deals

-- the legs of deals of a period, one deal after the other
abbrev pub legs_of : (first last : ℕ) → List BlockDeal → List Event
legs_of first last deals = flat_map (deal_events first last) deals

-- what an hour has of legs of a period: all of them within the period, and else nothing
abbrev pub of_period : (first last : ℕ) → (legs : List Event) → (hour : ℕ) → List Event
of_period first last legs hour = if is_within first last hour then legs else []

-- the sweep of an hour after its own events and some legs
abbrev pub swept_after_legs : List Part → Graph → List Event → (legs : List Event) → (hour : ℕ) → List Event
swept_after_legs parts graph history legs hour = sweep parts graph hour (of_hour hour history ++ legs)

-- the next deal of a period is found by the hours' own events, event by event
abbrev pub PeriodsFindTheirNextDeal : Type 0
PeriodsFindTheirNextDeal = (setup : Setup) (history : List Event) (first last : ℕ) → IsMarketSetup setup → IsHistory setup history
    → block_deal (graph_of setup) first last history ≡ option_map (deal_events first last) (next_deal (graph_of setup) first last (hour_events history))

-- the history goes on with the legs of such a deal and stays well-formed, each hour of the period goes on with
-- them, and both blocks are closed
abbrev pub NextDealsGoOnInHours : Type 0
NextDealsGoOnInHours = (setup : Setup) (history : List Event) (first last : ℕ) (deal : BlockDeal) → IsMarketSetup setup → IsHistory setup history
    → next_deal (graph_of setup) first last (hour_events history) ≡ Some deal
    → let legs = deal_events first last deal in
    IsHistory setup (history ++ legs) × GoesOnInHours setup history legs (of_period first last legs) × AreClosed first deal (of_hour first history ++ legs)

-- every period has its deals, down to none
abbrev pub PeriodsHaveTheirDeals : Type 0
PeriodsHaveTheirDeals = (setup : Setup) (history : List Event) (first last : ℕ) → IsMarketSetup setup → IsHistory setup history → first ≤ last
    → (deals : List BlockDeal) × ArePeriodDeals (graph_of setup) first last (hour_events history) deals

-- the history goes on with the legs of all of them
abbrev pub PeriodDealsGoOnInHours : Type 0
PeriodDealsGoOnInHours = (setup : Setup) (history : List Event) (first last : ℕ) (deals : List BlockDeal) → IsMarketSetup setup → IsHistory setup history → first ≤ last
    → ArePeriodDeals (graph_of setup) first last (hour_events history) deals
    → let legs = legs_of first last deals in
    IsHistory setup (history ++ legs) × GoesOnInHours setup history legs (of_period first last legs)

-- matching the blocks of a period is these legs, and then the sweep of each hour, after its own events and the
-- legs
abbrev pub BlocksMatchHourByHour : Type 0
BlocksMatchHourByHour = (setup : Setup) (parts : List Part) (history : List Event) (first last : ℕ) (deals : List BlockDeal) → IsMarketSetup setup → IsHistory setup history → first ≤ last
    → ArePeriodDeals (graph_of setup) first last (hour_events history) deals
    → let legs = legs_of first last deals in
    match_blocks parts (graph_of setup) first last history ≡ legs ++ flat_map (swept_after_legs parts (graph_of setup) history legs) (hours_from first last)

-- of it each hour of the period has the legs and its own sweep, and any other hour nothing
abbrev pub MatchesOfAnHour : Type 0
MatchesOfAnHour = (setup : Setup) (parts : List Part) (history : List Event) (first last : ℕ) (deals : List BlockDeal) (hour : ℕ) → IsMarketSetup setup → IsHistory setup history → first ≤ last
    → ArePeriodDeals (graph_of setup) first last (hour_events history) deals
    → let legs = legs_of first last deals in
    of_hour hour (match_blocks parts (graph_of setup) first last history)
    ≡ (if is_within first last hour then legs ++ swept_after_legs parts (graph_of setup) history legs hour else [])

-- the reply to such a command that no rule refuses is this matching
abbrev pub MatchesAreTheReply : Type 0
MatchesAreTheReply = (setup : Setup) (parts : List Part) (history : List Event) (caller first last : ℕ) → refusal_of_command setup history caller (command.Blocks first last) ≡ None
    → (first ≤ last) × (reply_by parts setup history caller (command.Blocks first last) ≡ reply.Done (match_blocks parts (graph_of setup) first last history))
