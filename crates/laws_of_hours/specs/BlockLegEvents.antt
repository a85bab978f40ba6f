-- What a leg of two blocks makes of the books and flows of an hour of its period, said of the hour's own events.
use Rattle.std.specs.Prelude.{◌≡◌, ◌≢◌, ℕ, ◌≤◌, false, List, None}
use Rattle.order_kinds.specs.declared.contract.Part.TheVariants as part
use Rattle.zone_graph.specs.Graph.{Graph}
use Rattle.zone_graph.specs.Pour.{uses}
use Rattle.block_book.specs.Book.{without}
use Rattle.flow_netting.specs.declared.quarter_set.QuarterSet.{QuarterSet}
use Rattle.flow_netting.specs.Flows.{Flows}
use Rattle.flow_netting.specs.QuarterSet.{has}
use Rattle.market_model.specs.declared.event.Event.{Event}
use Rattle.market_model.specs.declared.event.Event.TheVariants as event
use Rattle.market_model.specs.declared.event.Leg.{Leg}
use Rattle.market_model.specs.Board.{IsHourOf}
use Rattle.market_model.specs.History.{and_then}
use Rattle.market_model.specs.Orders.{is_open, next_name}
use Rattle.laws_of_books.specs.BookOf.{book_of}
use Rattle.laws_of_books.specs.BlocksOf.{blocks_of}
use Rattle.laws_of_books.specs.LegLaws.{without_both}
use Rattle.laws_of_hours.specs.CallLaws.{CanCarry}
use Rattle.laws_of_hours.specs.Standing.{IsCarried, IsSetOf, Stands}
use Rattle.laws_of_hours.specs.OrderEvents.{resting_count}

-- a leg of two blocks was made: the orders rest as before, and so do all blocks but the two, which start in the
-- first hour; its lots are carried over its route in every quarter
pub record IsCarriedThrough (graph : Graph) (hour : ℕ) (events after : List Event) (first : ℕ) (leg : Leg) : Type 0 where
  pub book : book_of after hour ≡ book_of events hour
  pub later : hour ≢ first → blocks_of after hour ≡ blocks_of events hour
  pub others : hour ≡ first → without_both (blocks_of after hour) leg.taker.number leg.maker.number ≡ without_both (blocks_of events hour) leg.taker.number leg.maker.number
  pub can_carry : (set : QuarterSet) (flows : Flows) → Stands graph events hour flows → IsSetOf set part.Hour → CanCarry flows leg.route set leg.lots
  pub flows : (set : QuarterSet) (old new : Flows) → Stands graph events hour old → IsSetOf set part.Hour → IsCarried (uses leg.route) (has set) leg.lots old new
      → Stands graph after hour new
  pub few : resting_count after hour None ≤ resting_count events hour None
  pub same_next : next_name after hour ≡ next_name events hour

abbrev pub BlockLegsAreMade : Type 0
BlockLegsAreMade = (graph : Graph) (hour : ℕ) (events : List Event) (first last : ℕ) (leg : Leg)
    → IsHourOf graph hour (and_then events (event.BlockLeg first last leg))
    → IsCarriedThrough graph hour events (and_then events (event.BlockLeg first last leg)) first leg

-- a block of which nothing is left is not in the book of the blocks of its hour
abbrev pub ClosedBlocksAreGone : Type 0
ClosedBlocksAreGone = (graph : Graph) (hour : ℕ) (events : List Event) (number : ℕ) → IsHourOf graph hour events
    → is_open events (record { hour = hour; number = number }) ≡ false → without (blocks_of events hour) number ≡ blocks_of events hour
