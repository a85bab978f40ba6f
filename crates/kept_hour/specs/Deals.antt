-- The deals of two blocks in a kept hour: when they close both, how their legs are carried, and the entry of a
-- block that trades at once.
use Rattle.std.specs.Prelude.{◌≡◌, ℕ, Bool, false, List, [], ◌∷◌, ◌++◌, None, length, sum_by, if◌then◌else◌}
use Rattle.order_kinds.specs.declared.contract.Part.TheVariants as part
use Rattle.order_kinds.specs.declared.order.BlockOrder.{BlockOrder}
use Rattle.zone_graph.specs.declared.route.RouteLeg.{RouteLeg}
use Rattle.zone_graph.specs.Pour.{uses}
use Rattle.laws_of_books.specs.LegLaws.{without_both}
use Rattle.block_match.specs.declared.deal.BlockDeal.{BlockDeal}
use Rattle.block_match.specs.Market.{deal_events}
use Rattle.flow_netting.specs.declared.quarter_set.QuarterSet.{QuarterSet}
use Rattle.flow_netting.specs.Flows.{Flows}
use Rattle.flow_netting.specs.QuarterSet.{has}
use Rattle.laws_of_hours.specs.CallLaws.{CanCarry}
use Rattle.laws_of_hours.specs.Standing.{IsCarried, IsSetOf}
use Rattle.market_model.specs.declared.event.Event.{Event}
use Rattle.market_model.specs.Orders.{is_open}
use Rattle.hour_store.specs.declared.change.Change.{Change}
use Rattle.hour_store.specs.Changed.{NotesNoFlow, NotesNoOrder}
use Rattle.hour_store.specs.Contents.{Contents}
use Rattle.kept_hour.specs.State.{HourState, after_event, block_entry_of}

-- nothing is left of the two blocks of a deal, which start in this hour, once its legs are made
pub record ClosesBoth (hour : HourState) (first last : ℕ) (deal : BlockDeal) : Type 0 where
  pub taker : is_open (hour.board.events ++ deal_events first last deal) (record { hour = first; number = deal.taker }) ≡ false
  pub maker : is_open (hour.board.events ++ deal_events first last deal) (record { hour = first; number = deal.maker }) ≡ false

-- a block enters under the next number of the hour, and its deal is made
abbrev pub dealt_entry : HourState → (caller : ℕ) → BlockOrder → BlockDeal → List Event
dealt_entry hour caller order deal = block_entry_of hour caller order ∷ deal_events order.first order.last deal

-- the hour with the entry alone
abbrev pub with_entry : HourState → (caller : ℕ) → BlockOrder → HourState
with_entry hour caller order = after_event hour (block_entry_of hour caller order) None

-- how many arcs the routes of legs have together
abbrev pub arc_count : List RouteLeg → ℕ
arc_count legs = sum_by (λ leg. length leg.route) legs

-- legs can be carried in every quarter, each after those before it
abbrev pub CanCarryAll : Flows → List RouteLeg → Type 0
CanCarryAll flows [] = Unit {0}
CanCarryAll flows (leg ∷ legs) =
    ((set : QuarterSet) → IsSetOf set part.Hour → CanCarry flows leg.route set leg.lots)
    × ((set : QuarterSet) (next : Flows) → IsSetOf set part.Hour → IsCarried (uses leg.route) (has set) leg.lots flows next → CanCarryAll next legs)

-- legs were carried in every quarter, one after the other
abbrev pub AreCarried : List RouteLeg → (old new : Flows) → Type 0
AreCarried [] old new = new ≡ old
AreCarried (leg ∷ legs) old new =
    (set : QuarterSet) × (next : Flows) × IsSetOf set part.Hour × IsCarried (uses leg.route) (has set) leg.lots old next × AreCarried legs next new

-- a deal was made in what a store keeps: its two blocks are out where they start in the hour, and its legs were
-- carried
pub record IsDealtIn (starts : Bool) (deal : BlockDeal) (old new : Contents) : Type 0 where
  pub book : new.book ≡ old.book
  pub blocks : new.blocks ≡ (if starts then without_both old.blocks deal.taker deal.maker else old.blocks)
  pub flows : AreCarried deal.legs old.flows new.flows

-- a deal notes no order, and no flows where it has no leg
pub record NotesDeal (deal : BlockDeal) (old new : List Change) : Type 0 where
  pub orders : NotesNoOrder old new
  pub flows : deal.legs ≡ [] → NotesNoFlow old new
