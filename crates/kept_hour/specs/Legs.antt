-- What a leg makes of what a store keeps.
use Rattle.std.specs.Prelude.{◌≡◌, ◌⊎◌, ℕ, false, List, Option}
use Rattle.order_kinds.specs.declared.side.Side.{Side}
use Rattle.order_kinds.specs.Contract.{part_at}
use Rattle.zone_graph.specs.Pour.{uses}
use Rattle.contract_book.specs.declared.resting.Resting.{Resting}
use Rattle.market_model.specs.declared.event.Leg.{Leg}
use Rattle.flow_netting.specs.declared.quarter_set.QuarterSet.{QuarterSet}
use Rattle.flow_netting.specs.QuarterSet.{has}
use Rattle.laws_of_hours.specs.CallLaws.{CanCarry}
use Rattle.laws_of_hours.specs.Standing.{IsCarried, IsSetOf}
use Rattle.laws_of_hours.specs.OrderEvents.{CanFill, filled_beside, holds}
use Rattle.hour_store.specs.declared.change.Change.{Change}
use Rattle.hour_store.specs.Changed.{NotesOrdersAt, RestsAt}
use Rattle.hour_store.specs.Contents.{Contents}

-- a leg can be made: its orders rest, but for the one in hand, and its lots can be carried
pub record CanMakeIn (hand : Option ℕ) (part : ℕ) (leg : Leg) (moment : ℕ) (contents : Contents) : Type 0 where
  pub maker : holds hand leg.maker.number ≡ false → CanFill contents.book part leg.maker.number leg.lots
  pub taker : holds hand leg.taker.number ≡ false
      → CanFill (filled_beside hand leg.maker.number leg.lots moment contents.book) part leg.taker.number leg.lots
  pub can_carry : (set : QuarterSet) → IsSetOf set (part_at part) → CanCarry contents.flows leg.route set leg.lots

-- a leg is made: its orders are filled, but for the one in hand, and its lots are carried
pub record IsMadeIn (hand : Option ℕ) (part : ℕ) (leg : Leg) (moment : ℕ) (old new : Contents) : Type 0 where
  pub book : new.book ≡ filled_beside hand leg.taker.number leg.lots moment (filled_beside hand leg.maker.number leg.lots moment old.book)
  pub blocks : new.blocks ≡ old.blocks
  pub set : QuarterSet
  pub of_part : IsSetOf set (part_at part)
  pub flows : IsCarried (uses leg.route) (has set) leg.lots old.flows new.flows

-- the order of a number rests in a book and is not the one in hand
abbrev pub RestsBeside : (hand : Option ℕ) → (book : List (List Resting)) → (number own : ℕ) → (part : ℕ) → Side → (zone : ℕ) → Type 0
RestsBeside hand book number own part side zone = (holds hand number ≡ false) × RestsAt book number own part side zone

-- of orders a leg notes its maker, and then its taker, where they rest
abbrev pub NotesLeg : (hand : Option ℕ) → (part : ℕ) → Leg → (moment : ℕ) → (book : List (List Resting)) → (old new : List Change) → Type 0
NotesLeg hand part leg moment book old new = NotesOrdersAt (λ own side zone. RestsBeside hand book leg.maker.number part own side zone
    ⊎ RestsBeside hand (filled_beside hand leg.maker.number leg.lots moment book) leg.taker.number part own side zone) old new
