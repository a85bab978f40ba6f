-- What an event leaves of an order that it does not concern.
use Rattle.std.proofs.Common.{◌≡◌, ◌∙◌, ℕ, ◌+◌, ◌&&◌, Bool, true, false, List, [], ◌∷◌, length, nat_lt, refl, sym, ap, if◌then◌else◌, arith}
use Rattle.order_kinds.specs.declared.contract.Contract.{Contract}
use Rattle.order_kinds.specs.declared.order.OrderName.{OrderName}
use Rattle.order_kinds.specs.declared.side.Side.{Side}
use Rattle.order_kinds.specs.Same.{same_name}
use Rattle.zone_graph.specs.Pour.{lots_if}
use Rattle.zone_graph.specs.Route.{IsIn}
use Rattle.contract_book.specs.declared.resting.Resting.{Resting}
use Rattle.market_model.specs.declared.event.Event.{Event}
use Rattle.market_model.specs.declared.event.Event.TheVariants as event
use Rattle.market_model.specs.History.{and_then, of_hour, touches}
use Rattle.market_model.specs.Orders.{Placed, Standing, ends_peak, entered_by, filled, filled_by, gives_moment, last_place, left, moment, names, placed, placed_by, price_now, shown_lots, standing, taken_off_by}
use Rattle.laws_of_market.proofs.Placed.{picked-stays}
use Rattle.laws_of_market.proofs.States.{filled-more}
use Rattle.laws_of_market.proofs.Wholes.{left-untouched}
use Rattle.laws_of_market.proofs.LocalMoments.{hour-same, moment-more}
use Rattle.laws_of_books.specs.BookOf.{resting_of}
use Rattle.laws_of_books.proofs.LineOrders.{StandsIn}

-- an event concerns an order or block: it enters it, trades it, withdraws it or reduces it
abbrev pub concerns : OrderName → Event → Bool
concerns name (event.Entered given caller order) = same_name given name
concerns name (event.EnteredBlock given caller order) = same_name given name
concerns name (event.Leg contract leg) = names leg name
concerns name (event.BlockLeg first last leg) = names leg name
concerns name (event.Withdrawn given lots) = same_name given name
concerns name (event.Reduced given by) = same_name given name
concerns name _ = false

-- what concerns no order changes no number of it
record IsUntouched (name : OrderName) (e : Event) : Type 0 where
  none_in : entered_by name e ≡ 0
  none_filled : filled_by name e ≡ 0
  none_off : taken_off_by name e ≡ 0

untouched : (name : OrderName) (e : Event) → concerns name e ≡ false → IsUntouched name e
untouched name (event.Entered given caller order) other =
    record { none_in = ap (λ b. lots_if b order.quantity.0) other; none_filled = refl; none_off = refl }
untouched name (event.EnteredBlock given caller order) other =
    record { none_in = ap (λ b. lots_if b order.quantity.0) other; none_filled = refl; none_off = refl }
untouched name (event.Leg contract leg) other = record { none_in = refl; none_filled = ap (λ b. lots_if b leg.lots) other; none_off = refl }
untouched name (event.BlockLeg first last leg) other = record { none_in = refl; none_filled = ap (λ b. lots_if b leg.lots) other; none_off = refl }
untouched name (event.Withdrawn given lots) other = record { none_in = refl; none_filled = refl; none_off = ap (λ b. lots_if b lots) other }
untouched name (event.Reduced given by) other = record { none_in = refl; none_filled = refl; none_off = ap (λ b. lots_if b by) other }
untouched name _ other = record { none_in = refl; none_filled = refl; none_off = refl }

gives-none : (order : Placed) (before : List Event) (e : Event) → concerns order.name e ≡ false → gives_moment order before e ≡ false
gives-none order before (event.Entered given caller entering) other = other
gives-none order before (event.Leg contract leg) other =
    ap (λ b. b && ends_peak order.order.kind (filled (and_then before (event.Leg contract leg)) order.name)) other
gives-none order before _ other = refl

-- an order of which so much is filled and left, with a moment
abbrev pub standing_at : Placed → (filled left moment : ℕ) → Standing
standing_at order filled left moment = record {
  name = order.name;
  caller = order.caller;
  order = order.order;
  filled = filled;
  left = left;
  shown = shown_lots order.order.kind filled left;
  price = price_now order.order filled;
  moment = moment;
}

module _ (events : List Event) (e : Event) where
  -- a moment that is not given anew
  pub moment-kept : (order : Placed) → gives_moment order (of_hour order.name.hour events) e ≡ false
      → moment (and_then events e) order ≡ moment events order
  moment-kept order none = go (touches order.name.hour e) refl
    where
      go : (t : Bool) → touches order.name.hour e ≡ t → moment (and_then events e) order ≡ moment events order
      go true t =
          moment-more order.name.hour events e order t refl ∙ ap (λ b. if b then length (of_hour order.name.hour events) + 1 else moment events order) none
      go false t = ap (last_place (gives_moment order)) (hour-same order.name.hour events e t)

  pub left-kept : (name : OrderName) → concerns name e ≡ false → left (and_then events e) name ≡ left events name
  left-kept name other = let none = untouched name e other in left-untouched events e name none.none_in none.none_filled none.none_off

  pub standing-kept : (order : Placed) → concerns order.name e ≡ false → standing (and_then events e) order ≡ standing events order
  standing-kept order other =
      let none = (untouched order.name e other).none_filled in
      let more = filled-more events e order.name in
      let same : filled (and_then events e) order.name ≡ filled events order.name = omega (arith, more, none) in
      ap (λ f. standing_at order f (left (and_then events e) order.name) (moment (and_then events e) order)) same
      ∙ ap (λ l. standing_at order (filled events order.name) l (moment (and_then events e) order)) (left-kept order.name other)
      ∙ ap (λ m. standing_at order (filled events order.name) (left events order.name) m) (moment-kept order (gives-none order (of_hour order.name.hour events) e other))

  module _ (contract : Contract) (side : Side) (found : Resting) where
    -- its record stays where it stands
    pub there-after : (there : StandsIn events contract side found) → concerns there.order.name e ≡ false
        → StandsIn (and_then events e) contract side found
    there-after there other = record {
      order = there.order;
      is_placed = picked-stays placed_by there.order events (e ∷ []) there.is_placed;
      is_left = ap (nat_lt 0) (left-kept there.order.name other) ∙ there.is_left;
      of_contract = there.of_contract;
      on_side = there.on_side;
      is = there.is ∙ ap resting_of (sym (standing-kept there.order other));
    }

    pub there-before : (there : StandsIn (and_then events e) contract side found) → IsIn there.order (placed events) → concerns there.order.name e ≡ false
        → StandsIn events contract side found
    there-before there was other = record {
      order = there.order;
      is_placed = was;
      is_left = ap (nat_lt 0) (sym (left-kept there.order.name other)) ∙ there.is_left;
      of_contract = there.of_contract;
      on_side = there.on_side;
      is = there.is ∙ ap resting_of (standing-kept there.order other);
    }
