-- An order that has just entered, as it takes.
use Rattle.std.proofs.Common.{◌≡◌, ◌∙◌, ℕ, zero, suc, ◌+◌, ◌<◌, true, List, [], ◌∷◌, length, nat_le, eq-eqb, if◌then◌else◌, sym, ap, arith}
use Rattle.std.proofs.lemmas.Bool.{and_parts, leb-true}
use Rattle.order_kinds.specs.declared.contract.Contract.{Contract}
use Rattle.order_kinds.specs.declared.contract.Part.{Part}
use Rattle.order_kinds.specs.declared.contract.Part.TheVariants as part
use Rattle.order_kinds.specs.declared.order.Order.{Order}
use Rattle.order_kinds.specs.declared.order.OrderName.{OrderName}
use Rattle.order_kinds.specs.Contract.{contract_at, is_known, part_number}
use Rattle.zone_graph.specs.Graph.{Graph}
use Rattle.zone_graph.specs.Pour.{lots_if}
use Rattle.market_model.specs.declared.event.Event.{Event}
use Rattle.market_model.specs.declared.event.Event.TheVariants as event
use Rattle.market_model.specs.Board.{BoardState}
use Rattle.market_model.specs.Entering.{name_of_next, with_order}
use Rattle.market_model.specs.History.{and_then, of_hour}
use Rattle.market_model.specs.Orders.{Placed, entered_by, filled, left, moment}
use Rattle.laws_of_market.proofs.Names.{names-once, order_name-new}
use Rattle.laws_of_market.proofs.Prices.{price-entered}
use Rattle.laws_of_market.proofs.States.{entered-more, filled-more, taken_off-more}
use Rattle.laws_of_market.proofs.Tests.{same_name-refl}
use Rattle.laws_of_market.proofs.Wholes.{new-untouched}
use Rattle.laws_of_market.proofs.LocalEntries.{with_order-agree}
use Rattle.laws_of_market.proofs.LocalMoments.{moment-more}
use Rattle.laws_of_market.proofs.LocalStates.{filled-agree, left-agree}
use Rattle.match_core.specs.declared.taker.Taker.{Taker}
use Rattle.match_core.specs.Takers.{price_at, taker_at, taker_of}
use Rattle.match_core.specs.Takings.{HasEntered}
use Rattle.kept_hour.proofs.PartNumbers.{part-of_number}
use Rattle.desk_entering.specs.Entries.{Enters, placed_next}
use Rattle.desk_entering.proofs.Entry as entries

-- ---- its price

pub price-fresh : (order : Order) (left : ℕ) → price_at order 0 left ≡ order.price
price-fresh order zero = price-entered order
price-fresh order (suc more) = price-entered order

-- ---- its part

pub part-low : (p : Part) → is_known p ≡ true → part_number p < 7
part-low part.Hour known = omega arith
part-low (part.Quarter number) known =
    let both = and_parts (nat_le 1 number) (nat_le number 4) known in
    let most = leb-true number 4 both.1 in omega (arith, most)
part-low (part.Half number) known =
    let both = and_parts (nat_le 1 number) (nat_le number 2) known in
    let most = leb-true number 2 both.1 in omega (arith, most)

pub contract-is : (contract : Contract) (hour : ℕ) → contract.hour ≡ hour → is_known contract.part ≡ true → contract ≡ contract_at hour (part_number contract.part)
contract-is contract hour in_hour known =
    let of : ℕ → Part → Contract = λ h p. record { hour = h; part = p } in
    ap (λ h. of h contract.part) in_hour ∙ ap (of hour) (sym (part-of_number contract.part known))

-- ---- what stands of it

module _ (graph : Graph) (hour : ℕ) (events : List Event) (caller : ℕ) (order : Order) (can : Enters graph hour events caller order) where
  abbrev name : OrderName
  name = name_of_next events order

  abbrev start : List Event
  start = with_order events caller order

  abbrev history : List Event
  history = entries.history graph hour events caller order can

  abbrev its : OrderName
  its = name_of_next history order

  abbrev entry : Event
  entry = event.Entered its caller order

  untouched : (filled (and_then history entry) its ≡ 0) × (left (and_then history entry) its ≡ order.quantity.0)
  untouched =
      let setup = entries.setup graph hour events caller order can in
      let fit = (entries.is_in graph hour events caller order can).fit in
      let enters = entries.enters_history graph hour events caller order can in
      let none = new-untouched setup history fit its (order_name-new setup history its caller order (names-once setup history fit) enters) in
      let more = filled-more history entry its in
      let entered : entered_by its entry ≡ order.quantity.0 = ap (λ b. lots_if b order.quantity.0) (same_name-refl its) in (
        omega (arith, more, none.1),
        rw (entered-more history entry its, filled-more history entry its, taken_off-more history entry its, entered) (omega arith),
      )

  none-filled : filled start name ≡ 0
  none-filled =
      let agree = entries.agree graph hour events caller order can in
      let in_hours = entries.in_hours graph hour events caller order can in
      let same = entries.same_name graph hour events caller order can in
      filled-agree (hour ∷ []) start (with_order history caller order) (with_order-agree (hour ∷ []) events history agree graph caller order in_hours) name in_hours
      ∙ ap (filled (with_order history caller order)) same ∙ untouched.0

  all-left : left start name ≡ order.quantity.0
  all-left =
      let agree = entries.agree graph hour events caller order can in
      let in_hours = entries.in_hours graph hour events caller order can in
      let same = entries.same_name graph hour events caller order can in
      left-agree (hour ∷ []) start (with_order history caller order) (with_order-agree (hour ∷ []) events history agree graph caller order in_hours) name in_hours
      ∙ ap (left (with_order history caller order)) same ∙ untouched.1

  abbrev own : Placed
  own = placed_next events caller order

  moment-new : of_hour hour events ≡ events → moment start own ≡ length events + 1
  moment-new whole =
      let entering : Event = event.Entered name caller order in
      moment-more hour events entering own (eq-eqb name.hour hour can.in_hour) can.in_hour
      ∙ ap (λ b. if b then length (of_hour hour events) + 1 else moment events own) (same_name-refl name)
      ∙ ap (λ es. length es + 1) whole

  -- what a taker has that was made of it
  pub fresh-is : of_hour hour events ≡ events → (taker : Taker) (number at : ℕ) → number ≡ name.number → at ≡ length events + 1
      → taker ≡ taker_at (record { name = record { hour = order.contract.hour; number = number }; caller = caller; order = order }) 0 order.quantity.0 at
      → taker ≡ taker_of start own
  fresh-is whole taker number at numbered at_end is =
      is
      ∙ ap (λ n. taker_at (record { name = record { hour = order.contract.hour; number = n }; caller = caller; order = order }) 0 order.quantity.0 at) numbered
      ∙ ap (taker_at own 0 order.quantity.0) (at_end ∙ sym (moment-new whole))
      ∙ ap (λ l. taker_at own 0 l (moment start own)) (sym all-left)
      ∙ ap (λ f. taker_at own f (left start name) (moment start own)) (sym none-filled)

  -- it has just entered
  pub has-entered : (board : BoardState) (part : ℕ) (taker : Taker) → board.events ≡ start → board.hour ≡ hour → part ≡ part_number order.contract.part
      → taker ≡ taker_of start own → HasEntered board part taker
  has-entered board part taker events_are hour_is part_is is =
      let contract = contract-is order.contract hour can.in_hour (entries.enters_here graph hour events caller order can).in_part in
      record {
        order = own;
        before = events;
        entry = record { is = events_are };
        of_part = contract ∙ ap (λ h. contract_at h (part_number order.contract.part)) (sym hour_is) ∙ ap (contract_at board.hour) (sym part_is);
        is = is ∙ ap (λ es. taker_of es own) (sym events_are);
      }
