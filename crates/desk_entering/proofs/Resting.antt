-- What may become of an order in hand once its taking has ended.
use Rattle.std.proofs.Common.{◌≡◌, ◌≢◌, ◌∙◌, inl, ℕ, zero, suc, ◌==◌, ◌<◌, ◌≤◌, ◌&&◌, true, false, not, List, [], ◌∷◌, ◌++◌, filter, length, nat_lt, Some, None, eq-eqb, refl, sym, ap, ap₂, subst, arith}
use Rattle.std.proofs.lemmas.Bool.{false_from_ne_true, lt-ltb, ltb-true}
use Rattle.std.proofs.lemmas.List.{append-nil}
use Rattle.order_kinds.specs.declared.contract.Contract.{Contract}
use Rattle.order_kinds.specs.declared.order.Kind.{Kind}
use Rattle.order_kinds.specs.declared.order.Kind.TheVariants as kind
use Rattle.order_kinds.specs.declared.order.Order.{Order}
use Rattle.order_kinds.specs.declared.order.OrderName.{OrderName}
use Rattle.order_kinds.specs.declared.price.Price.{Price}
use Rattle.order_kinds.specs.Contract.{part_number}
use Rattle.order_kinds.specs.Same.{same_name}
use Rattle.zone_graph.specs.Graph.{Graph}
use Rattle.zone_graph.specs.Route.{IsIn}
use Rattle.zone_graph.proofs.Membership.{IsIn-right, from_filter}
use Rattle.contract_book.specs.declared.resting.Resting.{Resting}
use Rattle.market_model.specs.declared.event.Event.{Event}
use Rattle.market_model.specs.declared.event.Event.TheVariants as event
use Rattle.market_model.specs.declared.setup.Setup.{Setup}
use Rattle.market_model.specs.Board.{IsHourOf, is_in_hand, resting_names}
use Rattle.market_model.specs.Entering.{after_taking, legs_taken, name_of_next, rest_of, rest_withdrawn, with_order}
use Rattle.market_model.specs.History.{and_then}
use Rattle.market_model.specs.Orders.{Placed, filled, is_open, left, moment, open_names, placed, placed_by, standing}
use Rattle.market_model.specs.Refusals.{desk_room, has_desk_room}
use Rattle.market_model.specs.WellFormed.{OrderEnters}
use Rattle.laws_of_market.proofs.Members.{IsIn-filter_map}
use Rattle.laws_of_market.proofs.Placed.{picked-stays}
use Rattle.laws_of_market.proofs.Repeats.{fit-more}
use Rattle.laws_of_market.proofs.LocalAnswers.{has_desk_room-agree, open_names-agree, open_names-hour}
use Rattle.laws_of_market.proofs.LocalEntries.{after_taking-agree}
use Rattle.laws_of_market.proofs.Restrict.{filter-same}
use Rattle.laws_of_maximum.proofs.Obtained.{fit-can_take}
use Rattle.laws_of_market.proofs.OpenNames.{few-rests, order-entry}
use Rattle.laws_of_market.proofs.Closing.{take-quiet}
use Rattle.laws_of_books.specs.BookOf.{book_of, contract_of, ice_of, resting_of}
use Rattle.laws_of_books.proofs.LineOrders.{StandsIn, in_resting}
use Rattle.laws_of_books.proofs.PartLines.{line_of-book}
use Rattle.contract_book.specs.Book.{line_of}
use Rattle.hour_store.specs.Contents.{IsOfPart}
use Rattle.match_core.specs.declared.taker.Taker.{Taker}
use Rattle.match_core.specs.Takers.{HasPeak}
use Rattle.match_core.proofs.Fills.{has_lots, price-left, shown-is}
use Rattle.kept_hour.specs.State.{CanBeNext, HourState, after_event, name_in, withdrawal_of, without_hand}
use Rattle.desk_entering.specs.Entries.{HasEnded, HasTaken, placed_next, rest_record}
use Rattle.desk_entering.proofs.Entry as entries

-- ---- what is withdrawn of an order

no-rest : (given : Kind) (name : OrderName) → rest_withdrawn given name 0 ≡ []
no-rest kind.Limit name = refl
no-rest kind.Ioc name = refl
no-rest kind.Fok name = refl
no-rest (kind.Iceberg peak delta) name = refl

some-rest : (name : OrderName) (rest : ℕ) → 0 < rest → rest_withdrawn kind.Ioc name rest ≡ event.Withdrawn name rest ∷ []
some-rest name zero some = absurd (omega arith)
some-rest name (suc more) some = refl

-- something is left of a taker
pub is-left : (taker : Taker) → taker.left ≢ 0 → 0 < taker.left
is-left taker some = go taker.left refl
  where
    go : (n : ℕ) → taker.left ≡ n → 0 < taker.left
    go zero is = absurd (some is)
    go (suc more) is = omega (arith, is)

module _ (hour : HourState) (caller : ℕ) (order : Order) (taker : Taker) (taken : HasTaken hour caller order taker) where
  abbrev graph : Graph
  graph = hour.board.grid

  abbrev name : OrderName
  name = name_of_next hour.settled order

  abbrev own : Placed
  own = placed_next hour.settled caller order

  abbrev after : List Event
  after = after_taking graph hour.settled caller order

  abbrev rest : ℕ
  rest = rest_of graph hour.settled caller order

  pub left-is : taker.left ≡ rest
  left-is = ap (λ (t : Taker). t.left) taken.is ∙ ap (λ es. left es name) taken.events

  pub some-left : taker.left ≢ 0 → 0 < rest
  some-left some = let least = is-left taker some in let same = left-is in omega (arith, same, least)

  pub name-is : (number : ℕ) → hour.board.hand ≡ Some number → name_in hour number ≡ name
  name-is number held =
      let of : ℕ → ℕ → OrderName = λ h n. record { hour = h; number = n } in
      let both : Some number ≡ Some name.number = sym held ∙ taken.in_hand in
      let same : number ≡ name.number = cc in
      ap (of hour.board.hour) same ∙ ap (λ h. of h name.number) (sym taken.enters.in_hour)

  -- ---- nothing is left

  pub closed : taker.left ≡ 0 → (number : ℕ) → hour.board.hand ≡ Some number → is_open hour.board.events (name_in hour number) ≡ false
  closed none number held =
      ap (is_open hour.board.events) (name-is number held)
      ∙ ap (nat_lt 0) (sym (ap (λ (t : Taker). t.left) taken.is) ∙ none)

  ended-bare : rest_withdrawn order.kind name rest ≡ [] → HasEnded (without_hand hour) caller order
  ended-bare none = record {
    has_parts = taken.has_parts;
    enters = taken.enters;
    events = taken.events ∙ sym (append-nil after) ∙ ap (λ es. after ++ es) (sym none);
    no_hand = refl;
  }

  pub ended-filled : taker.left ≡ 0 → HasEnded (without_hand hour) caller order
  ended-filled none = ended-bare (ap (rest_withdrawn order.kind name) (sym left-is ∙ none) ∙ no-rest order.kind name)

  -- ---- an immediate-or-cancel order's rest is withdrawn

  pub can-withdraw : taker.left ≢ 0 → (number : ℕ) → hour.board.hand ≡ Some number → CanBeNext hour (withdrawal_of hour number taker.left)
  can-withdraw some number held =
      let least = some-left some in
      subst (λ n. IsHourOf graph hour.board.hour (and_then hour.board.events (event.Withdrawn n taker.left))) (sym (name-is number held))
      (subst (λ es. IsHourOf graph hour.board.hour (and_then es (event.Withdrawn name taker.left))) (sym taken.events)
      (entries.withdrawal_follows graph hour.board.hour hour.settled caller order taken.enters taker.left left-is (let same = left-is in omega (arith, same, least))))

  pub ended-withdrawn : order.kind ≡ kind.Ioc → taker.left ≢ 0 → (number : ℕ) → hour.board.hand ≡ Some number
      → HasEnded (after_event hour (withdrawal_of hour number taker.left) None) caller order
  ended-withdrawn is some number held = record {
    has_parts = taken.has_parts;
    enters = taken.enters;
    events =
        ap (λ n. and_then hour.board.events (event.Withdrawn n taker.left)) (name-is number held)
        ∙ ap (λ lots. and_then hour.board.events (event.Withdrawn name lots)) left-is
        ∙ ap (λ es. and_then es (event.Withdrawn name rest)) taken.events
        ∙ ap (λ es. after ++ es) (sym (ap (λ given. rest_withdrawn given name rest) is ∙ some-rest name rest (some-left some)));
    no_hand = refl;
  }

  -- ---- what is left comes to rest

  -- the record with which it does is that of the order as it stands
  record-is : 0 < taker.left → rest_record caller taker ≡ resting_of (standing hour.board.events own)
  record-is some =
      let es : List Event = hour.board.events in
      let of : Price → ℕ → Resting = λ price shown. record {
        number = name.number;
        caller = caller;
        zone = order.zone;
        side = order.side;
        price = price;
        left = left es name;
        shown = shown;
        moment = moment es own;
        ice = ice_of order (filled es name);
      } in
      let left_some : 0 < left es name = subst (λ (t : Taker). 0 < t.left) taken.is some in
      ap (rest_record caller) taken.is ∙ ap₂ of (price-left order (filled es name) (left es name) left_some) (shown-is own (filled es name) (left es name))

  there : IsIn own (placed hour.board.events)
  there =
      let entry : Event = event.Entered name caller order in
      subst (λ es. IsIn own (placed es)) (sym taken.events)
      (picked-stays placed_by own (with_order hour.settled caller order) (legs_taken graph hour.settled caller order)
      (IsIn-filter_map placed_by entry own (with_order hour.settled caller order) (IsIn-right entry hour.settled (entry ∷ []) (inl refl)) refl))

  pub enters_here : OrderEnters (entries.setup graph hour.board.hour hour.settled caller order taken.enters) hour.settled name caller order
  enters_here = entries.enters_here graph hour.board.hour hour.settled caller order taken.enters

  pub rests-there : 0 < taker.left → IsOfPart (book_of hour.board.events hour.board.hour) (part_number order.contract.part) (rest_record caller taker)
  rests-there some =
      let es : List Event = hour.board.events in
      let opened : is_open es name ≡ true = lt-ltb 0 (left es name) (subst (λ (t : Taker). 0 < t.left) taken.is some) in
      let of : ℕ → Contract = λ h. record { hour = h; part = order.contract.part } in
      let stands : StandsIn es (contract_of hour.board.hour order.contract.part) order.side (rest_record caller taker) = record {
        order = own;
        is_placed = there;
        is_left = opened;
        of_contract = ap of taken.enters.in_hour;
        on_side = refl;
        is = record-is some;
      } in
      let in_line = in_resting es (contract_of hour.board.hour order.contract.part) order.side (rest_record caller taker) stands in
      let side : order.side ≡ taker.side = sym (ap (λ (t : Taker). t.side) taken.is) in
      subst (λ s. IsIn (rest_record caller taker) (line_of (book_of es hour.board.hour) (part_number order.contract.part) s)) side
      (subst (IsIn (rest_record caller taker)) (sym (line_of-book es hour.board.hour order.contract.part order.side enters_here.in_part)) in_line)

  -- ---- it has a peak, if it is an iceberg

  pub has-peak : HasPeak taker
  has-peak =
      let own_entry = entries.next_event graph hour.board.hour hour.settled caller order taken.enters in
      let entered = fit-more own_entry.setup own_entry.history (event.Entered name caller order) own_entry.fit own_entry.fits in
      let entry : Event = event.Entered name caller order in
      let is_there : IsIn own (placed (and_then own_entry.history entry)) =
      IsIn-filter_map placed_by entry own (and_then own_entry.history entry) (IsIn-right entry own_entry.history (entry ∷ []) (inl refl)) refl in
      subst HasPeak (sym taken.is)
      (has_lots own (filled hour.board.events name) ((fit-can_take own_entry.setup (and_then own_entry.history entry) entered).peaks own is_there))

  -- ---- how many rest

  -- those that rest are those that are open beside it
  resting-are : resting_names hour.board ≡ filter (λ other. not (same_name other name)) (open_names hour.board.events name.hour)
  resting-are =
      filter-same (λ other. not (is_in_hand hour.board.hand other)) (λ other. not (same_name other name)) (open_names hour.board.events hour.board.hour)
      (λ other i.
      let its : other.hour ≡ name.hour =
      open_names-hour hour.board.events hour.board.hour other (from_filter (is_open hour.board.events) other _ i).0 ∙ sym taken.enters.in_hour in
      ap (λ hand. not (is_in_hand hand other)) taken.in_hand
      ∙ ap (λ b. not (b && (other.number == name.number))) (sym (eq-eqb other.hour name.hour its)))
      ∙ ap (λ h. filter (λ other. not (same_name other name)) (open_names hour.board.events h)) (sym taken.enters.in_hour)

  pub room-is : nat_lt (length (resting_names hour.board)) desk_room ≡ has_desk_room after name
  room-is = ap (λ names. nat_lt (length names) desk_room) resting-are ∙ ap (λ es. has_desk_room es name) taken.events

  pub has-room : (resting : ℕ) → resting ≡ length (resting_names hour.board) → resting < 4096 → has_desk_room after name ≡ true
  has-room resting is less = sym room-is ∙ lt-ltb (length (resting_names hour.board)) desk_room (omega (arith, is, less))

  pub no-room : (resting : ℕ) → resting ≡ length (resting_names hour.board) → 4096 ≤ resting → has_desk_room after name ≡ false
  no-room resting is most =
      false_from_ne_true (has_desk_room after name) (λ room.
      let less = ltb-true (length (resting_names hour.board)) desk_room (room-is ∙ room) in omega (arith, is, most, less))

  -- with room, no more are open than the desk has room for
  pub few-open : has_desk_room after name ≡ true → length (open_names hour.board.events hour.board.hour) ≤ desk_room
  few-open room =
      let h : ℕ = hour.board.hour in
      let hours : List ℕ = h ∷ [] in
      let enters = taken.enters in
      let history : List Event = entries.history graph h hour.settled caller order enters in
      let setup : Setup = entries.setup graph h hour.settled caller order enters in
      let agree = entries.agree graph h hour.settled caller order enters in
      let in_hours = entries.in_hours graph h hour.settled caller order enters in
      let same = entries.same_name graph h hour.settled caller order enters in
      let fit = (entries.is_in graph h hour.settled caller order enters).fit in
      let its : OrderName = name_of_next history order in
      let entry : Event = event.Entered its caller order in
      let legs : List Event = legs_taken graph history caller order in
      let agree_after = after_taking-agree hours hour.settled history agree graph caller order in_hours in
      let room_there : has_desk_room (and_then history entry ++ legs) its ≡ true =
      sym (has_desk_room-agree hours after (after_taking graph history caller order) agree_after its in_hours) ∙ sym (ap (has_desk_room after) same) ∙ room in
      let few_there : length (open_names history h) ≤ desk_room = subst (λ names. length names ≤ desk_room) (open_names-agree hours hour.settled history agree h (inl refl)) taken.few in
      let few = few-rests history its entry (order-entry setup history fit its caller order (entries.enters_history graph h hour.settled caller order enters))
      h legs [] (take-quiet graph (with_order history caller order) its) (λ e i. absurd i) room_there few_there in
      let bare : length (open_names (after_taking graph history caller order) h) ≤ desk_room = subst (λ es. length (open_names es h) ≤ desk_room) (append-nil (after_taking graph history caller order)) few in
      subst (λ es. length (open_names es h) ≤ desk_room) (sym taken.events)
      (subst (λ names. length names ≤ desk_room) (sym (open_names-agree hours after (after_taking graph history caller order) agree_after h (inl refl))) bare)
