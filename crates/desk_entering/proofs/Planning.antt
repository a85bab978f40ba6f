-- What is planned of an order that enters, step by step.
use Rattle.std.proofs.Common.{◌≡◌, ◌∙◌, inl, ℕ, ◌+◌, ◌<◌, ◌≤◌, [], ◌∷◌, ◌++◌, append_assoc, List, length, not, filter, Option, Some, None, Result, Ok, Err, IfOk, OnOk, refl, sym, ap, subst, arith}
use Rattle.order_kinds.specs.declared.contract.Part.{Part}
use Rattle.order_kinds.specs.declared.order.Order.{Order}
use Rattle.order_kinds.specs.declared.order.OrderName.{OrderName}
use Rattle.order_kinds.specs.Contract.{part_number}
use Rattle.zone_graph.specs.declared.memory.NoMemory.{NoMemory}
use Rattle.zone_graph.specs.Graph.{Graph}
use Rattle.zone_graph.specs.Route.{IsIn}
use Rattle.zone_graph.proofs.Membership.{IsIn-right}
use Rattle.market_model.specs.declared.event.Event.{Event}
use Rattle.market_model.specs.declared.event.Event.TheVariants as event
use Rattle.market_model.specs.Board.{BoardState, IsBoard, IsHourOf, is_in_hand, with_events}
use Rattle.market_model.specs.Entering.{after_taking, enter, name_of_next, with_order}
use Rattle.market_model.specs.History.{and_then, of_hour}
use Rattle.market_model.specs.Orders.{Placed, next_name, open_names, placed, placed_by}
use Rattle.market_model.specs.Refusals.{desk_room}
use Rattle.market_model.specs.Sweep.{all_parts, sweep}
use Rattle.laws_of_market.proofs.Members.{IsIn-filter_map}
use Rattle.match_core.specs.declared.taker.Taker.{Taker}
use Rattle.match_core.specs.Takers.{taker_at, taker_of}
use Rattle.match_core.specs.Takings.{HasEntered}
use Rattle.match_core.specs.Takings as takings
use Rattle.match_core.proofs.Orders.{hour-whole}
use Rattle.sweep_core.specs.Sweeping.{hour_sweep, swept}
use Rattle.kept_hour.specs.Planned.{IsUnplanned, with_planned}
use Rattle.kept_hour.specs.State.{CanBeNext, HourState, after_event, entry_of, with_board, with_hand}
use Rattle.kept_hour.proofs.Entering.{free-count}
use Rattle.desk_entering.specs.Entries.{Enters, HasEnded, HasTaken, IsSettledAs, ended_events, placed_next}
use Rattle.desk_entering.proofs.Entry as entries
use Rattle.desk_entering.proofs.Fresh.{fresh-is, has-entered, part-low}
use Rattle.desk_entering.proofs.Parts.{ended-is, own_events}

-- ---- the hour as it is settled

pub settled-then : (old mid new : HourState) → IsSettledAs old mid → IsSettledAs mid new → IsSettledAs old new
settled-then old mid new first second = second ∙ first

-- ---- entry and taking

-- no more are open than an hour without an order in hand has room for
pub few-settled : (hour : HourState) → IsUnplanned hour → IsBoard hour.board → length (open_names hour.settled hour.board.hour) ≤ desk_room
few-settled hour is is_board =
    let all = free-count hour.board.events hour.board.hour in
    let few : length (filter (λ name. not (is_in_hand None name)) (open_names hour.board.events hour.board.hour)) ≤ desk_room =
    subst (λ hand. length (filter (λ name. not (is_in_hand hand name)) (open_names hour.board.events hour.board.hour)) ≤ desk_room) is.free is_board.few in
    subst (λ es. length (open_names es hour.board.hour) ≤ desk_room) is.events (omega (arith, all, few))

module _ (old : HourState) (caller : ℕ) (order : Order) (unplanned : IsUnplanned old)
    (can : Enters old.board.grid old.board.hour old.settled caller order) where
  abbrev name : OrderName
  name = name_of_next old.settled order

  -- the entry under the next number of the hour is that of the market
  pub entry-is : entry_of old caller order ≡ event.Entered name caller order
  entry-is =
      ap (λ es. event.Entered (next_name es old.board.hour) caller order) unplanned.events
      ∙ ap (λ h. event.Entered (next_name old.settled h) caller order) (sym can.in_hour)

  pub number-is : (number : ℕ) → number ≡ (next_name old.board.events old.board.hour).number → number ≡ name.number
  number-is number is =
      is ∙ ap (λ es. (next_name es old.board.hour).number) unplanned.events ∙ ap (λ h. (next_name old.settled h).number) (sym can.in_hour)

  pub can-be-next : CanBeNext old (entry_of old caller order)
  can-be-next =
      subst (λ e. IsHourOf old.board.grid old.board.hour (and_then old.board.events e)) (sym entry-is)
      (subst (λ es. IsHourOf old.board.grid old.board.hour (and_then es (event.Entered name caller order))) (sym unplanned.events) can.next)

  pub events-entered : and_then old.board.events (entry_of old caller order) ≡ with_order old.settled caller order
  events-entered =
      ap (λ e. and_then old.board.events e) entry-is ∙ ap (λ es. and_then es (event.Entered name caller order)) unplanned.events

  -- it has taken
  module _ (number : ℕ) (entered now : HourState) (taker rest : Taker) (parts : 7 ≤ old.board.parts) (is_board : IsBoard old.board)
      (is_entered : entered ≡ after_event old (entry_of old caller order) (Some number)) (numbered : number ≡ name.number) (named : taker.name ≡ name)
      (made : now.board ≡ takings.after_taking entered.board taker.name) (kept : now.settled ≡ entered.settled)
      (is : rest ≡ taker_of now.board.events (placed_next old.settled caller order)) where
    board-is : now.board ≡ with_events (with_hand old.board (Some name.number)) (after_taking old.board.grid old.settled caller order)
    board-is =
        let of : HourState → OrderName → BoardState = λ h n. takings.after_taking h.board n in
        let at : List Event → ℕ → BoardState = λ es n. takings.after_taking (with_events (with_hand old.board (Some n)) es) name in
        made ∙ ap (λ h. of h taker.name) is_entered ∙ ap (of (after_event old (entry_of old caller order) (Some number))) named
        ∙ ap (λ es. at es number) events-entered ∙ ap (at (with_order old.settled caller order)) numbered

    settled-is : now.settled ≡ old.settled
    settled-is = kept ∙ ap (λ (h : HourState). h.settled) is_entered

    pub has-taken : HasTaken now caller order rest
    has-taken = record {
      has_parts = subst (λ (b : BoardState). 7 ≤ b.parts) (sym board-is) parts;
      enters = subst (λ s. Enters now.board.grid now.board.hour s caller order) (sym settled-is)
          (subst (λ (b : BoardState). Enters b.grid b.hour old.settled caller order) (sym board-is) can);
      few = subst (λ s. length (open_names s now.board.hour) ≤ desk_room) (sym settled-is)
          (subst (λ (b : BoardState). length (open_names old.settled b.hour) ≤ desk_room) (sym board-is) (few-settled old unplanned is_board));
      events = subst (λ s. now.board.events ≡ after_taking now.board.grid s caller order) (sym settled-is)
          (subst (λ (b : BoardState). b.events ≡ after_taking b.grid old.settled caller order) (sym board-is) refl);
      in_hand = ap (λ (b : BoardState). b.hand) board-is ∙ ap (λ s. Some (name_of_next s order).number) (sym settled-is);
      is = is ∙ ap (λ s. taker_of now.board.events (placed_next s caller order)) (sym settled-is);
    }

  -- an order that has entered is in hand, and has just entered
  module _ (number at part : ℕ) (entered : HourState) (taker : Taker) (is_board : IsBoard old.board)
      (is_entered : entered ≡ after_event old (entry_of old caller order) (Some number))
      (numbered : number ≡ (next_name old.board.events old.board.hour).number) (at_end : at ≡ length old.board.events + 1)
      (part_is : part ≡ part_number order.contract.part)
      (fresh : taker ≡ taker_at (record { name = record { hour = order.contract.hour; number = number }; caller = caller; order = order }) 0 order.quantity.0 at) where
    abbrev own : Placed
    own = placed_next old.settled caller order

    pub in-hand : entered.board.hand ≡ Some taker.name.number
    in-hand = ap (λ (h : HourState). h.board.hand) is_entered ∙ ap (λ (t : Taker). Some t.name.number) (sym fresh)

    pub in-part : 7 ≤ old.board.parts → part < entered.board.parts
    in-part parts =
        let low = part-low order.contract.part (entries.enters_here old.board.grid old.board.hour old.settled caller order can).in_part in
        let same = ap (λ (h : HourState). h.board.parts) is_entered in
        omega (arith, low, same, part_is, parts)

    events-are : entered.board.events ≡ with_order old.settled caller order
    events-are = ap (λ (h : HourState). h.board.events) is_entered ∙ events-entered

    taker-is : taker ≡ taker_of (with_order old.settled caller order) own
    taker-is =
        let whole : of_hour old.board.hour old.settled ≡ old.settled = subst (λ es. of_hour old.board.hour es ≡ es) unplanned.events (hour-whole old.board is_board) in
        fresh-is old.board.grid old.board.hour old.settled caller order can whole taker number at (number-is number numbered)
        (at_end ∙ ap (λ es. length es + 1) unplanned.events) fresh

    pub just-entered : HasEntered entered.board part taker
    just-entered =
        has-entered old.board.grid old.board.hour old.settled caller order can entered.board part taker events-are (ap (λ (h : HourState). h.board.hour) is_entered) part_is taker-is

    there : IsIn own (placed entered.board.events)
    there =
        let entry : Event = event.Entered name caller order in
        subst (λ es. IsIn own (placed es)) (sym events-are)
        (IsIn-filter_map placed_by entry own (with_order old.settled caller order) (IsIn-right entry old.settled (entry ∷ []) (inl refl)) refl)

    -- and once it has taken
    pub after-take : (now : HourState) (result : Result Taker NoMemory) → 7 ≤ old.board.parts
        → OnOk result (now.board ≡ takings.after_taking entered.board taker.name) → now.settled ≡ entered.settled
        → IfOk result (λ rest. (other : Placed) → IsIn other (placed entered.board.events) → other.name ≡ taker.name → rest ≡ taker_of now.board.events other)
        → IfOk result (λ rest. HasTaken now caller order rest)
    after-take now (Ok rest) parts made kept is =
        let named : taker.name ≡ name = ap (λ (t : Taker). t.name) taker-is in
        has-taken number entered now taker rest parts is_board is_entered (number-is number numbered) named made kept (is own there (sym named))
    after-take now (Err error) parts made kept is = tt

-- ---- the sweep

-- what an order plans: what it does until its taking has ended, and the sweep
enter-is : (parts : List Part) (graph : Graph) (events : List Event) (caller : ℕ) (order : Order)
    → ended_events graph events caller order ++ sweep parts graph order.contract.hour (ended_events graph events caller order)
    ≡ events ++ enter parts graph caller order events
unfolding enter
enter-is parts graph events caller order =
    let done : List Event = own_events graph events caller order in
    ap (λ es. es ++ sweep parts graph order.contract.hour es) (ended-is graph events caller order)
    ∙ append_assoc events done (sweep parts graph order.contract.hour (events ++ done))

-- what is planned in all
pub planned-is : (old mid new : HourState) (caller : ℕ) (order : Order) → IsSettledAs old mid → HasEnded mid caller order → new ≡ with_board mid (swept mid.board)
    → new ≡ with_planned old (enter all_parts old.board.grid caller order old.settled)
planned-is old mid new caller order kept ended is =
    let ended_es : List Event = ended_events mid.board.grid mid.settled caller order in
    let of : List Event → Option ℕ → HourState = λ es hand. with_board mid (with_hand (with_events mid.board es) hand) in
    let whole : mid.board.events ++ hour_sweep mid.board ≡ mid.settled ++ enter all_parts mid.board.grid caller order mid.settled =
    ap (λ es. es ++ sweep all_parts mid.board.grid mid.board.hour es) ended.events
    ∙ ap (λ h. ended_es ++ sweep all_parts mid.board.grid h ended_es) (sym ended.enters.in_hour)
    ∙ enter-is all_parts mid.board.grid mid.settled caller order in
    is
    ∙ ap (λ es. of es mid.board.hand) whole
    ∙ ap (of (mid.settled ++ enter all_parts mid.board.grid caller order mid.settled)) ended.no_hand
    ∙ ap (λ (h : HourState). with_planned h (enter all_parts h.board.grid caller order h.settled)) kept
