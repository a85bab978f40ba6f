-- What a board says of the order in hand that takes on it.
use Rattle.std.proofs.Common.{◌≡◌, ◌∙◌, inl, inr, ℕ, ◌==◌, ◌+◌, ◌<◌, ◌&&◌, Bool, true, false, not, List, [], ◌∷◌, ◌++◌, filter, length, length-append, Some, eq-eqb, eqb-true, refl, sym, ap, subst, if◌then◌else◌}
use Rattle.std.proofs.lemmas.Bool.{and_from, and_parts, lt-ltb}
use Rattle.order_kinds.specs.declared.contract.Contract.{Contract}
use Rattle.order_kinds.specs.declared.order.OrderName.{OrderName}
use Rattle.order_kinds.specs.declared.side.Side.{Side}
use Rattle.order_kinds.specs.declared.side.Side.TheVariants.{Buy, Sell}
use Rattle.order_kinds.specs.Contract.{contract_at}
use Rattle.order_kinds.specs.Same.{same_name}
use Rattle.order_kinds.specs.Side.{opposite}
use Rattle.zone_graph.specs.Graph.{Graph, HasZone}
use Rattle.zone_graph.specs.Route.{IsIn}
use Rattle.zone_graph.proofs.Finding.{find-IsIn, from_find}
use Rattle.zone_graph.proofs.Membership.{IsIn-right}
use Rattle.contract_book.specs.Resting.{IsSound}
use Rattle.market_model.specs.declared.event.Event.{Event}
use Rattle.market_model.specs.declared.event.Event.TheVariants as event
use Rattle.market_model.specs.Board.{BoardState, IsBoard, IsHourOf, is_in_hand, resting_line}
use Rattle.market_model.specs.History.{and_then, of_hour, touches}
use Rattle.market_model.specs.Lines.{line}
use Rattle.market_model.specs.Orders.{Placed, Standing, is_open, left, moment, open_order, placed, placed_by, standing}
use Rattle.laws_of_market.proofs.Members.{IsIn-filter_map}
use Rattle.laws_of_market.proofs.Placed.{OrderIsSound, all_are_sound}
use Rattle.laws_of_market.proofs.Tests.{same_name-eq, same_name-refl}
use Rattle.laws_of_market.proofs.Trades.{from_line}
use Rattle.laws_of_market.proofs.Unique.{one_order}
use Rattle.laws_of_market.proofs.LocalLines.{placed-named, standing-agree}
use Rattle.laws_of_market.proofs.LocalMoments.{hour-more, moment-more}
use Rattle.laws_of_market.proofs.Restrict.{filter-filter}
use Rattle.laws_of_market.proofs.LocalStates.{Agree, is_open-agree}
use Rattle.laws_of_maximum.proofs.CrossingPeaks.{HasPeaks}
use Rattle.laws_of_maximum.proofs.Obtained.{fit-can_take}
use Rattle.laws_of_maximum.proofs.Takers.{CanTake}
use Rattle.laws_of_books.specs.BookOf.{resting_of}
use Rattle.laws_of_books.proofs.LineOrders.{same_names}
use Rattle.laws_of_books.proofs.SoundRecords.{record-sound}
use Rattle.laws_of_boards.specs.Takers.{EndsWithEntry}
use Rattle.laws_of_boards.proofs.Shared.{board-agrees, placed-shared}
use Rattle.match_core.specs.declared.taker.Taker.{Taker}
use Rattle.match_core.specs.Takings.{HasEntered}
use Rattle.match_core.specs.Walks.{TakesOn}

-- a filter that all pass
filter-all : {X : Type 0} (p : X → Bool) (xs : List X) → ((x : X) → IsIn x xs → p x ≡ true) → filter p xs ≡ xs
filter-all p [] all = refl
filter-all p (x ∷ xs) all = rw (all x (inl refl)) (ap (λ ys. x ∷ ys) (filter-all p xs (λ y i. all y (inr i))))

-- the events of a board are those of its hour
pub hour-whole : (board : BoardState) → IsBoard board → of_hour board.hour board.events ≡ board.events
hour-whole board is_board =
    let whole = is_board.stands in
    ap (of_hour board.hour) (sym whole.in_hour)
    ∙ filter-filter (touches board.hour) (touches board.hour) whole.history (λ e i own. own)
    ∙ whole.in_hour

side-opposite : (side : Side) → side ≡ opposite side → ⊥
side-opposite Buy e = cc
side-opposite Sell e = cc

module _ (board : BoardState) (part : ℕ) (order : Placed) (takes : TakesOn board part order) where
  abbrev whole : IsHourOf board.grid board.hour board.events
  whole = takes.is_board.stands

  abbrev hours : List ℕ
  hours = board.hour ∷ []

  pub agree : Agree hours board.events whole.history
  agree = board-agrees board takes.is_board

  pub its-hour : order.name.hour ≡ board.hour
  its-hour = placed-named board.events agree.named_a order takes.there ∙ ap (λ (c : Contract). c.hour) takes.of_part

  pub contract-hour : order.order.contract.hour ≡ board.hour
  contract-hour = ap (λ (c : Contract). c.hour) takes.of_part

  pub there-whole : IsIn order (placed whole.history)
  there-whole = placed-shared board.hour board.events whole.history agree order its-hour takes.there

  pub can-take : CanTake whole.history
  can-take = fit-can_take whole.setup whole.history whole.fit

  sound : OrderIsSound whole.setup order
  sound = (all_are_sound whole.setup whole.history whole.fit).orders order there-whole

  pub in-zone : HasZone board.grid order.order.zone
  in-zone = subst (λ (g : Graph). HasZone g order.order.zone) whole.over_grid sound.in_zone

  pub has-peaks : HasPeaks order.order.kind
  has-peaks = can-take.peaks order there-whole

  pub standing-whole : standing board.events order ≡ standing whole.history order
  standing-whole = standing-agree hours board.events whole.history agree order (inl its-hour)

  -- its record, while something is left of it
  pub record-is-sound : 0 < left board.events order.name → IsSound (resting_of (standing board.events order))
  record-is-sound some =
      subst (λ (s : Standing). IsSound (resting_of s)) (sym standing-whole)
      (record-sound whole.setup whole.history whole.fit order there-whole
      (sym (is_open-agree hours board.events whole.history agree order.name (inl its-hour)) ∙ lt-ltb 0 (left board.events order.name) some))

  -- an order of the hour that has its name is it
  pub one-name : (other : Placed) → IsIn other (placed board.events) → other.name ≡ order.name → other ≡ order
  one-name other there same =
      one_order whole.history can-take.names other order
      (placed-shared board.hour board.events whole.history agree other (ap (λ (n : OrderName). n.hour) same ∙ its-hour) there) there-whole same

  -- it is found while something is left of it
  pub open-found : 0 < left board.events order.name → open_order board.events order.name ≡ Some order
  open-found some =
      let test : Placed → Bool = λ o. same_name o.name order.name && is_open board.events o.name in
      let passes : test order ≡ true = and_from (same_name order.name order.name) (is_open board.events order.name) (same_name-refl order.name) (lt-ltb 0 (left board.events order.name) some) in
      let found = find-IsIn test (placed board.events) order takes.there passes in
      let from = from_find test found.0 (placed board.events) found.1 in
      let its = (and_parts (same_name found.0.name order.name) (is_open board.events found.0.name) from.1).0 in
      found.1 ∙ ap Some (one-name found.0 from.0 (same_name-eq found.0.name order.name its))

  -- the hour of an order of a line of the part
  pub line-hour : (side : Side) (other : Standing) → IsIn other (line board.events (contract_at board.hour part) side) → other.name.hour ≡ board.hour
  line-hour side other i =
      let its = from_line board.events (contract_at board.hour part) side other i in
      ap (λ (s : Standing). s.name.hour) its.is
      ∙ placed-named board.events agree.named_a its.order its.is_open.is_placed ∙ ap (λ (c : Contract). c.hour) its.of_contract

  -- and its zone
  pub line-zone : (side : Side) (other : Standing) → IsIn other (line board.events (contract_at board.hour part) side) → HasZone board.grid other.order.zone
  line-zone side other i =
      let its = from_line board.events (contract_at board.hour part) side other i in
      let hour : its.order.name.hour ≡ board.hour = sym (ap (λ (s : Standing). s.name.hour) its.is) ∙ line-hour side other i in
      let its_sound = (all_are_sound whole.setup whole.history whole.fit).orders its.order
      (placed-shared board.hour board.events whole.history agree its.order hour its.is_open.is_placed) in
      subst (λ (s : Standing). HasZone board.grid s.order.zone) (sym its.is)
      (subst (λ (g : Graph). HasZone g its.order.order.zone) whole.over_grid its_sound.in_zone)

  -- all of the opposite line rest
  pub line-rests : resting_line board part (opposite order.order.side) ≡ line board.events (contract_at board.hour part) (opposite order.order.side)
  line-rests = filter-all rests (line board.events (contract_at board.hour part) (opposite order.order.side)) each
    where
      rests : Standing → Bool
      rests other = not (is_in_hand board.hand other.name)

      each : (other : Standing) → IsIn other (line board.events (contract_at board.hour part) (opposite order.order.side)) → not (is_in_hand board.hand other.name) ≡ true
      each other i = ap (λ hand. not (is_in_hand hand other.name)) takes.in_hand ∙ go (other.name.number == order.name.number) refl
        where
          go : (b : Bool) → (other.name.number == order.name.number) ≡ b → not b ≡ true
          go false e = refl
          go true e =
              let its = from_line board.events (contract_at board.hour part) (opposite order.order.side) other i in
              let name : other.name ≡ order.name = same_names other.name order.name (line-hour (opposite order.order.side) other i ∙ sym its-hour) (eqb-true other.name.number order.name.number e) in
              let same : its.order ≡ order = one-name its.order its.is_open.is_placed (sym (ap (λ (s : Standing). s.name) its.is) ∙ name) in
              absurd (side-opposite order.order.side (sym (ap (λ (p : Placed). p.order.side) same) ∙ its.on_side))

-- ---- an order that has just entered

pub entered-there : (before events : List Event) (order : Placed) → EndsWithEntry before events order → IsIn order (placed events)
entered-there before events order entry =
    subst (λ es. IsIn order (placed es)) (sym entry.is)
    (IsIn-filter_map placed_by (event.Entered order.name order.caller order.order) order (and_then before (event.Entered order.name order.caller order.order))
    (IsIn-right (event.Entered order.name order.caller order.order) before (event.Entered order.name order.caller order.order ∷ []) (inl refl)) refl)

-- its moment is its place
pub entered-moment : (board : BoardState) → IsBoard board → (before : List Event) (order : Placed) → EndsWithEntry before board.events order
    → order.name.hour ≡ board.hour → moment board.events order ≡ length board.events
entered-moment board is_board before order entry same =
    let entering : Event = event.Entered order.name order.caller order.order in
    let touched : touches board.hour entering ≡ true = eq-eqb order.name.hour board.hour same in
    let named : same_name order.name order.name ≡ true = same_name-refl order.name in
    let here : moment (and_then before entering) order ≡ length (of_hour board.hour before) + 1 =
    moment-more board.hour before entering order touched same
    ∙ ap (λ b. if b then length (of_hour board.hour before) + 1 else moment before order) named in
    let all : of_hour board.hour before ++ entering ∷ [] ≡ board.events =
    sym (hour-more board.hour before entering touched) ∙ ap (of_hour board.hour) (sym entry.is) ∙ hour-whole board is_board in
    ap (λ es. moment es order) entry.is ∙ here ∙ sym (length-append (of_hour board.hour before) (entering ∷ [])) ∙ ap length all

-- it is in hand, and takes
pub takes-start : (board : BoardState) (part : ℕ) (taker : Taker) → part < board.parts → board.hand ≡ Some taker.name.number → (entered : HasEntered board part taker)
    → IsBoard board → TakesOn board part entered.order
takes-start board part taker in_part in_hand entered is_board = record {
  is_board = is_board;
  in_part = in_part;
  there = entered-there entered.before board.events entered.order entered.entry;
  of_part = entered.of_part;
  in_hand = in_hand ∙ ap (λ (t : Taker). Some t.name.number) entered.is;
}
