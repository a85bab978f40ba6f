-- Where a walk along a line of a board stands, and a list of rows in its course.
use Rattle.std.proofs.Common.{◌≡◌, ◌∙◌, ℕ, zero, suc, ◌+◌, ◌-◌, ◌<◌, ◌≤◌, List, [], ◌∷◌, ◌++◌, drop, length, min, Option, Some, None, append_assoc, refl, sym, ap, subst, arith}
use Rattle.std.proofs.lemmas.List.{append-nil, drop_all}
use Rattle.order_kinds.specs.declared.price.Price.{Price}
use Rattle.order_kinds.specs.declared.side.Side.{Side}
use Rattle.zone_graph.specs.declared.route.RouteLeg.{RouteLeg}
use Rattle.zone_graph.specs.Graph.{Graph, HasZone}
use Rattle.zone_graph.specs.Pour.{opposite_arc}
use Rattle.zone_graph.specs.Rooms.{room_of}
use Rattle.zone_graph.specs.Route.{IsIn}
use Rattle.market_model.specs.declared.board.Shown.{Shown}
use Rattle.market_model.specs.declared.reply.ViewRow.{ViewRow}
use Rattle.market_model.specs.Board.{BoardState, IsBoard, Rests, RestsIn, first_shown, resting_line, shown_behind}
use Rattle.market_model.specs.Orders.{Standing}
use Rattle.cut_proof.specs.Carrying.{FitTogether}
use Rattle.route_choice.specs.Poured.{AreRoomsAfter, lots_of, rooms_after as all_after}
use Rattle.local_view.specs.declared.whole.LineOrder.{LineOrder}
use Rattle.local_view.specs.Boards.{AreRoomsOf, view_of}
use Rattle.local_view.specs.Poured.{legs_with, row_if, rows_taken}
use Rattle.local_view.proofs.Hours.{line-zones, view-empty}
use Rattle.local_view.proofs.Lines.{StandsAt, from_shown, resting-differ, rests-all, stands-at}

pub row-first : (price : Price) (lots : ℕ) (rows : List ViewRow) → row_if price lots rows ≡ row_if price lots [] ++ rows
row-first price zero rows = refl
row-first price (suc more) rows = refl

-- the rooms of a part fit together
pub rooms-fit : (board : BoardState) (part : ℕ) (rooms : List (ℕ × ℕ)) → AreRoomsOf board part rooms → FitTogether board.grid (room_of rooms)
rooms-fit board part rooms of arc known =
    let own = of.most arc known in
    let back = of.most (opposite_arc arc) known in omega (arith, own, back)

none-first : (orders : List Standing) → first_shown orders ≡ None → orders ≡ []
none-first [] none = refl
none-first (order ∷ orders) none = absurd (cc)

module _ (board : BoardState) (is : IsBoard board) (none : board.hand ≡ None) (part : ℕ) (known : part < board.parts) (side : Side) (zone : ℕ) where
  abbrev orders : List Standing
  orders = resting_line board part side

  -- where no order rests there are no rows
  pub nothing-shown : first_shown (resting_line board part side) ≡ None → view_of board part side zone ≡ []
  nothing-shown empty =
      view-empty board.grid board.hour board.events is.stands part side zone (sym (rests-all board part side none) ∙ none-first (resting_line board part side) empty)

  pub at-order : (next : Option Shown) (shown : Shown) → next ≡ first_shown (from_shown (resting_line board part side) next) → next ≡ Some shown
      → StandsAt (resting_line board part side) shown
  at-order next shown stands found =
      stands-at orders shown (resting-differ board part side is none) (sym found ∙ stands ∙ ap (λ o. first_shown (from_shown orders o)) found)

  -- the order is in a zone that there is, and rests
  module _ (shown : Shown) (at : StandsAt (resting_line board part side) shown) where
    pub zone-known : HasZone board.grid shown.zone
    zone-known =
        subst (λ (s : Shown). HasZone board.grid s.zone) (sym at.is)
        (line-zones board.grid board.hour board.events is.stands part side at.order (subst (IsIn at.order) (rests-all board part side none) at.is_in))

    pub rests-in : RestsIn board part side shown.number
    rests-in = (known, at.there)

    pub rests : Rests board shown.number
    rests = (part, side, (known, at.there))

    pub fewer : (next after : Option Shown) → next ≡ Some shown → after ≡ shown_behind shown.number (resting_line board part side)
        → length (from_shown (resting_line board part side) after) < length (from_shown (resting_line board part side) next)
    fewer next after found behind =
        let less : length (from_shown orders after) ≡ length at.back = ap (λ o. length (from_shown orders o)) (behind ∙ at.next) ∙ ap length at.onward in
        let more : length (from_shown orders next) ≡ suc (length at.back) = ap (λ o. length (from_shown orders o)) found ∙ ap length at.here in
        omega (arith, less, more)

-- ---- a list in its course

module _ (graph : Graph) (side : Side) (zone : ℕ) (start : List (ℕ × ℕ)) (orders : List LineOrder) where
  -- the rows so far, and those of the orders from a place on, are all rows
  abbrev pub AreListed : (rooms : List (ℕ × ℕ)) (left place : ℕ) (rows : List ViewRow) → Type 0
  AreListed rooms left place rows = rows ++ rows_taken graph side zone (room_of rooms) left (drop place orders) ≡ rows_taken graph side zone (room_of start) 4294967295 orders

  -- one order more
  pub one-order : (rooms rooms_after : List (ℕ × ℕ)) (left lots place : ℕ) (rows rows_after : List ViewRow) (legs : List RouteLeg) (order : LineOrder)
      → AreListed rooms left place rows → drop place orders ≡ order ∷ drop (place + 1) orders → legs ≡ legs_with graph (room_of rooms) side zone order.zone (min left order.lots)
      → lots ≡ lots_of legs → AreRoomsAfter (room_of rooms) (room_of rooms_after) legs → rows_after ≡ rows ++ row_if order.price lots []
      → AreListed rooms_after (left - lots) (place + 1) rows_after
  unfolding rows_taken
  one-order rooms rooms_after left lots place rows rows_after legs order listed here legs_are lots_are over rows_are =
      let back = drop (place + 1) orders in
      let onward = rows_taken graph side zone (room_of rooms_after) (left - lots) (drop (place + 1) orders) in
      ap (λ rs. rs ++ onward) rows_are
      ∙ append_assoc rows (row_if order.price lots []) onward
      ∙ ap (λ rs. rows ++ rs)
      (sym (row-first order.price lots onward)
      ∙ ap (λ room. row_if order.price lots (rows_taken graph side zone room (left - lots) back)) (λ i. λ arc. over arc i)
      ∙ ap (λ n. row_if order.price n (rows_taken graph side zone (all_after (room_of rooms) legs) (left - n) back)) lots_are
      ∙ ap (λ ls. row_if order.price (lots_of ls) (rows_taken graph side zone (all_after (room_of rooms) ls) (left - lots_of ls) back)) legs_are
      ∙ ap (rows_taken graph side zone (room_of rooms) left) (sym here))
      ∙ listed

  -- behind the last order they are all
  pub all-listed : (rooms : List (ℕ × ℕ)) (left place : ℕ) (rows : List ViewRow) → AreListed rooms left place rows → length orders ≤ place
      → rows ≡ rows_taken graph side zone (room_of start) 4294967295 orders
  unfolding rows_taken
  all-listed rooms left place rows listed end =
      sym (append-nil rows) ∙ sym (ap (λ os. rows ++ rows_taken graph side zone (room_of rooms) left os) (drop_all place orders end)) ∙ listed
