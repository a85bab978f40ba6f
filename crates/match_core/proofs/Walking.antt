-- The walk of an order along the opposite line: it goes on from each order to the one behind it, until it
-- comes to one that it can trade with, or to one whose price does not cross.
use Rattle.std.proofs.Common.{◌≡◌, ◌∙◌, inl, inr, ℕ, suc, ◌==◌, ◌<◌, ◌&&◌, ◌||◌, Bool, true, false, List, [], ◌∷◌, ◌++◌, append_assoc, length, Option, Some, None, is_some, eq-eqb, eqb-true, refl, sym, ap, subst, if◌then◌else◌, arith}
use Rattle.std.specs.List.{list_any}
use Rattle.order_kinds.specs.declared.side.Side.{Side}
use Rattle.order_kinds.specs.Contract.{contract_at}
use Rattle.order_kinds.specs.Side.{crosses, opposite}
use Rattle.zone_graph.specs.declared.route.Arc.{Arc}
use Rattle.zone_graph.specs.Graph.{HasZone}
use Rattle.zone_graph.specs.InOrder.{IsStrictlyInOrder}
use Rattle.zone_graph.specs.Reach.{reaches}
use Rattle.zone_graph.specs.Rooms.{room_of}
use Rattle.zone_graph.specs.Route.{IsIn, best_route}
use Rattle.zone_graph.proofs.BestRoute.{best_route-rooms}
use Rattle.zone_graph.proofs.Membership.{IsIn-append, IsIn-left, IsIn-right}
use Rattle.route_choice.specs.Freshness.{searched_route}
use Rattle.market_model.specs.declared.board.Shown.{Shown}
use Rattle.market_model.specs.Board.{BoardState, RestsIn, first_shown, has_number, resting_line, shown_behind}
use Rattle.market_model.specs.Board.{shown_of as shown_order}
use Rattle.market_model.specs.Lines.{buyer_zone, line, priority_cmp, rooms_for, seller_zone}
use Rattle.market_model.specs.Orders.{Placed, Standing, filled, left, standing}
use Rattle.market_model.specs.Taking.{next_leg}
use Rattle.laws_of_market.proofs.LocalLines.{line-agree}
use Rattle.laws_of_books.proofs.LineOrders.{line-strict}
use Rattle.laws_of_boards.proofs.Shared.{board-graph}
use Rattle.laws_of_boards.proofs.Walks.{go_on, in_front-differs, one_number}
use Rattle.match_core.specs.declared.walk.Walk.{Walk}
use Rattle.match_core.specs.Walks.{EndAt, IsPartnerOf, Stands, StandsAt, StandsIn, TakesOn, trades}
use Rattle.match_core.proofs.Apart.{none-behind-apart}
use Rattle.match_core.proofs.Fills.{price-left}
use Rattle.match_core.proofs.Orders.{agree, line-rests, line-zone}
use Rattle.match_core.proofs.Partners.{none-left, none-trades, room-same, route-of}

-- ---- lists

any-in : {X : Type 0} (p : X → Bool) (x : X) (xs : List X) → IsIn x xs → p x ≡ true → list_any p xs ≡ true
any-in p x [] i own = absurd i
any-in {X} p x (y ∷ ys) i own = elim i [
  | inl same ↦ ap (λ b. b || list_any p ys) (ap p (sym same) ∙ own)
  | inr j ↦ or_right (p y) (any-in p x ys j own)
]
  where
    or_right : (b : Bool) → list_any p ys ≡ true → (b || list_any p ys) ≡ true
    or_right true e = refl
    or_right false e = e

-- ---- where a walk stands

module _ (board : BoardState) (walk : Walk) (stands : Stands board walk) where
  -- the order of the number that it keeps is the last of those in front
  pub record IsLast (number : ℕ) : Type 0 where
    pub front : List Standing
    pub last : Standing
    pub is : stands.line.front ≡ front ++ (last ∷ [])
    pub numbered : last.name.number ≡ number

  last-is : (number : ℕ) → walk.passed ≡ Some number → IsLast number
  last-is number is =
      let ends = subst (λ passed. EndAt passed stands.line.front) is stands.line.ends in
      record { front = ends.0; last = ends.1; is = ends.2; numbered = ends.3 }

  line-at : (number : ℕ) (at : IsLast number) → resting_line board walk.part (opposite stands.order.order.side) ≡ at.front ++ (at.last ∷ stands.line.back)
  line-at number at = stands.line.line ∙ ap (λ front. front ++ stands.line.back) at.is ∙ append_assoc at.front (at.last ∷ []) stands.line.back

  pub rests : (number : ℕ) → walk.passed ≡ Some number → RestsIn board walk.part (opposite stands.order.order.side) number
  rests number is =
      let at = last-is number is in (
        stands.takes.in_part,
        any-in (has_number number) at.last (resting_line board walk.part (opposite stands.order.order.side))
            (subst (IsIn at.last) (sym (line-at number at)) (IsIn-right at.last at.front (at.last ∷ stands.line.back) (inl refl)))
            (eq-eqb at.last.name.number number at.numbered),
      )

  pub behind-is : (number : ℕ) → walk.passed ≡ Some number
      → shown_behind number (resting_line board walk.part (opposite stands.order.order.side)) ≡ first_shown stands.line.back
  behind-is number is =
      let at = last-is number is in
      ap (λ n. shown_behind n (resting_line board walk.part (opposite stands.order.order.side))) (sym at.numbered)
      ∙ go_on board walk.part (opposite stands.order.order.side) at.front stands.line.back at.last stands.takes.is_board (line-at number at)

  -- with no number it stands at the start
  pub at-start : walk.passed ≡ None → first_shown (resting_line board walk.part (opposite stands.order.order.side)) ≡ first_shown stands.line.back
  at-start is =
      let none : stands.line.front ≡ [] = subst (λ passed. EndAt passed stands.line.front) is stands.line.ends in
      ap first_shown (stands.line.line ∙ ap (λ front. front ++ stands.line.back) none)

  pub side-is : walk.taker.side ≡ stands.order.order.side
  side-is = ap (λ t. t.side) stands.is

  pub nothing-left : walk.taker.left ≡ 0 → next_leg board.grid walk.taker.name board.events ≡ None
  nothing-left none =
      ap (λ t. next_leg board.grid t.name board.events) stands.is
      ∙ none-left board walk.part stands.order stands.takes (sym (ap (λ t. t.left) stands.is) ∙ none)

-- ---- how many are left of the line

-- the part of a line from the order of a number on, and from an order that is shown
abbrev pub from_number : (number : ℕ) → List Standing → List Standing
from_number number [] = []
from_number number (order ∷ orders) = if has_number number order then (order ∷ orders) else from_number number orders

abbrev pub from_shown : Option Shown → List Standing → List Standing
from_shown None orders = []
from_shown (Some shown) orders = from_number shown.number orders

-- what a walk can still come to
abbrev pub rest_of_line : BoardState → Walk → Option Shown → List Standing
rest_of_line board walk next = from_shown next (resting_line board walk.part (opposite walk.taker.side))

from-through : (front behind : List Standing) (order : Standing) → ((other : Standing) → IsIn other front → has_number order.name.number other ≡ false)
    → from_number order.name.number (front ++ (order ∷ behind)) ≡ order ∷ behind
from-through [] behind order apart = ap (λ b. if b then (order ∷ behind) else from_number order.name.number behind) (eq-eqb order.name.number order.name.number refl)
from-through (x ∷ front) behind order apart =
    ap (λ b. if b then (x ∷ front ++ (order ∷ behind)) else from_number order.name.number (front ++ (order ∷ behind))) (apart x (inl refl))
    ∙ from-through front behind order (λ other i. apart other (inr i))

module _ (board : BoardState) (part : ℕ) (order : Placed) (takes : TakesOn board part order) (front behind : List Standing) (maker : Standing)
    (split : resting_line board part (opposite order.order.side) ≡ front ++ (maker ∷ behind)) where
  whole-line : line takes.is_board.stands.history (contract_at board.hour part) (opposite order.order.side) ≡ front ++ (maker ∷ behind)
  whole-line =
      sym (line-agree (board.hour ∷ []) board.events takes.is_board.stands.history (agree board part order takes) (contract_at board.hour part) (opposite order.order.side) (inl refl))
      ∙ sym (line-rests board part order takes) ∙ split

  strict : IsStrictlyInOrder (priority_cmp (opposite order.order.side)) (front ++ (maker ∷ behind))
  strict =
      subst (IsStrictlyInOrder (priority_cmp (opposite order.order.side))) whole-line
      (line-strict takes.is_board.stands.setup takes.is_board.stands.history takes.is_board.stands.fit (contract_at board.hour part) (opposite order.order.side))

  -- no order in front has the number of one
  front-apart : (other : Standing) → IsIn other front → has_number maker.name.number other ≡ false
  front-apart other i = go (other.name.number == maker.name.number) refl
    where
      in_line : (s : Standing) → IsIn s (front ++ (maker ∷ behind)) → IsIn s (line takes.is_board.stands.history (contract_at board.hour part) (opposite order.order.side))
      in_line s j = subst (IsIn s) (sym whole-line) j

      go : (b : Bool) → (other.name.number == maker.name.number) ≡ b → b ≡ false
      go false e = refl
      go true e =
          absurd (in_front-differs (opposite order.order.side) front behind maker other strict i
          (one_number takes.is_board.stands.setup takes.is_board.stands.history takes.is_board.stands.fit (contract_at board.hour part) (opposite order.order.side) other maker
          (in_line other (IsIn-left other front (maker ∷ behind) i)) (in_line maker (IsIn-right maker front (maker ∷ behind) (inl refl)))
          (eqb-true other.name.number maker.name.number e)))

  pub from-here : from_number maker.name.number (resting_line board part (opposite order.order.side)) ≡ maker ∷ behind
  from-here = ap (from_number maker.name.number) split ∙ from-through front behind maker front-apart

-- what is left is what stands behind the walk
pub rest-is : (board : BoardState) (walk : Walk) (next : Option Shown) (at : StandsAt board walk next) → rest_of_line board walk next ≡ at.stands.line.back
rest-is board walk next at =
    ap (λ side. from_shown next (resting_line board walk.part (opposite side))) (side-is board walk at.stands) ∙ go at.stands.line.back refl
  where
    go : (back : List Standing) → at.stands.line.back ≡ back → from_shown next (resting_line board walk.part (opposite at.stands.order.order.side)) ≡ at.stands.line.back
    go [] is = ap (λ o. from_shown o (resting_line board walk.part (opposite at.stands.order.order.side))) (at.first ∙ ap first_shown is) ∙ sym is
    go (maker ∷ behind) is =
        ap (λ o. from_shown o (resting_line board walk.part (opposite at.stands.order.order.side))) (at.first ∙ ap first_shown is)
        ∙ from-here board walk.part at.stands.order at.stands.takes at.stands.line.front behind maker
        (at.stands.line.line ∙ ap (λ b. at.stands.line.front ++ b) is)
        ∙ sym is

-- ---- an order that it comes to

-- what stands behind the walk begins with the order that it has come to
pub record ComesTo (back : List Standing) (shown : Shown) : Type 0 where
  pub maker : Standing
  pub behind : List Standing
  pub is : back ≡ maker ∷ behind
  pub shows : shown ≡ shown_order maker

pub comes-to : (back : List Standing) (next : Option Shown) (shown : Shown) → next ≡ first_shown back → next ≡ Some shown → ComesTo back shown
comes-to [] next shown first is = absurd (cc (sym first ∙ is))
comes-to (maker ∷ behind) next shown first is =
    let same : Some (shown_order maker) ≡ Some shown = sym first ∙ is in
    record { maker = maker; behind = behind; is = refl; shows = let e : shown_order maker ≡ shown = cc in sym e }

module _ (board : BoardState) (walk : Walk) (next : Option Shown) (at : StandsAt board walk next) where
  abbrev opposite_side : Side
  opposite_side = opposite at.stands.order.order.side

  abbrev own : Standing
  own = standing board.events at.stands.order

  -- no order is left
  pub none-behind : next ≡ None → next_leg board.grid walk.taker.name board.events ≡ None
  none-behind none = go at.stands.line.back refl
    where
      go : (back : List Standing) → at.stands.line.back ≡ back → next_leg board.grid walk.taker.name board.events ≡ None
      go (maker ∷ behind) is =
          let some : Some (shown_order maker) ≡ None = sym (at.first ∙ ap first_shown is) ∙ none in absurd (cc)
      go [] is =
          ap (λ t. next_leg board.grid t.name board.events) at.stands.is
          ∙ none-trades board walk.part at.stands.order at.stands.takes (λ other i.
          elim (IsIn-append other at.stands.line.front at.stands.line.back (subst (IsIn other) at.stands.line.line i)) [
            | inl j ↦ at.stands.line.none other j
            | inr j ↦ absurd (subst (IsIn other) is j)
          ])

  module _ (shown : Shown) (is : next ≡ Some shown) (some : 0 < walk.taker.left) where
    comes : ComesTo at.stands.line.back shown
    comes = comes-to at.stands.line.back next shown at.first is

    split : resting_line board walk.part (opposite at.stands.order.order.side) ≡ at.stands.line.front ++ (comes.maker ∷ comes.behind)
    split = at.stands.line.line ∙ ap (λ back. at.stands.line.front ++ back) comes.is

    left-is : walk.taker.left ≡ left board.events at.stands.order.name
    left-is = ap (λ t. t.left) at.stands.is

    price-is : walk.taker.price ≡ (standing board.events at.stands.order).price
    price-is =
        ap (λ t. t.price) at.stands.is
        ∙ price-left at.stands.order.order (filled board.events at.stands.order.name) (left board.events at.stands.order.name) (let same = left-is in omega (arith, some, same))

    -- its zone is in the grid
    pub shown-zone : HasZone board.grid shown.zone
    shown-zone =
        subst (λ (s : Shown). HasZone board.grid s.zone) (sym comes.shows)
        (line-zone board walk.part at.stands.order at.stands.takes opposite_side comes.maker
        (subst (IsIn comes.maker) (sym (sym (line-rests board walk.part at.stands.order at.stands.takes) ∙ split))
        (IsIn-right comes.maker at.stands.line.front (comes.maker ∷ comes.behind) (inl refl))))

    -- ---- its price does not cross

    pub none-crosses : crosses walk.taker.side walk.taker.price shown.price ≡ false → next_leg board.grid walk.taker.name board.events ≡ None
    none-crosses apart =
        ap (λ t. next_leg board.grid t.name board.events) at.stands.is
        ∙ none-behind-apart board walk.part at.stands.order at.stands.takes at.stands.line.front comes.behind comes.maker split at.stands.line.none apart-own
      where
        apart-own : crosses at.stands.order.order.side own.price comes.maker.price ≡ false
        apart-own =
            ap (λ side. crosses side own.price comes.maker.price) (sym (side-is board walk at.stands))
            ∙ ap (λ price. crosses walk.taker.side price comes.maker.price) (sym price-is)
            ∙ ap (λ (s : Shown). crosses walk.taker.side walk.taker.price s.price) (sym comes.shows) ∙ apart

    -- ---- its price crosses

    best-is : searched_route board.grid (room_of walk.rooms) walk.search shown.zone
        ≡ best_route board.grid (rooms_for board.events own) (seller_zone own comes.maker) (buyer_zone own comes.maker)
    best-is =
        ap (λ (s : Shown). searched_route board.grid (room_of walk.rooms) walk.search s.zone) comes.shows
        ∙ route-of board.grid (room_of walk.rooms) at.stands.order walk.search own comes.maker refl at.stands.search.zone at.stands.search.towards
        ∙ best_route-rooms board.grid (room_of walk.rooms) (rooms_for board.events own) (seller_zone own comes.maker) (buyer_zone own comes.maker)
        (board-graph board at.stands.takes.is_board) (room-same board walk at.stands)

    -- a route leads to it: it is the partner
    module _ (crossing : crosses walk.taker.side walk.taker.price shown.price ≡ true) where
      crossing-own : crosses at.stands.order.order.side own.price comes.maker.price ≡ true
      crossing-own =
          ap (λ side. crosses side own.price comes.maker.price) (sym (side-is board walk at.stands))
          ∙ ap (λ price. crosses walk.taker.side price comes.maker.price) (sym price-is)
          ∙ ap (λ (s : Shown). crosses walk.taker.side walk.taker.price s.price) (sym comes.shows) ∙ crossing

      pub is-partner : (route : List Arc) → searched_route board.grid (room_of walk.rooms) walk.search shown.zone ≡ Some route
          → IsPartnerOf board walk (record { order = shown; route = route })
      is-partner route found = record {
        stands = at.stands;
        maker = comes.maker;
        behind = comes.behind;
        back = comes.is;
        shows = comes.shows;
        trade =
            ap (λ b. b && reaches board.grid (rooms_for board.events own) (seller_zone own comes.maker) (buyer_zone own comes.maker)) crossing-own
            ∙ ap is_some (sym best-is ∙ found);
        route = ap (λ (s : Shown). searched_route board.grid (room_of walk.rooms) walk.search s.zone) (sym comes.shows) ∙ found;
        some = some;
      }

    -- none leads to it: it is passed over
    module _ (away : searched_route board.grid (room_of walk.rooms) walk.search shown.zone ≡ None) where
      out_of_reach : trades board at.stands.order comes.maker ≡ false
      out_of_reach =
          ap (λ b. crosses at.stands.order.order.side own.price comes.maker.price && b) (ap is_some (sym best-is ∙ away))
          ∙ and_false (crosses at.stands.order.order.side own.price comes.maker.price)
        where
          and_false : (b : Bool) → (b && false) ≡ false
          and_false true = refl
          and_false false = refl

      passed-line : StandsIn board walk.part at.stands.order (Some shown.number)
      passed-line = record {
        front = at.stands.line.front ++ (comes.maker ∷ []);
        back = comes.behind;
        line = split ∙ sym (append_assoc at.stands.line.front (comes.maker ∷ []) comes.behind);
        ends = (at.stands.line.front, comes.maker, refl, ap (λ (s : Shown). s.number) (sym comes.shows));
        none = λ other i. elim (IsIn-append other at.stands.line.front (comes.maker ∷ []) i) [
          | inl j ↦ at.stands.line.none other j
          | inr j ↦ elim j [ inl same ↦ ap (trades board at.stands.order) same ∙ out_of_reach | inr k ↦ absurd k ]
        ];
      }

      pub stands-passed : Stands board (record walk { passed = Some shown.number })
      stands-passed = record {
        order = at.stands.order;
        takes = at.stands.takes;
        is = at.stands.is;
        place = at.stands.place;
        rooms = at.stands.rooms;
        search = at.stands.search;
        line = passed-line;
      }

      pub rests-there : RestsIn board walk.part (opposite at.stands.order.order.side) shown.number
      unfolding stands-passed
      rests-there = rests board (record walk { passed = Some shown.number }) stands-passed shown.number refl

      pub stands-on : (after : Option Shown) → after ≡ shown_behind shown.number (resting_line board walk.part (opposite at.stands.order.order.side))
          → StandsAt board (record walk { passed = Some shown.number }) after
      unfolding stands-passed
      stands-on after is_after = record {
        stands = stands-passed;
        first = is_after ∙ behind-is board (record walk { passed = Some shown.number }) stands-passed shown.number refl;
      }

      -- fewer are left of the line
      pub fewer-on : (after : Option Shown) → after ≡ shown_behind shown.number (resting_line board walk.part (opposite at.stands.order.order.side))
          → length (rest_of_line board (record walk { passed = Some shown.number }) after) < length (rest_of_line board walk next)
      unfolding stands-on stands-passed passed-line
      fewer-on after is_after =
          let now : length (rest_of_line board walk next) ≡ suc (length comes.behind) = ap length (rest-is board walk next at ∙ comes.is) in
          let rest : length (rest_of_line board (record walk { passed = Some shown.number }) after) ≡ length comes.behind =
          ap length (rest-is board (record walk { passed = Some shown.number }) after (stands-on after is_after)) in
          omega (arith, now, rest)
