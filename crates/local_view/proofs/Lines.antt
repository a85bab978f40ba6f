-- A line of orders whose numbers differ, walked from each order to the one behind it.
use Rattle.std.proofs.Common.{◌≡◌, ◌≢◌, ◌∙◌, inl, inr, ℕ, ◌==◌, ◌&&◌, ◌||◌, Bool, true, false, List, [], ◌∷◌, filter, map, Option, Some, None, refl, sym, ap, subst, if◌then◌else◌}
use Rattle.std.proofs.lemmas.Bool.{eq-eqb, eqb-true, true≢false}
use Rattle.std.specs.List.{list_any}
use Rattle.order_kinds.specs.declared.side.Side.{Side}
use Rattle.order_kinds.specs.Contract.{contract_at}
use Rattle.zone_graph.specs.Route.{IsIn}
use Rattle.zone_graph.proofs.Membership.{IsIn-map}
use Rattle.market_model.specs.declared.board.Shown.{Shown}
use Rattle.market_model.specs.Board.{BoardState, IsBoard, first_shown, has_number, resting_line, shown_behind, shown_of}
use Rattle.market_model.specs.Lines.{line}
use Rattle.market_model.specs.Orders.{Standing}
use Rattle.laws_of_rows.specs.Depth.{maker_of}
use Rattle.laws_of_views.proofs.FirstMakers.{AreOnce}
use Rattle.local_view.proofs.Hours.{line-hour, line-once}

-- the part of a line from the order of a number on, and from one that is shown
abbrev pub from_number : (number : ℕ) → List Standing → List Standing
from_number number [] = []
from_number number (order ∷ orders) = if has_number number order then (order ∷ orders) else from_number number orders

abbrev pub from_shown : List Standing → Option Shown → List Standing
from_shown orders None = []
from_shown orders (Some shown) = from_number shown.number orders

-- no number stands twice
abbrev pub NumbersDiffer : List Standing → Type 0
NumbersDiffer [] = Unit {0}
NumbersDiffer (order ∷ orders) = ((other : Standing) → IsIn other orders → order.name.number ≢ other.name.number) × NumbersDiffer orders

has-own : (order : Standing) → has_number order.name.number order ≡ true
has-own order = eq-eqb order.name.number order.name.number refl

has-not : (number : ℕ) (order : Standing) → order.name.number ≢ number → has_number number order ≡ false
has-not number order differs = go (has_number number order) refl
  where
    go : (b : Bool) → has_number number order ≡ b → has_number number order ≡ false
    go false e = e
    go true e = absurd (differs (eqb-true order.name.number number e))

-- ---- the walk

pub walk-begins : (orders : List Standing) → from_shown orders (first_shown orders) ≡ orders
walk-begins [] = refl
walk-begins (order ∷ orders) = rw (has-own order) refl

-- the walk stands at an order, behind which the rest of the line is
pub record StandsAt (orders : List Standing) (shown : Shown) : Type 0 where
  pub order : Standing
  pub back : List Standing
  pub here : from_number shown.number orders ≡ order ∷ back
  pub is : shown ≡ shown_of order
  pub is_in : IsIn order orders
  pub behind : (other : Standing) → IsIn other back → IsIn other orders
  pub next : shown_behind shown.number orders ≡ first_shown back
  pub onward : from_shown orders (first_shown back) ≡ back
  pub there : list_any (has_number shown.number) orders ≡ true

pub stands-at : (orders : List Standing) (shown : Shown) → NumbersDiffer orders → Some shown ≡ first_shown (from_number shown.number orders) → StandsAt orders shown
stands-at [] shown differ e = absurd (cc)
stands-at (first ∷ orders) shown differ e = go (λ f. stands-at orders shown differ.1 f) (has_number shown.number first) refl e
  where
    behind-first : (back : List Standing) → ((other : Standing) → IsIn other back → first.name.number ≢ other.name.number) → from_shown orders (first_shown back) ≡ back
        → from_shown (first ∷ orders) (first_shown back) ≡ back
    behind-first [] differs on = refl
    behind-first (other ∷ back) differs on = rw (has-not other.name.number first (differs other (inl refl))) on

    go : (Some shown ≡ first_shown (from_number shown.number orders) → StandsAt orders shown) → (b : Bool) → has_number shown.number first ≡ b
        → Some shown ≡ first_shown (from_number shown.number (first ∷ orders)) → StandsAt (first ∷ orders) shown
    go onward true own f =
        let here : from_number shown.number (first ∷ orders) ≡ first ∷ orders = rw own refl in
        let is : Some shown ≡ Some (shown_of first) = f ∙ ap first_shown here in
        record {
          order = first;
          back = orders;
          here = here;
          is = cc;
          is_in = inl refl;
          behind = λ other i. inr i;
          next = rw own refl;
          onward = behind-first orders differ.0 (walk-begins orders);
          there = rw own refl;
        }
    go onward false own f =
        let skip : from_number shown.number (first ∷ orders) ≡ from_number shown.number orders = rw own refl in
        let rest = onward (f ∙ ap first_shown skip) in
        record {
          order = rest.order;
          back = rest.back;
          here = skip ∙ rest.here;
          is = rest.is;
          is_in = inr rest.is_in;
          behind = λ other i. inr (rest.behind other i);
          next = ap (λ b. if b then first_shown orders else shown_behind shown.number orders) own ∙ rest.next;
          onward = behind-first rest.back (λ other i. differ.0 other (rest.behind other i)) rest.onward;
          there = ap (λ b. b || list_any (has_number shown.number) orders) own ∙ rest.there;
        }

-- ---- lines of a board

numbers-differ : (hour : ℕ) (orders : List Standing) → AreOnce (map maker_of orders) → ((order : Standing) → IsIn order orders → order.name.hour ≡ hour) → NumbersDiffer orders
numbers-differ hour [] once hours = tt
numbers-differ hour (order ∷ orders) once hours = (
  λ other i same.
      let apart = once.0 (maker_of other) (IsIn-map maker_of other orders i) in
      let hours_same : order.name.hour ≡ other.name.hour = hours order (inl refl) ∙ sym (hours other (inr i)) in
      true≢false (sym (ap (λ b. b && (order.name.number == other.name.number)) (eq-eqb order.name.hour other.name.hour hours_same) ∙ eq-eqb order.name.number other.name.number same) ∙ apart),
  numbers-differ hour orders once.1 (λ o i. hours o (inr i)),
)

all-kept : (orders : List Standing) → filter (λ order. true) orders ≡ orders
all-kept [] = refl
all-kept (order ∷ orders) = ap (λ os. order ∷ os) (all-kept orders)

-- with no order in hand all open orders rest
pub rests-all : (board : BoardState) (part : ℕ) (side : Side) → board.hand ≡ None → resting_line board part side ≡ line board.events (contract_at board.hour part) side
rests-all board part side none = rw none (all-kept (line board.events (contract_at board.hour part) side))

pub resting-differ : (board : BoardState) (part : ℕ) (side : Side) → IsBoard board → board.hand ≡ None → NumbersDiffer (resting_line board part side)
resting-differ board part side is none =
    subst NumbersDiffer (sym (rests-all board part side none))
    (numbers-differ board.hour (line board.events (contract_at board.hour part) side) (line-once board.grid board.hour board.events is.stands part side)
    (line-hour board.grid board.hour board.events is.stands part side))
