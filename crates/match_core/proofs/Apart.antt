-- Where the price of an order of a line does not cross, none behind it does.
use Rattle.std.proofs.Common.{◌≡◌, ◌∙◌, inl, inr, ℕ, zero, suc, ◌<◌, ◌&&◌, false, List, [], ◌∷◌, ◌++◌, Option, Some, None, refl, sym, ap, subst, arith}
use Rattle.std.specs.Ordering.{is_lt}
use Rattle.order_kinds.specs.declared.side.Side.{Side}
use Rattle.order_kinds.specs.Contract.{contract_at}
use Rattle.order_kinds.specs.Side.{crosses, opposite}
use Rattle.zone_graph.specs.Reach.{reaches}
use Rattle.zone_graph.specs.Route.{IsIn}
use Rattle.zone_graph.proofs.Membership.{IsIn-append}
use Rattle.market_model.specs.declared.board.Shown.{Shown}
use Rattle.market_model.specs.Board.{BoardState, IsBoard, first_shown, resting_line}
use Rattle.market_model.specs.Board.{shown_of as shown_order}
use Rattle.market_model.specs.Lines.{buyer_zone, priority_cmp, rooms_for, seller_zone}
use Rattle.market_model.specs.Orders.{Placed, Standing, filled, left, standing}
use Rattle.market_model.specs.Taking.{next_leg}
use Rattle.laws_of_market.proofs.Ascending.{Ascends}
use Rattle.laws_of_market.proofs.Lines.{line-ascends, priority_weak}
use Rattle.laws_of_boards.proofs.Worse.{crosses-worse, price-first}
use Rattle.match_core.specs.declared.taker.Taker.{Taker}
use Rattle.match_core.specs.Takings.{HasEntered}
use Rattle.match_core.specs.Walks.{TakesOn, trades}
use Rattle.match_core.proofs.Fills.{price-left}
use Rattle.match_core.proofs.Orders.{line-rests, takes-start}
use Rattle.match_core.proofs.Partners.{none-left, none-trades}

module _ (board : BoardState) (part : ℕ) (order : Placed) (takes : TakesOn board part order) where
  abbrev own : Standing
  own = standing board.events order

  abbrev other_side : Side
  other_side = opposite order.order.side

  module _ (front behind : List Standing) (maker : Standing)
      (split : resting_line board part (opposite order.order.side) ≡ front ++ (maker ∷ behind))
      (none : (other : Standing) → IsIn other front → trades board order other ≡ false)
      (apart : crosses order.order.side (standing board.events order).price maker.price ≡ false) where
    no-trade : (other : Standing) → crosses order.order.side own.price other.price ≡ false → trades board order other ≡ false
    no-trade other e = ap (λ b. b && reaches board.grid (rooms_for board.events own) (seller_zone own other) (buyer_zone own other)) e

    ascends : Ascends (priority_cmp other_side) (priority_weak other_side) (front ++ (maker ∷ behind))
    ascends =
        subst (Ascends (priority_cmp other_side) (priority_weak other_side)) (sym (line-rests board part order takes) ∙ split)
        (line-ascends board.events (contract_at board.hour part) other_side)

    worse : (before : List Standing) → Ascends (priority_cmp other_side) (priority_weak other_side) (before ++ (maker ∷ behind))
        → (other : Standing) → IsIn other behind → is_lt (priority_cmp other_side other maker) ≡ false
    worse [] up other i = up.0 other i
    worse (x ∷ before) up other i = worse before up.1 other i

    none-here : (other : Standing) → IsIn other (maker ∷ behind) → trades board order other ≡ false
    none-here other i = elim i [
      | inl same ↦ no-trade other (ap (λ (s : Standing). crosses order.order.side own.price s.price) same ∙ apart)
      | inr j ↦ no-trade other (crosses-worse order.order.side own.price maker.price other.price (price-first other_side maker other (worse front ascends other j)) apart)
    ]

    -- so there is no next leg, where none in front can trade
    pub none-behind-apart : next_leg board.grid order.name board.events ≡ None
    none-behind-apart =
        none-trades board part order takes (λ other i.
        elim (IsIn-append other front (maker ∷ behind) (subst (IsIn other) split i)) [
          | inl j ↦ none other j
          | inr j ↦ none-here other j
        ])

-- ---- the first order of the line

module _ (board : BoardState) (part : ℕ) (taker : Taker) (in_part : part < board.parts) (in_hand : board.hand ≡ Some taker.name.number)
    (entered : HasEntered board part taker) (is_board : IsBoard board) (first : Option Shown)
    (is : first ≡ first_shown (resting_line board part (opposite taker.side))) where
  takes : TakesOn board part entered.order
  takes = takes-start board part taker in_part in_hand entered is_board

  first-is : first ≡ first_shown (resting_line board part (opposite entered.order.order.side))
  first-is = is ∙ ap (λ (t : Taker). first_shown (resting_line board part (opposite t.side))) entered.is

  name-is : next_leg board.grid taker.name board.events ≡ next_leg board.grid entered.order.name board.events
  name-is = ap (λ (t : Taker). next_leg board.grid t.name board.events) entered.is

  -- there is none
  pub empty-line : first ≡ None → next_leg board.grid taker.name board.events ≡ None
  empty-line none = go (resting_line board part (opposite entered.order.order.side)) refl
    where
      go : (line : List Standing) → resting_line board part (opposite entered.order.order.side) ≡ line → next_leg board.grid taker.name board.events ≡ None
      go [] empty = name-is ∙ none-trades board part entered.order takes (λ other i. absurd (subst (IsIn other) empty i))
      go (maker ∷ behind) split = let some : Some (shown_order maker) ≡ None = sym (first-is ∙ ap first_shown split) ∙ none in absurd (cc)

  -- or its price does not cross
  pub apart-line : (shown : Shown) → first ≡ Some shown → crosses taker.side taker.price shown.price ≡ false → next_leg board.grid taker.name board.events ≡ None
  apart-line shown some apart = go (resting_line board part (opposite entered.order.order.side)) refl (left board.events entered.order.name) refl
    where
      go : (line : List Standing) → resting_line board part (opposite entered.order.order.side) ≡ line → (n : ℕ) → left board.events entered.order.name ≡ n
          → next_leg board.grid taker.name board.events ≡ None
      go [] empty n e = let none : None ≡ Some shown = sym (first-is ∙ ap first_shown empty) ∙ some in absurd (cc)
      go (maker ∷ behind) split zero e = name-is ∙ none-left board part entered.order takes e
      go (maker ∷ behind) split (suc n) e =
          let same : Some (shown_order maker) ≡ Some shown = sym (first-is ∙ ap first_shown split) ∙ some in
          let shows : shown ≡ shown_order maker = cc in
          let price : taker.price ≡ (standing board.events entered.order).price =
          ap (λ (t : Taker). t.price) entered.is
          ∙ price-left entered.order.order (filled board.events entered.order.name) (left board.events entered.order.name) (omega (arith, e)) in
          let side : taker.side ≡ entered.order.order.side = ap (λ (t : Taker). t.side) entered.is in
          let crossing : crosses entered.order.order.side (standing board.events entered.order).price maker.price ≡ false =
          ap (λ s. crosses s (standing board.events entered.order).price maker.price) (sym side)
          ∙ ap (λ p. crosses taker.side p maker.price) (sym price)
          ∙ ap (λ (s : Shown). crosses taker.side taker.price s.price) (sym shows) ∙ apart in
          name-is ∙ none-behind-apart board part entered.order takes [] behind maker split (λ other i. absurd i) crossing
