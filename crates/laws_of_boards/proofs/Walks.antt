-- The lines of a board: strictly in priority, and no number stands twice in one.
use Rattle.std.proofs.Common.{◌≡◌, ◌∙◌, inl, inr, ℕ, ◌==◌, Bool, true, false, not, List, [], ◌∷◌, ◌++◌, filter, eq-eqb, eqb-true, refl, sym, ap, subst}
use Rattle.std.proofs.lemmas.Bool.{true≢false}
use Rattle.std.specs.Ordering.{is_lt}
use Rattle.order_kinds.specs.declared.contract.Contract.{Contract}
use Rattle.order_kinds.specs.declared.side.Side.{Side}
use Rattle.order_kinds.specs.Contract.{contract_at}
use Rattle.zone_graph.specs.InOrder.{IsStrictlyInOrder}
use Rattle.zone_graph.specs.Route.{IsIn}
use Rattle.zone_graph.proofs.InOrder.{in_order-ahead, in_order-filter}
use Rattle.zone_graph.proofs.Membership.{IsIn-left, IsIn-right, from_filter}
use Rattle.market_model.specs.declared.event.Event.{Event}
use Rattle.market_model.specs.declared.setup.Setup.{Setup}
use Rattle.market_model.specs.Board.{first_shown, has_number, is_in_hand, shown_behind}
use Rattle.market_model.specs.Lines.{line, priority_cmp}
use Rattle.market_model.specs.Orders.{Standing, standing}
use Rattle.market_model.specs.WellFormed.{FitAfter}
use Rattle.laws_of_market.proofs.Ascending.{itself}
use Rattle.laws_of_market.proofs.Lines.{priority_weak}
use Rattle.laws_of_market.proofs.Names.{names-once}
use Rattle.laws_of_market.proofs.Trades.{from_line}
use Rattle.laws_of_market.proofs.Unique.{one_order}
use Rattle.laws_of_market.proofs.LocalLines.{line-agree}
use Rattle.laws_of_books.proofs.ChangedOrders.{hour_of}
use Rattle.laws_of_books.proofs.LineOrders.{line-strict, same_names}
use Rattle.laws_of_boards.specs.Boards.{WalksGoOn}
use Rattle.laws_of_boards.proofs.Shared.{board-agrees}

-- two orders of a line that have one number are one
pub one_number : (setup : Setup) (events : List Event) → FitAfter setup [] events → (contract : Contract) (side : Side) (a b : Standing)
    → IsIn a (line events contract side) → IsIn b (line events contract side) → a.name.number ≡ b.name.number → a ≡ b
one_number setup events fit contract side a b i j same =
    let of_a = from_line events contract side a i in
    let of_b = from_line events contract side b j in
    let hour_a = hour_of setup events fit contract of_a.order of_a.is_open.is_placed of_a.of_contract in
    let hour_b = hour_of setup events fit contract of_b.order of_b.is_open.is_placed of_b.of_contract in
    let numbers = sym (ap (λ (s : Standing). s.name.number) of_a.is) ∙ same ∙ ap (λ (s : Standing). s.name.number) of_b.is in
    let one : of_a.order ≡ of_b.order =
    one_order events (names-once setup events fit) of_a.order of_b.order of_a.is_open.is_placed of_b.is_open.is_placed
    (same_names of_a.order.name of_b.order.name (hour_a ∙ sym hour_b) numbers) in
    of_a.is ∙ ap (standing events) one ∙ sym of_b.is

-- who stands in front of an order of a list in order is another one
pub in_front-differs : (side : Side) (front back : List Standing) (order other : Standing) → IsStrictlyInOrder (priority_cmp side) (front ++ (order ∷ back))
    → IsIn other front → other ≡ order → ⊥
in_front-differs side front back order other strict i same =
    true≢false (sym (in_order-ahead (priority_cmp side) front back order strict other i) ∙ ap (λ s. is_lt (priority_cmp side s order)) same
    ∙ itself (priority_cmp side) (priority_weak side) order)

-- a walk past those that have not the number
walk-past : (number : ℕ) (front back : List Standing) (order : Standing) → has_number number order ≡ true
    → ((other : Standing) → IsIn other front → has_number number other ≡ false) → shown_behind number (front ++ (order ∷ back)) ≡ first_shown back
walk-past number [] back order is others = rw is refl
walk-past number (other ∷ front) back order is others = rw (others other (inl refl)) (walk-past number front back order is (λ s i. others s (inr i)))

pub go_on : WalksGoOn
go_on board part side front back order is_board stands =
    ap (shown_behind order.name.number) stands
    ∙ walk-past order.name.number front back order (eq-eqb order.name.number order.name.number refl) (λ other i. apart other i (other.name.number == order.name.number) refl)
  where
    whole : List Event
    whole = is_board.stands.history

    fit : FitAfter is_board.stands.setup [] whole
    fit = is_board.stands.fit

    contract : Contract
    contract = contract_at board.hour part

    rests : Standing → Bool
    rests s = not (is_in_hand board.hand s.name)

    over : filter rests (line whole contract side) ≡ front ++ (order ∷ back)
    over = ap (filter rests) (sym (line-agree (board.hour ∷ []) board.events whole (board-agrees board is_board) contract side (inl refl))) ∙ stands

    strict : IsStrictlyInOrder (priority_cmp side) (front ++ (order ∷ back))
    strict = subst (IsStrictlyInOrder (priority_cmp side)) over (in_order-filter (priority_cmp side) rests (line whole contract side) (line-strict is_board.stands.setup whole fit contract side))

    in_line : (s : Standing) → IsIn s (front ++ (order ∷ back)) → IsIn s (line whole contract side)
    in_line s i = (from_filter rests s (line whole contract side) (subst (IsIn s) (sym over) i)).0

    apart : (other : Standing) → IsIn other front → (b : Bool) → (other.name.number == order.name.number) ≡ b → b ≡ false
    apart other i false e = refl
    apart other i true e =
        absurd (in_front-differs side front back order other strict i (one_number is_board.stands.setup whole fit contract side other order
        (in_line other (IsIn-left other front (order ∷ back) i)) (in_line order (IsIn-right order front (order ∷ back) (inl refl)))
        (eqb-true other.name.number order.name.number e)))
