-- The lines of a board as it shows them: no number stands twice, prices get worse, and zones are in the
-- grid.
use Rattle.std.proofs.Common.{◌≡◌, ◌∙◌, inl, inr, ℕ, ◌<◌, ◌==◌, ◌||◌, Bool, true, false, cond, not, List, [], ◌∷◌, ◌++◌, map, filter, Option, Some, None, if◌then◌else◌, eq-eqb, refl, sym, ap, subst}
use Rattle.std.proofs.lemmas.Bool.{true≢false}
use Rattle.std.specs.List.{list_any}
use Rattle.std.specs.Ordering.{is_lt, ordering_reverse, ordering_then}
use Rattle.std.specs.declared.cmp.Ordering.{Ordering}
use Rattle.std.specs.declared.cmp.Ordering.TheVariants.{Less, Equal, Greater}
use Rattle.order_kinds.specs.declared.contract.Contract.{Contract}
use Rattle.order_kinds.specs.declared.price.Price.{Price}
use Rattle.order_kinds.specs.declared.side.Side.{Side}
use Rattle.order_kinds.specs.Contract.{contract_at}
use Rattle.order_kinds.specs.Side.{price_cmp}
use Rattle.order_kinds.proofs.PriceOrder.{price_cmp_total}
use Rattle.zone_graph.specs.Graph.{Graph, HasZone}
use Rattle.zone_graph.specs.InOrder.{IsStrictlyInOrder}
use Rattle.zone_graph.specs.Route.{IsIn}
use Rattle.zone_graph.proofs.Membership.{from_map}
use Rattle.market_model.specs.declared.board.Shown.{Shown}
use Rattle.market_model.specs.declared.event.Event.{Event}
use Rattle.market_model.specs.Board.{BoardState, IsBoard, Rests, RestsIn, first_shown, has_number, is_in_hand, resting_line, shown_behind, shown_of}
use Rattle.market_model.specs.Grid.{graph_of}
use Rattle.market_model.specs.Lines.{line, priority_cmp, time_cmp}
use Rattle.market_model.specs.Orders.{Standing}
use Rattle.laws_of_market.proofs.Ascending.{Ascends, itself}
use Rattle.laws_of_market.proofs.Lines.{line-ascends, priority_weak}
use Rattle.laws_of_market.proofs.Placed.{all_are_sound}
use Rattle.laws_of_market.proofs.Trades.{from_line}
use Rattle.laws_of_market.proofs.LocalLines.{line-agree}
use Rattle.laws_of_books.proofs.ChangedOrders.{hour_of}
use Rattle.laws_of_books.proofs.LineOrders.{line-strict}
use Rattle.laws_of_boards.proofs.Shared.{board-agrees}
use Rattle.laws_of_boards.proofs.Walks.{one_number}
use Rattle.sweep_core.specs.Meeting.{first_of, shown_line}
use Rattle.zone_graph.proofs.Walks.{Differ, after_in}

-- the prices of the orders behind an order are no better
abbrev pub WorseBehind : Side → List Shown → Type 0
WorseBehind side [] = Unit {0}
WorseBehind side (order ∷ orders) = ((other : Shown) → IsIn other orders → is_lt (price_cmp side other.price order.price) ≡ false) × WorseBehind side orders

-- so it is with those behind an order in the middle
pub worse-behind : (side : Side) (front back : List Shown) (order : Shown) → WorseBehind side (front ++ order ∷ back) → (other : Shown) → IsIn other back
    → is_lt (price_cmp side other.price order.price) ≡ false
worse-behind side [] back order worse other i = worse.0 other i
worse-behind side (x ∷ front) back order worse other i = worse-behind side front back order worse.1 other i

not-better : (side : Side) (price : Price) → is_lt (price_cmp side price price) ≡ false
not-better side price = go (price_cmp side price price) ((price_cmp_total side).antisymm price price)
  where
    go : (r : Ordering) → r ≡ ordering_reverse r → is_lt r ≡ false
    go Less e = absurd (cc)
    go Equal e = refl
    go Greater e = refl

-- in a line that is not empty there is a best order, and none is better
pub best-there : (side : Side) (orders : List Shown) (order : Shown) → WorseBehind side orders → IsIn order orders
    → (best : Shown) × (first_of orders ≡ Some best) × (is_lt (price_cmp side order.price best.price) ≡ false)
best-there side [] order worse i = absurd i
best-there side (best ∷ orders) order worse i = (
  best,
  refl,
  elim i [
    | inl same ↦ ap (λ (s : Shown). is_lt (price_cmp side s.price best.price)) same ∙ not-better side best.price
    | inr j ↦ worse.0 order j
  ],
)

-- lines are walked by the numbers of their orders
abbrev pub number_of : Shown → ℕ
number_of order = order.number

pub record IsLine (graph : Graph) (side : Side) (orders : List Shown) : Type 0 where
  pub differ : Differ number_of orders
  pub worse : WorseBehind side orders
  pub zones : (order : Shown) → IsIn order orders → HasZone graph order.zone

-- ---- what a board says of a line

pub first-shown : (orders : List Standing) → first_shown orders ≡ first_of (map shown_of orders)
first-shown [] = refl
first-shown (order ∷ orders) = refl

pub behind-shown : (number : ℕ) (orders : List Standing) → shown_behind number orders ≡ after_in number_of number (map shown_of orders)
behind-shown number [] = refl
behind-shown number (order ∷ orders) = go (order.name.number == number) (behind-shown number orders)
  where
    go : (b : Bool) → shown_behind number orders ≡ after_in number_of number (map shown_of orders)
        → (if b then first_shown orders else shown_behind number orders) ≡ (if b then first_of (map shown_of orders) else after_in number_of number (map shown_of orders))
    go true rest = first-shown orders
    go false rest = rest

any-number : (order : Shown) (orders : List Standing) → IsIn order (map shown_of orders) → list_any (has_number order.number) orders ≡ true
any-number order [] i = absurd i
any-number order (other ∷ orders) (inl same) =
    ap (λ b. b || list_any (has_number order.number) orders) (eq-eqb other.name.number order.number (sym (ap (λ (s : Shown). s.number) same)))
any-number order (other ∷ orders) (inr i) = go (has_number order.number other) (any-number order orders i)
  where
    go : (b : Bool) → list_any (has_number order.number) orders ≡ true → (b || list_any (has_number order.number) orders) ≡ true
    go true rest = refl
    go false rest = rest

pub rests-in : (board : BoardState) (part : ℕ) (side : Side) (order : Shown) → part < board.parts → IsIn order (shown_line board part side)
    → RestsIn board part side order.number
rests-in board part side order within i = (within, any-number order (resting_line board part side) i)

pub rests : (board : BoardState) (part : ℕ) (side : Side) (order : Shown) → part < board.parts → IsIn order (shown_line board part side) → Rests board order.number
rests board part side order within i = (part, side, rests-in board part side order within i)

-- the next order, as the board answers it
pub behind-of : (board : BoardState) (part : ℕ) (side : Side) (order : Shown) (next : Option Shown) → part < board.parts → IsIn order (shown_line board part side)
    → ((part : ℕ) (side : Side) → RestsIn board part side order.number → next ≡ shown_behind order.number (resting_line board part side))
    → next ≡ after_in number_of order.number (shown_line board part side)
behind-of board part side order next within i told =
    told part side (rests-in board part side order within i) ∙ behind-shown order.number (resting_line board part side)

pub first-of : (board : BoardState) (part : ℕ) (side : Side) (found : Option Shown) → found ≡ first_shown (resting_line board part side)
    → found ≡ first_of (shown_line board part side)
first-of board part side found told = told ∙ first-shown (resting_line board part side)

-- ---- without an order in hand

all-pass : (xs : List Standing) (p : Standing → Bool) → ((x : Standing) → p x ≡ true) → filter p xs ≡ xs
all-pass [] p pass = refl
all-pass (x ∷ xs) p pass = ap (λ b. cond b (x ∷ filter p xs) (filter p xs)) (pass x) ∙ ap (λ l. x ∷ l) (all-pass xs p pass)

-- the line is that of the market
pub whole-line : (board : BoardState) (part : ℕ) (side : Side) → board.hand ≡ None → resting_line board part side ≡ line board.events (contract_at board.hour part) side
whole-line board part side no_hand =
    all-pass (line board.events (contract_at board.hour part) side) (λ order. not (is_in_hand board.hand order.name))
    (λ order. ap (λ hand. not (is_in_hand hand order.name)) no_hand)

-- priority begins with the price
pub price-first : (side : Side) (a b : Standing) → is_lt (priority_cmp side b a) ≡ false → is_lt (price_cmp side b.price a.price) ≡ false
price-first side a b none = go (price_cmp side b.price a.price) (time_cmp b a) none
  where
    go : (r t : Ordering) → is_lt (ordering_then r t) ≡ false → is_lt r ≡ false
    go Less t e = e
    go Equal t e = refl
    go Greater t e = refl

shown-worse : (side : Side) (orders : List Standing) → Ascends (priority_cmp side) (priority_weak side) orders → WorseBehind side (map shown_of orders)
shown-worse side [] up = tt
shown-worse side (order ∷ orders) up = (
  λ other i.
      let there = from_map shown_of other orders i in
      subst (λ (s : Shown). is_lt (price_cmp side s.price order.price) ≡ false) (sym there.2) (price-first side order there.0 (up.0 there.0 there.1)),
  shown-worse side orders up.1,
)

shown-differ : (side : Side) (orders : List Standing) → IsStrictlyInOrder (priority_cmp side) orders
    → ((a b : Standing) → IsIn a orders → IsIn b orders → a.name.number ≡ b.name.number → a ≡ b) → Differ number_of (map shown_of orders)
shown-differ side [] strict one = tt
shown-differ side (order ∷ orders) strict one = (
  λ other i. λ same.
      let there = from_map shown_of other orders i in
      let is : order ≡ there.0 = one order there.0 (inl refl) (inr there.1) (same ∙ ap (λ (s : Shown). s.number) there.2) in
      true≢false (sym (strict.0 there.0 there.1) ∙ ap (λ s. is_lt (priority_cmp side order s)) (sym is) ∙ itself (priority_cmp side) (priority_weak side) order),
  shown-differ side orders strict.1 (λ a b i j. one a b (inr i) (inr j)),
)

module _ (board : BoardState) (part : ℕ) (side : Side) (is_board : IsBoard board) where
  abbrev contract : Contract
  contract = contract_at board.hour part

  abbrev whole : List Event
  whole = is_board.stands.history

  -- the market's line is that of the history whose hour the board stands for
  pub same-line : line board.events contract side ≡ line whole contract side
  same-line = line-agree (board.hour ∷ []) board.events whole (board-agrees board is_board) contract side (inl refl)

  -- an order of it is named by the hour, and its zone is in the grid
  pub in_hour : (order : Standing) → IsIn order (line board.events contract side) → order.name.hour ≡ board.hour
  in_hour order i =
      let stands = from_line whole contract side order (subst (IsIn order) same-line i) in
      ap (λ (s : Standing). s.name.hour) stands.is
      ∙ hour_of is_board.stands.setup whole is_board.stands.fit contract stands.order stands.is_open.is_placed stands.of_contract

  in_grid : (order : Standing) → IsIn order (line board.events contract side) → HasZone board.grid order.order.zone
  in_grid order i =
      let stands = from_line whole contract side order (subst (IsIn order) same-line i) in
      let sound = (all_are_sound is_board.stands.setup whole is_board.stands.fit).orders stands.order stands.is_open.is_placed in
      subst (λ g. HasZone g order.order.zone) is_board.stands.over_grid
      (subst (λ (s : Standing). HasZone (graph_of is_board.stands.setup) s.order.zone) (sym stands.is) sound.in_zone)

  pub line-is : board.hand ≡ None → IsLine board.grid side (shown_line board part side)
  line-is no_hand = subst (λ xs. IsLine board.grid side (map shown_of xs)) (sym (whole-line board part side no_hand)) (record {
    differ = shown-differ side (line board.events contract side)
        (subst (IsStrictlyInOrder (priority_cmp side)) (sym same-line) (line-strict is_board.stands.setup whole is_board.stands.fit contract side))
        (λ a b i j. one_number is_board.stands.setup whole is_board.stands.fit contract side a b (subst (IsIn a) same-line i) (subst (IsIn b) same-line j));
    worse = shown-worse side (line board.events contract side) (line-ascends board.events contract side);
    zones = λ order i.
        let there = from_map shown_of order (line board.events contract side) i in
        subst (λ (s : Shown). HasZone board.grid s.zone) (sym there.2) (in_grid there.0 there.1);
  })
