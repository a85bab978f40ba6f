-- The law of certificates: where a flow and cuts certify how many lots each zone gives, the view is the rows
-- of the line whose zones give so many, one order after the other.
use Rattle.std.proofs.Common.{◌≡◌, ◌≢◌, ◌∙◌, ◌⊎◌, inl, inr, ℕ, zero, suc, ◌+◌, ◌-◌, ◌<◌, ◌≤◌, ◌==◌, Bool, true, false, not, List, [], ◌∷◌, ◌++◌, filter, fold, length, map, min, nat_le, sum_by, take, None, append_assoc, eq-eqb, refl, sym, ap, subst, if◌then◌else◌, arith}
use Rattle.std.proofs.lemmas.Bool.{and_parts, cases_eq, cases_lt, le-leb, leb-true, ne_eqb, not-false, true≢false}
use Rattle.std.proofs.lemmas.List.{append-nil, map-append, take-take, take_at}
use Rattle.std.proofs.lemmas.List.Sums.{sum_by-append, sum_by-cons, sum_by-take-le}
use Rattle.std.specs.List.{range_with_len}
use Rattle.order_kinds.specs.declared.order.OrderName.{OrderName}
use Rattle.order_kinds.specs.declared.price.Price.{Price}
use Rattle.order_kinds.specs.declared.side.Side.{Side}
use Rattle.order_kinds.specs.declared.side.Side.TheVariants.{Buy, Sell}
use Rattle.order_kinds.specs.Contract.{contract_at}
use Rattle.order_kinds.specs.Period.{contract_quarters}
use Rattle.order_kinds.specs.Side.{opposite}
use Rattle.zone_graph.specs.declared.route.Arc.{Arc}
use Rattle.zone_graph.specs.Graph.{Graph, HasArc, HasZone, IsGraph, border_count, end_of, start_of, zone_count}
use Rattle.zone_graph.specs.Pour.{lots_if, opposite_arc}
use Rattle.zone_graph.specs.Rooms.{room_of}
use Rattle.zone_graph.specs.Route.{AreDifferent, IsIn, has}
use Rattle.zone_graph.proofs.GridLemmas.{start_within}
use Rattle.zone_graph.proofs.Membership.{IsIn-filter, IsIn-has, IsIn-left, IsIn-range, from_filter, has-IsIn}
use Rattle.zone_graph.proofs.Routes.{end_within}
use Rattle.cut_proof.proofs.ArcSums.{sum_nothing, sum_parts, sum_passing}
use Rattle.market_model.specs.declared.reply.ViewRow.{ViewRow}
use Rattle.market_model.specs.Board.{BoardState, IsBoard, resting_line}
use Rattle.market_model.specs.Certificate.{zones_in_reach}
use Rattle.market_model.specs.Lines.{line}
use Rattle.market_model.specs.Orders.{Standing}
use Rattle.market_model.specs.Room.{room}
use Rattle.laws_of_market.proofs.LineSums.{sum-map}
use Rattle.route_choice.specs.Poured.{lots_of, rooms_after}
use Rattle.route_choice.proofs.Flows.{sum_zones}
use Rattle.laws_of_maximum.proofs.Duality.{Passes, from_outside, has-outside, leads_over, least_across, most_across, outside, outside-different, sum_same_in}
use Rattle.laws_of_rows.specs.declared.trades.Maker.{Maker}
use Rattle.laws_of_rows.specs.Depth.{Depth, after_fill, maker_of}
use Rattle.laws_of_rows.proofs.RowLemmas.{rows-are}
use Rattle.laws_of_views.proofs.FirstMakers.{AllCross, AreOnce, all-bound, filled-within, lots_filled, once-parts, own_reached, shown_in as makers_shown}
use Rattle.laws_of_views.proofs.RowSums.{rows-lots}
use Rattle.local_view.specs.Boards.{AreRoomsOf, view_of}
use Rattle.local_view.specs.Certified.{CertifiedRowsAreViews, IsCertified, left_after, lots_from, lots_to, rows_in_turn}
use Rattle.local_view.specs.Poured.{legs_with, row_if, rows_taken}
use Rattle.local_view.specs.Ways.{PassesOn}
use Rattle.local_view.specs.Whole.{all_shown, shown_in}
use Rattle.local_view.proofs.Hours.{hour-graph, line-cross, line-once, line-zones, room-like, rooms_like, view-walked}
use Rattle.local_view.proofs.Lines.{rests-all}
use Rattle.local_view.proofs.Walking.{AreTrades, walked, walked-trades}

-- ---- rows

abbrev pub lots_in : List ViewRow → ℕ
lots_in rows = sum_by (λ (row : ViewRow). row.lots) rows

pub row-lots : (price : Price) (lots : ℕ) (rows : List ViewRow) → lots_in (row_if price lots rows) ≡ lots + lots_in rows
row-lots price zero rows = omega arith
row-lots price (suc more) rows = sum_by-cons (λ (row : ViewRow). row.lots) (record { price = price; lots = suc more }) rows

pub row-append : (price : Price) (lots : ℕ) (rows others : List ViewRow) → row_if price lots (rows ++ others) ≡ row_if price lots rows ++ others
row-append price zero rows others = refl
row-append price (suc more) rows others = refl

-- one more row has as many lots as the rows had more
last-lots : (price : Price) (lots others : ℕ) (rows : List ViewRow) → lots_in (rows ++ row_if price lots []) ≡ lots_in (rows ++ row_if price others []) → lots ≡ others
last-lots price lots others rows same =
    omega (
      arith,
      sum_by-append (λ (row : ViewRow). row.lots) rows (row_if price lots []),
      sum_by-append (λ (row : ViewRow). row.lots) rows (row_if price others []),
      row-lots price lots [],
      row-lots price others [],
      same,
    )

-- ---- what the orders of a zone show

shown-sum : (orders : List Standing) (zone : ℕ) → shown_in orders zone ≡ sum_by (λ (order : Standing). lots_if (order.order.zone == zone) order.shown) orders
shown-sum orders zone = sum_passing (λ (order : Standing). order.order.zone == zone) (λ (order : Standing). order.shown) orders

pub shown-cons : (order : Standing) (orders : List Standing) (zone : ℕ) → shown_in (order ∷ orders) zone ≡ lots_if (order.order.zone == zone) order.shown + shown_in orders zone
shown-cons order orders zone =
    omega (arith, shown-sum (order ∷ orders) zone, shown-sum orders zone, sum_by-cons (λ (o : Standing). lots_if (o.order.zone == zone) o.shown) order orders)

pub shown-push : (first : List Standing) (order : Standing) (zone : ℕ) → shown_in (first ++ order ∷ []) zone ≡ shown_in first zone + lots_if (order.order.zone == zone) order.shown
shown-push first order zone =
    omega (
      arith,
      shown-sum (first ++ order ∷ []) zone,
      shown-sum first zone,
      sum_by-append (λ (o : Standing). lots_if (o.order.zone == zone) o.shown) first (order ∷ []),
    )

pub shown-own : (first : List Standing) (order : Standing) → shown_in (first ++ order ∷ []) order.order.zone ≡ shown_in first order.order.zone + order.shown
shown-own first order =
    shown-push first order order.order.zone ∙ ap (λ b. shown_in first order.order.zone + lots_if b order.shown) (eq-eqb order.order.zone order.order.zone refl)

pub shown-other : (first : List Standing) (order : Standing) (zone : ℕ) → order.order.zone ≢ zone → shown_in (first ++ order ∷ []) zone ≡ shown_in first zone
shown-other first order zone apart =
    let none : lots_if (order.order.zone == zone) order.shown ≡ 0 = ap (λ b. lots_if b order.shown) (ne_eqb order.order.zone zone apart) in
    omega (arith, shown-push first order zone, none)

-- the more orders, the more they show
pub shown-more : (orders : List Standing) (few many zone : ℕ) → few ≤ many → shown_in (take few orders) zone ≤ shown_in (take many orders) zone
shown-more orders few many zone less =
    let shown : Standing → ℕ = λ order. lots_if (order.order.zone == zone) order.shown in
    let part : sum_by shown (take few (take many orders)) ≤ sum_by shown (take many orders) = sum_by-take-le shown (take many orders) few in
    let same : sum_by shown (take few (take many orders)) ≡ sum_by shown (take few orders) = ap (sum_by shown) (take-take few many orders less) in
    omega (arith, shown-sum (take few orders) zone, shown-sum (take many orders) zone, part, same)

-- ---- rows in turn

pub left-is : (taken : ℕ → ℕ) (order : Standing) (zone : ℕ) → left_after taken order zone ≡ taken zone - lots_if (order.order.zone == zone) order.shown
left-is taken order zone = by (cases_eq order.order.zone zone)
  where
    by : (order.order.zone ≡ zone) ⊎ (order.order.zone ≢ zone) → left_after taken order zone ≡ taken zone - lots_if (order.order.zone == zone) order.shown
    by (inl same) =
        ap (λ b. if b then taken zone - order.shown else taken zone) (eq-eqb zone order.order.zone (sym same))
        ∙ ap (λ b. taken zone - lots_if b order.shown) (sym (eq-eqb order.order.zone zone same))
    by (inr apart) =
        ap (λ b. if b then taken zone - order.shown else taken zone) (ne_eqb zone order.order.zone (λ e. apart (sym e)))
        ∙ (let all : taken zone ≡ taken zone - 0 = omega arith in all)
        ∙ ap (λ b. taken zone - lots_if b order.shown) (sym (ne_eqb order.order.zone zone apart))

-- one more order gives what those before it leave
pub turn-push : (taken : ℕ → ℕ) (first : List Standing) (order : Standing)
    → rows_in_turn taken (first ++ order ∷ []) ≡ rows_in_turn taken first ++ row_if order.price (min order.shown (taken order.order.zone - shown_in first order.order.zone)) []
unfolding rows_in_turn
turn-push taken [] order = ap (λ n. row_if order.price (min order.shown n) []) (let all : taken order.order.zone ≡ taken order.order.zone - 0 = omega arith in all)
turn-push taken (next ∷ first) order =
    let zone : ℕ = order.order.zone in
    let lots : ℕ = min next.shown (taken next.order.zone) in
    let less : left_after taken next zone - shown_in first zone ≡ taken zone - shown_in (next ∷ first) zone =
    omega (arith, left-is taken next zone, shown-cons next first zone) in
    ap (row_if next.price lots) (turn-push (left_after taken next) first order)
    ∙ row-append next.price lots (rows_in_turn (left_after taken next) first) (row_if order.price (min order.shown (left_after taken next zone - shown_in first zone)) [])
    ∙ ap (λ n. row_if next.price lots (rows_in_turn (left_after taken next) first) ++ row_if order.price (min order.shown n) []) less

-- an order takes its part of what the zones of a set give, where its own is one of them
left-sum : (taken : ℕ → ℕ) (order : Standing) (zones : List ℕ) → AreDifferent zones
    → sum_by (left_after taken order) zones + lots_if (has order.order.zone zones) (min order.shown (taken order.order.zone)) ≡ sum_by taken zones
left-sum taken order zones once =
    let part : ℕ = min order.shown (taken order.order.zone) in
    let zone_of : Standing → ℕ = λ o. o.order.zone in
    let parts = sum_parts taken (left_after taken order) (λ zone. lots_if (order.order.zone == zone) part) zones each in
    let same = sum_same_in (λ zone. sum_by (λ (o : Standing). part) (filter (λ (o : Standing). o.order.zone == zone) (order ∷ []))) (λ zone. lots_if (order.order.zone == zone) part) zones
    (λ zone i. let all = sum_passing (λ (o : Standing). o.order.zone == zone) (λ (o : Standing). part) (order ∷ []) in omega (arith, all)) in
    let own = sum_zones zone_of (λ (o : Standing). part) (order ∷ []) zones once in
    omega (arith, parts, same, own)
  where
    each : (zone : ℕ) → taken zone ≡ left_after taken order zone + lots_if (order.order.zone == zone) (min order.shown (taken order.order.zone))
    each zone = by (cases_eq order.order.zone zone)
      where
        by : (order.order.zone ≡ zone) ⊎ (order.order.zone ≢ zone) → taken zone ≡ left_after taken order zone + lots_if (order.order.zone == zone) (min order.shown (taken order.order.zone))
        by (inl same) =
            let own : lots_if (order.order.zone == zone) order.shown ≡ order.shown = ap (λ b. lots_if b order.shown) (eq-eqb order.order.zone zone same) in
            let part : lots_if (order.order.zone == zone) (min order.shown (taken order.order.zone)) ≡ min order.shown (taken zone) =
            ap (λ b. lots_if b (min order.shown (taken order.order.zone))) (eq-eqb order.order.zone zone same) ∙ ap (λ z. min order.shown (taken z)) same in
            omega (arith, own, part, left-is taken order zone)
        by (inr apart) =
            let own : lots_if (order.order.zone == zone) order.shown ≡ 0 = ap (λ b. lots_if b order.shown) (ne_eqb order.order.zone zone apart) in
            let part : lots_if (order.order.zone == zone) (min order.shown (taken order.order.zone)) ≡ 0 = ap (λ b. lots_if b (min order.shown (taken order.order.zone))) (ne_eqb order.order.zone zone apart) in
            omega (arith, own, part, left-is taken order zone)

-- what orders show that are in none of some zones
abbrev shown_apart : List ℕ → List Standing → ℕ
shown_apart zones orders = sum_by (λ (order : Standing). lots_if (not (has order.order.zone zones)) order.shown) orders

part-most : (b : Bool) (part shown : ℕ) → part ≤ shown → part ≤ lots_if (not b) shown + lots_if b part
part-most true part shown most = omega arith
part-most false part shown most = omega (arith, most)

part-least : (b : Bool) (shown taken : ℕ) → (b ≡ false → shown ≤ taken) → lots_if (not b) shown + lots_if b (min shown taken) ≤ min shown taken
part-least true shown taken all = omega arith
part-least false shown taken all = let enough = all refl in omega (arith, enough)

-- in turn no more is given than some zones give, and than the orders show that are in none of them
turn-most : (zones : List ℕ) (taken : ℕ → ℕ) (orders : List Standing) → AreDifferent zones → lots_in (rows_in_turn taken orders) ≤ shown_apart zones orders + sum_by taken zones
unfolding rows_in_turn
turn-most zones taken [] once = omega arith
turn-most zones taken (order ∷ orders) once =
    let part : ℕ = min order.shown (taken order.order.zone) in
    omega (
      arith,
      row-lots order.price part (rows_in_turn (left_after taken order) orders),
      turn-most zones (left_after taken order) orders once,
      left-sum taken order zones once,
      part-most (has order.order.zone zones) part order.shown (omega arith),
      sum_by-cons (λ (o : Standing). lots_if (not (has o.order.zone zones)) o.shown) order orders,
    )

-- and no less, where these zones give no more than their orders show, and the others all of it
turn-least : (zones : List ℕ) (taken : ℕ → ℕ) (orders : List Standing) → AreDifferent zones
    → ((order : Standing) → IsIn order orders → has order.order.zone zones ≡ false → shown_in orders order.order.zone ≤ taken order.order.zone)
    → ((zone : ℕ) → IsIn zone zones → taken zone ≤ shown_in orders zone) → shown_apart zones orders + sum_by taken zones ≤ lots_in (rows_in_turn taken orders)
unfolding rows_in_turn
turn-least zones taken [] once enough most = let none = sum_nothing taken zones (λ zone i. let least = most zone i in omega (arith, least)) in omega (arith, none)
turn-least zones taken (order ∷ orders) once enough most =
    let own : lots_if (order.order.zone == order.order.zone) order.shown ≡ order.shown = ap (λ b. lots_if b order.shown) (eq-eqb order.order.zone order.order.zone refl) in
    let rest = turn-least zones (left_after taken order) orders once
    (λ other i apart. let all = enough other (inr i) apart in omega (arith, all, shown-cons order orders other.order.zone, left-is taken order other.order.zone))
    (λ zone i. let least = most zone i in omega (arith, least, shown-cons order orders zone, left-is taken order zone)) in
    omega (
      arith,
      row-lots order.price (min order.shown (taken order.order.zone)) (rows_in_turn (left_after taken order) orders),
      rest,
      left-sum taken order zones once,
      part-least (has order.order.zone zones) order.shown (taken order.order.zone)
          (λ apart. let all = enough order (inl refl) apart in omega (arith, all, own, shown-cons order orders order.order.zone)),
      sum_by-cons (λ (o : Standing). lots_if (not (has o.order.zone zones)) o.shown) order orders,
    )

-- ---- walks

pub nobody : OrderName
nobody = record { hour = 0; number = 0 }

-- one more maker adds its row at the end
walk-push : (graph : Graph) (side : Side) (zone : ℕ) (makers : List Maker) (maker : Maker) (room : Arc → ℕ) (left : ℕ)
    → (lots : ℕ) × (walked graph side zone room left (makers ++ maker ∷ []) ≡ walked graph side zone room left makers ++ row_if maker.price lots [])
unfolding rows_taken
walk-push graph side zone [] maker room left = (lots_of (legs_with graph room side zone maker.zone (min left maker.left)), refl)
walk-push graph side zone (next ∷ makers) maker room left =
    let legs = legs_with graph room side zone next.zone (min left next.left) in
    let rest = walk-push graph side zone makers maker (rooms_after room legs) (left - lots_of legs) in (
      rest.0,
      ap (row_if next.price (lots_of legs)) rest.1
          ∙ row-append next.price (lots_of legs) (walked graph side zone (rooms_after room legs) (left - lots_of legs) makers) (row_if maker.price rest.0 []),
    )

-- what makers show in some zones
makers-shown : (zones : List ℕ) (orders : List Standing) → makers_shown zones (map maker_of orders) ≡ sum_by (λ (order : Standing). lots_if (has order.order.zone zones) order.shown) orders
makers-shown zones orders = sum-map (λ (maker : Maker). lots_if (has maker.zone zones) maker.left) maker_of orders

-- ---- the law

module _ (graph : Graph) (is : IsGraph graph) (side : Side) (zone : ℕ) (known : HasZone graph zone) (room : Arc → ℕ) (orders : List Standing) (once : AreOnce (map maker_of orders))
    (cross : AllCross side (map maker_of orders)) (in_zones : (order : Standing) → IsIn order orders → HasZone graph order.order.zone) (few : all_shown orders ≤ 4294967295)
    (flow : Arc → ℕ) (taken cut : ℕ → ℕ) (certified : IsCertified graph room side zone orders flow taken cut) where
  passes : (other : ℕ) → HasZone graph other → other ≢ zone → Passes graph (opposite side) flow other (taken other)
  passes other there apart = by side (certified.balanced other there apart)
    where
      by : (s : Side) → PassesOn graph s flow other (taken other) → Passes graph (opposite s) flow other (taken other)
      by Buy on = on
      by Sell on = on

  -- some first orders of the line
  module _ (first after : List Standing) (parts : orders ≡ first ++ after) where
    first-in : (order : Standing) → IsIn order first → IsIn order orders
    first-in order i = subst (IsIn order) (sym parts) (IsIn-left order first after i)

    makers : map maker_of orders ≡ map maker_of first ++ map maker_of after
    makers = ap (map maker_of) parts ∙ map-append maker_of first after

    first-once : AreOnce (map maker_of first)
    first-once = (once-parts (map maker_of first) (map maker_of after) (subst AreOnce makers once)).0

    first-cross : AllCross side (map maker_of first)
    first-cross maker i = cross maker (subst (IsIn maker) (sym makers) (IsIn-left maker (map maker_of first) (map maker_of after) i))

    first-few : all_shown first ≤ 4294967295
    first-few = omega (arith, few, ap all_shown parts, sum_by-append (λ (order : Standing). order.shown) first after)

    taken-first : take (length first) orders ≡ first
    taken-first = ap (take (length first)) parts ∙ take_at first after (length first) refl

    -- of these, what those in a set of zones show
    apart-shown : (zones : List ℕ) → shown_apart (outside graph zones) first ≡ makers_shown zones (map maker_of first)
    apart-shown zones =
        sum_same_in (λ (order : Standing). lots_if (not (has order.order.zone (outside graph zones))) order.shown) (λ (order : Standing). lots_if (has order.order.zone zones) order.shown) first
        (λ order i. ap (λ b. lots_if (not b) order.shown) (has-outside graph zones order.order.zone (in_zones order (first-in order i))) ∙ twice (has order.order.zone zones) order.shown)
        ∙ sym (makers-shown zones first)
      where
        twice : (b : Bool) (n : ℕ) → lots_if (not (not b)) n ≡ lots_if b n
        twice true n = refl
        twice false n = refl

    abbrev trades : AreTrades graph is side zone (map maker_of first) room 4294967295
    trades = walked-trades graph is side zone (map maker_of first) room 4294967295 first-once first-cross

    walk-lots : lots_in (walked graph side zone room 4294967295 (map maker_of first)) ≡ lots_filled trades.fills
    walk-lots = ap lots_in (sym trades.rows ∙ rows-are nobody trades.fills) ∙ rows-lots nobody trades.fills

    -- they give no more in turn than the walk takes
    turn-walked : lots_in (rows_in_turn taken first) ≤ lots_in (walked graph side zone room 4294967295 (map maker_of first))
    turn-walked = elim (all-bound graph is side zone known room (map maker_of first) 4294967295 trades.fills first-once first-cross trades.run) [
      | inl asked ↦
          let most = turn-most [] taken first tt in
          let all : shown_apart [] first ≡ all_shown first = refl in omega (arith, most, all, asked, first-few, walk-lots)
      | inr bounded ↦
          let last : Arc → ℕ = (fold after_fill (let start : Depth = record { makers = map maker_of first; room = room; left = 4294967295 } in start) trades.fills).room in
          let zones : List ℕ = zones_in_reach graph last (opposite side) zone in
          let across = most_across graph zone flow zones is (own_reached graph is side zone known last) room (opposite side) taken certified.within passes in
          omega (arith, turn-most (outside graph zones) taken first (outside-different graph zones), apart-shown zones, across, bounded, walk-lots)
    ]

    -- the zones whose cuts are not before the end of these orders
    abbrev full : List ℕ
    full = filter (λ other. nat_le (length first) (cut other)) (range_with_len 0 (zone_count graph))

    full-cut : (other : ℕ) → has other full ≡ true → length first ≤ cut other
    full-cut other there =
        leb-true (length first) (cut other) (from_filter (λ z. nat_le (length first) (cut z)) other (range_with_len 0 (zone_count graph)) (IsIn-has other full there)).1

    cut-full : (other : ℕ) → HasZone graph other → length first ≤ cut other → has other full ≡ true
    cut-full other there late =
        has-IsIn other full
        (IsIn-filter (λ z. nat_le (length first) (cut z)) other (range_with_len 0 (zone_count graph)) (IsIn-range other 0 (zone_count graph) (omega arith) (omega (arith, there)))
        (le-leb (length first) (cut other) late))

    short-cut : (other : ℕ) → HasZone graph other → not (has other full) ≡ true → cut other < length first
    short-cut other there away = elim (cases_lt (cut other) (length first)) [
      | inl early ↦ early
      | inr late ↦ absurd (true≢false (sym away ∙ ap not (cut-full other there late)))
    ]

    own-full : has zone full ≡ true
    own-full = cut-full zone known (let own = certified.own in omega (arith, own, ap length parts, length-parts first after))
      where
        length-parts : (xs ys : List Standing) → length xs ≤ length (xs ++ ys)
        length-parts [] ys = omega arith
        length-parts (x ∷ xs) ys = omega (arith, length-parts xs ys)

    -- an arc over their edge has no room to spare
    no-spare : (arc : Arc) → HasArc graph arc → leads_over graph (opposite side) full arc ≡ true → room arc + flow (opposite_arc arc) ≤ flow arc
    no-spare arc there over = elim (cases_lt (flow arc) (room arc + flow (opposite_arc arc))) [
      | inl spare ↦ absurd (by side over (certified.closed arc there spare))
      | inr all ↦ all
    ]
      where
        by : (s : Side) → leads_over graph (opposite s) full arc ≡ true → cut (lots_to graph s arc) ≤ cut (lots_from graph s arc) → ⊥
        by Sell over no_later =
            let ends = and_parts (not (has (start_of graph arc) full)) (has (end_of graph arc) full) over in
            omega (arith, no_later, short-cut (start_of graph arc) (start_within graph arc is there) ends.0, full-cut (end_of graph arc) ends.1)
        by Buy over no_later =
            let ends = and_parts (has (start_of graph arc) full) (not (has (end_of graph arc) full)) over in
            omega (arith, no_later, short-cut (end_of graph arc) (end_within graph arc is there) ends.1, full-cut (start_of graph arc) ends.0)

    -- in them the orders give all that they show, and those outside no more than their orders show
    enough : (order : Standing) → IsIn order first → has order.order.zone (outside graph full) ≡ false → shown_in first order.order.zone ≤ taken order.order.zone
    enough order i apart =
        let other : ℕ = order.order.zone in
        let there = in_zones order (first-in order i) in
        let inside = not-false (has other full) (sym (has-outside graph full other there) ∙ apart) in
        omega (arith, shown-more orders (length first) (cut other) other (full-cut other inside), ap (λ os. shown_in os other) taken-first, certified.before other there)

    short : (other : ℕ) → IsIn other (outside graph full) → taken other ≤ shown_in first other
    short other i =
        let away = from_outside graph full other i in
        let early = short-cut other away.0 away.1 in
        omega (arith, shown-more orders (suc (cut other)) (length first) other (omega (arith, early)), ap (λ os. shown_in os other) taken-first, certified.behind other away.0)

    -- the walk takes no more than they give in turn
    walked-turn : lots_in (walked graph side zone room 4294967295 (map maker_of first)) ≤ lots_in (rows_in_turn taken first)
    walked-turn =
        omega (
          arith,
          walk-lots,
          filled-within graph is side zone known full room (map maker_of first) 4294967295 trades.fills first-once own-full trades.run,
          least_across graph zone flow full is own-full room (opposite side) taken no-spare passes,
          apart-shown full,
          turn-least (outside graph full) taken first (outside-different graph full) enough short,
        )

    same-lots : lots_in (walked graph side zone room 4294967295 (map maker_of first)) ≡ lots_in (rows_in_turn taken first)
    same-lots = omega (arith, turn-walked, walked-turn)

  -- the walk's rows are those in turn
  abbrev Same : List Standing → Type 0
  Same first = walked graph side zone room 4294967295 (map maker_of first) ≡ rows_in_turn taken first

  same-none : Same []
  unfolding rows_taken rows_in_turn
  same-none = refl

  same-push : (first after : List Standing) (order : Standing) → orders ≡ (first ++ order ∷ []) ++ after → Same first → Same (first ++ order ∷ [])
  same-push first after order parts same =
      let pushed = walk-push graph side zone (map maker_of first) (maker_of order) room 4294967295 in
      let lots : ℕ = min order.shown (taken order.order.zone - shown_in first order.order.zone) in
      let walk : walked graph side zone room 4294967295 (map maker_of (first ++ order ∷ [])) ≡ rows_in_turn taken first ++ row_if order.price pushed.0 [] =
      ap (walked graph side zone room 4294967295) (map-append maker_of first (order ∷ [])) ∙ pushed.1 ∙ ap (λ rows. rows ++ row_if order.price pushed.0 []) same in
      let turn : rows_in_turn taken (first ++ order ∷ []) ≡ rows_in_turn taken first ++ row_if order.price lots [] = turn-push taken first order in
      let even : pushed.0 ≡ lots = last-lots order.price pushed.0 lots (rows_in_turn taken first) (ap lots_in (sym walk) ∙ same-lots (first ++ order ∷ []) after parts ∙ ap lots_in turn) in
      walk ∙ ap (λ n. rows_in_turn taken first ++ row_if order.price n []) even ∙ sym turn

  same-all : (first after : List Standing) → orders ≡ first ++ after → Same first → Same orders
  same-all first [] parts same = subst Same (sym (parts ∙ append-nil first)) same
  same-all first (order ∷ after) parts same =
      let next : orders ≡ (first ++ order ∷ []) ++ after = parts ∙ sym (append_assoc first (order ∷ []) after) in
      same-all (first ++ order ∷ []) after next (same-push first after order next same)

  pub certified-walk : walked graph side zone room 4294967295 (map maker_of orders) ≡ rows_in_turn taken orders
  certified-walk = same-all [] orders refl same-none

-- ---- views

-- a certificate is one over rooms that are the same for each arc
certified-like : (graph : Graph) (own like : Arc → ℕ) (side : Side) (zone : ℕ) (orders : List Standing) (flow : Arc → ℕ) (taken cut : ℕ → ℕ)
    → ((arc : Arc) → HasArc graph arc → like arc ≡ own arc) → IsCertified graph own side zone orders flow taken cut → IsCertified graph like side zone orders flow taken cut
certified-like graph own like side zone orders flow taken cut same certified = record {
  within = λ arc there. subst (λ n. flow arc ≤ n + flow (opposite_arc arc)) (sym (same arc there)) (certified.within arc there);
  balanced = certified.balanced;
  before = certified.before;
  behind = certified.behind;
  own = certified.own;
  closed = λ arc there spare. certified.closed arc there (subst (λ n. flow arc < n + flow (opposite_arc arc)) (same arc there) spare);
}

pub certified_views : CertifiedRowsAreViews
certified_views graph hour events part side zone flow taken cut of known certified few =
    let own : Arc → ℕ = room events (contract_quarters (contract_at hour part)) in
    let rooms : List (ℕ × ℕ) = rooms_like (border_count graph) own in
    let like : (arc : Arc) → HasArc graph arc → room_of rooms arc ≡ own arc = λ arc there. room-like (border_count graph) own arc there in
    let orders : List Standing = line events (contract_at hour part) side in
    sym (view-walked graph hour events of part side zone rooms like)
    ∙ certified-walk graph (hour-graph graph hour events of) side zone known (room_of rooms) orders (line-once graph hour events of part side) (line-cross graph hour events of part side)
    (line-zones graph hour events of part side) few flow taken cut (certified-like graph own (room_of rooms) side zone orders flow taken cut like certified)

-- ---- boards

-- the rows in turn of a board's line are its view, where a flow and cuts over its rooms certify them
pub certified_view : (board : BoardState) → board.hand ≡ None → IsBoard board → (part : ℕ) (side : Side) (zone : ℕ) → HasZone board.grid zone
    → (rooms : List (ℕ × ℕ)) → AreRoomsOf board part rooms → (flow : Arc → ℕ) (taken cut : ℕ → ℕ)
    → IsCertified board.grid (room_of rooms) side zone (resting_line board part side) flow taken cut → all_shown (resting_line board part side) ≤ 4294967295
    → rows_in_turn taken (resting_line board part side) ≡ view_of board part side zone
certified_view board none is part side zone known rooms of flow taken cut certified few =
    let rests : resting_line board part side ≡ line board.events (contract_at board.hour part) side = rests-all board part side none in
    let hour_of = is.stands in
    let orders : List Standing = line board.events (contract_at board.hour part) side in
    ap (rows_in_turn taken) rests
    ∙ sym (certified-walk board.grid (hour-graph board.grid board.hour board.events hour_of) side zone known (room_of rooms) orders
    (line-once board.grid board.hour board.events hour_of part side) (line-cross board.grid board.hour board.events hour_of part side)
    (line-zones board.grid board.hour board.events hour_of part side) (subst (λ os. all_shown os ≤ 4294967295) rests few) flow taken cut
    (subst (λ os. IsCertified board.grid (room_of rooms) side zone os flow taken cut) rests certified))
    ∙ view-walked board.grid board.hour board.events hour_of part side zone rooms of.are
