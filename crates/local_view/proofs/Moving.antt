-- The law of moved cuts: where orders of a line are replaced by others, all of zones whose cuts lie before them, a
-- certificate stands, and the rows are the same.
use Rattle.std.proofs.Common.{◌≡◌, ◌≢◌, ◌∙◌, inl, inr, ℕ, zero, suc, ◌+◌, ◌-◌, ◌<◌, ◌≤◌, ◌==◌, List, [], ◌∷◌, ◌++◌, drop, get_or, length, map, min, sum_by, take, refl, sym, ap, ap₂, subst, if◌then◌else◌, arith}
use Rattle.std.proofs.lemmas.Bool.{cases_lt}
use Rattle.std.proofs.lemmas.Bool.Decides.{nat_tests}
use Rattle.std.proofs.lemmas.List.{drop-take, length-drop, length-map, take-append-drop, take-map, take-take}
use Rattle.std.proofs.lemmas.List.Sums.{sum_by-append, sum_by-cons}
use Rattle.order_kinds.specs.declared.side.Side.{Side}
use Rattle.order_kinds.specs.declared.side.Side.TheVariants.{Buy, Sell}
use Rattle.zone_graph.specs.declared.route.Arc.{Arc}
use Rattle.zone_graph.specs.Graph.{Graph, HasArc, HasZone, IsGraph}
use Rattle.zone_graph.specs.Pour.{lots_if}
use Rattle.zone_graph.specs.Route.{IsIn}
use Rattle.zone_graph.proofs.GridLemmas.{start_within}
use Rattle.zone_graph.proofs.Routes.{end_within}
use Rattle.cut_proof.proofs.ArcSums.{sum_passing}
use Rattle.market_model.specs.declared.reply.ViewRow.{ViewRow}
use Rattle.market_model.specs.Orders.{Standing}
use Rattle.laws_of_market.proofs.LineSums.{sum-map}
use Rattle.local_view.specs.declared.whole.LineOrder.{LineOrder}
use Rattle.local_view.specs.Certified.{IsCertified, left_after, lots_from, lots_to, rows_in_turn}
use Rattle.local_view.specs.Moved.{AreBehindCuts, IsMoved, IsReplaced, ReplacedBehindCutsStand, StandsOn, no_order}
use Rattle.local_view.specs.Poured.{row_if}
use Rattle.local_view.specs.Whole.{in_line, shown_in}
use Rattle.local_view.proofs.Certificates.{shown-more}

-- ---- what orders as views see them show, and their rows in turn

abbrev lots_here : (zone : ℕ) → LineOrder → ℕ
lots_here zone order = lots_if (order.zone == zone) order.lots

abbrev shown_by : List LineOrder → (zone : ℕ) → ℕ
shown_by orders zone = sum_by (lots_here zone) orders

abbrev left_by : (taken : ℕ → ℕ) → LineOrder → ℕ → ℕ
left_by taken order zone = if zone == order.zone then taken zone - order.lots else taken zone

abbrev rows_by : (taken : ℕ → ℕ) → List LineOrder → List ViewRow
rows_by taken [] = []
rows_by taken (order ∷ orders) = row_if order.price (min order.lots (taken order.zone)) (rows_by (left_by taken order) orders)

-- the first orders of a line show what they show as views see them
shown-seen : (orders : List Standing) (count zone : ℕ) → shown_in (take count orders) zone ≡ shown_by (take count (map in_line orders)) zone
shown-seen orders count zone =
    sum_passing (λ (order : Standing). order.order.zone == zone) (λ (order : Standing). order.shown) (take count orders)
    ∙ sym (sum-map (lots_here zone) in_line (take count orders))
    ∙ ap (λ list. shown_by list zone) (sym (take-map in_line count orders))

-- and their rows are those of what views see
rows-seen : (taken : ℕ → ℕ) (orders : List Standing) → rows_in_turn taken orders ≡ rows_by taken (map in_line orders)
unfolding rows_in_turn
rows-seen taken [] = refl
rows-seen taken (order ∷ orders) = ap (row_if order.price (min order.shown (taken order.order.zone))) (rows-seen (left_after taken order) orders)

-- an order takes its lots from what its zone has left to give, and leaves the other zones as they are
left-seen : (taken : ℕ → ℕ) (order : LineOrder) (zone : ℕ) → left_by taken order zone ≡ taken zone - lots_here zone order
left-seen taken order zone = grind (arith, nat_tests)

-- an order of a zone with nothing left to give leaves all as it is
left-spent : (taken : ℕ → ℕ) (order : LineOrder) → taken order.zone ≡ 0 → (zone : ℕ) → left_by taken order zone ≡ taken zone
left-spent taken order spent zone = grind (arith, nat_tests)

-- rows depend on no more than how many lots each zone gives
rows-like : (taken other : ℕ → ℕ) (orders : List LineOrder) → ((zone : ℕ) → taken zone ≡ other zone) → rows_by taken orders ≡ rows_by other orders
rows-like taken other [] same = refl
rows-like taken other (order ∷ orders) same =
    ap (λ n. row_if order.price (min order.lots n) (rows_by (left_by taken order) orders)) (same order.zone)
    ∙ ap (row_if order.price (min order.lots (other order.zone)))
    (rows-like (left_by taken order) (left_by other order) orders (λ zone. ap (λ n. if zone == order.zone then n - order.lots else n) (same zone)))

-- ---- orders that are left out

-- first orders whose zones have nothing left to give have no rows
rows-spent : (taken : ℕ → ℕ) (orders : List LineOrder) (last : ℕ) → ((place : ℕ) → place < last → taken (get_or orders place no_order).zone ≡ 0)
    → rows_by taken orders ≡ rows_by taken (drop last orders)
rows-spent taken orders zero spent = refl
rows-spent taken [] (suc last) spent = refl
rows-spent taken (order ∷ orders) (suc last) spent =
    let none : taken order.zone ≡ 0 = spent 0 (omega arith) in
    let no_lots : min order.lots (taken order.zone) ≡ 0 = omega (arith, none) in
    ap (λ n. row_if order.price n (rows_by (left_by taken order) orders)) no_lots
    ∙ rows-like (left_by taken order) taken orders (left-spent taken order none)
    ∙ rows-spent taken orders last (λ place less. spent (suc place) (omega (arith, less)))

-- nor have later ones whose zones give no more than their orders show before them
rows-without : (taken : ℕ → ℕ) (orders : List LineOrder) (first last : ℕ) → first ≤ last
    → ((place : ℕ) → first ≤ place → place < last → taken (get_or orders place no_order).zone ≤ shown_by (take first orders) (get_or orders place no_order).zone)
    → rows_by taken orders ≡ rows_by taken (take first orders ++ drop last orders)
rows-without taken orders zero last ordered most = rows-spent taken orders last (λ place less. let none = most place (omega arith) less in omega (arith, none))
rows-without taken orders (suc first) zero ordered most = absurd (omega (arith, ordered))
rows-without taken [] (suc first) (suc last) ordered most = refl
rows-without taken (order ∷ orders) (suc first) (suc last) ordered most =
    ap (row_if order.price (min order.lots (taken order.zone)))
    (rows-without (left_by taken order) orders first last (omega (arith, ordered))
    (λ place from to.
    let zone : ℕ = (get_or orders place no_order).zone in
    omega (arith, most (suc place) (omega (arith, from)) (omega (arith, to)), left-seen taken order zone, sum_by-cons (lots_here zone) order (take first orders))))

-- orders of other zones show nothing of a zone
shown-without : (orders : List LineOrder) (first last zone : ℕ) → first ≤ last → ((place : ℕ) → first ≤ place → place < last → (get_or orders place no_order).zone ≢ zone)
    → shown_by (take last orders) zone ≡ shown_by (take first orders) zone
shown-without orders zero zero zone ordered apart = refl
shown-without orders (suc first) zero zone ordered apart = absurd (omega (arith, ordered))
shown-without [] zero (suc last) zone ordered apart = refl
shown-without [] (suc first) (suc last) zone ordered apart = refl
shown-without (order ∷ orders) zero (suc last) zone ordered apart =
    let none : order.zone ≢ zone = apart 0 (omega arith) (omega arith) in
    let rest = shown-without orders zero last zone (omega arith) (λ place from to. apart (suc place) (omega arith) (omega (arith, to))) in
    grind (arith, nat_tests, sum_by-cons (lots_here zone) order (take last orders))
shown-without (order ∷ orders) (suc first) (suc last) zone ordered apart =
    let rest = shown-without orders first last zone (omega (arith, ordered)) (λ place from to. apart (suc place) (omega (arith, from)) (omega (arith, to))) in
    omega (arith, rest, sum_by-cons (lots_here zone) order (take last orders), sum_by-cons (lots_here zone) order (take first orders))

-- a zone whose cut is no earlier has none of the orders behind cuts
shown-behind : (orders : List LineOrder) (first last : ℕ) (cut : ℕ → ℕ) (zone : ℕ) → first ≤ last → AreBehindCuts orders first last cut → first ≤ cut zone
    → shown_by (take last orders) zone ≡ shown_by (take first orders) zone
shown-behind orders first last cut zone ordered behind late =
    shown-without orders first last zone ordered (λ place from to same. omega (arith, late, subst (λ z. cut z < first) same (behind.each place from to)))

-- so many orders more show what the first of the rest show
shown-onward : (orders : List LineOrder) (last more zone : ℕ) → shown_by (take (last + more) orders) zone ≡ shown_by (take last orders) zone + shown_by (take more (drop last orders)) zone
shown-onward orders last more zone =
    ap (λ list. shown_by list zone) (sym (take-append-drop last (take (last + more) orders)))
    ∙ sum_by-append (lots_here zone) (take last (take (last + more) orders)) (drop last (take (last + more) orders))
    ∙ ap₂ (λ a b. shown_by a zone + shown_by b zone) (take-take last (last + more) orders (omega arith)) (drop-take last more orders)

-- ---- places

-- places keep their order where they are moved to
moved-order : (first last next place other moved other_moved : ℕ) → first ≤ next → IsMoved first last next place moved → IsMoved first last next other other_moved → place ≤ other
    → moved ≤ other_moved
moved-order first last next place other moved other_moved onward one two ordered = grind arith

-- the zone of an order at a place is one of the graph
zone-known : (graph : Graph) (orders : List Standing) (place : ℕ) → ((order : Standing) → IsIn order orders → HasZone graph order.order.zone) → place < length (map in_line orders)
    → HasZone graph (get_or (map in_line orders) place no_order).zone
zone-known graph [] place in_zones within = absurd (omega (arith, within))
zone-known graph (order ∷ orders) zero in_zones within = in_zones order (inl refl)
zone-known graph (order ∷ orders) (suc place) in_zones within = zone-known graph orders place (λ other i. in_zones other (inr i)) (omega (arith, within))

-- ---- the law

module _ (graph : Graph) (room : Arc → ℕ) (side : Side) (zone : ℕ) (old new : List Standing) (flow : Arc → ℕ) (taken cut moved : ℕ → ℕ) (first last next : ℕ)
    (is : IsGraph graph) (known : HasZone graph zone)
    (old_zones : (order : Standing) → IsIn order old → HasZone graph order.order.zone) (new_zones : (order : Standing) → IsIn order new → HasZone graph order.order.zone)
    (certified : IsCertified graph room side zone old flow taken cut)
    (replaced : IsReplaced (map in_line old) (map in_line new) first last next)
    (old_behind : AreBehindCuts (map in_line old) first last cut) (new_behind : AreBehindCuts (map in_line new) first next cut)
    (moves : (other : ℕ) → HasZone graph other → IsMoved first last next (cut other) (moved other)) where
  abbrev old_line : List LineOrder
  old_line = map in_line old

  abbrev new_line : List LineOrder
  new_line = map in_line new

  -- up to the first place both lines show the same
  same-early : (count other : ℕ) → count ≤ first → shown_in (take count new) other ≡ shown_in (take count old) other
  same-early count other early =
      shown-seen new count other
      ∙ ap (λ list. shown_by list other) (sym (take-take count first new_line early) ∙ ap (take count) (sym replaced.before) ∙ take-take count first old_line early)
      ∙ sym (shown-seen old count other)

  -- and of a zone whose cut is no earlier, up to any place behind the last
  same-late : (count to other : ℕ) → first ≤ cut other → last ≤ count → to + last ≡ count + next → shown_in (take to new) other ≡ shown_in (take count old) other
  same-late count to other late past moves_to =
      let more : ℕ = count - last in
      let old_count : count ≡ last + more = omega (arith, past) in
      let new_count : to ≡ next + more = omega (arith, past, moves_to) in
      let old_shown : shown_in (take count old) other ≡ shown_by (take last old_line) other + shown_by (take more (drop last old_line)) other =
      shown-seen old count other ∙ ap (λ n. shown_by (take n old_line) other) old_count ∙ shown-onward old_line last more other in
      let new_shown : shown_in (take to new) other ≡ shown_by (take next new_line) other + shown_by (take more (drop next new_line)) other =
      shown-seen new to other ∙ ap (λ n. shown_by (take n new_line) other) new_count ∙ shown-onward new_line next more other in
      omega (
        arith,
        old_shown,
        new_shown,
        ap (λ list. shown_by (take more list) other) replaced.behind,
        ap (λ list. shown_by list other) replaced.before,
        shown-behind old_line first last cut other replaced.in_old.0 old_behind late,
        shown-behind new_line first next cut other replaced.in_new.0 new_behind late,
      )

  still-before : (other : ℕ) → HasZone graph other → shown_in (take (moved other) new) other ≤ taken other
  still-before other there = elim (cases_lt (cut other) first) [
    | inl early ↦ subst (λ c. shown_in (take c new) other ≤ taken other) (sym ((moves other there).early early))
        (omega (arith, certified.before other there, same-early (cut other) other (omega (arith, early))))
    | inr late ↦ elim (cases_lt (cut other) last) [
      | inl between ↦ subst (λ c. shown_in (take c new) other ≤ taken other) (sym ((moves other there).between late between))
          (omega (arith, certified.before other there, same-early first other (omega arith), shown-more old first (cut other) other late))
      | inr past ↦ omega (arith, certified.before other there, same-late (cut other) (moved other) other late past ((moves other there).late past))
    ]
  ]

  still-behind : (other : ℕ) → HasZone graph other → taken other ≤ shown_in (take (suc (moved other)) new) other
  still-behind other there = elim (cases_lt (cut other) first) [
    | inl early ↦ subst (λ c. taken other ≤ shown_in (take (suc c) new) other) (sym ((moves other there).early early))
        (omega (arith, certified.behind other there, same-early (suc (cut other)) other (omega (arith, early))))
    | inr late ↦ elim (cases_lt (cut other) last) [
      | inl between ↦ subst (λ c. taken other ≤ shown_in (take (suc c) new) other) (sym ((moves other there).between late between))
          (omega (
            arith,
            certified.behind other there,
            shown-more old (suc (cut other)) last other between,
            shown-seen old last other,
            shown-behind old_line first last cut other replaced.in_old.0 old_behind late,
            shown-seen old first other,
            same-early first other (omega arith),
            shown-more new first (suc first) other (omega arith),
          ))
      | inr past ↦
          let shifted = (moves other there).late past in
          omega (arith, certified.behind other there, same-late (suc (cut other)) (suc (moved other)) other late (omega (arith, past)) (omega (arith, shifted)))
    ]
  ]

  still-own : length new ≤ moved zone
  still-own =
      let old_length : length old_line ≡ length old = length-map old in_line in
      let past : last ≤ cut zone = omega (arith, certified.own, old_length, replaced.in_old.1) in
      omega (
        arith,
        certified.own,
        old_length,
        length-map new in_line,
        replaced.in_old.1,
        replaced.in_new.1,
        length-drop last old_line,
        length-drop next new_line,
        ap length replaced.behind,
        (moves zone known).late past,
      )

  still-closed : (arc : Arc) → HasArc graph arc → cut (lots_to graph side arc) ≤ cut (lots_from graph side arc) → moved (lots_to graph side arc) ≤ moved (lots_from graph side arc)
  still-closed arc there ordered =
      moved-order first last next (cut (lots_to graph side arc)) (cut (lots_from graph side arc)) (moved (lots_to graph side arc)) (moved (lots_from graph side arc)) replaced.in_new.0
      (moves (lots_to graph side arc) (to_known side)) (moves (lots_from graph side arc) (from_known side)) ordered
    where
      to_known : (s : Side) → HasZone graph (lots_to graph s arc)
      to_known Sell = end_within graph arc is there
      to_known Buy = start_within graph arc is there

      from_known : (s : Side) → HasZone graph (lots_from graph s arc)
      from_known Sell = start_within graph arc is there
      from_known Buy = end_within graph arc is there

  -- a zone whose cut is before the first place gives no more than its orders before that place show
  given-before : (other : ℕ) → HasZone graph other → cut other < first → taken other ≤ shown_by (take first old_line) other
  given-before other there early = omega (arith, certified.behind other there, shown-more old (suc (cut other)) first other early, shown-seen old first other)

  -- so the orders of a line from that place up to another one, all of such zones, have no rows
  rows-around : (line : List Standing) (to : ℕ) → ((order : Standing) → IsIn order line → HasZone graph order.order.zone) → (first ≤ to) × (to ≤ length (map in_line line))
      → AreBehindCuts (map in_line line) first to cut → take first old_line ≡ take first (map in_line line)
      → rows_in_turn taken line ≡ rows_by taken (take first (map in_line line) ++ drop to (map in_line line))
  rows-around line to zones within behind same =
      rows-seen taken line
      ∙ rows-without taken (map in_line line) first to within.0
      (λ place from less.
      let own : ℕ = (get_or (map in_line line) place no_order).zone in
      subst (λ (list : List LineOrder). taken own ≤ shown_by list own) same
      (given-before own (zone-known graph line place zones (omega (arith, less, within.1))) (behind.each place from less)))

  same-rows : rows_in_turn taken new ≡ rows_in_turn taken old
  same-rows =
      rows-around new next new_zones replaced.in_new new_behind replaced.before
      ∙ ap₂ (λ a b. rows_by taken (a ++ b)) (sym replaced.before) (sym replaced.behind)
      ∙ sym (rows-around old last old_zones replaced.in_old old_behind refl)

  stands : StandsOn graph room side zone old new flow taken moved
  stands = record {
    certified = record {
      within = certified.within;
      balanced = certified.balanced;
      before = still-before;
      behind = still-behind;
      own = still-own;
      closed = λ arc there spare. still-closed arc there (certified.closed arc there spare);
    };
    rows = same-rows;
  }

pub replaced_stand : ReplacedBehindCutsStand
replaced_stand = stands
