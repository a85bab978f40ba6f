-- A view after a well-formed history: its rows add up to their bound, and each place in the queue
-- gets the most.
use Rattle.std.proofs.Common.{◌≡◌, ◌∙◌, ◌⊎◌, inl, inr, ℕ, zero, suc, ◌+◌, ◌*◌, ◌≤◌, ◌==◌, ◌||◌, Bool, true, false, List, [], ◌∷◌, ◌++◌, filter, fold, length, map, take, drop, sum_by, is_some, refl, sym, ap, subst, arith}
use Rattle.std.proofs.Math.Path.{fun_ext}
use Rattle.std.proofs.lemmas.List.{length-map, take-append-drop}
use Rattle.std.proofs.Math.Nat.{mul-le-mul_left}
use Rattle.std.proofs.lemmas.List.Sums.{sum_by-cons}
use Rattle.std.specs.List.{filter_map, list_any, range_with_len}
use Rattle.order_kinds.specs.declared.contract.Contract.{Contract}
use Rattle.order_kinds.specs.declared.order.OrderName.{OrderName}
use Rattle.order_kinds.specs.declared.side.Side.{Side}
use Rattle.order_kinds.specs.declared.side.Side.TheVariants.{Buy, Sell}
use Rattle.order_kinds.specs.Period.{contract_quarters}
use Rattle.order_kinds.specs.Same.{same_name}
use Rattle.order_kinds.specs.Side.{opposite}
use Rattle.zone_graph.specs.declared.route.Arc.{Arc}
use Rattle.zone_graph.specs.Graph.{Graph, HasArc, HasZone, zone_count}
use Rattle.zone_graph.specs.Pour.{lots_if}
use Rattle.zone_graph.specs.Route.{IsIn, has}
use Rattle.zone_graph.specs.Steps.{IsRun, steps}
use Rattle.zone_graph.proofs.BestRoute.{best_route-rooms}
use Rattle.zone_graph.proofs.Membership.{IsIn-map, IsIn-range, from_map, has-IsIn}
use Rattle.zone_graph.proofs.Runs.{run-measured}
use Rattle.market_model.specs.declared.event.Event.{Event}
use Rattle.market_model.specs.declared.event.Leg.{Leg}
use Rattle.market_model.specs.declared.reply.ViewRow.{ViewRow}
use Rattle.market_model.specs.declared.setup.Setup.{Setup}
use Rattle.market_model.specs.Certificate.{room_across, unfilled_zones, zones_in_reach}
use Rattle.market_model.specs.Grid.{graph_of}
use Rattle.market_model.specs.History.{and_then}
use Rattle.market_model.specs.Lines.{line}
use Rattle.market_model.specs.Orders.{Standing, filled, left, open_names, standing}
use Rattle.market_model.specs.Room.{room}
use Rattle.market_model.specs.Taking.{take as taking}
use Rattle.market_model.specs.View.{rows_of, trade_of, view}
use Rattle.market_model.specs.WellFormed.{IsHistory, IsMarketSetup}
use Rattle.laws_of_market.proofs.Balances.{shown-le-left}
use Rattle.laws_of_market.proofs.LineSums.{sum-map}
use Rattle.laws_of_market.proofs.Placed.{all_are_sound}
use Rattle.laws_of_market.proofs.Repeats.{fold-and_then}
use Rattle.laws_of_market.proofs.Trades.{from_line}
use Rattle.laws_of_market.proofs.Lefts.{left-most}
use Rattle.cut_proof.proofs.ArcSums.{sum_passing}
use Rattle.laws_of_maximum.specs.FlowPlan.{FlowPlan, IsBalanced, given_in, value_of}
use Rattle.laws_of_maximum.proofs.Duality.{no_plan_more}
use Rattle.laws_of_rows.specs.declared.trades.Fill.{Fill}
use Rattle.laws_of_rows.specs.declared.trades.Maker.{Maker}
use Rattle.laws_of_rows.specs.Depth.{Depth, after_fill, leg_of, maker_of, next_fill}
use Rattle.laws_of_rows.proofs.Fills.{next_fill-is}
use Rattle.laws_of_rows.proofs.NextLeg.{IsDepth, leg_event}
use Rattle.laws_of_rows.proofs.Start.{after-start, depth-start, start, taker_name}
use Rattle.laws_of_rows.proofs.Views.{Takes, legs-are, takes-next, trades-of}
use Rattle.laws_of_views.specs.Views.{EachPlaceGetsTheMost, EachPlaceTakesAPlan, IsPlanOver, TakesAPlan, ViewsTakeNoMoreThanIsOpen, ViewsAddUpToTheirBound, bound_shown, legs_viewed, lots_of_rows, lots_taken_of, zones_viewed}
use Rattle.laws_of_views.proofs.FirstMakers.{filled-most, AllCross, AreOnce, all-bound, first-bound, is_named_in, lots_filled, lots_with, once-parts, shown_in}
use Rattle.laws_of_views.proofs.Attained.{Balances, all-given, first-flows, flow_of, given, gives}
use Rattle.laws_of_views.proofs.LineMakers as line_makers
use Rattle.laws_of_views.proofs.OpenOrders.{line-open}
use Rattle.laws_of_views.proofs.RowSums.{rows-lots}

-- ---- makers of orders

shown-is : (zones : List ℕ) (orders : List Standing) → shown_in zones (map maker_of orders) ≡ sum_by (λ (o : Standing). o.shown) (filter (λ (o : Standing). has o.order.zone zones) orders)
shown-is zones orders =
    sum-map (λ (m : Maker). lots_if (has m.zone zones) m.left) maker_of orders
    ∙ sym (sum_passing (λ (o : Standing). has o.order.zone zones) (λ (o : Standing). o.shown) orders)

named-is : (orders : List Standing) (name : OrderName) → is_named_in (map maker_of orders) name ≡ list_any (λ (o : Standing). same_name o.name name) orders
named-is [] name = refl
named-is (o ∷ orders) name = ap (λ b. same_name o.name name || b) (named-is orders name)

taken-is : (taker : OrderName) (orders : List Standing) (fills : List Fill) → lots_with (map maker_of orders) fills ≡ lots_taken_of orders (map (leg_of taker) fills)
taken-is taker orders fills =
    ap (λ (test : OrderName → Bool). sum_by (λ (f : Fill). lots_if (test f.maker) f.lots) fills) (fun_ext (named-is orders))
    ∙ sym (sum-map (λ (l : Leg). lots_if (list_any (λ (o : Standing). same_name o.name l.maker) orders) l.lots) (leg_of taker) fills)

map-append : (xs ys : List Standing) → map maker_of (xs ++ ys) ≡ map maker_of xs ++ map maker_of ys
map-append [] ys = refl
map-append (x ∷ xs) ys = ap (λ l. maker_of x ∷ l) (map-append xs ys)

front-in : (x : Standing) (count : ℕ) (xs : List Standing) → IsIn x (take count xs) → IsIn x xs
front-in x zero xs i = absurd i
front-in x (suc count) [] i = absurd i
front-in x (suc count) (y ∷ xs) i = elim i [ inl same ↦ inl same | inr later ↦ inr (front-in x count xs later) ]

module _ (setup : Setup) (is_setup : IsMarketSetup setup) (events : List Event) (history : IsHistory setup events) (contract : Contract) (side : Side) (zone : ℕ)
    (known : HasZone (graph_of setup) zone) where
  abbrev pub graph : Graph
  graph = graph_of setup

  abbrev orders : List Standing
  orders = line events contract side

  abbrev pub makers : List Maker
  makers = map maker_of (line events contract side)

  abbrev pub rooms : Arc → ℕ
  rooms = room events (contract_quarters contract)

  abbrev pub name : OrderName
  name = taker_name setup events history.fit contract side zone

  abbrev pub begun : List Event
  begun = start setup events history.fit contract side zone

  abbrev pub found : Depth
  found = record { makers = map maker_of (line events contract side); room = room events (contract_quarters contract); left = 4294967295 }

  makers-once : AreOnce makers
  makers-once = line_makers.makers-once setup events history.fit contract side

  pub makers-cross : AllCross side makers
  makers-cross = line_makers.makers-cross setup events history.fit contract side

  -- the trades
  abbrev fills : List Fill
  fills = steps 4294967295 (next_fill (graph_of setup) side zone) after_fill (record { makers = map maker_of (line events contract side); room = room events (contract_quarters contract); left = 4294967295 })

  run : IsRun (next_fill graph side zone) after_fill found fills
  run =
      run-measured 4294967295 (next_fill graph side zone) after_fill (λ d. d.left) found
      (λ d fill e. let f = next_fill-is graph side zone d fill is_setup e in let some = f.some in let enough = f.enough in omega (arith, some, enough)) (omega arith)

  pub of : IsDepth graph events contract side name begun found
  of = depth-start setup events history.fit contract side zone graph rooms (λ arc on. refl)

  legs : taking graph begun name ≡ map (leg_event contract name) fills
  legs = legs-are graph is_setup setup events history.fit contract side zone found fills of run

  viewed : legs_viewed graph events contract side zone ≡ map (leg_of name) fills
  viewed = ap (filter_map trade_of) legs ∙ trades-of graph is_setup events contract side zone name fills

  rows : lots_of_rows graph events contract side zone ≡ lots_filled fills
  unfolding view
  rows = ap (λ ls. sum_by (λ (row : ViewRow). row.lots) (rows_of ls)) viewed ∙ rows-lots name fills

  -- ---- all orders

  -- the history and what the taker finds, after some trades
  taken : (V : List Event) (d : Depth) (some : List Fill) → Takes graph is_setup events contract side zone name V d → IsRun (next_fill graph side zone) after_fill d some
      → Takes graph is_setup events contract side zone name (fold and_then V (map (leg_event contract name) some)) (fold after_fill d some)
  taken V d [] takes none = takes
  taken V d (fill ∷ some) takes goes =
      taken (and_then V (leg_event contract name fill)) (after_fill d fill) some (takes-next graph is_setup events contract side zone name V d takes fill goes.0) goes.1

  same_reach : (one other : Arc → ℕ) → ((arc : Arc) → HasArc graph arc → one arc ≡ other arc) → (side : Side) → zones_in_reach graph one side zone ≡ zones_in_reach graph other side zone
  same_reach one other are Buy =
      ap (λ (test : ℕ → Bool). filter test (range_with_len 0 (zone_count graph))) (fun_ext (λ z. ap is_some (best_route-rooms graph one other z zone is_setup are)))
  same_reach one other are Sell =
      ap (λ (test : ℕ → Bool). filter test (range_with_len 0 (zone_count graph))) (fun_ext (λ z. ap is_some (best_route-rooms graph one other zone z is_setup are)))

  sum : (lots_of_rows graph events contract side zone ≡ 4294967295)
      ⊎ (lots_of_rows graph events contract side zone ≡ bound_shown graph events contract side orders (zones_viewed graph events contract side zone))
  unfolding unfilled_zones
  sum =
      let last = taken begun found fills (record { after = after-start setup events history.fit contract side zone; of = of }) run in
      let after : Depth = fold after_fill found fills in
      let zones : zones_in_reach graph after.room (opposite side) zone ≡ zones_viewed graph events contract side zone =
      same_reach after.room (room (fold and_then begun (map (leg_event contract name) fills)) (contract_quarters contract)) last.of.rooms (opposite side)
      ∙ ap (λ V. zones_in_reach graph (room V (contract_quarters contract)) (opposite side) zone)
      (fold-and_then begun (map (leg_event contract name) fills) ∙ ap (λ ls. begun ++ ls) (sym legs)) in
      elim (all-bound graph is_setup side zone known rooms makers 4294967295 fills makers-once makers-cross run) [
        | inl all ↦ inl (rows ∙ all)
        | inr bounded ↦ inr (rows ∙ bounded
            ∙ ap (λ zs. shown_in zs makers + room_across graph rooms (opposite side) zs) zones
            ∙ ap (λ n. n + room_across graph rooms (opposite side) (zones_viewed graph events contract side zone)) (shown-is (zones_viewed graph events contract side zone) orders))
      ]

  -- ---- the first of them

  first : (count : ℕ) (plan : FlowPlan) → IsPlanOver graph events contract side zone (take count orders) plan
      → (lots_of_rows graph events contract side zone ≡ 4294967295) ⊎ (value_of (take count orders) plan ≤ lots_taken_of (take count orders) (legs_viewed graph events contract side zone))
  first count plan planned =
      let split : makers ≡ map maker_of (take count orders) ++ map maker_of (drop count orders) =
      ap (map maker_of) (sym (take-append-drop count orders)) ∙ map-append (take count orders) (drop count orders) in
      let parts = once-parts (map maker_of (take count orders)) (map maker_of (drop count orders)) (subst AreOnce split makers-once) in
      elim (first-bound graph is_setup side zone known rooms (map maker_of (take count orders)) (map maker_of (drop count orders)) 4294967295 fills parts.0 parts.1
      (λ maker i. let from = from_map maker_of maker (take count orders) i in makers-cross maker (in_line from.0 count from.1 from.2))
      (subst (λ ms. IsRun (next_fill graph side zone) after_fill (record { makers = ms; room = rooms; left = 4294967295 }) fills) split run)) [
        | inl all ↦ inl (rows ∙ all)
        | inr bounded ↦
            let most = no_plan_more graph rooms (opposite side) zone (take count orders) (λ (o : Standing). o.shown) plan bounded.zones is_setup
            (λ o i. in_zone o (front-in o count orders i)) planned bounded.has_own in
            let same : lots_with (map maker_of (take count orders)) fills ≡ lots_taken_of (take count orders) (legs_viewed graph events contract side zone) =
            taken-is name (take count orders) fills ∙ ap (lots_taken_of (take count orders)) (sym viewed) in
            let is_bound = bounded.is_bound in
            inr (omega (arith, most, same, is_bound, shown-is bounded.zones (take count orders)))
      ]
    where
      in_zone : (o : Standing) → IsIn o orders → HasZone graph o.order.zone
      in_zone o i =
          let stands = from_line events contract side o i in
          subst (λ (s : Standing). HasZone graph s.order.zone) (sym stands.is) ((all_are_sound setup events history.fit).orders stands.order stands.is_open.is_placed).in_zone

      in_line : (o : Standing) (count : ℕ) → IsIn o (take count orders) → {maker : Maker} → maker ≡ maker_of o → IsIn maker makers
      in_line o count i same = subst (λ m. IsIn m makers) (sym same) (IsIn-map maker_of o orders (front-in o count orders i))

  -- what is taken of them is a plan
  first_plan : (count : ℕ) → TakesAPlan graph events contract side zone (take count orders)
  first_plan count =
      let front : List Maker = map maker_of (take count orders) in
      let split : makers ≡ map maker_of (take count orders) ++ map maker_of (drop count orders) =
      ap (map maker_of) (sym (take-append-drop count orders)) ∙ map-append (take count orders) (drop count orders) in
      let parts = once-parts (map maker_of (take count orders)) (map maker_of (drop count orders)) (subst AreOnce split makers-once) in
      let flows = first-flows graph is_setup side zone known rooms (map maker_of (take count orders)) (map maker_of (drop count orders)) 4294967295 fills parts.0 parts.1
      (subst (λ ms. IsRun (next_fill graph side zone) after_fill (record { makers = ms; room = rooms; left = 4294967295 }) fills) split run) in
      record {
        plan = record { gives = λ o. gives fills o.name; flow = flow_of front fills };
        planned = record {
          gives_most = λ o i. flows.most (maker_of o) (IsIn-map maker_of o (take count orders) i);
          within = flows.within;
          balanced = λ other there apart. even count side other (flows.balanced other apart);
        };
        worth = sym (sum-map (λ (m : Maker). gives fills m.name) maker_of (take count orders)) ∙ all-given front fills parts.0
            ∙ taken-is name (take count orders) fills ∙ ap (lots_taken_of (take count orders)) (sym viewed);
      }
    where
      given-is : (count other : ℕ) → given (map maker_of (take count orders)) fills other
          ≡ given_in (take count orders) (record { gives = λ o. gives fills o.name; flow = flow_of (map maker_of (take count orders)) fills }) other
      given-is count other =
          sum-map (λ (m : Maker). lots_if (m.zone == other) (gives fills m.name)) maker_of (take count orders)
          ∙ sym (sum_passing (λ (o : Standing). o.order.zone == other) (λ (o : Standing). gives fills o.name) (take count orders))

      even : (count : ℕ) (side : Side) (other : ℕ)
          → Balances graph is_setup side zone known side (flow_of (map maker_of (take count orders)) fills) other (given (map maker_of (take count orders)) fills other)
          → IsBalanced graph (opposite side) (take count orders) (record { gives = λ o. gives fills o.name; flow = flow_of (map maker_of (take count orders)) fills }) other
      even count Sell other balance = omega (arith, balance, given-is count other)
      even count Buy other balance = omega (arith, balance, given-is count other)

  -- ---- what is open

  few : lots_of_rows graph events contract side zone ≤ 9990 * length (open_names events contract.hour)
  few =
      let every : List ℕ = range_with_len 0 (zone_count graph) in
      let most = filled-most graph is_setup side zone known every rooms makers 4294967295 fills makers-once inside run in
      let each = shown-most every makers little in
      let size = length-map orders maker_of in
      let opened = line-open setup events history.fit contract side in
      let all : 9990 * length orders ≤ 9990 * length (open_names events contract.hour) = mul-le-mul_left 9990 opened in
      let same : 9990 * length makers ≡ 9990 * length orders = ap (λ n. 9990 * n) size in
      omega (arith, rows, most, each, all, same)
    where
      inside : (maker : Maker) → IsIn maker makers → has maker.zone (range_with_len 0 (zone_count graph)) ≡ true
      inside maker i =
          let from = from_map maker_of maker orders i in
          let stands = from_line events contract side from.0 from.1 in
          let there : HasZone graph from.0.order.zone =
          subst (λ (s : Standing). HasZone graph s.order.zone) (sym stands.is) ((all_are_sound setup events history.fit).orders stands.order stands.is_open.is_placed).in_zone in
          ap (λ (m : Maker). has m.zone (range_with_len 0 (zone_count graph))) from.2
          ∙ has-IsIn from.0.order.zone (range_with_len 0 (zone_count graph)) (IsIn-range from.0.order.zone 0 (zone_count graph) (omega arith) (omega (arith, there)))

      little : (maker : Maker) → IsIn maker makers → maker.left ≤ 9990
      little maker i =
          let from = from_map maker_of maker orders i in
          let stands = from_line events contract side from.0 from.1 in
          let p = stands.order in
          let shows = shown-le-left p.order.kind (filled events p.name) (left events p.name) in
          let most = left-most setup events history.fit p.name in
          let own : maker.left ≡ (standing events p).shown = ap (λ (m : Maker). m.left) from.2 ∙ ap (λ (s : Standing). s.shown) stands.is in
          omega (arith, own, shows, most)

      shown-most : (zones : List ℕ) (ms : List Maker) → ((m : Maker) → IsIn m ms → m.left ≤ 9990) → shown_in zones ms ≤ 9990 * length ms
      shown-most zones [] small = omega arith
      shown-most zones (m ∷ ms) small =
          let own = if_most (has m.zone zones) m.left (small m (inl refl)) in
          omega (arith, own, sum_by-cons (λ (x : Maker). lots_if (has x.zone zones) x.left) m ms, shown-most zones ms (λ x j. small x (inr j)))
        where
          if_most : (b : Bool) (n : ℕ) → n ≤ 9990 → lots_if b n ≤ 9990
          if_most true n small = small
          if_most false n small = omega arith

pub add_up : ViewsAddUpToTheirBound
add_up setup events contract side zone is_setup history known = sum setup is_setup events history contract side zone known

pub each_place : EachPlaceGetsTheMost
each_place setup events contract side zone count plan is_setup history known planned = first setup is_setup events history contract side zone known count plan planned

pub each_plan : EachPlaceTakesAPlan
each_plan setup events contract side zone count is_setup history known = first_plan setup is_setup events history contract side zone known count

pub take_little : ViewsTakeNoMoreThanIsOpen
take_little setup events contract side zone is_setup history known = few setup is_setup events history contract side zone known
