-- A walk along a line: a taker pours what it can from one maker after the other, and never comes back
-- to one. This is the run of its trades, and gives their rows.
use Rattle.std.proofs.Common.{◌≡◌, ◌∙◌, ◌⊎◌, inl, inr, ℕ, zero, suc, ◌+◌, ◌-◌, ◌<◌, ◌&&◌, ◌||◌, Bool, true, false, cond, List, [], ◌∷◌, ◌++◌, find, fold, map, min, nat_lt, Option, Some, None, is_some, append_assoc, refl, sym, ap, subst, if◌then◌else◌, arith}
use Rattle.std.proofs.lemmas.Bool.{ltb-false, ltb-true}
use Rattle.std.proofs.lemmas.List.{append-nil, map-append}
use Rattle.std.proofs.lemmas.List.Sums.{fold-append, sum_by-cons}
use Rattle.std.specs.List.{list_any}
use Rattle.std.specs.Option.{option_and_then, option_map}
use Rattle.order_kinds.specs.declared.order.OrderName.{OrderName}
use Rattle.order_kinds.specs.declared.side.Side.{Side}
use Rattle.order_kinds.specs.declared.side.Side.TheVariants.{Buy, Sell}
use Rattle.order_kinds.specs.Same.{same_name}
use Rattle.zone_graph.specs.declared.route.Arc.{Arc}
use Rattle.zone_graph.specs.declared.route.RouteLeg.{RouteLeg}
use Rattle.zone_graph.specs.Graph.{Graph, IsGraph}
use Rattle.zone_graph.specs.Pour.{pour_leg, room_after}
use Rattle.zone_graph.specs.Route.{IsIn, IsRoute, best_route, carried}
use Rattle.zone_graph.specs.Steps.{IsRun}
use Rattle.zone_graph.proofs.Membership.{IsIn-append}
use Rattle.cut_proof.proofs.ReachLaws.{reach_from_start, reach_to_end}
use Rattle.market_model.specs.declared.reply.ViewRow.{ViewRow}
use Rattle.laws_of_market.proofs.Repeats.{map-some}
use Rattle.laws_of_market.proofs.Tests.{same_name-refl}
use Rattle.route_choice.specs.Poured.{lots_of, rooms_after}
use Rattle.route_choice.proofs.Pours.{Poured, pour-run, pour_leg-is}
use Rattle.laws_of_rows.specs.declared.trades.Fill.{Fill}
use Rattle.laws_of_rows.specs.declared.trades.Maker.{Maker}
use Rattle.laws_of_rows.specs.declared.trades.MakerRow.{MakerRow}
use Rattle.laws_of_rows.specs.Depth.{Depth, after_fill, can_fill, crosses_any, fill_over, fill_with, next_fill, route_with, taken_of}
use Rattle.laws_of_rows.specs.Filled.{is_row_of, row_in, rows_with, with_fill, with_lots}
use Rattle.laws_of_rows.proofs.RowLemmas.{rows-same, same_name-sym}
use Rattle.laws_of_views.proofs.FirstMakers.{AllCross, AreApart, AreOnce, taken, taken-append}
use Rattle.local_view.specs.declared.whole.LineOrder.{LineOrder}
use Rattle.local_view.specs.Poured.{legs_with, row_if, rows_taken, sent_from, sent_to}

-- ---- what a walk shows

-- a maker as an order of a line
abbrev pub as_order : Maker → LineOrder
as_order maker = record { zone = maker.zone; price = maker.price; lots = maker.left }

-- the rows of a taker that pours from one maker after the other
abbrev pub walked : Graph → Side → (zone : ℕ) → (Arc → ℕ) → (left : ℕ) → List Maker → List ViewRow
walked graph side zone room left makers = rows_taken graph side zone room left (map as_order makers)

-- ---- rows

-- the row of a maker
abbrev row_at : Maker → (lots : ℕ) → MakerRow
row_at maker lots = record { maker = maker.name; row = record { price = maker.price; lots = lots } }

-- a leg as a trade with a maker
abbrev pub fill_of : Maker → RouteLeg → Fill
fill_of maker leg = record { maker = maker.name; price = maker.price; lots = leg.lots; route = leg.route }

-- rows of others than a maker
abbrev pub RowsOfOthers : List MakerRow → OrderName → Type 0
RowsOfOthers rows name = (row : MakerRow) → IsIn row rows → same_name row.maker name ≡ false

others-any : (name : OrderName) (rows : List MakerRow) → RowsOfOthers rows name → list_any (is_row_of name) rows ≡ false
others-any name [] others = refl
others-any name (row ∷ rows) others = rw (others row (inl refl)) (others-any name rows (λ r i. others r (inr i)))

own-any : (maker : Maker) (lots : ℕ) (rows : List MakerRow) → list_any (is_row_of maker.name) (rows ++ row_at maker lots ∷ []) ≡ true
own-any maker lots [] = rw (same_name-refl maker.name) refl
own-any maker lots (row ∷ rows) = rw (own-any maker lots rows) (by (same_name row.maker maker.name))
  where
    by : (b : Bool) → (b || true) ≡ true
    by true = refl
    by false = refl

-- one more trade with the maker of the last row
one-more : (maker : Maker) (lots : ℕ) (rows : List MakerRow) (leg : RouteLeg) → RowsOfOthers rows maker.name
    → with_fill (rows ++ row_at maker lots ∷ []) (fill_of maker leg) ≡ rows ++ row_at maker (lots + leg.lots) ∷ []
one-more maker lots rows leg others =
    ap (λ b. if b then map (with_lots maker.name leg.lots) (rows ++ row_at maker lots ∷ []) else ((rows ++ row_at maker lots ∷ []) ++ row_at maker leg.lots ∷ []))
    (own-any maker lots rows)
    ∙ map-append (with_lots maker.name leg.lots) rows (row_at maker lots ∷ [])
    ∙ ap (λ rs. rs ++ with_lots maker.name leg.lots (row_at maker lots) ∷ []) (rows-same maker.name leg.lots rows (others-any maker.name rows others))
    ∙ ap (λ b. rows ++ (if b then row_at maker (lots + leg.lots) else row_at maker lots) ∷ []) (same_name-refl maker.name)

more-rows : (maker : Maker) (lots : ℕ) (rows : List MakerRow) (legs : List RouteLeg) → RowsOfOthers rows maker.name
    → fold with_fill (rows ++ row_at maker lots ∷ []) (map (fill_of maker) legs) ≡ rows ++ row_at maker (lots + lots_of legs) ∷ []
more-rows maker lots rows [] others = ap (λ n. rows ++ row_at maker n ∷ []) (let same : lots ≡ lots + 0 = omega arith in same)
more-rows maker lots rows (leg ∷ legs) others =
    ap (λ rs. fold with_fill rs (map (fill_of maker) legs)) (one-more maker lots rows leg others)
    ∙ more-rows maker (lots + leg.lots) rows legs others
    ∙ ap (λ n. rows ++ row_at maker n ∷ [])
    (let same : (lots + leg.lots) + lots_of legs ≡ lots + lots_of (leg ∷ legs) = (let all = sum_by-cons (λ (l : RouteLeg). l.lots) leg legs in omega (arith, all)) in same)

-- the trades with a maker make one row
maker-row : (maker : Maker) (rows : List MakerRow) (leg : RouteLeg) (legs : List RouteLeg) → RowsOfOthers rows maker.name
    → fold with_fill rows (map (fill_of maker) (leg ∷ legs)) ≡ rows ++ row_at maker (lots_of (leg ∷ legs)) ∷ []
maker-row maker rows leg legs others =
    ap (λ b. fold with_fill (if b then map (with_lots maker.name leg.lots) rows else (rows ++ row_at maker leg.lots ∷ [])) (map (fill_of maker) legs))
    (others-any maker.name rows others)
    ∙ more-rows maker leg.lots rows legs others
    ∙ ap (λ n. rows ++ row_at maker n ∷ []) (sym (sum_by-cons (λ (l : RouteLeg). l.lots) leg legs))

-- ---- the run of the trades

taken-none : (name : OrderName) (lots : ℕ) (makers : List Maker) → ((maker : Maker) → IsIn maker makers → same_name maker.name name ≡ false) → taken name lots makers ≡ makers
taken-none name lots [] none = refl
taken-none name lots (maker ∷ makers) none =
    ap (λ b. (if b then record maker { left = maker.left - lots } else maker) ∷ taken name lots makers) (none maker (inl refl))
    ∙ ap (λ l. maker ∷ l) (taken-none name lots makers (λ x i. none x (inr i)))

-- where nothing is found a list can be left out
find-behind : {X : Type 0} (p : X → Bool) (front back : List X) → ((x : X) → IsIn x front → p x ≡ false) → find p (front ++ back) ≡ find p back
find-behind p [] back none = refl
find-behind p (x ∷ front) back none = rw (none x (inl refl)) (find-behind p front back (λ y i. none y (inr i)))

module _ (graph : Graph) (is : IsGraph graph) (side : Side) (zone : ℕ) where
  abbrev pub depth : List Maker → (Arc → ℕ) → ℕ → Depth
  depth makers room left = record { makers = makers; room = room; left = left }

  -- none of some makers can be traded with
  abbrev pub Passed : (Arc → ℕ) → List Maker → Type 0
  Passed room makers = (maker : Maker) → IsIn maker makers → can_fill graph room side zone maker ≡ false

  abbrev from : Maker → ℕ
  from maker = sent_from side zone maker.zone

  abbrev to : Maker → ℕ
  to maker = sent_to side zone maker.zone

  route-is : (room : Arc → ℕ) (maker : Maker) → route_with graph room side zone maker ≡ best_route graph room (from maker) (to maker)
  route-is room maker = on side
    where
      on : (s : Side) → route_with graph room s zone maker ≡ best_route graph room (sent_from s zone maker.zone) (sent_to s zone maker.zone)
      on Buy = refl
      on Sell = refl

  -- a route between the taker and a maker brings no other maker into reach
  passed-after : (room : Arc → ℕ) (maker : Maker) (leg : RouteLeg) (makers : List Maker) → IsRoute graph room (from maker) (to maker) leg.route
      → Passed room makers → Passed (room_after room leg) makers
  passed-after room maker leg makers route passed other i =
      by (nat_lt 0 other.left && crosses_any side other) (is_some (route_with graph room side zone other)) refl (passed other i)
    where
      apart : (s : Side) → IsRoute graph room (sent_from s zone maker.zone) (sent_to s zone maker.zone) leg.route
          → is_some (route_with graph room s zone other) ≡ false → is_some (route_with graph (room_after room leg) s zone other) ≡ false
      apart Buy r away = reach_from_start graph room zone maker.zone other.zone leg is r away
      apart Sell r away = reach_to_end graph room maker.zone zone other.zone leg is r away

      by : (a b : Bool) → is_some (route_with graph room side zone other) ≡ b → (a && b) ≡ false
          → (a && is_some (route_with graph (room_after room leg) side zone other)) ≡ false
      by false b e n = refl
      by true b e n = apart side route (e ∙ n)

  -- the next leg of a pour to the first maker that can be traded with is the next trade
  record IsLeg (room : Arc → ℕ) (start end left : ℕ) (leg : RouteLeg) : Type 0 where
    some_left : 0 < left
    best : best_route graph room start end ≡ Some leg.route
    lots : leg.lots ≡ carried room left leg.route

  leg-is : (room : Arc → ℕ) (start end left : ℕ) (leg : RouteLeg) → pour_leg graph room start end left ≡ Some leg → IsLeg room start end left leg
  leg-is room start end zero leg e = cc
  leg-is room start end (suc more) leg e =
      let found = map-some (λ route. record { route = route; lots = carried room (suc more) route }) (best_route graph room start end) leg e in
      record {
        some_left = omega arith;
        best = found.1 ∙ ap (λ (l : RouteLeg). Some l.route) found.2;
        lots = sym (ap (λ (l : RouteLeg). l.lots) found.2) ∙ ap (λ (l : RouteLeg). carried room (suc more) l.route) found.2;
      }

  next-is : (room : Arc → ℕ) (left : ℕ) (done makers : List Maker) (maker : Maker) (leg : RouteLeg) → Passed room done → crosses_any side maker ≡ true
      → pour_leg graph room (from maker) (to maker) (min left maker.left) ≡ Some leg
      → next_fill graph side zone (depth (done ++ maker ∷ makers) room left) ≡ Some (fill_of maker leg)
  next-is room left done makers maker leg passed cross e =
      let l = leg-is room (from maker) (to maker) (min left maker.left) leg e in
      let some = l.some_left in
      let left_some : nat_lt 0 left ≡ true = lt-true 0 left (omega (arith, some)) in
      let own_some : nat_lt 0 maker.left ≡ true = lt-true 0 maker.left (omega (arith, some)) in
      let route : route_with graph room side zone maker ≡ Some leg.route = route-is room maker ∙ l.best in
      let can : can_fill graph room side zone maker ≡ true = rw (own_some, cross, route) refl in
      let found : find (can_fill graph room side zone) (done ++ maker ∷ makers) ≡ Some maker =
      find-behind (can_fill graph room side zone) done (maker ∷ makers) passed ∙ ap (λ b. cond b (Some maker) (find (can_fill graph room side zone) makers)) can in
      ap (λ b. if b then option_and_then (fill_with graph room side zone left) (find (can_fill graph room side zone) (done ++ maker ∷ makers)) else None) left_some
      ∙ ap (option_and_then (fill_with graph room side zone left)) found
      ∙ ap (option_map (fill_over room left maker)) route
      ∙ ap (λ n. Some (fill_of maker (record { route = leg.route; lots = n }))) (sym l.lots)
    where
      lt-true : (a b : ℕ) → a < b → nat_lt a b ≡ true
      lt-true a b less = go (nat_lt a b) refl
        where
          go : (t : Bool) → nat_lt a b ≡ t → nat_lt a b ≡ true
          go true h = h
          go false h = absurd (let not_less = ltb-false a b h in omega (arith, less, not_less))

  -- a maker of which lots were taken
  abbrev with_left : Maker → ℕ → Maker
  with_left maker left = record { name = maker.name; zone = maker.zone; price = maker.price; left = left }

  after-is : (room : Arc → ℕ) (left : ℕ) (done makers : List Maker) (maker : Maker) (leg : RouteLeg)
      → ((other : Maker) → IsIn other done → same_name other.name maker.name ≡ false) → ((other : Maker) → IsIn other makers → same_name other.name maker.name ≡ false)
      → after_fill (depth (done ++ maker ∷ makers) room left) (fill_of maker leg)
      ≡ depth (done ++ with_left maker (maker.left - leg.lots) ∷ makers) (room_after room leg) (left - leg.lots)
  after-is room left done makers maker leg others later =
      ap (λ ms. depth ms (room_after room leg) (left - leg.lots))
      (taken-append maker.name leg.lots done (maker ∷ makers)
      ∙ ap (λ ms. ms ++ taken maker.name leg.lots (maker ∷ makers)) (taken-none maker.name leg.lots done others)
      ∙ ap (λ ms. done ++ taken_of maker.name leg.lots maker ∷ ms) (taken-none maker.name leg.lots makers later)
      ∙ ap (λ b. done ++ (if b then with_left maker (maker.left - leg.lots) else maker) ∷ makers) (same_name-refl maker.name))

  -- the trades with the first maker that can be traded with are the legs of the pour to it
  record Takes (done makers : List Maker) (maker : Maker) (room : Arc → ℕ) (left : ℕ) (legs : List RouteLeg) : Type 0 where
    passed : Passed (rooms_after room legs) done
    ended : pour_leg graph (rooms_after room legs) (from maker) (to maker) (min (left - lots_of legs) (maker.left - lots_of legs)) ≡ None
    onward : (rest : List Fill)
        → IsRun (next_fill graph side zone) after_fill (depth (done ++ with_left maker (maker.left - lots_of legs) ∷ makers) (rooms_after room legs) (left - lots_of legs)) rest
        → IsRun (next_fill graph side zone) after_fill (depth (done ++ maker ∷ makers) room left) (map (fill_of maker) legs ++ rest)

  takes : (done makers : List Maker) (maker : Maker) (room : Arc → ℕ) (left : ℕ) (legs : List RouteLeg)
      → ((other : Maker) → IsIn other done → same_name other.name maker.name ≡ false) → ((other : Maker) → IsIn other makers → same_name other.name maker.name ≡ false)
      → crosses_any side maker ≡ true → Passed room done → Poured graph (from maker) (to maker) room (min left maker.left) legs
      → Takes done makers maker room left legs
  takes done makers maker room left [] others later cross passed run =
      let none : left ≡ left - 0 = omega arith in
      let own : maker.left ≡ maker.left - 0 = omega arith in
      record {
        passed = passed;
        ended = subst (λ n. pour_leg graph room (from maker) (to maker) (min n (maker.left - 0)) ≡ None) none
            (subst (λ n. pour_leg graph room (from maker) (to maker) (min left n) ≡ None) own run);
        onward = λ rest r.
            subst (λ n. IsRun (next_fill graph side zone) after_fill (depth (done ++ maker ∷ makers) room n) rest) (sym none)
            (subst (λ n. IsRun (next_fill graph side zone) after_fill (depth (done ++ with_left maker n ∷ makers) room (left - 0)) rest) (sym own) r);
      }
  takes done makers maker room left (leg ∷ legs) others later cross passed run =
      let l = pour_leg-is graph room (from maker) (to maker) (min left maker.left) leg is run.0 in
      let enough = l.enough in
      let own = with_left maker (maker.left - leg.lots) in
      let rest_of : min left maker.left - leg.lots ≡ min (left - leg.lots) (maker.left - leg.lots) = omega (arith, enough) in
      let rest = takes done makers own (room_after room leg) (left - leg.lots) legs others later cross
      (passed-after room maker leg done l.fits.is_route passed)
      (subst (λ n. Poured graph (from maker) (to maker) (room_after room leg) n legs) rest_of run.1) in
      let all : lots_of (leg ∷ legs) ≡ leg.lots + lots_of legs = sum_by-cons (λ (k : RouteLeg). k.lots) leg legs in
      let left_all : (left - leg.lots) - lots_of legs ≡ left - lots_of (leg ∷ legs) = omega (arith, all) in
      let own_all : (maker.left - leg.lots) - lots_of legs ≡ maker.left - lots_of (leg ∷ legs) = omega (arith, all) in
      record {
        passed = rest.passed;
        ended = subst (λ n. pour_leg graph (rooms_after room (leg ∷ legs)) (from maker) (to maker) (min n (maker.left - lots_of (leg ∷ legs))) ≡ None) left_all
            (subst (λ n. pour_leg graph (rooms_after room (leg ∷ legs)) (from maker) (to maker) (min ((left - leg.lots) - lots_of legs) n) ≡ None) own_all rest.ended);
        onward = λ fills r. (
          next-is room left done makers maker leg passed cross run.0,
          subst (λ d. IsRun (next_fill graph side zone) after_fill d (map (fill_of maker) legs ++ fills)) (sym (after-is room left done makers maker leg others later))
              (rest.onward fills
              (subst (λ n. IsRun (next_fill graph side zone) after_fill (depth (done ++ with_left maker ((maker.left - leg.lots) - lots_of legs) ∷ makers) (rooms_after room (leg ∷ legs)) n) fills) (sym left_all)
              (subst (λ n. IsRun (next_fill graph side zone) after_fill (depth (done ++ with_left maker n ∷ makers) (rooms_after room (leg ∷ legs)) (left - lots_of (leg ∷ legs))) fills) (sym own_all) r))),
        );
      }

  -- ---- the walk

  -- the trades of a taker, and the rows that they add to those of others
  pub record IsWalked (start : Depth) (makers : List Maker) (shown : List ViewRow) : Type 0 where
    pub fills : List Fill
    pub run : IsRun (next_fill graph side zone) after_fill start fills
    pub rows : List MakerRow
    pub are : map row_in rows ≡ shown
    pub added : (before : List MakerRow) → ((maker : Maker) → IsIn maker makers → RowsOfOthers before maker.name) → fold with_fill before fills ≡ before ++ rows

  -- of nothing that is left nothing is poured
  nothing-left : (room : Arc → ℕ) (makers : List Maker) (left : ℕ) → left ≡ 0 → walked graph side zone room left makers ≡ []
  unfolding rows_taken
  nothing-left room [] left none = refl
  nothing-left room (maker ∷ makers) left none =
      let legs : legs_with graph room side zone maker.zone (min left maker.left) ≡ [] =
      run-empty (min left maker.left) (omega (arith, none)) (legs_with graph room side zone maker.zone (min left maker.left))
      (pour-run graph (from maker) (to maker) room (min left maker.left) is) in
      ap (λ ls. row_if maker.price (lots_of ls) (walked graph side zone (rooms_after room ls) (left - lots_of ls) makers)) legs
      ∙ nothing-left room makers (left - 0) (omega (arith, none))
    where
      run-empty : (most : ℕ) → most ≡ 0 → (ls : List RouteLeg) → Poured graph (from maker) (to maker) room most ls → ls ≡ []
      run-empty most zeroth [] run = refl
      run-empty most zeroth (leg ∷ ls) run =
          let l = leg-is room (from maker) (to maker) most leg run.0 in let some = l.some_left in absurd (omega (arith, zeroth, some))

  no-fill : (makers : List Maker) (room : Arc → ℕ) (left : ℕ) → (left ≡ 0) ⊎ Passed room makers → next_fill graph side zone (depth makers room left) ≡ None
  no-fill makers room left (inl none) =
      ap (λ n. if nat_lt 0 n then option_and_then (fill_with graph room side zone n) (find (can_fill graph room side zone) makers) else None) none
  no-fill makers room left (inr passed) =
      ap (λ o. if nat_lt 0 left then option_and_then (fill_with graph room side zone left) o else None) (sym (ap (find (can_fill graph room side zone)) (append-nil makers)) ∙ find-behind (can_fill graph room side zone) makers [] passed)
      ∙ by None (nat_lt 0 left)
    where
      by : (o : Option Fill) (b : Bool) → (if b then o else o) ≡ o
      by o true = refl
      by o false = refl

  -- where there is no further leg nothing is left, or the maker cannot be traded with
  spent : (room : Arc → ℕ) (left own : ℕ) (maker : Maker) → pour_leg graph room (from maker) (to maker) (min left own) ≡ None
      → (left ≡ 0) ⊎ (can_fill graph room side zone (with_left maker own) ≡ false)
  spent room left own maker none = go (min left own) refl none (best_route graph room (from maker) (to maker)) refl
    where
      zero-own : own ≡ 0 → can_fill graph room side zone (with_left maker own) ≡ false
      zero-own e = ap (λ n. nat_lt 0 n && crosses_any side maker && is_some (route_with graph room side zone (with_left maker own))) e

      go : (n : ℕ) → min left own ≡ n → pour_leg graph room (from maker) (to maker) n ≡ None → (o : Option (List Arc)) → best_route graph room (from maker) (to maker) ≡ o
          → (left ≡ 0) ⊎ (can_fill graph room side zone (with_left maker own) ≡ false)
      go zero e f o found = by (nat_lt 0 left) refl
        where
          by : (b : Bool) → nat_lt 0 left ≡ b → (left ≡ 0) ⊎ (can_fill graph room side zone (with_left maker own) ≡ false)
          by true some = inr (zero-own (let left_some = ltb-true 0 left some in omega (arith, left_some, e)))
          by false none_left = inl (let not_less = ltb-false 0 left none_left in omega (arith, not_less))
      go (suc more) e f None found =
          inr (ap (λ o. nat_lt 0 own && crosses_any side maker && is_some o) (route-is room (with_left maker own) ∙ found) ∙ no (nat_lt 0 own && crosses_any side maker))
        where
          no : (b : Bool) → (b && false) ≡ false
          no true = refl
          no false = refl
      go (suc more) e f (Some route) found = absurd (cc)

  -- the rows with those of one more maker in front
  with-first : (maker : Maker) (makers : List Maker) (legs : List RouteLeg) (start : Depth) (rest : Depth) (shown : List ViewRow)
      → ((other : Maker) → IsIn other makers → same_name maker.name other.name ≡ false)
      → (walk : IsWalked rest makers shown)
      → (room : Arc → ℕ) (most : ℕ) → Poured graph (from maker) (to maker) room most legs
      → IsRun (next_fill graph side zone) after_fill start (map (fill_of maker) legs ++ walk.fills)
      → IsWalked start (maker ∷ makers) (row_if maker.price (lots_of legs) shown)
  with-first maker makers [] start rest shown apart walk room most poured run =
      record { fills = walk.fills; run = run; rows = walk.rows; are = walk.are; added = λ before others. walk.added before (λ m i. others m (inr i)) }
  with-first maker makers (leg ∷ legs) start rest shown apart walk room most poured run = record {
    fills = map (fill_of maker) (leg ∷ legs) ++ walk.fills;
    run = run;
    rows = row_at maker (lots_of (leg ∷ legs)) ∷ walk.rows;
    are = ap (λ rs. record { price = maker.price; lots = lots_of (leg ∷ legs) } ∷ rs) walk.are ∙ some-row (lots_of (leg ∷ legs))
        (let l = pour_leg-is graph room (from maker) (to maker) most leg is poured.0 in
        let some = l.some in
        let all = sum_by-cons (λ (k : RouteLeg). k.lots) leg legs in omega (arith, some, all));
    added = λ before others.
        fold-append with_fill before (map (fill_of maker) (leg ∷ legs)) walk.fills
        ∙ ap (λ rs. fold with_fill rs walk.fills) (maker-row maker before leg legs (others maker (inl refl)))
        ∙ walk.added (before ++ row_at maker (lots_of (leg ∷ legs)) ∷ []) (λ m i row j. elim (IsIn-append row before (row_at maker (lots_of (leg ∷ legs)) ∷ []) j) [
          | inl k ↦ others m (inr i) row k
          | inr k ↦ elim k [ inl e ↦ ap (λ (r : MakerRow). same_name r.maker m.name) e ∙ apart m i | inr n ↦ absurd n ]
        ])
        ∙ append_assoc before (row_at maker (lots_of (leg ∷ legs)) ∷ []) walk.rows;
  }
    where
      some-row : (n : ℕ) → 0 < n → record { price = maker.price; lots = n } ∷ shown ≡ row_if maker.price n shown
      some-row zero some = absurd (omega (arith, some))
      some-row (suc more) some = refl

  pub walk-is : (done makers : List Maker) (room : Arc → ℕ) (left : ℕ) → AreOnce makers → AreApart done makers → AllCross side makers
      → (left ≡ 0) ⊎ Passed room done → IsWalked (depth (done ++ makers) room left) makers (walked graph side zone room left makers)
  unfolding rows_taken
  walk-is done [] room left once apart cross passed = record {
    fills = [];
    run = no-fill (done ++ []) room left (elim passed [ inl none ↦ inl none | inr p ↦ inr (subst (Passed room) (sym (append-nil done)) p) ]);
    rows = [];
    are = refl;
    added = λ before others. sym (append-nil before);
  }
  walk-is done (maker ∷ makers) room left once apart cross (inl none) =
      subst (IsWalked (depth (done ++ maker ∷ makers) room left) (maker ∷ makers)) (sym (nothing-left room (maker ∷ makers) left none)) (record {
        fills = [];
        run = no-fill (done ++ maker ∷ makers) room left (inl none);
        rows = [];
        are = refl;
        added = λ before others. sym (append-nil before);
      })
  walk-is done (maker ∷ makers) room left once apart cross (inr passed) =
      let legs = legs_with graph room side zone maker.zone (min left maker.left) in
      let poured = pour-run graph (from maker) (to maker) room (min left maker.left) is in
      let later : (other : Maker) → IsIn other makers → same_name other.name maker.name ≡ false = λ other i. same_name-sym other.name maker.name ∙ once.0 other i in
      let t = takes done makers maker room left legs (λ other i. apart other maker i (inl refl)) later (cross maker (inl refl)) passed poured in
      let own = with_left maker (maker.left - lots_of legs) in
      let walk = walk-is (done ++ own ∷ []) makers (rooms_after room legs) (left - lots_of legs) once.1
      (λ one other i j. elim (IsIn-append one done (own ∷ []) i) [
        | inl k ↦ apart one other k (inr j)
        | inr k ↦ elim k [ inl e ↦ ap (λ (m : Maker). same_name m.name other.name) e ∙ once.0 other j | inr n ↦ absurd n ]
      ])
      (λ m i. cross m (inr i))
      (elim (spent (rooms_after room legs) (left - lots_of legs) (maker.left - lots_of legs) maker t.ended) [
        | inl none ↦ inl none
        | inr cannot ↦ inr (λ m i. elim (IsIn-append m done (own ∷ []) i) [
          | inl k ↦ t.passed m k
          | inr k ↦ elim k [ inl e ↦ ap (can_fill graph (rooms_after room legs) side zone) e ∙ cannot | inr n ↦ absurd n ]
        ])
      ]) in
      with-first maker makers legs (depth (done ++ maker ∷ makers) room left) (depth ((done ++ own ∷ []) ++ makers) (rooms_after room legs) (left - lots_of legs))
      (walked graph side zone (rooms_after room legs) (left - lots_of legs) makers) once.0 walk room (min left maker.left) poured
      (t.onward walk.fills
      (subst (λ ms. IsRun (next_fill graph side zone) after_fill (depth ms (rooms_after room legs) (left - lots_of legs)) walk.fills) (append_assoc done (own ∷ []) makers) walk.run))

  -- the rows of the trades from the start on are those of the walk
  pub record AreTrades (makers : List Maker) (room : Arc → ℕ) (left : ℕ) : Type 0 where
    pub fills : List Fill
    pub run : IsRun (next_fill graph side zone) after_fill (depth makers room left) fills
    pub rows : map row_in (rows_with fills) ≡ walked graph side zone room left makers

  pub walked-trades : (makers : List Maker) (room : Arc → ℕ) (left : ℕ) → AreOnce makers → AllCross side makers → AreTrades makers room left
  walked-trades makers room left once cross =
      let walk = walk-is [] makers room left once (λ one other i j. absurd i) cross (inr (λ maker i. absurd i)) in
      record {
        fills = walk.fills;
        run = walk.run;
        rows = ap (map row_in) (walk.added [] (λ maker i row j. absurd j)) ∙ walk.are;
      }
