-- The orders, blocks and names of an hour, listed event by event.
use Rattle.std.proofs.Common.{◌≡◌, ◌∙◌, ℕ, ◌<◌, ◌≤◌, Bool, true, false, cond, List, [], ◌∷◌, ◌++◌, filter, get_or, length, map, nat_eq, not, suc, eqb-true, Option, Some, None, refl, sym, ap, subst, if◌then◌else◌, arith}
use Rattle.std.proofs.lemmas.Bool.{le-ltb, lt-ltb}
use Rattle.std.proofs.lemmas.List.{append-nil, map_push}
use Rattle.std.proofs.lemmas.List.Elements.{filter-append, filter_map-append}
use Rattle.std.proofs.lemmas.List.Sums.{count_by-le-length, length-filter}
use Rattle.std.specs.List.{cons_option, filter_map}
use Rattle.order_kinds.specs.declared.order.OrderName.{OrderName}
use Rattle.order_kinds.specs.Same.{same_name}
use Rattle.zone_graph.specs.Route.{IsIn}
use Rattle.zone_graph.proofs.Places.{item_at_place}
use Rattle.market_model.specs.declared.event.Event.{Event}
use Rattle.market_model.specs.declared.event.Event.TheVariants as event
use Rattle.market_model.specs.Blocks.{standing_block}
use Rattle.market_model.specs.History.{and_then, enters_in}
use Rattle.market_model.specs.Orders.{Placed, PlacedBlock, block_placed_by, blocks_placed, is_open, left, name_given, placed, placed_by, price_now, shown_lots, standing}
use Rattle.market_model.specs.Refusals.{desk_room, has_desk_room}
use Rattle.laws_of_market.proofs.Balances.{left-filled-taken_off}
use Rattle.laws_of_market.proofs.Members.{IsIn-filter_map, from_filter_map}
use Rattle.laws_of_market.proofs.Names.{enters_as, names-once}
use Rattle.laws_of_market.proofs.Placed.{all_are_sound, picked-same}
use Rattle.laws_of_market.proofs.Tests.{same_name-refl}
use Rattle.laws_of_market.proofs.Unique.{enters-block_placed, entered-order, times-some}
use Rattle.plain_orders.specs.declared.tally.Tally.{Tally}
use Rattle.plain_orders.specs.Histories.{HasSoundNumbers, IsSomeHistory}
use Rattle.plain_orders.specs.Listed.{block_given, is_block_of, is_order_of, kept, order_given, stands_open, blocks_of}
use Rattle.plain_orders.specs.Tallies.{AreTallies, Tells, entered_in, name_in, standing_block_by, standing_by}
use Rattle.plain_orders.proofs.Taken.{has-place, same-name}

-- ---- lists of what events give

-- what is kept was there, and passes
from-kept : {X : Type 0} (test : X → Bool) (o : Option X) (x : X) → kept test o ≡ Some x → (o ≡ Some x) × (test x ≡ true)
from-kept test None x is = absurd (cc)
from-kept {X} test (Some y) x is = go (test y) refl is
  where
    go : (b : Bool) → test y ≡ b → (if b then Some y else None) ≡ Some x → (Some y ≡ Some x) × (test x ≡ true)
    go true e k = let same : y ≡ x = cc in (k, subst (λ z. test z ≡ true) same e)
    go false e k = absurd (cc)

-- a filter of what is picked picks what is kept
pub kept-filter : {X Y : Type 0} (pick : X → Option Y) (test : Y → Bool) (xs : List X) → filter_map (λ x. kept test (pick x)) xs ≡ filter test (filter_map pick xs)
kept-filter pick test [] = refl
kept-filter {X} {Y} pick test (x ∷ xs) = go (pick x) (kept-filter pick test xs)
  where
    by_test : (y : Y) (b : Bool) → filter_map (λ z. kept test (pick z)) xs ≡ filter test (filter_map pick xs)
        → cons_option (if b then Some y else None) (filter_map (λ z. kept test (pick z)) xs) ≡ cond b (y ∷ filter test (filter_map pick xs)) (filter test (filter_map pick xs))
    by_test y true rest = ap (λ ys. y ∷ ys) rest
    by_test y false rest = rest

    go : (o : Option Y) → filter_map (λ z. kept test (pick z)) xs ≡ filter test (filter_map pick xs)
        → cons_option (kept test o) (filter_map (λ z. kept test (pick z)) xs) ≡ filter test (cons_option o (filter_map pick xs))
    go None rest = rest
    go (Some y) rest = by_test y (test y) rest

picked-more : {Y : Type 0} (pick : Event → Option Y) (before : List Event) (e : Event) (y : Y) → pick e ≡ Some y
    → filter_map pick (and_then before e) ≡ filter_map pick before ++ y ∷ []
picked-more pick before e y is = filter_map-append pick before (e ∷ []) ∙ ap (λ o. filter_map pick before ++ cons_option o []) is

pub listed-more : {Y Z : Type 0} (pick : Event → Option Y) (f : Y → Z) (front before : List Event) (e : Event) (y : Y) → front ≡ and_then before e → pick e ≡ Some y
    → map f (filter_map pick front) ≡ map f (filter_map pick before) ++ f y ∷ []
listed-more pick f front before e y split is =
    ap (λ es. map f (filter_map pick es)) split ∙ ap (map f) (picked-more pick before e y is) ∙ map_push f (filter_map pick before) y

pub listed-same : {Y : Type 0} (pick : Event → Option Y) (front before : List Event) (e : Event) → front ≡ and_then before e → pick e ≡ None
    → filter_map pick front ≡ filter_map pick before
listed-same pick front before e split none = ap (filter_map pick) split ∙ picked-same pick before e none

-- a name more, where it passes and where it does not
pub filtered-more : {Y : Type 0} (pick : Event → Option Y) (p : Y → Bool) (front before : List Event) (e : Event) (y : Y) → front ≡ and_then before e → pick e ≡ Some y
    → p y ≡ true → filter p (filter_map pick front) ≡ filter p (filter_map pick before) ++ y ∷ []
filtered-more pick p front before e y split is passes =
    ap (λ es. filter p (filter_map pick es)) split ∙ ap (filter p) (picked-more pick before e y is) ∙ filter-append p (filter_map pick before) (y ∷ [])
    ∙ ap (λ b. filter p (filter_map pick before) ++ cond b (y ∷ []) []) passes

pub filtered-same : {Y : Type 0} (pick : Event → Option Y) (p : Y → Bool) (front before : List Event) (e : Event) (y : Y) → front ≡ and_then before e → pick e ≡ Some y
    → p y ≡ false → filter p (filter_map pick front) ≡ filter p (filter_map pick before)
filtered-same pick p front before e y split is fails =
    ap (λ es. filter p (filter_map pick es)) split ∙ ap (filter p) (picked-more pick before e y is) ∙ filter-append p (filter_map pick before) (y ∷ [])
    ∙ ap (λ b. filter p (filter_map pick before) ++ cond b (y ∷ []) []) fails ∙ append-nil (filter p (filter_map pick before))

-- what comes from the names that pass
pub filtered-listed-more : {Y Z : Type 0} (pick : Event → Option Y) (p : Y → Bool) (f : Y → Z) (front before : List Event) (e : Event) (y : Y) → front ≡ and_then before e
    → pick e ≡ Some y → p y ≡ true → map f (filter p (filter_map pick front)) ≡ map f (filter p (filter_map pick before)) ++ f y ∷ []
filtered-listed-more pick p f front before e y split is passes =
    ap (map f) (filtered-more pick p front before e y split is passes) ∙ map_push f (filter p (filter_map pick before)) y

pub blocks-listed : (events : List Event) (first : ℕ) → map (standing_block events) (filter_map (block_given first) events) ≡ blocks_of events first
blocks-listed events first = ap (map (standing_block events)) (kept-filter block_placed_by (is_block_of first) events)

-- ---- what is known of them

-- an order that an event of a history enters by an hour
pub record OrderAt (events : List Event) (hour : ℕ) (order : Placed) : Type 0 where
  pub sound : HasSoundNumbers order.order
  pub stands : (tally : Tally) → Tells events (name_in hour order.name.number) tally
      → (standing_by tally order ≡ standing events order) × (tally.filled ≤ order.order.quantity.0)
  pub opens : (tally : Tally) → Tells events (name_in hour order.name.number) tally → 0 < tally.left → stands_open events order ≡ true
  pub closes : (tally : Tally) → Tells events (name_in hour order.name.number) tally → tally.left ≤ 0 → stands_open events order ≡ false

pub order-in : (events : List Event) (hour : ℕ) (order : Placed) → IsSomeHistory events → IsIn order (filter_map (order_given hour) events) → OrderAt events hour order
order-in events hour order history listed =
    let (e, here, given) = from_filter_map (order_given hour) order events listed in
    let from = from-kept (is_order_of hour) (placed_by e) order given in
    let of_hour : order.name.hour ≡ hour = eqb-true order.name.hour hour from.1 in
    let there = IsIn-filter_map placed_by e order events here from.0 in
    record {
      sound = record { no_fault = ((all_are_sound history.setup events history.fit).orders order there).sound };
      stands = λ tally tells. stands there of_hour tally tells;
      opens = λ tally tells some. let told = subst (λ n. Tells events n tally) (same-name order.name hour of_hour) tells in
          let is_left = told.left in lt-ltb 0 (left events order.name) (omega (arith, is_left, some));
      closes = λ tally tells none. let told = subst (λ n. Tells events n tally) (same-name order.name hour of_hour) tells in
          let is_left = told.left in le-ltb 0 (left events order.name) (omega (arith, is_left, none));
    }
  where
    stands : IsIn order (placed events) → order.name.hour ≡ hour → (tally : Tally) → Tells events (name_in hour order.name.number) tally
        → (standing_by tally order ≡ standing events order) × (tally.filled ≤ order.order.quantity.0)
    stands there of_hour tally tells =
        let told = subst (λ n. Tells events n tally) (same-name order.name hour of_hour) tells in
        let moment_is = told.order_moment order there refl in
        let all = left-filled-taken_off history.setup events history.fit order.name in
        let quantity = entered-order events order (names-once history.setup events history.fit) there in
        let count = told.filled in (
          λ i. record {
            name = order.name;
            caller = order.caller;
            order = order.order;
            filled = told.filled i;
            left = told.left i;
            shown = shown_lots order.order.kind (told.filled i) (told.left i);
            price = price_now order.order (told.filled i);
            moment = moment_is i;
          },
          omega (arith, all, quantity, count),
        )

-- a block that an event of a history enters by an hour
pub record BlockAt (events : List Event) (first : ℕ) (block : PlacedBlock) : Type 0 where
  pub has_place : (size : ℕ) → entered_in events first < size → block.name.number < size
  pub stands : (tally : Tally) → Tells events (name_in first block.name.number) tally → standing_block_by tally block ≡ standing_block events block

pub block-at : (events : List Event) (place : ℕ) (e : Event) (first : ℕ) (block : PlacedBlock) → IsSomeHistory events → place < length events → e ≡ get_or events place e
    → block_given first e ≡ Some block → BlockAt events first block
block-at events place e first block history within is given =
    let from = from-kept (is_block_of first) (block_placed_by e) block given in
    let here = item_at_place events place e within is in
    let of_hour : block.name.hour ≡ first = eqb-true block.name.hour first from.1 in
    let there = IsIn-filter_map block_placed_by e block events here from.0 in
    record {
      has_place = λ size room. has-place history.setup events history.fit block.name first size
          (times-some block.name e events here (enters-block_placed block e from.0)) of_hour room;
      stands = λ tally tells. stands there of_hour tally tells;
    }
  where
    stands : IsIn block (blocks_placed events) → block.name.hour ≡ first → (tally : Tally) → Tells events (name_in first block.name.number) tally
        → standing_block_by tally block ≡ standing_block events block
    stands there of_hour tally tells =
        let told = subst (λ n. Tells events n tally) (same-name block.name first of_hour) tells in
        let moment_is = told.block_moment block there refl in
        λ i. record { name = block.name; order = block.order; left = told.left i; moment = moment_is i }

-- a name that an event gives by an hour
name-enters : (hour : ℕ) (name : OrderName) (e : Event) → name_given hour e ≡ Some name → (enters_as name e ≡ true) × (name.hour ≡ hour)
name-enters hour name (event.Entered given caller order) is = by_test (nat_eq given.hour hour) refl is
  where
    by_test : (t : Bool) → nat_eq given.hour hour ≡ t → (if t then Some given else None) ≡ Some name → (same_name given name ≡ true) × (name.hour ≡ hour)
    by_test true e k = let same : given ≡ name = cc in
        (subst (λ n. same_name given n ≡ true) same (same_name-refl given), ap (λ (n : OrderName). n.hour) (sym same) ∙ eqb-true given.hour hour e)
    by_test false e k = absurd (cc)
name-enters hour name (event.EnteredBlock given caller order) is = by_test (nat_eq given.hour hour) refl is
  where
    by_test : (t : Bool) → nat_eq given.hour hour ≡ t → (if t then Some given else None) ≡ Some name → (same_name given name ≡ true) × (name.hour ≡ hour)
    by_test true e k = let same : given ≡ name = cc in
        (subst (λ n. same_name given n ≡ true) same (same_name-refl given), ap (λ (n : OrderName). n.hour) (sym same) ∙ eqb-true given.hour hour e)
    by_test false e k = absurd (cc)
name-enters hour name (event.Leg contract leg) is = absurd (cc)
name-enters hour name (event.BlockLeg first last leg) is = absurd (cc)
name-enters hour name (event.Granted arc first last lots) is = absurd (cc)
name-enters hour name (event.Offered arc first last lots) is = absurd (cc)
name-enters hour name (event.Halted border first last) is = absurd (cc)
name-enters hour name (event.Resumed border first last) is = absurd (cc)
name-enters hour name (event.Gated gated asked) is = absurd (cc)
name-enters hour name (event.Withdrawn given lots) is = absurd (cc)
name-enters hour name (event.Reduced given by) is = absurd (cc)

pub record NameAt (events : List Event) (hour : ℕ) (name : OrderName) : Type 0 where
  pub has_place : (size : ℕ) → entered_in events hour < size → name.number < size
  pub left_is : (tally : Tally) → Tells events (name_in hour name.number) tally → tally.left ≡ left events name
  pub opens : (tally : Tally) → Tells events (name_in hour name.number) tally → 0 < tally.left → is_open events name ≡ true
  pub closes : (tally : Tally) → Tells events (name_in hour name.number) tally → tally.left ≤ 0 → is_open events name ≡ false

pub name-at : (events : List Event) (place : ℕ) (e : Event) (hour : ℕ) (name : OrderName) → IsSomeHistory events → place < length events → e ≡ get_or events place e
    → name_given hour e ≡ Some name → NameAt events hour name
name-at events place e hour name history within is given =
    let enters = name-enters hour name e given in
    let here = item_at_place events place e within is in
    record {
      has_place = λ size room. has-place history.setup events history.fit name hour size (times-some name e events here enters.0) enters.1 room;
      left_is = λ tally tells. (subst (λ n. Tells events n tally) (same-name name hour enters.1) tells).left;
      opens = λ tally tells some. let told = subst (λ n. Tells events n tally) (same-name name hour enters.1) tells in
          let is_left = told.left in lt-ltb 0 (left events name) (omega (arith, is_left, some));
      closes = λ tally tells none. let told = subst (λ n. Tells events n tally) (same-name name hour enters.1) tells in
          let is_left = told.left in le-ltb 0 (left events name) (omega (arith, is_left, none));
    }

-- as many names are given as orders and blocks enter
names-length : (hour : ℕ) (events : List Event) → length (filter_map (name_given hour) events) ≡ length (filter (enters_in hour) events)
names-length hour [] = refl
names-length hour (e ∷ events) = one e (names-length hour events)
  where
    by : (e : Event) (name : OrderName) (b : Bool) → length (filter_map (name_given hour) events) ≡ length (filter (enters_in hour) events)
        → length (cons_option (if b then Some name else None) (filter_map (name_given hour) events))
        ≡ length (cond b (e ∷ filter (enters_in hour) events) (filter (enters_in hour) events))
    by e name true rest = ap (λ n. suc n) rest
    by e name false rest = rest

    one : (e : Event) → length (filter_map (name_given hour) events) ≡ length (filter (enters_in hour) events)
        → length (filter_map (name_given hour) (e ∷ events)) ≡ length (filter (enters_in hour) (e ∷ events))
    one (event.Entered name caller order) rest = by (event.Entered name caller order) name (nat_eq name.hour hour) rest
    one (event.EnteredBlock name caller order) rest = by (event.EnteredBlock name caller order) name (nat_eq name.hour hour) rest
    one (event.Leg contract leg) rest = rest
    one (event.BlockLeg first last leg) rest = rest
    one (event.Granted arc first last lots) rest = rest
    one (event.Offered arc first last lots) rest = rest
    one (event.Halted border first last) rest = rest
    one (event.Resumed border first last) rest = rest
    one (event.Gated gated asked) rest = rest
    one (event.Withdrawn name lots) rest = rest
    one (event.Reduced name by) rest = rest

-- so there is room on the desk where fewer entered than it holds
pub few-have-room : (events : List Event) (name : OrderName) → entered_in events name.hour < desk_room → has_desk_room events name ≡ true
few-have-room events name few =
    let names = filter_map (name_given name.hour) events in
    let others = (λ (other : OrderName). not (same_name other name)) in
    let all = names-length name.hour events ∙ length-filter (enters_in name.hour) events in
    let opened = length-filter (is_open events) names in
    let at_most = count_by-le-length (is_open events) names in
    let but = length-filter others (filter (is_open events) names) in
    let but_at_most = count_by-le-length others (filter (is_open events) names) in
    lt-ltb (length (filter others (filter (is_open events) names))) desk_room (omega (arith, all, opened, at_most, but, but_at_most, few))

-- the tally at a place of a list tells
pub told-at : (events : List Event) (hour : ℕ) (at name : OrderName) (tallies : List Tally) (tally : Tally) → at ≡ name → AreTallies events hour tallies
    → at.number < length tallies → tally ≡ get_or tallies at.number tally → Tells events (name_in hour name.number) tally
told-at events hour at name tallies tally same tell within is =
    subst (λ (n : OrderName). Tells events (name_in hour n.number) tally) same
    (subst (Tells events (name_in hour at.number)) (sym is) (tell at.number tally within))
