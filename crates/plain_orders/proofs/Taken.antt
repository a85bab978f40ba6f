-- An event of a history can be taken in, and then the tallies tell what the events with it come to.
use Rattle.std.proofs.Common.{◌≡◌, ◌≢◌, ◌∙◌, inl, inr, ℕ, ◌+◌, ◌<◌, ◌≤◌, Bool, true, false, cond, List, [], ◌∷◌, ◌++◌, filter, get_or, length, length-append, length-take, nat_eq, eq-eqb, Some, take, refl, sym, ap, subst, if◌then◌else◌, arith}
use Rattle.std.proofs.lemmas.Bool.{cases_lt}
use Rattle.std.proofs.lemmas.List.{get_or_past}
use Rattle.std.proofs.lemmas.List.Sums.{sum_by-append, sum_by_push}
use Rattle.order_kinds.specs.declared.order.OrderName.{OrderName}
use Rattle.order_kinds.specs.declared.side.Side.{Side}
use Rattle.order_kinds.specs.declared.side.Side.TheVariants.{Buy, Sell}
use Rattle.order_kinds.specs.Same.{same_name}
use Rattle.order_kinds.specs.Side.{opposite}
use Rattle.zone_graph.specs.Route.{IsIn}
use Rattle.market_model.specs.declared.event.Event.{Event}
use Rattle.market_model.specs.declared.event.Event.TheVariants as event
use Rattle.market_model.specs.declared.setup.Setup.{Setup}
use Rattle.market_model.specs.History.{and_then, enters_in, of_hour, touches}
use Rattle.market_model.specs.Orders.{Placed, PlacedBlock, block_placed_by, blocks_placed, entered, entered_by, filled, left, next_name, placed}
use Rattle.market_model.specs.WellFormed.{BlockLegFits, FitAfter, LegFits}
use Rattle.laws_of_market.proofs.Balances.{left-filled-taken_off, maker_has-leg, taker_has-leg}
use Rattle.laws_of_market.proofs.Members.{from_filter_map}
use Rattle.laws_of_market.proofs.Names.{names-once, times_entered}
use Rattle.laws_of_market.proofs.Placed.{all_are_sound}
use Rattle.laws_of_market.proofs.Soundness.{block_fault-none, lots_in_range-bounds, order_fault-none}
use Rattle.laws_of_market.proofs.Tests.{same_name-refl}
use Rattle.laws_of_market.proofs.Unique.{entered-is, entered-none, entered-order, enters-block_placed, one_block, one_order}
use Rattle.laws_of_market.proofs.Wholes.{other_name}
use Rattle.plain_orders.specs.Histories.{IsSomeHistory}
use Rattle.plain_orders.specs.declared.tally.Change.{Change}
use Rattle.plain_orders.specs.declared.tally.Change.TheVariants as change
use Rattle.plain_orders.specs.declared.tally.Tally.{Tally}
use Rattle.plain_orders.specs.Tallies.{AreTallies, CanApply, CanChange, CanTakeIn, HasPeak, Tells, after_event, changed, entered_in, left_at, name_in, nothing}
use Rattle.plain_orders.proofs.Changes.{sound-peak}
use Rattle.plain_orders.proofs.Histories.{IsAt}
use Rattle.laws_of_market.proofs.LocalMoments.{hour-more, hour-same}
use Rattle.plain_orders.proofs.Tells.{Comes, tells-after, tells-elsewhere}

-- ---- what was entered of a block

block-quantity : (block : PlacedBlock) (e : Event) → block_placed_by e ≡ Some block → entered_by block.name e ≡ block.order.quantity.0
block-quantity block (event.EnteredBlock given caller entering) is =
    let same : record { name = given; caller = caller; order = entering } ≡ block = cc in
    subst (λ (o : PlacedBlock). entered_by o.name (event.EnteredBlock given caller entering) ≡ o.order.quantity.0) same
    (rw (same_name-refl given) refl)
block-quantity block (event.Entered given caller entering) is = absurd (cc)
block-quantity block (event.Leg contract leg) is = absurd (cc)
block-quantity block (event.BlockLeg first last leg) is = absurd (cc)
block-quantity block (event.Granted arc first last lots) is = absurd (cc)
block-quantity block (event.Offered arc first last lots) is = absurd (cc)
block-quantity block (event.Halted border first last) is = absurd (cc)
block-quantity block (event.Resumed border first last) is = absurd (cc)
block-quantity block (event.Gated gated asked) is = absurd (cc)
block-quantity block (event.Withdrawn given lots) is = absurd (cc)
block-quantity block (event.Reduced given by) is = absurd (cc)

entered-block : (setup : Setup) (events : List Event) → FitAfter setup [] events → (block : PlacedBlock) → IsIn block (blocks_placed events)
    → entered events block.name ≡ block.order.quantity.0
entered-block setup events fit block i =
    let x = from_filter_map block_placed_by block events i in
    entered-is block.name x.0 events ((names-once setup events fit).once block.name) x.1 (enters-block_placed block x.0 x.2) ∙ block-quantity block x.0 x.2

-- no more than the greatest quantity is filled of what can still be filled
order-fits : (setup : Setup) (events : List Event) → FitAfter setup [] events → (order : Placed) → IsIn order (placed events) → (name : OrderName) → order.name ≡ name
    → filled events name + left events name ≤ 9990
order-fits setup events fit order i name is =
    let quantity = entered-order events order (names-once setup events fit) i in
    let sound = (all_are_sound setup events fit).orders order i in
    let most = (lots_in_range-bounds order.order.quantity (order_fault-none order.order sound.sound).quantity).1 in
    let all = left-filled-taken_off setup events fit order.name in
    subst (λ n. filled events n + left events n ≤ 9990) is (omega (arith, quantity, most, all))

block-fits : (setup : Setup) (events : List Event) → FitAfter setup [] events → (block : PlacedBlock) → IsIn block (blocks_placed events) → (name : OrderName) → block.name ≡ name
    → filled events name + left events name ≤ 9990
block-fits setup events fit block i name is =
    let quantity = entered-block setup events fit block i in
    let sound = (all_are_sound setup events fit).blocks block i in
    let most = (lots_in_range-bounds block.order.quantity (block_fault-none block.order sound.sound).quantity).1 in
    let all = left-filled-taken_off setup events fit block.name in
    subst (λ n. filled events n + left events n ≤ 9990) is (omega (arith, quantity, most, all))

-- ---- the places of names

count-append : (hour : ℕ) (xs ys : List Event) → entered_in xs hour ≤ entered_in (xs ++ ys) hour
count-append hour xs ys = let all = sum_by-append (λ e. cond (enters_in hour e) 1 0) xs ys in omega (arith, all)

-- a name that was given has a place
pub has-place : (setup : Setup) (events : List Event) → FitAfter setup [] events → (name : OrderName) (hour size : ℕ) → 1 ≤ times_entered events name → name.hour ≡ hour
    → entered_in events hour < size → name.number < size
has-place setup events fit name hour size some is room =
    let most = (names-once setup events fit).numbered name some in
    let same : entered_in events name.hour ≡ entered_in events hour = ap (entered_in events) is in
    omega (arith, most, same, room)

-- so has one of which something is left
left-named : (events : List Event) (name : OrderName) → 1 ≤ left events name → 1 ≤ times_entered events name
left-named events name some = go (times_entered events name) refl
  where
    go : (n : ℕ) → times_entered events name ≡ n → 1 ≤ n
    go n is =
        let at : ¬ (n ≡ 0) = λ none. (let nothing = entered-none name events (is ∙ none) in absurd (omega (arith, nothing, some))) in omega (arith, at)

-- a name of an hour is that of its number
pub same-name : (name : OrderName) (hour : ℕ) → name.hour ≡ hour → name_in hour name.number ≡ name
same-name name hour is i = record { hour = sym is i; number = name.number }

-- the tallies of an hour say what is left of a name, and that nothing is left of one that was not given
pub left-told : (events : List Event) (name : OrderName) (tallies : List Tally) → IsSomeHistory events → length tallies ≡ entered_in events name.hour + 1
    → AreTallies events name.hour tallies → left_at tallies name.number ≡ left events name
left-told events name tallies history size tell = elim (cases_lt name.number (length tallies)) [
  | inl less ↦ (tell name.number nothing less).left
  | inr high ↦ ap (λ (t : Tally). t.left) (get_or_past tallies name.number nothing high) ∙ sym (none (left events name) refl high)
]
  where
    none : (lots : ℕ) → left events name ≡ lots → length tallies ≤ name.number → lots ≡ 0
    none lots is high =
        let at : ¬ (1 ≤ lots) = λ some. (let within = has-place history.setup events history.fit name name.hour (length tallies)
        (left-named events name (omega (arith, is, some))) refl (omega (arith, size)) in absurd (omega (arith, within, high))) in
        omega (arith, at)

opposed : (side : Side) → side ≢ opposite side
opposed Buy is = absurd (cc)
opposed Sell is = absurd (cc)

-- ---- what is needed to take an event in

module _ (setup : Setup) (before : List Event) (hour : ℕ) (tallies : List Tally) (fit : FitAfter setup [] before) (tell : AreTallies before hour tallies)
    (room : entered_in before hour < length tallies) where
  placed-at : (name : OrderName) → 1 ≤ left before name → name.hour ≡ hour → name.number < length tallies
  placed-at name some is = has-place setup before fit name hour (length tallies) (left-named before name some) is room

  tells-of : (name : OrderName) (d : Tally) → 1 ≤ left before name → name.hour ≡ hour → Tells before name (get_or tallies name.number d)
  tells-of name d some is =
      subst (λ n. Tells before n (get_or tallies name.number d)) (same-name name hour is) (tell name.number d (placed-at name some is))

  -- an order of which so much is left can be filled so far
  can-trade : (order : Placed) → IsIn order (placed before) → (name : OrderName) → order.name ≡ name → (lots moment : ℕ) → 1 ≤ lots → lots ≤ left before name
      → CanApply hour name (change.Trades lots moment) tallies
  can-trade order i name is lots moment some has of_hour_too =
      let at = placed-at name (omega (arith, some, has)) of_hour_too in
      let fits = order-fits setup before fit order i name is in
      let sound = (all_are_sound setup before fit).orders order i in (
        at,
        λ d. let told = tells-of name d (omega (arith, some, has)) of_hour_too in record {
          has = omega (arith, told.left, has);
          fits = omega (arith, told.filled, has, fits);
          peak = subst HasPeak (sym (told.order_kind order i is)) (sound-peak order.order (record { no_fault = sound.sound }));
        },
      )

  -- and a block
  can-deal : (block : PlacedBlock) → IsIn block (blocks_placed before) → (name : OrderName) → block.name ≡ name → (lots : ℕ) → 1 ≤ lots → lots ≤ left before name
      → CanApply hour name (change.Deals lots) tallies
  can-deal block i name is lots some has of_hour_too =
      let at = placed-at name (omega (arith, some, has)) of_hour_too in
      let fits = block-fits setup before fit block i name is in (
        at,
        λ d. let told = tells-of name d (omega (arith, some, has)) of_hour_too in record {
          has = omega (arith, told.left, has);
          fits = omega (arith, told.filled, has, fits);
        },
      )

  can-fall : (name : OrderName) (lots : ℕ) → 1 ≤ left before name → lots ≤ left before name → CanApply hour name (change.Falls lots) tallies
  can-fall name lots some has of_hour_too =
      (placed-at name some of_hour_too, λ d. let told = tells-of name d some of_hour_too in omega (arith, told.left, has))

-- what enters gets the next number
entering-next : (before : List Event) (e : Event) (given : OrderName) (own hour size : ℕ) → given ≡ next_name before own → enters_in hour e ≡ nat_eq given.hour hour
    → size ≡ entered_in (and_then before e) hour + 1 → given.hour ≡ hour → given.number + 1 ≡ size
entering-next before e given own hour size named enters room is =
    let there : own ≡ hour = sym (ap (λ (n : OrderName). n.hour) named) ∙ is in
    let number : given.number ≡ entered_in before own + 1 = ap (λ (n : OrderName). n.number) named in
    let same : entered_in before own ≡ entered_in before hour = ap (entered_in before) there in
    let one : entered_in before hour + cond (enters_in hour e) 1 0 ≡ entered_in before hour + 1 =
    ap (λ b. entered_in before hour + cond b 1 0) (enters ∙ eq-eqb given.hour hour is) in
    let more = sum_by_push (λ x. cond (enters_in hour x) 1 0) before e in
    omega (arith, number, same, one, more, room)

pub can-take_in : (setup : Setup) (before : List Event) (e : Event) (hour : ℕ) (tallies : List Tally) → Comes setup before e → AreTallies before hour tallies
    → length tallies ≡ entered_in (and_then before e) hour + 1 → CanTakeIn hour e tallies
can-take_in setup before (event.Entered given caller order) hour tallies comes tell room =
    entering-next before (event.Entered given caller order) given order.contract.hour hour (length tallies) comes.fits.named refl room
can-take_in setup before (event.EnteredBlock given caller order) hour tallies comes tell room =
    entering-next before (event.EnteredBlock given caller order) given order.first hour (length tallies) comes.fits.named refl room
can-take_in setup before (event.Leg contract leg) hour tallies comes tell room =
    let fits : LegFits setup before contract leg = comes.fits in
    let less = count-append hour before (event.Leg contract leg ∷ []) in
    let room_before : entered_in before hour < length tallies = omega (arith, less, room) in
    let once = names-once setup before comes.fit in (
      λ same. opposed fits.taker.order.side (ap (λ (o : Placed). o.order.side) (one_order before once fits.taker fits.maker fits.taker_open.is_placed fits.maker_open.is_placed
          (fits.taker_open.is_named ∙ same ∙ sym fits.maker_open.is_named)) ∙ fits.opposed),
      λ moment. can-trade setup before hour tallies comes.fit tell room_before fits.taker fits.taker_open.is_placed leg.taker fits.taker_open.is_named leg.lots moment fits.some
          (taker_has-leg setup before contract leg fits),
      λ moment. can-trade setup before hour tallies comes.fit tell room_before fits.maker fits.maker_open.is_placed leg.maker fits.maker_open.is_named leg.lots moment fits.some
          (maker_has-leg setup before contract leg fits),
    )
can-take_in setup before (event.BlockLeg first last leg) hour tallies comes tell room =
    let fits : BlockLegFits setup before first last leg = comes.fits in
    let less = count-append hour before (event.BlockLeg first last leg ∷ []) in
    let room_before : entered_in before hour < length tallies = omega (arith, less, room) in
    let once = names-once setup before comes.fit in (
      λ same. opposed fits.taker.order.side (ap (λ (o : PlacedBlock). o.order.side) (one_block before once fits.taker fits.maker fits.taker_open.is_placed fits.maker_open.is_placed
          (fits.taker_open.is_named ∙ same ∙ sym fits.maker_open.is_named)) ∙ fits.opposed),
      can-deal setup before hour tallies comes.fit tell room_before fits.taker fits.taker_open.is_placed leg.taker fits.taker_open.is_named leg.lots fits.some fits.taker_has,
      can-deal setup before hour tallies comes.fit tell room_before fits.maker fits.maker_open.is_placed leg.maker fits.maker_open.is_named leg.lots fits.some fits.maker_has,
    )
can-take_in setup before (event.Granted arc first last lots) hour tallies comes tell room = tt
can-take_in setup before (event.Offered arc first last lots) hour tallies comes tell room = tt
can-take_in setup before (event.Halted border first last) hour tallies comes tell room = tt
can-take_in setup before (event.Resumed border first last) hour tallies comes tell room = tt
can-take_in setup before (event.Gated gated asked) hour tallies comes tell room = tt
can-take_in setup before (event.Withdrawn given lots) hour tallies comes tell room =
    let less = count-append hour before (event.Withdrawn given lots ∷ []) in
    let some = comes.fits.some in
    let all = comes.fits.all_left in
    can-fall setup before hour tallies comes.fit tell (omega (arith, less, room)) given lots (omega (arith, some, all)) (omega (arith, all))
can-take_in setup before (event.Reduced given by) hour tallies comes tell room =
    let less = count-append hour before (event.Reduced given by ∷ []) in
    let few = comes.fits.less in
    can-fall setup before hour tallies comes.fit tell (omega (arith, less, room)) given by (omega (arith, few)) (omega (arith, few))

-- of two changes of different names the second can be made after the first
pub second-can : (hour : ℕ) (one other : OrderName) (first second : Change) (old new : List Tally) → one ≢ other
    → ((number : ℕ) (d : Tally) → number < length old
    → get_or new number d ≡ (if same_name one (record { hour = hour; number = number }) then changed first (get_or old number d) else get_or old number d))
    → length new ≡ length old → CanApply hour other second old → CanApply hour other second new
second-can hour one other first second old new apart changes size can is =
    let at = can is in (
      omega (arith, at.0, size),
      λ d. subst (CanChange second) (sym (
          changes other.number d at.0
          ∙ ap (λ t. if t then changed first (get_or old other.number d) else get_or old other.number d)
          (subst (λ n. same_name one n ≡ false) (sym (same-name other hour is)) (other_name one other apart))
          )) (at.1 d),
    )

-- ---- one event more

-- an event of the hour, taken in
pub tallies-more : (setup : Setup) (before : List Event) (e : Event) (hour moment place : ℕ) (old new : List Tally) → Comes setup before e → touches hour e ≡ true
    → moment ≡ length (of_hour hour before) + 1 → length new ≡ length old
    → ((number : ℕ) (d : Tally) → number < length old → get_or new number d ≡ after_event (record { hour = hour; number = number }) moment place e (get_or old number d))
    → AreTallies before hour old → AreTallies (and_then before e) hour new
tallies-more setup before e hour moment place old new comes touch is size changes tell number d within =
    let here : number < length old = omega (arith, within, size) in
    subst (Tells (and_then before e) (name_in hour number))
    (sym (changes number d here ∙ ap (λ m. after_event (name_in hour number) m place e (get_or old number d)) is))
    (tells-after setup before e hour number place (get_or old number d) comes touch (tell number d here))

-- another event
pub tallies-same : (setup : Setup) (before : List Event) (e : Event) (hour : ℕ) (tallies : List Tally) → Comes setup before e → touches hour e ≡ false
    → AreTallies before hour tallies → AreTallies (and_then before e) hour tallies
tallies-same setup before e hour tallies comes touch tell number d within =
    tells-elsewhere setup before e hour number (get_or tallies number d) comes touch (tell number d within)

-- ---- an event at its place in a history

pub comes-at : (events : List Event) (place : ℕ) (e : Event) → (at : IsAt events place e) → Comes at.setup (take place events) e
comes-at events place e at = record { fit = at.fit; fits = at.fits; fit_more = at.fit_more }

pub count-more : (hour : ℕ) (before : List Event) (e : Event) → touches hour e ≡ true → length (of_hour hour (and_then before e)) ≡ length (of_hour hour before) + 1
count-more hour before e touch = ap length (hour-more hour before e touch) ∙ length-append (of_hour hour before) (e ∷ [])

pub count-same : (hour : ℕ) (before : List Event) (e : Event) → touches hour e ≡ false → length (of_hour hour (and_then before e)) ≡ length (of_hour hour before)
count-same hour before e touch = ap length (hour-same hour before e touch)

-- no more events touch an hour than there are
fewer-pass : {X : Type 0} (p : X → Bool) (xs : List X) → length (filter p xs) ≤ length xs
fewer-pass p [] = omega arith
fewer-pass {X} p (x ∷ xs) = go (p x) (fewer-pass p xs)
  where
    go : (b : Bool) → length (filter p xs) ≤ length xs → length (cond b (x ∷ filter p xs) (filter p xs)) ≤ length (x ∷ xs)
    go true less = omega (arith, less)
    go false less = omega (arith, less)

pub hour-few : (hour : ℕ) (events : List Event) (place : ℕ) → length (of_hour hour (take place events)) ≤ place
hour-few hour events place =
    let less = fewer-pass (touches hour) (take place events) in
    let size = length-take place events in
    omega (arith, less, size)
