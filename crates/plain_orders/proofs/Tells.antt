-- What each event makes of what the events so far come to.
use Rattle.std.proofs.Common.{◌≡◌, ◌≢◌, ◌∙◌, inl, inr, ℕ, ◌+◌, ◌-◌, ◌≤◌, ◌&&◌, Bool, true, false, List, [], ◌∷◌, length, Some, None, filter, nat_eq, eq-eqb, refl, sym, ap, subst, if◌then◌else◌, arith}
use Rattle.std.proofs.lemmas.Bool.{true≢false, or_cases}
use Rattle.order_kinds.specs.declared.contract.Contract.{Contract}
use Rattle.order_kinds.specs.declared.order.BlockOrder.{BlockOrder}
use Rattle.order_kinds.specs.declared.order.Kind.TheVariants as kind
use Rattle.order_kinds.specs.declared.order.Order.{Order}
use Rattle.order_kinds.specs.declared.order.OrderName.{OrderName}
use Rattle.order_kinds.specs.Same.{same_name}
use Rattle.zone_graph.specs.Pour.{lots_if}
use Rattle.zone_graph.specs.Route.{IsIn}
use Rattle.zone_graph.proofs.Membership.{IsIn-filter, from_filter}
use Rattle.market_model.specs.declared.event.Event.{Event}
use Rattle.market_model.specs.declared.event.Event.TheVariants as event
use Rattle.market_model.specs.declared.event.Leg.{Leg}
use Rattle.market_model.specs.declared.setup.Setup.{Setup}
use Rattle.market_model.specs.History.{and_then, of_hour, touches}
use Rattle.market_model.specs.Orders.{Placed, PlacedBlock, block_moment, block_placed_by, blocks_placed, ends_peak, entered, entered_by, enters_block, filled, filled_by, gives_moment, last_place, moment, names, placed, placed_by, taken_off, taken_off_by}
use Rattle.market_model.specs.WellFormed.{FitAfter, Fits, LegFits}
use Rattle.laws_of_market.proofs.Balances.{covered}
use Rattle.laws_of_market.proofs.Members.{from_filter_map}
use Rattle.laws_of_market.proofs.Names.{block_name-new, names-once, order_name-new, times_entered}
use Rattle.laws_of_market.proofs.Placed.{from_picked-more}
use Rattle.laws_of_market.proofs.States.{filled-more}
use Rattle.laws_of_market.proofs.Tests.{same_name-eq}
use Rattle.laws_of_market.proofs.Unique.{entered-none, enters-block_placed, enters-placed, order_is_no_block, times-some}
use Rattle.laws_of_market.proofs.LocalStates.{Agree, blocks_placed-agree, filled-agree, left-agree, placed-agree}
use Rattle.plain_orders.specs.declared.tally.Tally.{Tally}
use Rattle.plain_orders.specs.declared.tally.Change.TheVariants as change
use Rattle.plain_orders.specs.Tallies.{Tells, after_event, changed, entering, name_in, traded}
use Rattle.plain_orders.proofs.Histories.{left-is}
use Rattle.laws_of_market.proofs.LocalMoments.{agree-elsewhere, block_moment-more, filled-hour, moment-more}

-- an event of a history and the events before it
pub record Comes (setup : Setup) (before : List Event) (e : Event) : Type 0 where
  pub fit : FitAfter setup [] before
  pub fits : Fits setup before e
  pub fit_more : FitAfter setup [] (and_then before e)

-- ---- an event that does not touch the hour

order-elsewhere : (hour : ℕ) (a b : List Event) (order : Placed) → filter (λ (o : Placed). nat_eq o.name.hour hour) (placed a) ≡ filter (λ o. nat_eq o.name.hour hour) (placed b)
    → order.name.hour ≡ hour → IsIn order (placed a) → IsIn order (placed b)
order-elsewhere hour a b order same of_hour i =
    (from_filter (λ (o : Placed). nat_eq o.name.hour hour) order (placed b) (subst (IsIn order) same
    (IsIn-filter (λ (o : Placed). nat_eq o.name.hour hour) order (placed a) i (eq-eqb order.name.hour hour of_hour)))).0

block-elsewhere : (hour : ℕ) (a b : List Event) (block : PlacedBlock)
    → filter (λ (o : PlacedBlock). nat_eq o.name.hour hour) (blocks_placed a) ≡ filter (λ o. nat_eq o.name.hour hour) (blocks_placed b)
    → block.name.hour ≡ hour → IsIn block (blocks_placed a) → IsIn block (blocks_placed b)
block-elsewhere hour a b block same of_hour i =
    (from_filter (λ (o : PlacedBlock). nat_eq o.name.hour hour) block (blocks_placed b) (subst (IsIn block) same
    (IsIn-filter (λ (o : PlacedBlock). nat_eq o.name.hour hour) block (blocks_placed a) i (eq-eqb block.name.hour hour of_hour)))).0

-- what is said of an hour after some events is said after any that agree with them on it
pub tells-agree : (a b : List Event) (hour number : ℕ) (tally : Tally) → Agree (hour ∷ []) a b → Tells b (name_in hour number) tally
    → Tells a (name_in hour number) tally
tells-agree a b hour number tally agree tells =
    let name : OrderName = name_in hour number in
    let hour_of : (n : OrderName) → n ≡ name → n.hour ≡ hour = λ n s. ap (λ (m : OrderName). m.hour) s in
    let order_there : (order : Placed) → IsIn order (placed a) → order.name ≡ name → IsIn order (placed b) =
    λ order i s. order-elsewhere hour a b order (placed-agree (hour ∷ []) a b agree hour (inl refl)) (hour_of order.name s) i in
    record {
      filled = tells.filled ∙ sym (filled-agree (hour ∷ []) a b agree name (inl refl));
      left = tells.left ∙ sym (left-agree (hour ∷ []) a b agree name (inl refl));
      order_moment = λ order i s. tells.order_moment order (order_there order i s) s
          ∙ sym (ap (last_place (gives_moment order)) (agree.same order.name.hour (inl (hour_of order.name s))));
      order_kind = λ order i s. tells.order_kind order (order_there order i s) s;
      block_moment = λ block i s. tells.block_moment block
          (block-elsewhere hour a b block (blocks_placed-agree (hour ∷ []) a b agree hour (inl refl)) (hour_of block.name s) i) s
          ∙ sym (ap (last_place (enters_block block)) (agree.same block.name.hour (inl (hour_of block.name s))));
    }

pub tells-elsewhere : (setup : Setup) (before : List Event) (e : Event) (hour number : ℕ) (tally : Tally) → Comes setup before e → touches hour e ≡ false
    → Tells before (name_in hour number) tally → Tells (and_then before e) (name_in hour number) tally
tells-elsewhere setup before e hour number tally comes is =
    tells-agree (and_then before e) before hour number tally (agree-elsewhere setup hour before e comes.fit comes.fit_more is)

-- ---- an event that touches the hour

module _ (setup : Setup) (before : List Event) (e : Event) (hour number : ℕ) (tally : Tally) (comes : Comes setup before e) (touch : touches hour e ≡ true)
    (tells : Tells before (name_in hour number) tally) where
  abbrev own : OrderName
  own = name_in hour number

  abbrev place : ℕ
  place = length (of_hour hour before) + 1

  own-hour : (n : OrderName) → n ≡ own → n.hour ≡ hour
  own-hour n s = ap (λ (m : OrderName). m.hour) s

  -- what a tally becomes by an event that does not enter its order or block
  record Keeps (after : Tally) : Type 0 where
    nothing_enters : entered_by own e ≡ 0
    no_order : (order : Placed) → placed_by e ≡ Some order → order.name ≢ own
    no_block : (block : PlacedBlock) → block_placed_by e ≡ Some block → block.name ≢ own
    fills : after.filled ≡ tally.filled + filled_by own e
    takes : after.left ≡ tally.left - (filled_by own e + taken_off_by own e)
    stays : after.kind ≡ tally.kind
    moves : (order : Placed) → IsIn order (placed before) → order.name ≡ own
        → after.moment ≡ (if gives_moment order (of_hour hour before) e then place else tally.moment)
    block_stays : (block : PlacedBlock) → IsIn block (blocks_placed before) → block.name ≡ own
        → after.moment ≡ (if enters_block block (of_hour hour before) e then place else tally.moment)

  tells-kept : (after : Tally) → Keeps after → Tells (and_then before e) own after
  tells-kept after keeps = record {
    filled = keeps.fills ∙ ap (λ n. n + filled_by own e) tells.filled ∙ sym (filled-more before e own);
    left = let rest = left-is setup before e own comes.fit comes.fits comes.fit_more in
        omega (arith, keeps.takes, tells.left, rest.is, keeps.nothing_enters);
    order_moment = λ order i s. let there = order_before order i s in
        keeps.moves order there s ∙ ap (λ n. if gives_moment order (of_hour hour before) e then place else n) (tells.order_moment order there s)
        ∙ sym (moment-more hour before e order touch (own-hour order.name s));
    order_kind = λ order i s. keeps.stays ∙ tells.order_kind order (order_before order i s) s;
    block_moment = λ block i s. let there = block_before block i s in
        keeps.block_stays block there s ∙ ap (λ n. if enters_block block (of_hour hour before) e then place else n) (tells.block_moment block there s)
        ∙ sym (block_moment-more hour before e block touch (own-hour block.name s));
  }
    where
      order_before : (order : Placed) → IsIn order (placed (and_then before e)) → order.name ≡ own → IsIn order (placed before)
      order_before order i s = elim (from_picked-more placed_by order before e i) [ inl j ↦ j | inr is ↦ absurd (keeps.no_order order is s) ]

      block_before : (block : PlacedBlock) → IsIn block (blocks_placed (and_then before e)) → block.name ≡ own → IsIn block (blocks_placed before)
      block_before block i s = elim (from_picked-more block_placed_by block before e i) [ inl j ↦ j | inr is ↦ absurd (keeps.no_block block is s) ]

  -- what a new name comes to
  record Enters (after : Tally) : Type 0 where
    is_new : times_entered before own ≡ 0
    is_filled : after.filled ≡ 0
    fills : filled_by own e ≡ 0
    takes : taken_off_by own e ≡ 0
    is_left : after.left ≡ entered_by own e
    moves : (order : Placed) → placed_by e ≡ Some order → order.name ≡ own → (after.moment ≡ place) × (gives_moment order (of_hour hour before) e ≡ true) × (after.kind ≡ order.order.kind)
    block_moves : (block : PlacedBlock) → block_placed_by e ≡ Some block → block.name ≡ own → (after.moment ≡ place) × (enters_block block (of_hour hour before) e ≡ true)

  tells-entered : (after : Tally) → Enters after → Tells (and_then before e) own after
  tells-entered after enters = record {
    filled = let more = filled-more before e own in
        omega (arith, more, enters.is_filled, enters.fills, nothing, covers);
    left = let rest = left-is setup before e own comes.fit comes.fits comes.fit_more in
        omega (arith, rest.is, enters.is_left, enters.fills, enters.takes, nothing);
    order_moment = λ order i s. let is = order_now order i s in let own_moves = enters.moves order is s in
        own_moves.0 ∙ sym (moment-more hour before e order touch (own-hour order.name s)
        ∙ ap (λ t. if t then place else moment before order) own_moves.1);
    order_kind = λ order i s. (enters.moves order (order_now order i s) s).2;
    block_moment = λ block i s. let is = block_now block i s in let own_moves = enters.block_moves block is s in
        own_moves.0 ∙ sym (block_moment-more hour before e block touch (own-hour block.name s)
        ∙ ap (λ t. if t then place else block_moment before block) own_moves.1);
  }
    where
      nothing : entered before own ≡ 0
      nothing = entered-none own before enters.is_new

      covers : filled before own + taken_off before own ≤ entered before own
      covers = covered setup before comes.fit own

      order_now : (order : Placed) → IsIn order (placed (and_then before e)) → order.name ≡ own → placed_by e ≡ Some order
      order_now order i s = elim (from_picked-more placed_by order before e i) [
        | inl j ↦ let x = from_filter_map placed_by order before j in
            let some = times-some order.name x.0 before x.1 (enters-placed order x.0 x.2) in
            let none : times_entered before order.name ≡ 0 = subst (λ n. times_entered before n ≡ 0) (sym s) enters.is_new in
            absurd (omega (arith, some, none))
        | inr is ↦ is
      ]

      block_now : (block : PlacedBlock) → IsIn block (blocks_placed (and_then before e)) → block.name ≡ own → block_placed_by e ≡ Some block
      block_now block i s = elim (from_picked-more block_placed_by block before e i) [
        | inl j ↦ let x = from_filter_map block_placed_by block before j in
            let some = times-some block.name x.0 before x.1 (enters-block_placed block x.0 x.2) in
            let none : times_entered before block.name ≡ 0 = subst (λ n. times_entered before n ≡ 0) (sym s) enters.is_new in
            absurd (omega (arith, some, none))
        | inr is ↦ is
      ]

-- ---- each kind of event

tells-by_order : (setup : Setup) (before : List Event) (given : OrderName) (caller : ℕ) (order : Order) (hour number at : ℕ) (tally : Tally)
    → Comes setup before (event.Entered given caller order) → touches hour (event.Entered given caller order) ≡ true → Tells before (name_in hour number) tally
    → Tells (and_then before (event.Entered given caller order)) (name_in hour number)
    (after_event (name_in hour number) (length (of_hour hour before) + 1) at (event.Entered given caller order) tally)
tells-by_order setup before given caller order hour number at tally comes touch tells = go (same_name given (name_in hour number)) refl
  where
    go : (b : Bool) → same_name given (name_in hour number) ≡ b → Tells (and_then before (event.Entered given caller order)) (name_in hour number)
        (if b then entering order.quantity.0 (length (of_hour hour before) + 1) order.kind at else tally)
    go true is = tells-entered setup before (event.Entered given caller order) hour number tally comes touch tells
        (entering order.quantity.0 (length (of_hour hour before) + 1) order.kind at) (record {
          is_new = subst (λ n. times_entered before n ≡ 0) (same_name-eq given (name_in hour number) is)
              (order_name-new setup before given caller order (names-once setup before comes.fit) comes.fits);
          is_filled = refl;
          fills = refl;
          takes = refl;
          is_left = sym (ap (λ b. lots_if b order.quantity.0) is);
          moves = λ o p s. let same : record { name = given; caller = caller; order = order } ≡ o = cc in
              (refl, subst (λ n. same_name given n ≡ true) (sym s) is, ap (λ (q : Placed). q.order.kind) same);
          block_moves = λ b p s. absurd (cc);
        })
    go false is = tells-kept setup before (event.Entered given caller order) hour number tally comes touch tells tally (record {
      nothing_enters = ap (λ b. lots_if b order.quantity.0) is;
      no_order = λ o p s. true≢false (sym (subst (λ n. same_name given n ≡ true) s (enters-placed o (event.Entered given caller order) p)) ∙ is);
      no_block = λ b p s. absurd (cc);
      fills = omega arith;
      takes = omega arith;
      stays = refl;
      moves = λ o i s. sym (ap (λ t. if t then length (of_hour hour before) + 1 else tally.moment) (subst (λ n. same_name given n ≡ false) (sym s) is));
      block_stays = λ b i s. refl;
    })

tells-by_block : (setup : Setup) (before : List Event) (given : OrderName) (caller : ℕ) (order : BlockOrder) (hour number at : ℕ) (tally : Tally)
    → Comes setup before (event.EnteredBlock given caller order) → touches hour (event.EnteredBlock given caller order) ≡ true → Tells before (name_in hour number) tally
    → Tells (and_then before (event.EnteredBlock given caller order)) (name_in hour number)
    (after_event (name_in hour number) (length (of_hour hour before) + 1) at (event.EnteredBlock given caller order) tally)
tells-by_block setup before given caller order hour number at tally comes touch tells = go (same_name given (name_in hour number)) refl
  where
    go : (b : Bool) → same_name given (name_in hour number) ≡ b → Tells (and_then before (event.EnteredBlock given caller order)) (name_in hour number)
        (if b then entering order.quantity.0 (length (of_hour hour before) + 1) kind.Limit at else tally)
    go true is = tells-entered setup before (event.EnteredBlock given caller order) hour number tally comes touch tells
        (entering order.quantity.0 (length (of_hour hour before) + 1) kind.Limit at) (record {
          is_new = subst (λ n. times_entered before n ≡ 0) (same_name-eq given (name_in hour number) is)
              (block_name-new setup before given caller order (names-once setup before comes.fit) comes.fits);
          is_filled = refl;
          fills = refl;
          takes = refl;
          is_left = sym (ap (λ b. lots_if b order.quantity.0) is);
          moves = λ o p s. absurd (cc);
          block_moves = λ b p s. (refl, subst (λ n. same_name given n ≡ true) (sym s) is);
        })
    go false is = tells-kept setup before (event.EnteredBlock given caller order) hour number tally comes touch tells tally (record {
      nothing_enters = ap (λ b. lots_if b order.quantity.0) is;
      no_order = λ o p s. absurd (cc);
      no_block = λ b p s. true≢false (sym (subst (λ n. same_name given n ≡ true) s (enters-block_placed b (event.EnteredBlock given caller order) p)) ∙ is);
      fills = omega arith;
      takes = omega arith;
      stays = refl;
      moves = λ o i s. refl;
      block_stays = λ b i s. sym (ap (λ t. if t then length (of_hour hour before) + 1 else tally.moment) (subst (λ n. same_name given n ≡ false) (sym s) is));
    })

tells-by_leg : (setup : Setup) (before : List Event) (contract : Contract) (leg : Leg) (hour number at : ℕ) (tally : Tally)
    → Comes setup before (event.Leg contract leg) → touches hour (event.Leg contract leg) ≡ true → Tells before (name_in hour number) tally
    → Tells (and_then before (event.Leg contract leg)) (name_in hour number)
    (after_event (name_in hour number) (length (of_hour hour before) + 1) at (event.Leg contract leg) tally)
tells-by_leg setup before contract leg hour number at tally comes touch tells = go (names leg (name_in hour number)) refl
  where
    -- an order that the leg names is no block
    of_orders : (block : PlacedBlock) → IsIn block (blocks_placed before) → block.name ≡ name_in hour number → names leg (name_in hour number) ≡ true → ⊥
    of_orders block i s is =
        let fits : LegFits setup before contract leg = comes.fits in
        let once = names-once setup before comes.fit in
        elim (or_cases (same_name leg.taker (name_in hour number)) (same_name leg.maker (name_in hour number)) is) [
          | inl t ↦ order_is_no_block before once fits.taker block fits.taker_open.is_placed i
              (fits.taker_open.is_named ∙ same_name-eq leg.taker (name_in hour number) t ∙ sym s)
          | inr m ↦ order_is_no_block before once fits.maker block fits.maker_open.is_placed i
              (fits.maker_open.is_named ∙ same_name-eq leg.maker (name_in hour number) m ∙ sym s)
        ]

    -- the leg empties a peak of the order that it names
    empties : (o : Placed) → IsIn o (placed before) → o.name ≡ name_in hour number → names leg (name_in hour number) ≡ true
        → ends_peak tally.kind (tally.filled + leg.lots) ≡ (names leg o.name && ends_peak o.order.kind (filled (and_then (of_hour hour before) (event.Leg contract leg)) o.name))
    empties o i s is =
        let of_hour_too : o.name.hour ≡ hour = ap (λ (m : OrderName). m.hour) s in
        let lots : lots_if (names leg (name_in hour number)) leg.lots ≡ leg.lots = ap (λ b. lots_if b leg.lots) is in
        let more = filled-more before (event.Leg contract leg) (name_in hour number) in
        let so_far = tells.filled in
        let own_count : tally.filled + leg.lots ≡ filled (and_then before (event.Leg contract leg)) (name_in hour number) = omega (arith, lots, more, so_far) in
        let count : tally.filled + leg.lots ≡ filled (and_then (of_hour hour before) (event.Leg contract leg)) o.name =
        own_count ∙ ap (filled (and_then before (event.Leg contract leg))) (sym s) ∙ sym (filled-hour setup hour before (event.Leg contract leg) o.name comes.fit comes.fit_more of_hour_too) in
        let named : names leg o.name ≡ true = subst (λ n. names leg n ≡ true) (sym s) is in
        ap (λ k. ends_peak k (tally.filled + leg.lots)) (tells.order_kind o i s) ∙ ap (ends_peak o.order.kind) count
        ∙ sym (ap (λ t. t && ends_peak o.order.kind (filled (and_then (of_hour hour before) (event.Leg contract leg)) o.name)) named)

    go : (b : Bool) → names leg (name_in hour number) ≡ b → Tells (and_then before (event.Leg contract leg)) (name_in hour number)
        (if b then traded leg.lots (length (of_hour hour before) + 1) tally else tally)
    go true is =
        let lots : lots_if (names leg (name_in hour number)) leg.lots ≡ leg.lots = ap (λ b. lots_if b leg.lots) is in
        tells-kept setup before (event.Leg contract leg) hour number tally comes touch tells (traded leg.lots (length (of_hour hour before) + 1) tally) (record {
          nothing_enters = refl;
          no_order = λ o p s. absurd (cc);
          no_block = λ b p s. absurd (cc);
          fills = omega (arith, lots);
          takes = omega (arith, lots);
          stays = refl;
          moves = λ o i s. ap (λ t. if t then length (of_hour hour before) + 1 else tally.moment) (empties o i s is);
          block_stays = λ b i s. absurd (of_orders b i s is);
        })
    go false is =
        let lots : lots_if (names leg (name_in hour number)) leg.lots ≡ 0 = ap (λ b. lots_if b leg.lots) is in
        tells-kept setup before (event.Leg contract leg) hour number tally comes touch tells tally (record {
          nothing_enters = refl;
          no_order = λ o p s. absurd (cc);
          no_block = λ b p s. absurd (cc);
          fills = omega (arith, lots);
          takes = omega (arith, lots);
          stays = refl;
          moves = λ o i s. sym (ap (λ t. if t && ends_peak o.order.kind (filled (and_then (of_hour hour before) (event.Leg contract leg)) o.name)
              then length (of_hour hour before) + 1 else tally.moment) (subst (λ n. names leg n ≡ false) (sym s) is));
          block_stays = λ b i s. refl;
        })

-- an event that enters nothing and gives no moment, and takes some lots where a test holds
module _ (setup : Setup) (before : List Event) (e : Event) (hour number : ℕ) (tally : Tally) (comes : Comes setup before e) (touch : touches hour e ≡ true)
    (tells : Tells before (name_in hour number) tally) (nothing_enters : entered_by (name_in hour number) e ≡ 0) (no_order : placed_by e ≡ None)
    (no_block : block_placed_by e ≡ None) (no_moment : (order : Placed) (xs : List Event) → gives_moment order xs e ≡ false)
    (no_block_moment : (block : PlacedBlock) (xs : List Event) → enters_block block xs e ≡ false) where
  tells-plain : (after : Tally) → after.filled ≡ tally.filled + filled_by (name_in hour number) e
      → after.left ≡ tally.left - (filled_by (name_in hour number) e + taken_off_by (name_in hour number) e) → after.kind ≡ tally.kind → after.moment ≡ tally.moment
      → Tells (and_then before e) (name_in hour number) after
  tells-plain after fills takes stays same = tells-kept setup before e hour number tally comes touch tells after (record {
    nothing_enters = nothing_enters;
    no_order = λ o p s. (let none : None ≡ Some o = sym no_order ∙ p in absurd (cc));
    no_block = λ b p s. (let none : None ≡ Some b = sym no_block ∙ p in absurd (cc));
    fills = fills;
    takes = takes;
    stays = stays;
    moves = λ o i s. same ∙ sym (ap (λ t. if t then length (of_hour hour before) + 1 else tally.moment) (no_moment o (of_hour hour before)));
    block_stays = λ b i s. same ∙ sym (ap (λ t. if t then length (of_hour hour before) + 1 else tally.moment) (no_block_moment b (of_hour hour before)));
  })

tells-by_deal : (setup : Setup) (before : List Event) (first last : ℕ) (leg : Leg) (hour number at : ℕ) (tally : Tally)
    → Comes setup before (event.BlockLeg first last leg) → touches hour (event.BlockLeg first last leg) ≡ true → Tells before (name_in hour number) tally
    → Tells (and_then before (event.BlockLeg first last leg)) (name_in hour number)
    (after_event (name_in hour number) (length (of_hour hour before) + 1) at (event.BlockLeg first last leg) tally)
tells-by_deal setup before first last leg hour number at tally comes touch tells = go (names leg (name_in hour number)) refl
  where
    plain : (after : Tally) → after.filled ≡ tally.filled + lots_if (names leg (name_in hour number)) leg.lots
        → after.left ≡ tally.left - (lots_if (names leg (name_in hour number)) leg.lots + 0) → after.kind ≡ tally.kind → after.moment ≡ tally.moment
        → Tells (and_then before (event.BlockLeg first last leg)) (name_in hour number) after
    plain = tells-plain setup before (event.BlockLeg first last leg) hour number tally comes touch tells refl refl refl (λ o xs. refl) (λ b xs. refl)

    go : (b : Bool) → names leg (name_in hour number) ≡ b → Tells (and_then before (event.BlockLeg first last leg)) (name_in hour number)
        (if b then changed (change.Deals leg.lots) tally else tally)
    go true is =
        let lots : lots_if (names leg (name_in hour number)) leg.lots ≡ leg.lots = ap (λ b. lots_if b leg.lots) is in
        plain (changed (change.Deals leg.lots) tally) (omega (arith, lots)) (omega (arith, lots)) refl refl
    go false is =
        let lots : lots_if (names leg (name_in hour number)) leg.lots ≡ 0 = ap (λ b. lots_if b leg.lots) is in
        plain tally (omega (arith, lots)) (omega (arith, lots)) refl refl

-- some lots are taken off without a trade
fallen : (setup : Setup) (before : List Event) (e : Event) (given : OrderName) (lots : ℕ) (hour number : ℕ) (tally : Tally)
    → ((after : Tally) → after.filled ≡ tally.filled + 0 → after.left ≡ tally.left - (0 + lots_if (same_name given (name_in hour number)) lots)
    → after.kind ≡ tally.kind → after.moment ≡ tally.moment → Tells (and_then before e) (name_in hour number) after)
    → Tells (and_then before e) (name_in hour number) (if same_name given (name_in hour number) then changed (change.Falls lots) tally else tally)
fallen setup before e given lots hour number tally plain = go (same_name given (name_in hour number)) refl
  where
    go : (b : Bool) → same_name given (name_in hour number) ≡ b → Tells (and_then before e) (name_in hour number) (if b then changed (change.Falls lots) tally else tally)
    go true is =
        let taken : lots_if (same_name given (name_in hour number)) lots ≡ lots = ap (λ b. lots_if b lots) is in
        plain (changed (change.Falls lots) tally) (omega arith) (omega (arith, taken)) refl refl
    go false is =
        let taken : lots_if (same_name given (name_in hour number)) lots ≡ 0 = ap (λ b. lots_if b lots) is in
        plain tally (omega arith) (omega (arith, taken)) refl refl

-- what a tally becomes by an event of its hour tells what the events with it come to
pub tells-after : (setup : Setup) (before : List Event) (e : Event) (hour number at : ℕ) (tally : Tally) → Comes setup before e → touches hour e ≡ true
    → Tells before (name_in hour number) tally
    → Tells (and_then before e) (name_in hour number) (after_event (name_in hour number) (length (of_hour hour before) + 1) at e tally)
tells-after setup before (event.Entered given caller order) hour number at tally comes touch tells = tells-by_order setup before given caller order hour number at tally comes touch tells
tells-after setup before (event.EnteredBlock given caller order) hour number at tally comes touch tells = tells-by_block setup before given caller order hour number at tally comes touch tells
tells-after setup before (event.Leg contract leg) hour number at tally comes touch tells = tells-by_leg setup before contract leg hour number at tally comes touch tells
tells-after setup before (event.BlockLeg first last leg) hour number at tally comes touch tells = tells-by_deal setup before first last leg hour number at tally comes touch tells
tells-after setup before (event.Granted arc first last lots) hour number at tally comes touch tells =
    tells-plain setup before (event.Granted arc first last lots) hour number tally comes touch tells refl refl refl (λ o xs. refl) (λ b xs. refl) tally (omega arith) (omega arith) refl refl
tells-after setup before (event.Offered arc first last lots) hour number at tally comes touch tells =
    tells-plain setup before (event.Offered arc first last lots) hour number tally comes touch tells refl refl refl (λ o xs. refl) (λ b xs. refl) tally (omega arith) (omega arith) refl refl
tells-after setup before (event.Halted border first last) hour number at tally comes touch tells =
    tells-plain setup before (event.Halted border first last) hour number tally comes touch tells refl refl refl (λ o xs. refl) (λ b xs. refl) tally (omega arith) (omega arith) refl refl
tells-after setup before (event.Resumed border first last) hour number at tally comes touch tells =
    tells-plain setup before (event.Resumed border first last) hour number tally comes touch tells refl refl refl (λ o xs. refl) (λ b xs. refl) tally (omega arith) (omega arith) refl refl
tells-after setup before (event.Gated gated asked) hour number at tally comes touch tells =
    tells-plain setup before (event.Gated gated asked) hour number tally comes touch tells refl refl refl (λ o xs. refl) (λ b xs. refl) tally (omega arith) (omega arith) refl refl
tells-after setup before (event.Withdrawn given lots) hour number at tally comes touch tells =
    fallen setup before (event.Withdrawn given lots) given lots hour number tally
    (tells-plain setup before (event.Withdrawn given lots) hour number tally comes touch tells refl refl refl (λ o xs. refl) (λ b xs. refl))
tells-after setup before (event.Reduced given by) hour number at tally comes touch tells =
    fallen setup before (event.Reduced given by) given by hour number tally
    (tells-plain setup before (event.Reduced given by) hour number tally comes touch tells refl refl refl (λ o xs. refl) (λ b xs. refl))
