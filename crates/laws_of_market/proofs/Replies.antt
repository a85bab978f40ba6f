-- Every reply leaves a history well-formed, and so does every journal.
use Rattle.std.proofs.Common.{◌≡◌, inl, inr, ℕ, zero, suc, ◌-◌, ◌<◌, ◌≤◌, ◌&&◌, Bool, true, false, not, List, [], ◌∷◌, ◌++◌, length, map, Option, Some, None, is_none, nat_eq, nat_le, nat_lt, refl, sym, subst, if◌then◌else◌, arith}
use Rattle.std.proofs.lemmas.Bool.{leb-true, ltb-true, true≢false, and_parts}
use Rattle.std.proofs.lemmas.List.{append-nil}
use Rattle.std.specs.List.{list_all, slice_get}
use Rattle.std.specs.Option.{option_and_then, option_map, option_map_or}
use Rattle.order_kinds.specs.declared.contract.Part.{Part}
use Rattle.order_kinds.specs.declared.contract.Quarter.{Quarter}
use Rattle.order_kinds.specs.declared.order.BlockOrder.{BlockOrder}
use Rattle.order_kinds.specs.declared.order.Kind.{Kind}
use Rattle.order_kinds.specs.declared.order.Kind.TheVariants as kind
use Rattle.order_kinds.specs.declared.order.Order.{Order}
use Rattle.order_kinds.specs.declared.order.OrderName.{OrderName}
use Rattle.order_kinds.specs.declared.phase.Phase.{Phase}
use Rattle.order_kinds.specs.Contract.{is_known}
use Rattle.order_kinds.specs.Order.{has_allowed_peaks, is_fill_or_kill, is_limit}
use Rattle.order_kinds.specs.Period.{hours_from, is_not_after, is_within, range_quarters}
use Rattle.order_kinds.specs.Phase.{is_later}
use Rattle.order_kinds.specs.Price.{lots_in_range, price_in_range}
use Rattle.order_kinds.specs.Same.{same_name}
use Rattle.zone_graph.specs.declared.route.Arc.{Arc}
use Rattle.zone_graph.specs.Graph.{zone_count}
use Rattle.zone_graph.specs.Route.{IsIn}
use Rattle.zone_graph.proofs.Membership.{IsIn-map}
use Rattle.market_model.specs.declared.command.Command.{Command}
use Rattle.market_model.specs.declared.command.Command.TheVariants as command
use Rattle.market_model.specs.declared.event.Event.{Event}
use Rattle.market_model.specs.declared.event.Event.TheVariants as event
use Rattle.market_model.specs.declared.refusal.Refusal.{Refusal}
use Rattle.market_model.specs.declared.setup.Caller.{Caller}
use Rattle.market_model.specs.declared.setup.Setup.{Setup}
use Rattle.market_model.specs.Grid.{graph_of}
use Rattle.zone_graph.specs.Grid.{arc_between}
use Rattle.zone_graph.proofs.Finding.{from_find}
use Rattle.market_model.specs.History.{events_of}
use Rattle.market_model.specs.Market.{reply_let_in, events_done, on_arc, refused_or, reply_by}
use Rattle.market_model.specs.Orders.{Placed, PlacedBlock, is_open, left, open_block, open_order}
use Rattle.market_model.specs.Refusals.{below_flow, has_own, if_limit, if_own, if_own_block, is_below_left, no_room, own_limit, refusal_of_command}
use Rattle.market_model.specs.Room.{phase_of}
use Rattle.market_model.specs.Rules.{has_right, may_give}
use Rattle.market_model.specs.Sweep.{first_answer}
use Rattle.market_model.specs.WellFormed.{BorderFits, GateFits, GrantFits, IsHistory, IsMarketSetup, IsRange, OfferFits, ReductionFits, WithdrawalFits}
use Rattle.laws_of_market.proofs.Admitted.{IsAdmitted, NamesWhatIs, NumbersAreGood, all-pass, refusal-none, unless-none}
use Rattle.laws_of_market.proofs.BlockEntries.{MayEnterBlock, enter_block-history, match_blocks-history}
use Rattle.laws_of_market.proofs.Changes.{arc_between-has, gate-history, offer-covers, request-room, then_sweeps-history}
use Rattle.laws_of_market.proofs.Entries.{MayEnter, enter-history, enter_all-history}
use Rattle.laws_of_market.proofs.Legs.{open_order-is}
use Rattle.laws_of_market.proofs.Soundness.{block_fault-sound, lots_in_range-bounds, order_fault-sound}
use Rattle.laws_of_market.proofs.Tests.{same_name-eq}
use Rattle.laws_of_market.proofs.Wholes.{history-more}

slice_get-within : {X : Type 0} (xs : List X) (i : ℕ) (x : X) → slice_get xs i ≡ Some x → i < length xs
slice_get-within [] i x e = absurd (cc)
slice_get-within (y ∷ xs) zero x e = omega arith
slice_get-within (y ∷ xs) (suc i) x e = let rest = slice_get-within xs i x e in omega arith

-- whoever has a right is a caller of the setup
pub right-within : (setup : Setup) (caller : ℕ) (given : Command) → has_right setup caller given ≡ true → caller < length setup.callers
right-within setup caller given right = go (slice_get setup.callers caller) refl right
  where
    go : (o : Option Caller) → slice_get setup.callers caller ≡ o
        → option_map_or (λ role. may_give role given) (option_map (λ (found : Caller). found.role) o) false ≡ true → caller < length setup.callers
    go None e k = absurd (true≢false (sym k))
    go (Some found) e k = slice_get-within setup.callers caller found e

-- the one of a list, and the two of a list, that pass
one-pass : {X : Type 0} (p : X → Bool) (x : X) → list_all p (x ∷ []) ≡ true → p x ≡ true
one-pass p x e = all-pass p (x ∷ []) e x (inl refl)

second-pass : {X : Type 0} (p : X → Bool) (x y : X) → list_all p (x ∷ y ∷ []) ≡ true → p y ≡ true
second-pass p x y e = all-pass p (x ∷ y ∷ []) e y (inr (inl refl))

-- a fill-or-kill order has no peaks
pub kills-peaks : (order : Order) → is_fill_or_kill order.kind ≡ true → has_allowed_peaks order ≡ true
kills-peaks order e = go order.kind refl e
  where
    go : (k : Kind) → order.kind ≡ k → is_fill_or_kill k ≡ true → has_allowed_peaks order ≡ true
    go kind.Limit is h = absurd (true≢false (sym h))
    go kind.Ioc is h = absurd (true≢false (sym h))
    go kind.Fok is h = rw is refl
    go (kind.Iceberg peak delta) is h = absurd (true≢false (sym h))

-- ---- what no early rule refuses may enter

pub order-may : (setup : Setup) (caller : ℕ) (order : Order) → NamesWhatIs setup caller (command.Enter order) → NumbersAreGood (command.Enter order) → MayEnter setup caller order
order-may setup caller order names numbers = record {
  of_caller = right-within setup caller (command.Enter order) names.right;
  in_hour = one-pass (is_within 1 setup.hours) order.contract.hour names.hours;
  in_part = one-pass is_known order.contract.part names.parts;
  in_zone = ltb-true order.zone (zone_count (graph_of setup)) (one-pass (λ zone. nat_lt zone (zone_count (graph_of setup))) order.zone names.zones);
  sound = order_fault-sound order (one-pass price_in_range order.price numbers.prices) (one-pass lots_in_range order.quantity numbers.quantities) numbers.peaks;
}

pub block-may : (setup : Setup) (caller : ℕ) (order : BlockOrder) → NamesWhatIs setup caller (command.EnterBlock order) → NumbersAreGood (command.EnterBlock order)
    → MayEnterBlock setup caller order
block-may setup caller order names numbers = record {
  of_caller = right-within setup caller (command.EnterBlock order) names.right;
  from_hour = all-pass (is_within 1 setup.hours) (order.first ∷ order.last ∷ []) names.hours order.first (inl refl);
  to_hour = second-pass (is_within 1 setup.hours) order.first order.last names.hours;
  of_period = names.period;
  in_zone = ltb-true order.zone (zone_count (graph_of setup)) (one-pass (λ zone. nat_lt zone (zone_count (graph_of setup))) order.zone names.zones);
  sound = block_fault-sound order (one-pass price_in_range order.price numbers.prices) (one-pass lots_in_range order.quantity numbers.quantities);
}

-- and each order of a basket
pub basket-may : (setup : Setup) (caller : ℕ) (orders : List Order) → NamesWhatIs setup caller (command.EnterBasket orders) → NumbersAreGood (command.EnterBasket orders)
    → (order : Order) → IsIn order orders → MayEnter setup caller order
basket-may setup caller orders names numbers order h =
    let kills = (and_parts (is_within 2 8 (length orders) && _) (list_all (λ (order : Order). is_fill_or_kill order.kind) orders) names.basket).1 in
    record {
      of_caller = right-within setup caller (command.EnterBasket orders) names.right;
      in_hour = all-pass (is_within 1 setup.hours) (map (λ (o : Order). o.contract.hour) orders) names.hours order.contract.hour (IsIn-map (λ (o : Order). o.contract.hour) order orders h);
      in_part = all-pass is_known (map (λ (o : Order). o.contract.part) orders) names.parts order.contract.part (IsIn-map (λ (o : Order). o.contract.part) order orders h);
      in_zone = ltb-true order.zone (zone_count (graph_of setup)) (all-pass (λ zone. nat_lt zone (zone_count (graph_of setup))) (map (λ (o : Order). o.zone) orders) names.zones
          order.zone (IsIn-map (λ (o : Order). o.zone) order orders h));
      sound = order_fault-sound order
          (all-pass price_in_range (map (λ (o : Order). o.price) orders) numbers.prices order.price (IsIn-map (λ (o : Order). o.price) order orders h))
          (all-pass lots_in_range (map (λ (o : Order). o.quantity) orders) numbers.quantities order.quantity (IsIn-map (λ (o : Order). o.quantity) order orders h))
          (kills-peaks order (all-pass (λ (o : Order). is_fill_or_kill o.kind) orders kills order h));
    }

-- ---- what happens first where a command is admitted that enters nothing fits the events before

module _ (setup : Setup) (events : List Event) (caller : ℕ) where
  -- an order or block that the caller has open has something left
  own-left : (name : OrderName) → has_own events caller name ≡ true → 1 ≤ left events name
  own-left name has = go (open_order events name) (open_block events name) refl refl has
    where
      go : (o : Option Placed) (b : Option PlacedBlock) → open_order events name ≡ o → open_block events name ≡ b
          → not (is_none (if_own caller o) && is_none (if_own_block caller b)) ≡ true → 1 ≤ left events name
      go (Some order) b is is_block k =
          let found = open_order-is events name order is in
          let some = ltb-true 0 (left events order.name) found.is_open.is_left in
          subst (λ n. 1 ≤ left events n) found.is_named some
      go None (Some block) is is_block k =
          let r = from_find (λ (b : PlacedBlock). same_name b.name name && is_open events b.name) block _ is_block in
          let both = and_parts (same_name block.name name) (is_open events block.name) r.1 in
          let some = ltb-true 0 (left events block.name) both.1 in
          subst (λ n. 1 ≤ left events n) (same_name-eq block.name name both.0) some
      go None None is is_block k = absurd (true≢false (sym k))

  pub withdrawal-fits : (name : OrderName) → IsAdmitted setup events caller (command.Cancel name) → WithdrawalFits events name (left events name)
  withdrawal-fits name may = record { some = own-left name may.known; all_left = refl }

  -- the plain limit order that a reduction finds
  record IsOwnLimit (name : OrderName) (order : Placed) : Type 0 where
    is_order : open_order events name ≡ Some order
    is_limit : order.order.kind ≡ kind.Limit

  limit_kind : (k : Kind) → is_limit k ≡ true → k ≡ kind.Limit
  limit_kind kind.Limit e = refl
  limit_kind kind.Ioc e = absurd (true≢false (sym e))
  limit_kind kind.Fok e = absurd (true≢false (sym e))
  limit_kind (kind.Iceberg peak delta) e = absurd (true≢false (sym e))

  own_limit-is : (name : OrderName) (order : Placed) → own_limit events caller name ≡ Some order → IsOwnLimit name order
  own_limit-is name order e = go (open_order events name) refl e
    where
      by_kind : (found : Placed) → open_order events name ≡ Some found → (limit : Bool) → is_limit found.order.kind ≡ limit
          → (if limit then Some found else None) ≡ Some order → IsOwnLimit name order
      by_kind found is true l k =
          let same : found ≡ order = cc in
          subst (IsOwnLimit name) same (record { is_order = is; is_limit = limit_kind found.order.kind l })
      by_kind found is false l k = absurd (cc)

      by_caller : (found : Placed) → open_order events name ≡ Some found → (own : Bool) → if_limit (if own then Some found else None) ≡ Some order → IsOwnLimit name order
      by_caller found is true k = by_kind found is (is_limit found.order.kind) refl k
      by_caller found is false k = absurd (cc)

      go : (o : Option Placed) → open_order events name ≡ o → if_limit (if_own caller o) ≡ Some order → IsOwnLimit name order
      go None is k = absurd (cc)
      go (Some found) is k = by_caller found is (nat_eq found.caller caller) k

  pub reduction-fits : (name : OrderName) (to : ℕ) → IsAdmitted setup events caller (command.Reduce name to) → ReductionFits events name (left events name - to)
  reduction-fits name to may = go (own_limit events caller name) refl may.known may.reduces
    where
      go : (o : Option Placed) → own_limit events caller name ≡ o → not (is_none o) ≡ true → is_below_left events to o ≡ true
          → ReductionFits events name (left events name - to)
      go None is k below = absurd (true≢false (sym k))
      go (Some order) is k below =
          let own = own_limit-is name order is in
          let found = open_order-is events name order own.is_order in
          let less : to < left events name = subst (λ n. to < left events n) found.is_named (ltb-true to (left events order.name) below) in
          let some = (lots_in_range-bounds (record { 0 = to }) (one-pass lots_in_range (record { 0 = to }) may.numbers.quantities)).0 in
          record {
            order = order;
            order_open = record {
              is_placed = found.is_open.is_placed;
              is_named = found.is_named;
              is_left = subst (λ n. is_open events n ≡ true) found.is_named found.is_open.is_left;
            };
            is_limit = own.is_limit;
            some = omega arith;
            less = omega arith;
          }

  range : (from to : ℕ) (first last : Quarter) (arc : Arc) → arc_between (graph_of setup) from to ≡ Some arc
      → list_all (is_within 1 setup.hours) (first.hour ∷ last.hour ∷ []) ≡ true → is_not_after first last ≡ true → IsRange setup arc first last
  range from to first last arc is hours order = record {
    on_arc = arc_between-has (graph_of setup) from to arc is;
    from_hour = all-pass (is_within 1 setup.hours) (first.hour ∷ last.hour ∷ []) hours first.hour (inl refl);
    to_hour = second-pass (is_within 1 setup.hours) first.hour last.hour hours;
    in_order = order;
  }

  pub offer-fits : (from to : ℕ) (first last : Quarter) (lots : ℕ) (arc : Arc) → arc_between (graph_of setup) from to ≡ Some arc
      → IsAdmitted setup events caller (command.Offer from to first last lots) → OfferFits setup events arc first last lots
  offer-fits from to first last lots arc is may =
      let none = subst (λ o. option_and_then (λ a. first_answer (below_flow events a lots) (range_quarters first last)) o ≡ None) is may.offer in
      record {
        range = range from to first last arc is may.names.hours may.names.period;
        most = leb-true lots 1000000 may.numbers.offer;
        covers_flow = offer-covers events arc lots first last none;
      }

  pub grant-fits : (from to : ℕ) (first last : Quarter) (lots : ℕ) (arc : Arc) → arc_between (graph_of setup) from to ≡ Some arc
      → IsAdmitted setup events caller (command.Request from to first last lots) → GrantFits setup events arc first last lots
  grant-fits from to first last lots arc is may =
      let none = subst (λ o. option_and_then (λ a. first_answer (no_room events a lots) (range_quarters first last)) o ≡ None) is may.request in
      record {
        range = range from to first last arc is may.names.hours may.names.period;
        some = (lots_in_range-bounds (record { 0 = lots }) (one-pass lots_in_range (record { 0 = lots }) may.numbers.quantities)).0;
        has_room = request-room events arc lots first last none;
      }

  border-fits : (from to first last : ℕ) (arc : Arc) → arc_between (graph_of setup) from to ≡ Some arc
      → list_all (is_within 1 setup.hours) (first ∷ last ∷ []) ≡ true → nat_le first last ≡ true → BorderFits setup arc.border first last
  border-fits from to first last arc is hours order = record {
    on_border = arc_between-has (graph_of setup) from to arc is;
    from_hour = all-pass (is_within 1 setup.hours) (first ∷ last ∷ []) hours first (inl refl);
    to_hour = second-pass (is_within 1 setup.hours) first last hours;
    in_order = leb-true first last order;
  }

  pub halt-fits : (from to first last : ℕ) (arc : Arc) → arc_between (graph_of setup) from to ≡ Some arc
      → IsAdmitted setup events caller (command.Halt from to first last) → BorderFits setup arc.border first last
  halt-fits from to first last arc is may = border-fits from to first last arc is may.names.hours may.names.period

  pub resumption-fits : (from to first last : ℕ) (arc : Arc) → arc_between (graph_of setup) from to ≡ Some arc
      → IsAdmitted setup events caller (command.Resume from to first last) → BorderFits setup arc.border first last
  resumption-fits from to first last arc is may = border-fits from to first last arc is may.names.hours may.names.period

  pub gate-fits : (hour : ℕ) (asked : Phase) → IsAdmitted setup events caller (command.Gate hour asked) → GateFits setup events hour asked
  gate-fits hour asked may = record {
    in_hour = one-pass (is_within 1 setup.hours) hour may.names.hours;
    later = unless-none (is_later asked (phase_of events hour)) _ may.gate;
  }

module _ (setup : Setup) (is_setup : IsMarketSetup setup) (parts : List Part) (events : List Event) (caller : ℕ) (history : IsHistory setup events) where
  entered : (order : Order) → IsAdmitted setup events caller (command.Enter order) → IsHistory setup (events ++ events_done parts setup events caller (command.Enter order))
  unfolding events_done
  entered order may = enter-history setup is_setup parts caller order events (order-may setup caller order may.names may.numbers) history

  block_entered : (order : BlockOrder) → IsAdmitted setup events caller (command.EnterBlock order) → IsHistory setup (events ++ events_done parts setup events caller (command.EnterBlock order))
  unfolding events_done
  block_entered order may = enter_block-history setup is_setup parts caller order events (block-may setup caller order may.names may.numbers) history

  basket_entered : (orders : List Order) → IsAdmitted setup events caller (command.EnterBasket orders) → IsHistory setup (events ++ events_done parts setup events caller (command.EnterBasket orders))
  unfolding events_done
  basket_entered orders may = enter_all-history setup is_setup parts caller orders events (basket-may setup caller orders may.names may.numbers) history

  -- ---- what enters nothing

  cancelled : (name : OrderName) → IsAdmitted setup events caller (command.Cancel name) → IsHistory setup (events ++ events_done parts setup events caller (command.Cancel name))
  unfolding events_done
  cancelled name may = history-more setup events (event.Withdrawn name (left events name)) history (withdrawal-fits setup events caller name may) tt

  reduced : (name : OrderName) (to : ℕ) → IsAdmitted setup events caller (command.Reduce name to) → IsHistory setup (events ++ events_done parts setup events caller (command.Reduce name to))
  unfolding events_done
  reduced name to may = history-more setup events (event.Reduced name (left events name - to)) history (reduction-fits setup events caller name to may) tt

  -- what happens on an arc, where there is one
  at_arc : (from to : ℕ) (happening : Arc → List Event) → ((arc : Arc) → arc_between (graph_of setup) from to ≡ Some arc → IsHistory setup (events ++ happening arc))
      → IsHistory setup (events ++ on_arc (arc_between (graph_of setup) from to) happening)
  at_arc from to happening each = go (arc_between (graph_of setup) from to) refl
    where
      go : (o : Option Arc) → arc_between (graph_of setup) from to ≡ o → IsHistory setup (events ++ on_arc o happening)
      go None is = subst (IsHistory setup) (sym (append-nil events)) history
      go (Some arc) is = each arc is

  offered : (from to : ℕ) (first last : Quarter) (lots : ℕ) → IsAdmitted setup events caller (command.Offer from to first last lots)
      → IsHistory setup (events ++ events_done parts setup events caller (command.Offer from to first last lots))
  unfolding events_done
  offered from to first last lots may = at_arc from to _ (λ arc is.
      then_sweeps-history setup is_setup parts (hours_from first.hour last.hour) events (event.Offered arc first last lots) history
      (offer-fits setup events caller from to first last lots arc is may) tt)

  requested : (from to : ℕ) (first last : Quarter) (lots : ℕ) → IsAdmitted setup events caller (command.Request from to first last lots)
      → IsHistory setup (events ++ events_done parts setup events caller (command.Request from to first last lots))
  unfolding events_done
  requested from to first last lots may = at_arc from to _ (λ arc is.
      then_sweeps-history setup is_setup parts (hours_from first.hour last.hour) events (event.Granted arc first last lots) history
      (grant-fits setup events caller from to first last lots arc is may) tt)

  halted : (from to first last : ℕ) → IsAdmitted setup events caller (command.Halt from to first last)
      → IsHistory setup (events ++ events_done parts setup events caller (command.Halt from to first last))
  unfolding events_done
  halted from to first last may = at_arc from to _ (λ arc is.
      then_sweeps-history setup is_setup parts (hours_from first last) events (event.Halted arc.border first last) history
      (halt-fits setup events caller from to first last arc is may) tt)

  resumed : (from to first last : ℕ) → IsAdmitted setup events caller (command.Resume from to first last)
      → IsHistory setup (events ++ events_done parts setup events caller (command.Resume from to first last))
  unfolding events_done
  resumed from to first last may = at_arc from to _ (λ arc is.
      then_sweeps-history setup is_setup parts (hours_from first last) events (event.Resumed arc.border first last) history
      (resumption-fits setup events caller from to first last arc is may) tt)

  -- the events of a command that is admitted leave a history well-formed
  pub done-history : (given : Command) → IsAdmitted setup events caller given → IsHistory setup (events ++ events_done parts setup events caller given)
  unfolding events_done
  done-history (command.Enter order) may = entered order may
  done-history (command.EnterBlock order) may = block_entered order may
  done-history (command.EnterBasket orders) may = basket_entered orders may
  done-history (command.Cancel name) may = cancelled name may
  done-history (command.Reduce name to) may = reduced name to may
  done-history (command.Blocks first last) may = match_blocks-history setup is_setup parts first last events history
  done-history (command.Offer from to first last lots) may = offered from to first last lots may
  done-history (command.Request from to first last lots) may = requested from to first last lots may
  done-history (command.Halt from to first last) may = halted from to first last may
  done-history (command.Resume from to first last) may = resumed from to first last may
  done-history (command.Gate hour asked) may =
      gate-history setup is_setup parts hour asked events history (gate-fits setup events caller hour asked may)
  done-history (command.View contract side zone) may = subst (IsHistory setup) (sym (append-nil events)) history

  -- so do those of its answer
  answer-history : (given : Command) → IsAdmitted setup events caller given → IsHistory setup (events ++ events_of (reply_let_in parts setup events caller given))
  answer-history (command.View contract side zone) may = subst (IsHistory setup) (sym (append-nil events)) history
  answer-history given may = done-history given may

  -- every reply leaves a history well-formed
  pub reply-history : (given : Command) → IsHistory setup (events ++ events_of (reply_by parts setup events caller given))
  unfolding reply_by
  reply-history given = go (refusal_of_command setup events caller given) refl
    where
      go : (o : Option Refusal) → refusal_of_command setup events caller given ≡ o
          → IsHistory setup (events ++ events_of (refused_or o (λ _. reply_let_in parts setup events caller given)))
      go (Some broken) is = subst (IsHistory setup) (sym (append-nil events)) history
      go None is = answer-history given (refusal-none setup events caller given is)
