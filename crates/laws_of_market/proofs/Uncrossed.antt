-- Hours in which no two open orders can trade, and what leaves them so.
use Rattle.std.proofs.Common.{◌≡◌, ◌∙◌, inl, inr, ℕ, ◌<◌, ◌≤◌, ◌&&◌, Bool, true, false, List, [], ◌∷◌, ◌++◌, None, nat_eq, eq-eqb, refl, sym, ap, subst, arith}
use Rattle.std.proofs.lemmas.Bool.{lt-ltb, ltb-true}
use Rattle.std.proofs.lemmas.List.{append-nil}
use Rattle.std.proofs.lemmas.List.Elements.{filter-append}
use Rattle.order_kinds.specs.declared.contract.Contract.{Contract}
use Rattle.order_kinds.specs.declared.order.OrderName.{OrderName}
use Rattle.order_kinds.specs.declared.side.Side.TheVariants.{Buy, Sell}
use Rattle.order_kinds.specs.Period.{contract_quarters}
use Rattle.zone_graph.specs.declared.route.Arc.{Arc}
use Rattle.zone_graph.specs.Graph.{Graph}
use Rattle.zone_graph.specs.Route.{IsIn}
use Rattle.zone_graph.proofs.Membership.{from_filter, IsIn-filter}
use Rattle.market_model.specs.declared.event.Event.{Event}
use Rattle.market_model.specs.declared.event.Event.TheVariants as event
use Rattle.market_model.specs.History.{and_then, of_hour, touches}
use Rattle.market_model.specs.Lines.{buyer_zone, can_trade, rooms_for, seller_zone}
use Rattle.order_kinds.specs.declared.phase.Phase.{Phase}
use Rattle.order_kinds.specs.Side.{crosses}
use Rattle.zone_graph.specs.Reach.{reaches}
use Rattle.market_model.specs.Orders.{Placed, Standing, filled, filled_by, left, placed, placed_by, price_now, standing}
use Rattle.market_model.specs.Room.{halt_by, phase_by, room}
use Rattle.laws_of_market.proofs.Capacities.{SameCapacity, allocated-more, last_said-more, offered-more, room-same}
use Rattle.laws_of_market.proofs.Placed.{picked-same}
use Rattle.laws_of_market.proofs.States.{filled-more, left-more}
use Rattle.laws_of_market.proofs.Trades.{IsOpen}
use Rattle.laws_of_market.proofs.LocalLines.{placed-named, rooms_for-agree, standing-agree}
use Rattle.laws_of_market.proofs.NamedByHour.{AreNamedByHour}
use Rattle.laws_of_market.proofs.LocalStates.{Agree, is_open-agree, placed-agree}
use Rattle.laws_of_market.proofs.WithinHours.{AreWithinHours}

-- no two open orders of an hour can trade
abbrev pub IsUncrossed : Graph → ℕ → List Event → Type 0
IsUncrossed graph hour events = (buy sell : Placed) → IsOpen events buy → IsOpen events sell → buy.order.contract.hour ≡ hour
    → buy.order.contract ≡ sell.order.contract → buy.order.side ≡ Buy → sell.order.side ≡ Sell
    → can_trade graph (rooms_for events (standing events buy)) (standing events buy) (standing events sell) ≡ false

-- ---- events of other hours

-- histories that agree on an hour are both uncrossed there
uncrossed-agree : (graph : Graph) (hour : ℕ) (a b : List Event) → Agree (hour ∷ []) a b → IsUncrossed graph hour a → IsUncrossed graph hour b
uncrossed-agree graph hour a b agree uncrossed buy sell buy_open sell_open in_hour same on_buy on_sell =
    sym trades_same ∙ uncrossed buy sell (opened buy buy_open buy_hour) (opened sell sell_open sell_hour) in_hour same on_buy on_sell
  where
    buy_hour : buy.name.hour ≡ hour
    buy_hour = placed-named b agree.named_b buy buy_open.is_placed ∙ in_hour

    sell_hour : sell.name.hour ≡ hour
    sell_hour = placed-named b agree.named_b sell sell_open.is_placed ∙ ap (λ (c : Contract). c.hour) (sym same) ∙ in_hour

    opened : (order : Placed) → IsOpen b order → order.name.hour ≡ hour → IsOpen a order
    opened order is own =
        let in_b = IsIn-filter (λ (o : Placed). nat_eq o.name.hour hour) order (placed b) is.is_placed (eq-eqb order.name.hour hour own) in
        let in_a = subst (IsIn order) (sym (placed-agree (hour ∷ []) a b agree hour (inl refl))) in_b in
        record {
          is_placed = (from_filter (λ (o : Placed). nat_eq o.name.hour hour) order (placed a) in_a).0;
          is_left = is_open-agree (hour ∷ []) a b agree order.name (inl own) ∙ is.is_left;
        }

    trades_same : can_trade graph (rooms_for a (standing a buy)) (standing a buy) (standing a sell) ≡ can_trade graph (rooms_for b (standing b buy)) (standing b buy) (standing b sell)
    trades_same =
        ap (λ (rooms : Arc → ℕ). can_trade graph rooms (standing a buy) (standing a sell)) (rooms_for-agree (hour ∷ []) a b agree (standing a buy) (inl in_hour))
        ∙ ap (λ (s : Standing). can_trade graph (rooms_for b s) s (standing a sell)) (standing-agree (hour ∷ []) a b agree buy (inl buy_hour))
        ∙ ap (λ (s : Standing). can_trade graph (rooms_for b (standing b buy)) (standing b buy) s) (standing-agree (hour ∷ []) a b agree sell (inl sell_hour))

-- events that touch no hour but some touch no other
untouched : (hours : List ℕ) (hour : ℕ) (more : List Event) → AreWithinHours hours more → (IsIn hour hours → ⊥) → of_hour hour more ≡ []
untouched hours hour [] within other = refl
untouched hours hour (e ∷ more) within other = go (touches hour e) refl (untouched hours hour more (λ f i. within f (inr i)) other)
  where
    go : (t : Bool) → touches hour e ≡ t → of_hour hour more ≡ [] → of_hour hour (e ∷ more) ≡ []
    go true is rest = absurd (other (within e (inl refl) hour is))
    go false is rest = rw is rest

pub uncrossed-elsewhere : (graph : Graph) (hours : List ℕ) (hour : ℕ) (events more : List Event) → AreNamedByHour (events ++ more) → AreNamedByHour events
    → AreWithinHours hours more → (IsIn hour hours → ⊥) → IsUncrossed graph hour events → IsUncrossed graph hour (events ++ more)
uncrossed-elsewhere graph hours hour events more named_more named within other =
    let rest : of_hour hour (events ++ more) ≡ of_hour hour events =
    filter-append (touches hour) events more ∙ ap (λ xs. of_hour hour events ++ xs) (untouched hours hour more within other) ∙ append-nil (of_hour hour events) in
    uncrossed-agree graph hour events (events ++ more) (record {
      named_a = named;
      named_b = named_more;
      same = λ own h. elim h [ inl s ↦ subst (λ n. of_hour n events ≡ of_hour n (events ++ more)) (sym s) (sym rest) | inr i ↦ absurd i ];
    })

-- ---- what is taken off one order

-- an event that only takes off what is left
record OnlyTakesOff (events : List Event) (e : Event) : Type 0 where
  enters_none : placed_by e ≡ None
  fills_none : (name : OrderName) → filled_by name e ≡ 0
  lowers : (name : OrderName) → left (and_then events e) name ≤ left events name
  same_capacity : SameCapacity (and_then events e) events

-- lets no two orders trade that could not before
uncrossed-taken : (graph : Graph) (hour : ℕ) (events : List Event) (e : Event) → OnlyTakesOff events e → IsUncrossed graph hour events → IsUncrossed graph hour (and_then events e)
uncrossed-taken graph hour events e only uncrossed buy sell buy_open sell_open in_hour same on_buy on_sell =
    trades_same ∙ uncrossed buy sell (opened buy buy_open) (opened sell sell_open) in_hour same on_buy on_sell
  where
    opened : (order : Placed) → IsOpen (and_then events e) order → IsOpen events order
    opened order is =
        let some : 0 < left (and_then events e) order.name = ltb-true 0 (left (and_then events e) order.name) is.is_left in
        let falls = only.lowers order.name in
        record {
          is_placed = subst (IsIn order) (picked-same placed_by events e only.enters_none) is.is_placed;
          is_left = lt-ltb 0 (left events order.name) (omega (arith, falls));
        }

    filled_same : (name : OrderName) → filled (and_then events e) name ≡ filled events name
    filled_same name = let none = only.fills_none name in rw (filled-more events e name, none) (omega arith)

    -- whether they trade, by what they have filled and the rooms
    trades : (Arc → ℕ) → (bought sold : ℕ) → Bool
    trades rooms bought sold = crosses buy.order.side (price_now buy.order bought) (price_now sell.order sold)
        && reaches graph rooms (seller_zone (standing events buy) (standing events sell)) (buyer_zone (standing events buy) (standing events sell))

    trades_same : can_trade graph (rooms_for (and_then events e) (standing (and_then events e) buy)) (standing (and_then events e) buy) (standing (and_then events e) sell)
        ≡ can_trade graph (rooms_for events (standing events buy)) (standing events buy) (standing events sell)
    trades_same =
        ap (λ (rooms : Arc → ℕ). trades rooms (filled (and_then events e) buy.name) (filled (and_then events e) sell.name))
        (room-same (and_then events e) events only.same_capacity (contract_quarters buy.order.contract))
        ∙ ap (λ n. trades (room events (contract_quarters buy.order.contract)) n (filled (and_then events e) sell.name)) (filled_same buy.name)
        ∙ ap (λ n. trades (room events (contract_quarters buy.order.contract)) (filled events buy.name) n) (filled_same sell.name)

withdrawn-only : (events : List Event) (name : OrderName) (lots : ℕ) → OnlyTakesOff events (event.Withdrawn name lots)
withdrawn-only events name lots =
    let e : Event = event.Withdrawn name lots in
    record {
      enters_none = refl;
      fills_none = λ other. refl;
      lowers = λ other. let falls = left-more events e other refl in omega (arith, falls);
      same_capacity = record {
        allocated_same = λ quarter arc. let more = allocated-more events e quarter arc in omega (arith, more);
        offered_same = λ quarter arc. offered-more events e quarter arc;
        phase_same = λ hour. last_said-more (phase_by hour) Phase.Open events e;
        halted_same = λ border hour. last_said-more (halt_by border hour) false events e;
      };
    }

reduced-only : (events : List Event) (name : OrderName) (by : ℕ) → OnlyTakesOff events (event.Reduced name by)
reduced-only events name by =
    let e : Event = event.Reduced name by in
    record {
      enters_none = refl;
      fills_none = λ other. refl;
      lowers = λ other. let falls = left-more events e other refl in omega (arith, falls);
      same_capacity = record {
        allocated_same = λ quarter arc. let more = allocated-more events e quarter arc in omega (arith, more);
        offered_same = λ quarter arc. offered-more events e quarter arc;
        phase_same = λ hour. last_said-more (phase_by hour) Phase.Open events e;
        halted_same = λ border hour. last_said-more (halt_by border hour) false events e;
      };
    }

-- a withdrawal or a reduction lets no two orders trade: no sweep is needed after it
pub uncrossed-withdrawn : (graph : Graph) (hour : ℕ) (events : List Event) (name : OrderName) (lots : ℕ) → IsUncrossed graph hour events
    → IsUncrossed graph hour (and_then events (event.Withdrawn name lots))
uncrossed-withdrawn graph hour events name lots = uncrossed-taken graph hour events (event.Withdrawn name lots) (withdrawn-only events name lots)

pub uncrossed-reduced : (graph : Graph) (hour : ℕ) (events : List Event) (name : OrderName) (by : ℕ) → IsUncrossed graph hour events
    → IsUncrossed graph hour (and_then events (event.Reduced name by))
uncrossed-reduced graph hour events name by = uncrossed-taken graph hour events (event.Reduced name by) (reduced-only events name by)
