-- Lines, partners and legs of an hour depend on its events alone.
use Rattle.std.proofs.Common.{◌≡◌, ◌∙◌, ◌⊎◌, inl, inr, ℕ, zero, suc, ◌&&◌, Bool, true, false, List, [], ◌∷◌, filter, map, sum_by, Option, Some, None, nat_eq, eqb-true, eq-eqb, refl, sym, ap, subst, if◌then◌else◌}
use Rattle.std.specs.List.{find}
use Rattle.std.proofs.lemmas.List.Sums.{sum_by-cons}
use Rattle.std.specs.Option.{option_and_then, option_map}
use Rattle.std.specs.Ordering.{is_lt}
use Rattle.std.proofs.lemmas.Bool.{and_parts}
use Rattle.order_kinds.specs.declared.contract.Contract.{Contract}
use Rattle.order_kinds.specs.declared.contract.Part.{Part}
use Rattle.order_kinds.specs.declared.contract.Quarter.{Quarter}
use Rattle.order_kinds.specs.declared.order.OrderName.{OrderName}
use Rattle.order_kinds.specs.declared.side.Side.{Side}
use Rattle.order_kinds.specs.declared.side.Side.TheVariants.{Buy}
use Rattle.order_kinds.specs.Contract.{quarters}
use Rattle.order_kinds.specs.Period.{contract_quarters, quarter_of}
use Rattle.order_kinds.specs.Same.{same_contract, same_name, same_side}
use Rattle.order_kinds.specs.Side.{opposite}
use Rattle.zone_graph.specs.declared.route.Arc.{Arc}
use Rattle.zone_graph.specs.Graph.{Graph}
use Rattle.zone_graph.specs.Route.{IsIn, best_route}
use Rattle.zone_graph.specs.Steps.{step_and_onward, steps}
use Rattle.zone_graph.proofs.Membership.{from_filter, from_map}
use Rattle.market_model.specs.declared.event.Event.{Event}
use Rattle.market_model.specs.declared.event.Event.TheVariants as event
use Rattle.market_model.specs.History.{and_then}
use Rattle.market_model.specs.Lines.{buyer_zone, can_trade, line, partner, priority_cmp, rooms_for, seller_zone, stands_in, time_cmp}
use Rattle.market_model.specs.Orders.{Placed, Standing, gives_moment, is_open, last_place, left, moment, open_order, placed, placed_by, price_now, shown_lots, standing}
use Rattle.market_model.specs.Sweep.{first_answer, leg_in, leg_of_buy, resting_trade, sweep, sweep_leg, left_in_hour, or_else}
use Rattle.market_model.specs.Taking.{leg_over, next_leg, standing_order, take, trade}
use Rattle.laws_of_market.proofs.Legs.{open_order-is}
use Rattle.laws_of_market.proofs.Falls.{trade-leg}
use Rattle.laws_of_market.proofs.Members.{from_filter_map, from_first_answer}
use Rattle.laws_of_market.proofs.Repeats.{bind-some, map-some}
use Rattle.laws_of_market.proofs.Tests.{same_contract-eq, same_name-eq}
use Rattle.laws_of_market.proofs.Trades.{IsInLine, from_line, partner-is}
use Rattle.laws_of_market.proofs.NamedByHour.{AreNamedByHour, IsNamedByHour, named-more}
use Rattle.laws_of_market.proofs.Restrict.{filter-filter, filter-same, find-filter, find-same, map-same}
use Rattle.laws_of_market.proofs.LocalStates.{Agree, agree-more, filled-agree, is_open-agree, left-agree, placed-agree, room-agree}
use Rattle.zone_graph.specs.InOrder.{in_order}

-- an order that entered is named by its contract's hour
pub placed-named : (events : List Event) → AreNamedByHour events → (order : Placed) → IsIn order (placed events) → order.name.hour ≡ order.order.contract.hour
placed-named events named order h =
    let x = from_filter_map placed_by order events h in by_event x.0 order (named x.0 x.1) x.2
  where
    by_event : (e : Event) (order : Placed) → IsNamedByHour e → placed_by e ≡ Some order → order.name.hour ≡ order.order.contract.hour
    by_event (event.Entered given caller entering) found own is =
        let same : record { name = given; caller = caller; order = entering } ≡ found = cc in subst (λ (p : Placed). p.name.hour ≡ p.order.contract.hour) same own
    by_event _ found own is = absurd (cc)

pub contract-hours : (hours : List ℕ) (contract : Contract) → IsIn contract.hour hours → (quarter : Quarter) → IsIn quarter (contract_quarters contract) → IsIn quarter.hour hours
contract-hours hours contract h quarter i =
    let from = from_map (quarter_of contract.hour) quarter (quarters contract.part) i in
    subst (λ n. IsIn n hours) (ap (λ (q : Quarter). q.hour) (sym from.2)) h

module _ (hours : List ℕ) (a b : List Event) (agree : Agree hours a b) where
  abbrev in_hour : ℕ → Placed → Bool
  in_hour hour order = nat_eq order.name.hour hour

  pub standing-agree : (order : Placed) → IsIn order.name.hour hours → standing a order ≡ standing b order
  standing-agree order h =
      let fill = filled-agree hours a b agree order.name h in
      let rest = left-agree hours a b agree order.name h in
      let time : moment a order ≡ moment b order = ap (last_place (gives_moment order)) (agree.same order.name.hour h) in
      λ i. record {
        name = order.name;
        caller = order.caller;
        order = order.order;
        filled = fill i;
        left = rest i;
        shown = shown_lots order.order.kind (fill i) (rest i);
        price = price_now order.order (fill i);
        moment = time i;
      }

  -- the orders that stand in a line
  stand-agree : (contract : Contract) (side : Side) → IsIn contract.hour hours
      → filter (stands_in a contract side) (placed a) ≡ filter (stands_in b contract side) (placed b)
  stand-agree contract side h =
      let of_a = filter-filter (stands_in a contract side) (in_hour contract.hour) (placed a) (λ order i s. in_its_hour a agree.named_a order i s) in
      let of_b = filter-filter (stands_in b contract side) (in_hour contract.hour) (placed b) (λ order i s. in_its_hour b agree.named_b order i s) in
      let same = placed-agree hours a b agree contract.hour h in
      sym of_a
      ∙ filter-same (stands_in a contract side) (stands_in b contract side) (filter (in_hour contract.hour) (placed a)) (λ order i.
      let hour = eqb-true order.name.hour contract.hour (from_filter (in_hour contract.hour) order (placed a) i).1 in
      ap (λ t. t && same_contract order.order.contract contract && same_side order.order.side side)
      (is_open-agree hours a b agree order.name (subst (λ n. IsIn n hours) (sym hour) h)))
      ∙ ap (filter (stands_in b contract side)) same ∙ of_b
    where
      in_its_hour : (events : List Event) → AreNamedByHour events → (order : Placed) → IsIn order (placed events) → stands_in events contract side order ≡ true
          → in_hour contract.hour order ≡ true
      in_its_hour events named order i s =
          let both = and_parts (is_open events order.name && same_contract order.order.contract contract) (same_side order.order.side side) s in
          let front = and_parts (is_open events order.name) (same_contract order.order.contract contract) both.0 in
          let contracts = same_contract-eq order.order.contract contract front.1 in
          eq-eqb order.name.hour contract.hour (placed-named events named order i ∙ ap (λ (c : Contract). c.hour) contracts)

  pub line-agree : (contract : Contract) (side : Side) → IsIn contract.hour hours → line a contract side ≡ line b contract side
  unfolding line
  line-agree contract side h =
      let stand = stand-agree contract side h in
      ap (in_order (priority_cmp side)) (map-same (standing a) (standing b) (filter (stands_in a contract side) (placed a)) (λ order i.
      let passes = from_filter (stands_in a contract side) order (placed a) i in
      let both = and_parts (is_open a order.name && same_contract order.order.contract contract) (same_side order.order.side side) passes.1 in
      let contracts = same_contract-eq order.order.contract contract (and_parts (is_open a order.name) (same_contract order.order.contract contract) both.0).1 in
      standing-agree order (subst (λ n. IsIn n hours) (sym (placed-named a agree.named_a order passes.0 ∙ ap (λ (c : Contract). c.hour) contracts)) h))
      ∙ ap (map (standing b)) stand)

  pub rooms_for-agree : (order : Standing) → IsIn order.order.contract.hour hours → rooms_for a order ≡ rooms_for b order
  rooms_for-agree order h = room-agree hours a b agree (contract_quarters order.order.contract) (contract-hours hours order.order.contract h)

  pub partner-agree : (graph : Graph) (own : Standing) → IsIn own.order.contract.hour hours → partner graph a own ≡ partner graph b own
  unfolding partner
  partner-agree graph own h =
      ap (λ rooms. find (can_trade graph rooms own) (line a own.order.contract (opposite own.order.side))) (rooms_for-agree own h)
      ∙ ap (find (can_trade graph (rooms_for b own) own)) (line-agree own.order.contract (opposite own.order.side) h)

  pub trade-agree : (graph : Graph) (taker maker : Standing) → IsIn taker.order.contract.hour hours → trade graph a taker maker ≡ trade graph b taker maker
  unfolding trade
  trade-agree graph taker maker h =
      ap (λ (rooms : Arc → ℕ). option_map (leg_over rooms taker maker) (best_route graph rooms (seller_zone taker maker) (buyer_zone taker maker))) (rooms_for-agree taker h)

  -- the open order of a name
  pub open_order-agree : (name : OrderName) → IsIn name.hour hours → open_order a name ≡ open_order b name
  open_order-agree name h =
      let of_a : Placed → Bool = λ order. same_name order.name name && is_open a order.name in
      let of_b : Placed → Bool = λ order. same_name order.name name && is_open b order.name in
      sym (find-filter of_a (in_hour name.hour) (placed a) (λ order i s. named_so a order s))
      ∙ find-same of_a of_b (filter (in_hour name.hour) (placed a)) (λ order i.
      let hour = eqb-true order.name.hour name.hour (from_filter (in_hour name.hour) order (placed a) i).1 in
      ap (λ t. same_name order.name name && t) (is_open-agree hours a b agree order.name (subst (λ n. IsIn n hours) (sym hour) h)))
      ∙ ap (find of_b) (placed-agree hours a b agree name.hour h)
      ∙ find-filter of_b (in_hour name.hour) (placed b) (λ order i s. named_so b order s)
    where
      named_so : (events : List Event) (order : Placed) → (same_name order.name name && is_open events order.name) ≡ true → in_hour name.hour order ≡ true
      named_so events order s =
          let both = and_parts (same_name order.name name) (is_open events order.name) s in
          eq-eqb order.name.hour name.hour (ap (λ (n : OrderName). n.hour) (same_name-eq order.name name both.0))

  standing_order-agree : (name : OrderName) → IsIn name.hour hours → standing_order a name ≡ standing_order b name
  standing_order-agree name h = go (open_order a name) refl ∙ ap (option_map (standing b)) (open_order-agree name h)
    where
      go : (o : Option Placed) → open_order a name ≡ o → option_map (standing a) o ≡ option_map (standing b) o
      go None is = refl
      go (Some order) is =
          let found = open_order-is a name order is in
          ap Some (standing-agree order (subst (λ (n : OrderName). IsIn n.hour hours) (sym found.is_named) h))

-- ---- legs

-- a leg of two orders that entered is named by its hour
trade-named : (graph : Graph) (events : List Event) (own other : Placed) (e : Event) → AreNamedByHour events → IsIn own (placed events) → IsIn other (placed events)
    → other.order.contract ≡ own.order.contract → trade graph events (standing events own) (standing events other) ≡ Some e → IsNamedByHour e
trade-named graph events own other e named h k same is =
    let leg = trade-leg graph events (standing events own) (standing events other) e is in
    subst IsNamedByHour leg.is (placed-named events named own h, placed-named events named other k ∙ ap (λ (c : Contract). c.hour) same)

-- the leg of an open order with its partner is named by its hour, whoever is the taker
partner_leg-named : (graph : Graph) (events : List Event) (own : Placed) (found : Standing) (e : Event) → AreNamedByHour events → IsIn own (placed events)
    → partner graph events (standing events own) ≡ Some found
    → (trade graph events (standing events own) found ≡ Some e) ⊎ (trade graph events found (standing events own) ≡ Some e) → IsNamedByHour e
partner_leg-named graph events own found e named h is made =
    let other = (partner-is graph events (standing events own) found is).in_line in
    elim made [
      | inl t ↦ trade-named graph events own other.order e named h other.is_open.is_placed other.of_contract
          (subst (λ s. trade graph events (standing events own) s ≡ Some e) other.is t)
      | inr t ↦ trade-named graph events other.order own e named other.is_open.is_placed h (sym other.of_contract)
          (subst (λ s. trade graph events s (standing events own) ≡ Some e) other.is t)
    ]

pub next_leg-named : (graph : Graph) (name : OrderName) (events : List Event) (e : Event) → AreNamedByHour events → next_leg graph name events ≡ Some e → IsNamedByHour e
unfolding next_leg
next_leg-named graph name events e named is =
    let own = bind-some _ (standing_order events name) e is in
    let found = map-some (standing events) (open_order events name) own.0 own.1 in
    let order = open_order-is events name found.0 found.1 in
    let other = bind-some _ (partner graph events own.0) e own.2 in
    partner_leg-named graph events found.0 other.0 e named order.is_open.is_placed
    (subst (λ s. partner graph events s ≡ Some other.0) (sym found.2) other.1)
    (inl (subst (λ s. trade graph events s other.0 ≡ Some e) (sym found.2) other.2))

leg_of_buy-named : (graph : Graph) (events : List Event) (contract : Contract) (buy : Standing) (e : Event) → AreNamedByHour events → IsInLine events contract Buy buy
    → leg_of_buy graph events buy ≡ Some e → IsNamedByHour e
leg_of_buy-named graph events contract buy e named in_line is =
    let at_order = subst (λ s. leg_of_buy graph events s ≡ Some e) in_line.is is in
    let own : Standing = standing events in_line.order in
    let other = bind-some (resting_trade graph events own) (partner graph events own) e at_order in
    partner_leg-named graph events in_line.order other.0 e named in_line.is_open.is_placed other.1
    (elim (is_lt (time_cmp own other.0))
    as (λ b. (if b then trade graph events other.0 own else trade graph events own other.0) ≡ Some e
    → (trade graph events own other.0 ≡ Some e) ⊎ (trade graph events other.0 own ≡ Some e)) [
      | true ↦ λ k. inr k
      | false ↦ λ k. inl k
    ] other.2)

pub sweep_leg-named : (parts : List Part) (graph : Graph) (hour : ℕ) (events : List Event) (e : Event) → AreNamedByHour events
    → sweep_leg parts graph hour events ≡ Some e → IsNamedByHour e
unfolding sweep_leg
sweep_leg-named parts graph hour events e named is =
    let part = from_first_answer (λ part. leg_in graph events (record { hour = hour; part = part })) e parts is in
    let contract : Contract = record { hour = hour; part = part.0 } in
    let buy = from_first_answer (leg_of_buy graph events) e (line events contract Buy) part.2 in
    leg_of_buy-named graph events contract buy.0 e named (from_line events contract Buy buy.0 buy.1) buy.2

-- answers of items that agree
pub first_answer-same : {X Y : Type 0} (f g : X → Option Y) (xs : List X) → ((x : X) → IsIn x xs → f x ≡ g x) → first_answer f xs ≡ first_answer g xs
first_answer-same f g [] same = refl
first_answer-same {X} {Y} f g (x ∷ xs) same =
    ap (λ o. or_else o (λ _. first_answer f xs)) (same x (inl refl)) ∙ rest (g x) (first_answer-same f g xs (λ y i. same y (inr i)))
  where
    rest : (o : Option Y) → first_answer f xs ≡ first_answer g xs → or_else o (λ _. first_answer f xs) ≡ or_else o (λ _. first_answer g xs)
    rest None e = e
    rest (Some y) e = refl

module _ (hours : List ℕ) (a b : List Event) (agree : Agree hours a b) where
  -- what depends on a partner and a trade
  bind-same : {A B : Type 0} (o : Option A) (f g : A → Option B) → ((x : A) → o ≡ Some x → f x ≡ g x) → option_and_then f o ≡ option_and_then g o
  bind-same None f g same = refl
  bind-same (Some x) f g same = same x refl

  pub next_leg-agree : (graph : Graph) (name : OrderName) → IsIn name.hour hours → next_leg graph name a ≡ next_leg graph name b
  unfolding next_leg
  next_leg-agree graph name h =
      bind-same (standing_order a name) (λ own. option_and_then (λ other. trade graph a own other) (partner graph a own))
      (λ own. option_and_then (λ other. trade graph b own other) (partner graph b own)) (λ own is.
      let found = map-some (standing a) (open_order a name) own is in
      let order = open_order-is a name found.0 found.1 in
      let hour : own.order.contract.hour ≡ name.hour =
      ap (λ (s : Standing). s.order.contract.hour) (sym found.2) ∙ sym (placed-named a agree.named_a found.0 order.is_open.is_placed) ∙ ap (λ (n : OrderName). n.hour) order.is_named in
      let own_in = subst (λ n. IsIn n hours) (sym hour) h in
      bind-same (partner graph a own) (λ other. trade graph a own other) (λ other. trade graph b own other) (λ other k. trade-agree hours a b agree graph own other own_in)
      ∙ ap (option_and_then (λ other. trade graph b own other)) (partner-agree hours a b agree graph own own_in))
      ∙ ap (option_and_then (λ own. option_and_then (λ other. trade graph b own other) (partner graph b own))) (standing_order-agree hours a b agree name h)

  leg_of_buy-agree : (graph : Graph) (contract : Contract) (buy : Standing) → IsIn contract.hour hours → IsInLine a contract Buy buy
      → leg_of_buy graph a buy ≡ leg_of_buy graph b buy
  leg_of_buy-agree graph contract buy h in_line =
      let own_hour : buy.order.contract.hour ≡ contract.hour = ap (λ (s : Standing). s.order.contract.hour) in_line.is ∙ ap (λ (c : Contract). c.hour) in_line.of_contract in
      let own_in = subst (λ n. IsIn n hours) (sym own_hour) h in
      bind-same (partner graph a buy) (resting_trade graph a buy) (resting_trade graph b buy) (λ other k.
      let line_of = (partner-is graph a buy other k).in_line in
      let its_hour : other.order.contract.hour ≡ contract.hour =
      ap (λ (s : Standing). s.order.contract.hour) line_of.is ∙ ap (λ (c : Contract). c.hour) line_of.of_contract ∙ own_hour in
      ap (λ o. if is_lt (time_cmp buy other) then o else trade graph a buy other) (trade-agree hours a b agree graph other buy (subst (λ n. IsIn n hours) (sym its_hour) h))
      ∙ ap (λ o. if is_lt (time_cmp buy other) then trade graph b other buy else o) (trade-agree hours a b agree graph buy other own_in))
      ∙ ap (option_and_then (resting_trade graph b buy)) (partner-agree hours a b agree graph buy own_in)

  pub sweep_leg-agree : (parts : List Part) (graph : Graph) (hour : ℕ) → IsIn hour hours → sweep_leg parts graph hour a ≡ sweep_leg parts graph hour b
  unfolding sweep_leg
  sweep_leg-agree parts graph hour h =
      first_answer-same (λ part. leg_in graph a (record { hour = hour; part = part })) (λ part. leg_in graph b (record { hour = hour; part = part })) parts (λ part i.
      let contract : Contract = record { hour = hour; part = part } in
      first_answer-same (leg_of_buy graph a) (leg_of_buy graph b) (line a contract Buy) (λ buy k. leg_of_buy-agree graph contract buy h (from_line a contract Buy buy k))
      ∙ ap (first_answer (leg_of_buy graph b)) (line-agree hours a b agree contract Buy h))

-- steps that agree, from histories that agree
pub steps-agree : (hours : List ℕ) (most : ℕ) (step : List Event → Option Event)
    → ((a b : List Event) → Agree hours a b → step a ≡ step b)
    → ((events : List Event) (e : Event) → AreNamedByHour events → step events ≡ Some e → IsNamedByHour e)
    → (a b : List Event) → Agree hours a b → steps most step and_then a ≡ steps most step and_then b
unfolding steps
steps-agree hours zero step same named a b agree = refl
steps-agree hours (suc most) step same named a b agree =
    go (λ e own. steps-agree hours most step same named (and_then a e) (and_then b e) (agree-more hours a b e agree own)) (step a) refl
    ∙ ap (λ o. step_and_onward o (λ e. steps most step and_then (and_then b e))) (same a b agree)
  where
    go : ((e : Event) → IsNamedByHour e → steps most step and_then (and_then a e) ≡ steps most step and_then (and_then b e))
        → (o : Option Event) → step a ≡ o
        → step_and_onward o (λ e. steps most step and_then (and_then a e)) ≡ step_and_onward o (λ e. steps most step and_then (and_then b e))
    go onward None is = refl
    go onward (Some e) is = ap (λ rest. e ∷ rest) (onward e (named a e agree.named_a is))

-- what steps make is named by its hours
pub steps-named : (most : ℕ) (step : List Event → Option Event)
    → ((events : List Event) (e : Event) → AreNamedByHour events → step events ≡ Some e → IsNamedByHour e)
    → (events : List Event) → AreNamedByHour events → AreNamedByHour (steps most step and_then events)
unfolding steps
steps-named zero step named events are = λ e h. absurd h
steps-named (suc most) step named events are = go (λ e own. steps-named most step named (and_then events e) (named-more events e are own)) (step events) refl
  where
    go : ((e : Event) → IsNamedByHour e → AreNamedByHour (steps most step and_then (and_then events e)))
        → (o : Option Event) → step events ≡ o → AreNamedByHour (step_and_onward o (λ e. steps most step and_then (and_then events e)))
    go onward None is f h = absurd h
    go onward (Some e) is f h = elim h [
      | inl s ↦ subst IsNamedByHour (sym s) (named events e are is)
      | inr i ↦ onward e (named events e are is) f i
    ]

pub take-agree : (hours : List ℕ) (a b : List Event) (graph : Graph) (name : OrderName) → Agree hours a b → IsIn name.hour hours → take graph a name ≡ take graph b name
unfolding take
take-agree hours a b graph name agree h =
    steps-agree hours (left a name) (next_leg graph name) (λ x y same. next_leg-agree hours x y same graph name h) (λ events e named is. next_leg-named graph name events e named is) a b agree
    ∙ ap (λ n. steps n (next_leg graph name) and_then b) (left-agree hours a b agree name h)

pub take-named : (graph : Graph) (events : List Event) (name : OrderName) → AreNamedByHour events → AreNamedByHour (take graph events name)
unfolding take
take-named graph events name named = steps-named (left events name) (next_leg graph name) (λ xs e are is. next_leg-named graph name xs e are is) events named

-- what is left in an hour
pub left_in_hour-agree : (hours : List ℕ) (a b : List Event) (hour : ℕ) → Agree hours a b → IsIn hour hours → left_in_hour a hour ≡ left_in_hour b hour
left_in_hour-agree hours a b hour agree h =
    sum-same (λ (order : Placed). left a order.name) (λ order. left b order.name) (filter (λ (order : Placed). nat_eq order.name.hour hour) (placed a)) (λ order i.
    let own = eqb-true order.name.hour hour (from_filter (λ (o : Placed). nat_eq o.name.hour hour) order (placed a) i).1 in
    left-agree hours a b agree order.name (subst (λ n. IsIn n hours) (sym own) h))
    ∙ ap (sum_by (λ (order : Placed). left b order.name)) (placed-agree hours a b agree hour h)
  where
    sum-same : {X : Type 0} (f g : X → ℕ) (xs : List X) → ((x : X) → IsIn x xs → f x ≡ g x) → sum_by f xs ≡ sum_by g xs
    sum-same f g [] same = refl
    sum-same f g (x ∷ xs) same = rw (sum_by-cons f x xs, sum_by-cons g x xs, same x (inl refl), sum-same f g xs (λ y i. same y (inr i))) refl

pub sweep-agree : (hours : List ℕ) (a b : List Event) (parts : List Part) (graph : Graph) (hour : ℕ) → Agree hours a b → IsIn hour hours
    → sweep parts graph hour a ≡ sweep parts graph hour b
unfolding sweep
sweep-agree hours a b parts graph hour agree h =
    steps-agree hours (left_in_hour a hour) (sweep_leg parts graph hour) (λ x y same. sweep_leg-agree hours x y same parts graph hour h)
    (λ events e named is. sweep_leg-named parts graph hour events e named is) a b agree
    ∙ ap (λ n. steps n (sweep_leg parts graph hour) and_then b) (left_in_hour-agree hours a b hour agree h)

pub sweep-named : (parts : List Part) (graph : Graph) (hour : ℕ) (events : List Event) → AreNamedByHour events → AreNamedByHour (sweep parts graph hour events)
unfolding sweep
sweep-named parts graph hour events named = steps-named (left_in_hour events hour) (sweep_leg parts graph hour) (λ xs e are is. sweep_leg-named parts graph hour xs e are is) events named
