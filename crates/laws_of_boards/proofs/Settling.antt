-- Where no two orders of an hour can trade nothing of it trades, by the hour's own events.
use Rattle.std.proofs.Common.{◌≡◌, ◌∙◌, inl, ℕ, zero, suc, false, List, [], ◌∷◌, ◌++◌, Option, Some, None, map, refl, sym, ap, subst}
use Rattle.std.proofs.lemmas.Bool.{true≢false}
use Rattle.std.proofs.lemmas.List.{append-nil}
use Rattle.order_kinds.specs.declared.contract.Contract.{Contract}
use Rattle.order_kinds.specs.declared.contract.Part.{Part}
use Rattle.order_kinds.specs.declared.order.OrderName.{OrderName}
use Rattle.order_kinds.specs.declared.side.Side.{Side}
use Rattle.order_kinds.specs.declared.side.Side.TheVariants.{Buy, Sell}
use Rattle.order_kinds.specs.Side.{opposite}
use Rattle.zone_graph.specs.declared.route.Arc.{Arc}
use Rattle.zone_graph.specs.Graph.{Graph}
use Rattle.zone_graph.specs.Route.{IsIn}
use Rattle.zone_graph.specs.Steps.{step_and_onward, steps}
use Rattle.market_model.specs.declared.event.Event.{Event}
use Rattle.market_model.specs.declared.event.Event.TheVariants as event
use Rattle.market_model.specs.declared.setup.Setup.{Setup}
use Rattle.market_model.specs.Board.{IsHourOf}
use Rattle.market_model.specs.Grid.{graph_of}
use Rattle.market_model.specs.History.{and_then, journal_events, of_hour}
use Rattle.market_model.specs.Lines.{can_trade, line, partner, rooms_for}
use Rattle.market_model.specs.Market.{Turn, run_of, turn_of}
use Rattle.market_model.specs.Orders.{Standing, standing}
use Rattle.market_model.specs.WellFormed.{FitAfter}
use Rattle.market_model.specs.Sweep.{all_parts, first_answer, left_in_hour, leg_in, leg_of_buy, or_else, resting_trade, sweep, sweep_leg}
use Rattle.laws_of_market.proofs.Journals.{run-history}
use Rattle.laws_of_market.proofs.Lines.{IsIn-line}
use Rattle.laws_of_market.proofs.Members.{from_first_answer}
use Rattle.laws_of_market.proofs.Repeats.{bind-some}
use Rattle.laws_of_market.proofs.Trades.{IsInLine, from_line, partner-is}
use Rattle.laws_of_market.proofs.LocalLines.{line-agree, rooms_for-agree, sweep-agree}
use Rattle.laws_of_market.proofs.OfHours.{one-agrees}
use Rattle.laws_of_market.specs.UncrossedBook.{IsUncrossedBook}
use Rattle.laws_of_market.proofs.Commands.{run-uncrossed}
use Rattle.laws_of_market.proofs.Swept.{uncrossed-swept}
use Rattle.laws_of_market.proofs.Uncrossed.{IsUncrossed, uncrossed-reduced, uncrossed-withdrawn}
use Rattle.laws_of_market.proofs.UncrossedReplies.{book_of_hours, hour_of_book}
use Rattle.laws_of_boards.specs.Hours.{IsHourIn}
use Rattle.laws_of_boards.proofs.Fitting.{hour-in-agrees}
use Rattle.laws_of_boards.proofs.Stepping.{sweeps}
use Rattle.laws_of_boards.specs.Settled.{IsSettled, SettledHoursAreQuiet, UncrossedHoursAreSettled}

-- who stands in a line for a contract and side is in that line
back-in-line : (events : List Event) (contract : Contract) (side : Side) (found : Standing) → IsInLine events contract side found → IsIn found (line events contract side)
back-in-line events contract side found there =
    subst (λ s. IsIn s (line events contract side)) (sym there.is)
    (subst (λ c. IsIn (standing events there.order) (line events c side)) there.of_contract
    (subst (λ s. IsIn (standing events there.order) (line events there.order.order.contract s)) there.on_side (IsIn-line events there.order there.is_open)))

-- no two orders of a contract's lines can trade
abbrev pub HasNoPair : Graph → List Event → Contract → Type 0
HasNoPair graph events contract = (buy sell : Standing) → IsIn buy (line events contract Buy) → IsIn sell (line events contract Sell)
    → can_trade graph (rooms_for events buy) buy sell ≡ false

-- then it has no leg
pub no-leg : (graph : Graph) (events : List Event) (contract : Contract) → HasNoPair graph events contract → leg_in graph events contract ≡ None
no-leg graph events contract apart = go (leg_in graph events contract) refl
  where
    go : (o : Option Event) → leg_in graph events contract ≡ o → o ≡ None
    go None is = refl
    go (Some e) is =
        let buy = from_first_answer (leg_of_buy graph events) e (line events contract Buy) is in
        let own = from_line events contract Buy buy.0 buy.1 in
        let other = bind-some (resting_trade graph events buy.0) (partner graph events buy.0) e buy.2 in
        let found = partner-is graph events buy.0 other.0 other.1 in
        let of_contract : buy.0.order.contract ≡ contract = ap (λ (s : Standing). s.order.contract) own.is ∙ own.of_contract in
        let on_sell : opposite buy.0.order.side ≡ Sell = ap (λ (s : Standing). opposite s.order.side) own.is ∙ ap opposite own.on_side in
        let there : IsIn other.0 (line events contract Sell) =
        subst (λ c. IsIn other.0 (line events c Sell)) of_contract
        (subst (λ s. IsIn other.0 (line events buy.0.order.contract s)) on_sell
        (back-in-line events buy.0.order.contract (opposite buy.0.order.side) other.0 found.in_line)) in
        absurd (true≢false (sym found.can_trade ∙ apart buy.0 other.0 buy.1 there))

-- nor has the sweep of an hour none of whose contracts has one
first-none : {X Y : Type 0} (ask : X → Option Y) (xs : List X) → ((x : X) → ask x ≡ None) → first_answer ask xs ≡ None
first-none ask [] none = refl
first-none ask (x ∷ xs) none = ap (λ o. or_else o (λ _. first_answer ask xs)) (none x) ∙ first-none ask xs none

still : (most : ℕ) (step : List Event → Option Event) (events : List Event) → step events ≡ None → steps most step and_then events ≡ []
unfolding steps
still zero step events none = refl
still (suc most) step events none = ap (λ o. step_and_onward o (λ e. steps most step and_then (and_then events e))) none

no-sweep : (parts : List Part) (graph : Graph) (hour : ℕ) (events : List Event)
    → ((part : Part) → leg_in graph events (record { hour = hour; part = part }) ≡ None) → sweep parts graph hour events ≡ []
unfolding sweep sweep_leg
no-sweep parts graph hour events none =
    still (left_in_hour events hour) (sweep_leg parts graph hour) events
    (first-none (λ part. leg_in graph events (record { hour = hour; part = part })) parts none)

-- an hour none of whose contracts has a pair is settled
pub settled-apart : (graph : Graph) (hour : ℕ) (events : List Event) → ((part : Part) → HasNoPair graph events (record { hour = hour; part = part }))
    → IsSettled graph hour events
settled-apart graph hour events apart =
    let none : (part : Part) → leg_in graph events (record { hour = hour; part = part }) ≡ None =
    λ part. no-leg graph events (record { hour = hour; part = part }) (apart part) in
    record { no_leg = none; no_pair = apart; no_sweep = λ parts. no-sweep parts graph hour events none }

-- an hour that is not crossed has no pair
hour-apart : (graph : Graph) (events : List Event) (contract : Contract) → IsUncrossed graph contract.hour events → HasNoPair graph events contract
hour-apart graph events contract hour buy sell i j =
    let own = from_line events contract Buy buy i in
    let other = from_line events contract Sell sell j in
    subst (λ (s : Standing). can_trade graph (rooms_for events s) s sell ≡ false) (sym own.is)
    (subst (λ (s : Standing). can_trade graph (rooms_for events (standing events own.order)) (standing events own.order) s ≡ false) (sym other.is)
    (hour own.order other.order own.is_open other.is_open (ap (λ (c : Contract). c.hour) own.of_contract) (own.of_contract ∙ sym other.of_contract) own.on_side other.on_side))

-- so it is settled, by its own events
pub settled-uncrossed : (setup : Setup) (events : List Event) (hour : ℕ) → FitAfter setup [] events → IsUncrossed (graph_of setup) hour events
    → IsSettled (graph_of setup) hour (of_hour hour events)
settled-uncrossed setup events hour fit whole = settled-apart (graph_of setup) hour (of_hour hour events) (λ part buy sell i j. apart part buy sell i j)
  where
    apart : (part : Part) → HasNoPair (graph_of setup) (of_hour hour events) (record { hour = hour; part = part })
    apart part buy sell i j =
        let contract : Contract = record { hour = hour; part = part } in
        let own : List Event = of_hour hour events in
        let agree = one-agrees setup events fit hour in
        let is_buy = subst (IsIn buy) (line-agree (hour ∷ []) own events agree contract Buy (inl refl)) i in
        let is_sell = subst (IsIn sell) (line-agree (hour ∷ []) own events agree contract Sell (inl refl)) j in
        let there = from_line own contract Buy buy i in
        let in_hour : buy.order.contract.hour ≡ hour =
        ap (λ (s : Standing). s.order.contract.hour) there.is ∙ ap (λ (c : Contract). c.hour) there.of_contract in
        ap (λ (rooms : Arc → ℕ). can_trade (graph_of setup) rooms buy sell) (rooms_for-agree (hour ∷ []) own events agree buy (inl in_hour))
        ∙ hour-apart (graph_of setup) events contract whole buy sell is_buy is_sell

pub uncrossed : UncrossedHoursAreSettled
uncrossed setup events hour fit book = settled-uncrossed setup events hour fit (hour_of_book (graph_of setup) events book hour)

-- a settled hour is not crossed, and so is settled after a withdrawal or a reduction
settled-is : (graph : Graph) (hour : ℕ) (events : List Event) → IsSettled graph hour events → IsUncrossed graph hour events
settled-is graph hour events settled buy sell buy_open sell_open in_hour same on_buy on_sell =
    let contract : Contract = record { hour = hour; part = buy.order.contract.part } in
    let own : buy.order.contract ≡ contract = ap (λ h. record { hour = h; part = buy.order.contract.part }) in_hour in
    settled.no_pair buy.order.contract.part (standing events buy) (standing events sell)
    (subst (λ c. IsIn (standing events buy) (line events c Buy)) own (subst (λ s. IsIn (standing events buy) (line events buy.order.contract s)) on_buy (IsIn-line events buy buy_open)))
    (subst (λ c. IsIn (standing events sell) (line events c Sell)) (sym same ∙ own)
    (subst (λ s. IsIn (standing events sell) (line events sell.order.contract s)) on_sell (IsIn-line events sell sell_open)))

pub settled-withdrawn : (graph : Graph) (hour : ℕ) (events : List Event) (name : OrderName) (lots : ℕ) → IsSettled graph hour events
    → IsSettled graph hour (and_then events (event.Withdrawn name lots))
settled-withdrawn graph hour events name lots settled =
    let now = uncrossed-withdrawn graph hour events name lots (settled-is graph hour events settled) in
    settled-apart graph hour (and_then events (event.Withdrawn name lots))
    (λ part. hour-apart graph (and_then events (event.Withdrawn name lots)) (record { hour = hour; part = part }) now)

pub settled-reduced : (graph : Graph) (hour : ℕ) (events : List Event) (name : OrderName) (by : ℕ) → IsSettled graph hour events
    → IsSettled graph hour (and_then events (event.Reduced name by))
settled-reduced graph hour events name by settled =
    let now = uncrossed-reduced graph hour events name by (settled-is graph hour events settled) in
    settled-apart graph hour (and_then events (event.Reduced name by))
    (λ part. hour-apart graph (and_then events (event.Reduced name by)) (record { hour = hour; part = part }) now)

-- the sweep of an hour leaves it settled
pub settled-swept : (graph : Graph) (hour : ℕ) (events : List Event) → IsHourOf graph hour events
    → IsSettled graph hour (events ++ sweep all_parts graph hour events)
settled-swept graph hour events stands =
    let own : Graph = graph_of stands.setup in
    let legs : List Event = sweep all_parts own hour events in
    let is : IsHourIn stands.setup hour stands.history events = record { is_setup = stands.is_setup; fit = stands.fit; in_hour = stands.in_hour } in
    let goes = sweeps stands.setup all_parts hour stands.history events legs [] is (sym (append-nil legs)) in
    let same : legs ≡ sweep all_parts own hour stands.history =
    sweep-agree (hour ∷ []) events stands.history all_parts own hour (hour-in-agrees stands.setup hour stands.history events is) (inl refl) in
    let swept : IsUncrossed own hour (stands.history ++ legs) =
    subst (λ es. IsUncrossed own hour (stands.history ++ es)) (sym same) (uncrossed-swept stands.setup stands.is_setup hour stands.history stands.fit) in
    subst (λ g. IsSettled g hour (events ++ sweep all_parts g hour events)) stands.over_grid
    (subst (IsSettled own hour) goes.in_hour (settled-uncrossed stands.setup (stands.history ++ legs) hour goes.fit swept))

pub journals : SettledHoursAreQuiet
journals setup entries hour is_setup legal =
    let turns : List Turn = map turn_of entries in
    let history : List Event = journal_events (run_of setup turns) in
    let book : IsUncrossedBook (graph_of setup) history = book_of_hours (graph_of setup) history (run-uncrossed setup is_setup turns) in
    subst (λ es. IsSettled (graph_of setup) hour (of_hour hour es)) (sym (ap journal_events legal))
    (uncrossed setup history hour (run-history setup is_setup all_parts turns).fit book)
