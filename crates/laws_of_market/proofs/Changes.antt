-- What happens to arcs, borders, hours and single orders leaves a history well-formed.
use Rattle.std.proofs.Common.{◌≡◌, ◌≢◌, ◌∙◌, inl, inr, ℕ, ◌≤◌, ◌&&◌, Bool, true, false, cond, not, List, [], ◌∷◌, ◌++◌, append_assoc, filter, map, Option, Some, None, nat_eq, ℤ, pos, negsuc, refl, sym, ap, subst, if◌then◌else◌, arith}
use Rattle.std.proofs.lemmas.Bool.{leb-true, ltb-true}
use Rattle.std.proofs.lemmas.Int.{ints}
use Rattle.std.proofs.lemmas.List.{append-nil}
use Rattle.std.specs.Prelude.{◌≤ℤ◌, int_lt}
use Rattle.std.specs.List.{cons_option, filter_map}
use Rattle.order_kinds.specs.declared.contract.Part.{Part}
use Rattle.order_kinds.specs.declared.contract.Quarter.{Quarter}
use Rattle.order_kinds.specs.declared.order.OrderName.{OrderName}
use Rattle.order_kinds.specs.declared.phase.Phase.{Phase}
use Rattle.order_kinds.specs.declared.phase.Phase.TheVariants as phase
use Rattle.order_kinds.specs.Period.{range_quarters}
use Rattle.order_kinds.specs.Same.{same_name}
use Rattle.zone_graph.specs.declared.route.Arc.{Arc}
use Rattle.zone_graph.specs.Graph.{Graph, HasArc, arcs_of, end_of, start_of}
use Rattle.zone_graph.specs.Route.{AreDifferent, IsIn}
use Rattle.zone_graph.proofs.Membership.{from_filter}
use Rattle.zone_graph.proofs.Routes.{from_arcs_of}
use Rattle.market_model.specs.declared.event.Event.{Event}
use Rattle.market_model.specs.declared.event.Event.TheVariants as event
use Rattle.market_model.specs.declared.setup.Setup.{Setup}
use Rattle.market_model.specs.Capacity.{flow}
use Rattle.market_model.specs.Grid.{graph_of}
use Rattle.zone_graph.specs.Grid.{arc_between}
use Rattle.zone_graph.proofs.Finding.{from_find}
use Rattle.market_model.specs.History.{and_then}
use Rattle.market_model.specs.Market.{gate, then_sweeps, withdrawals}
use Rattle.market_model.specs.Orders.{is_open, left, name_given, open_names}
use Rattle.market_model.specs.Refusals.{below_flow, no_room}
use Rattle.market_model.specs.Room.{quarter_room}
use Rattle.market_model.specs.Sweep.{first_answer, sweeps}
use Rattle.market_model.specs.WellFormed.{Fits, GateFits, IsHistory, IsMarketSetup}
use Rattle.laws_of_market.proofs.Admitted.{unless-none}
use Rattle.laws_of_market.proofs.Entries.{sweeps-history}
use Rattle.laws_of_market.proofs.Members.{first_answer-none, from_filter_map}
use Rattle.laws_of_market.proofs.Names.{enters_as, names-once, times_entered}
use Rattle.laws_of_market.proofs.Unique.{times-cons, times-some}
use Rattle.laws_of_market.proofs.Tests.{same_name-refl}
use Rattle.laws_of_market.proofs.Wholes.{IsNoBlockLeg, history-more, left-untouched, other_name}

-- an arc that is found between two zones is the graph's
pub arc_between-has : (graph : Graph) (from to : ℕ) (arc : Arc) → arc_between graph from to ≡ Some arc → HasArc graph arc
arc_between-has graph from to arc e =
    from_arcs_of graph arc (from_find (λ a. nat_eq (start_of graph a) from && nat_eq (end_of graph a) to) arc (arcs_of graph) e).0

-- what is not above an offer
not_above : (lots : ℕ) (flowing : ℤ) → not (int_lt (pos lots) flowing) ≡ true → flowing ≤ℤ pos lots
not_above lots (pos n) h = grind (arith, ints)
not_above lots (negsuc n) h = grind (arith, ints)

-- an offer that is below no flow covers each
pub offer-covers : (events : List Event) (arc : Arc) (lots : ℕ) (first last : Quarter) → first_answer (below_flow events arc lots) (range_quarters first last) ≡ None
    → (quarter : Quarter) → IsIn quarter (range_quarters first last) → flow events quarter arc ≤ℤ pos lots
offer-covers events arc lots first last e quarter h =
    not_above lots (flow events quarter arc) (unless-none _ _ (first_answer-none (below_flow events arc lots) (range_quarters first last) e quarter h))

-- a request that each quarter has room for
pub request-room : (events : List Event) (arc : Arc) (lots : ℕ) (first last : Quarter) → first_answer (no_room events arc lots) (range_quarters first last) ≡ None
    → (quarter : Quarter) → IsIn quarter (range_quarters first last) → lots ≤ quarter_room events arc quarter
request-room events arc lots first last e quarter h =
    leb-true lots (quarter_room events arc quarter) (unless-none _ _ (first_answer-none (no_room events arc lots) (range_quarters first last) e quarter h))

module _ (setup : Setup) (is_setup : IsMarketSetup setup) where
  -- one fitting event and then sweeps
  pub then_sweeps-history : (parts : List Part) (hours : List ℕ) (events : List Event) (done : Event) → IsHistory setup events → Fits setup events done → IsNoBlockLeg done
      → IsHistory setup (events ++ then_sweeps parts (graph_of setup) hours events done)
  then_sweeps-history parts hours events done history fits plain =
      let legs : List Event = sweeps parts (graph_of setup) hours (events ++ done ∷ []) in
      subst (IsHistory setup) (append_assoc events (done ∷ []) legs)
      (sweeps-history setup is_setup parts hours (events ++ done ∷ []) (history-more setup events done history fits plain))

-- ---- the withdrawals of a closing hour

-- a name that an event gives by an hour is entered by it
given-enters : (hour : ℕ) (name : OrderName) (e : Event) → name_given hour e ≡ Some name → enters_as name e ≡ true
given-enters hour name (event.Entered given caller order) h = by_test (nat_eq given.hour hour) h
  where
    by_test : (b : Bool) → (if b then Some given else None) ≡ Some name → same_name given name ≡ true
    by_test true k = let same : given ≡ name = cc in subst (λ n. same_name given n ≡ true) same (same_name-refl given)
    by_test false k = absurd (cc)
given-enters hour name (event.EnteredBlock given caller order) h = by_test (nat_eq given.hour hour) h
  where
    by_test : (b : Bool) → (if b then Some given else None) ≡ Some name → same_name given name ≡ true
    by_test true k = let same : given ≡ name = cc in subst (λ n. same_name given n ≡ true) same (same_name-refl given)
    by_test false k = absurd (cc)
given-enters hour name _ h = absurd (cc)

-- the names that are given by an hour differ
names-differ : (hour : ℕ) (events : List Event) → ((name : OrderName) → times_entered events name ≤ 1) → AreDifferent (filter_map (name_given hour) events)
names-differ hour [] once = tt
names-differ hour (e ∷ events) once =
    go (names-differ hour events (λ name. let most = rw (times-cons e events name) at (once name) in omega arith)) (name_given hour e) refl
  where
    go : AreDifferent (filter_map (name_given hour) events) → (o : Option OrderName) → name_given hour e ≡ o → AreDifferent (cons_option o (filter_map (name_given hour) events))
    go rest None is = rest
    go rest (Some name) is = (
      λ h.
          let x = from_filter_map (name_given hour) name events h in
          let again = times-some name x.0 events x.1 (given-enters hour name x.0 x.2) in
          let most = rw (times-cons e events name, given-enters hour name e is) at (once name) in omega arith,
      rest,
    )

filter-differ : {X : Type 0} (p : X → Bool) (xs : List X) → AreDifferent xs → AreDifferent (filter p xs)
filter-differ p [] differ = tt
filter-differ {X} p (x ∷ xs) differ = go (filter-differ p xs differ.1) (p x)
  where
    go : AreDifferent (filter p xs) → (b : Bool) → AreDifferent (cond b (x ∷ filter p xs) (filter p xs))
    go rest true = ((λ h. differ.0 (from_filter p x xs h).0), rest)
    go rest false = rest

-- the withdrawal of all that was left of a name
abbrev pub withdrawn : List Event → OrderName → Event
withdrawn start name = event.Withdrawn name (left start name)

module _ (setup : Setup) (is_setup : IsMarketSetup setup) where
  -- the withdrawal of different open names, each with what was left of it
  withdraw_all : (start : List Event) (names : List OrderName) (events : List Event) → AreDifferent names
      → ((name : OrderName) → IsIn name names → (left events name ≡ left start name) × (is_open start name ≡ true)) → IsHistory setup events
      → IsHistory setup (events ++ map (withdrawn start) names)
  withdraw_all start [] events differ each history = subst (IsHistory setup) (sym (append-nil events)) history
  withdraw_all start (name ∷ names) events differ each history =
      let own = each name (inl refl) in
      let gone : Event = withdrawn start name in
      let next = history-more setup events gone history (record { some = ltb-true 0 (left start name) own.1; all_left = sym own.0 }) tt in
      let stays : (other : OrderName) → IsIn other names → (left (and_then events gone) other ≡ left start other) × (is_open start other ≡ true) =
      λ other h. let before = each other (inr h) in
      let apart : name ≢ other = λ same. differ.0 (subst (λ n. IsIn n names) (sym same) h) in
      (left-untouched events gone other refl refl (ap (λ b. if b then left start name else 0) (other_name name other apart)) ∙ before.0, before.1) in
      subst (IsHistory setup) (append_assoc events (gone ∷ []) (map (withdrawn start) names))
      (withdraw_all start names (and_then events gone) differ.1 stays next)

  -- the open names of an hour differ
  open_names-differ : (events : List Event) (hour : ℕ) → IsHistory setup events → AreDifferent (open_names events hour)
  open_names-differ events hour history =
      filter-differ (is_open events) (filter_map (name_given hour) events) (names-differ hour events (names-once setup events history.fit).once)

  -- what a gate withdraws
  withdrawals-history : (hour : ℕ) (asked : Phase) (events : List Event) → IsHistory setup events → IsHistory setup (and_then events (event.Gated hour asked))
      → IsHistory setup (and_then events (event.Gated hour asked) ++ withdrawals events hour asked)
  withdrawals-history hour phase.Open events before history = subst (IsHistory setup) (sym (append-nil (and_then events (event.Gated hour phase.Open)))) history
  withdrawals-history hour phase.Local events before history = subst (IsHistory setup) (sym (append-nil (and_then events (event.Gated hour phase.Local)))) history
  withdrawals-history hour phase.Closed events before history =
      withdraw_all events (open_names events hour) (and_then events (event.Gated hour phase.Closed)) (open_names-differ events hour before)
      (λ name h. (left-untouched events (event.Gated hour phase.Closed) name refl refl refl, (from_filter (is_open events) name (filter_map (name_given hour) events) h).1))
      history

  -- a gate leaves a history well-formed
  pub gate-history : (parts : List Part) (hour : ℕ) (asked : Phase) (events : List Event) → IsHistory setup events → GateFits setup events hour asked
      → IsHistory setup (events ++ gate parts (graph_of setup) hour asked events)
  gate-history parts hour asked events history fits =
      let gated : Event = event.Gated hour asked in
      let next = history-more setup events gated history fits tt in
      let done : List Event = gated ∷ withdrawals events hour asked in
      let all = subst (IsHistory setup) (append_assoc events (gated ∷ []) (withdrawals events hour asked)) (withdrawals-history hour asked events history next) in
      subst (IsHistory setup) (append_assoc events done (sweeps parts (graph_of setup) (hour ∷ []) (events ++ done)))
      (sweeps-history setup is_setup parts (hour ∷ []) (events ++ done) all)
