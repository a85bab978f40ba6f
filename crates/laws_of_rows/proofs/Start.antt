-- The history in which a taker of any quantity has entered, after what the icebergs of a line hide is
-- withdrawn.
use Rattle.std.proofs.Common.{◌≡◌, ◌∙◌, ℕ, ◌+◌, ◌≤◌, Bool, true, false, List, [], ◌∷◌, ◌++◌, cond, filter, length, map, nat_lt, sum_by, None, refl, sym, ap, subst, if◌then◌else◌, arith}
use Rattle.std.proofs.lemmas.List.{append-nil}
use Rattle.std.proofs.lemmas.List.Elements.{filter_map-append}
use Rattle.std.proofs.lemmas.List.Sums.{sum_by-append, sum_by_push}
use Rattle.std.proofs.Math.Seq.{append_snoc}
use Rattle.order_kinds.specs.declared.contract.Contract.{Contract}
use Rattle.order_kinds.specs.declared.contract.Quarter.{Quarter}
use Rattle.order_kinds.specs.declared.order.OrderName.{OrderName}
use Rattle.order_kinds.specs.declared.phase.Phase.TheVariants as phase
use Rattle.order_kinds.specs.declared.side.Side.{Side}
use Rattle.order_kinds.specs.Period.{contract_quarters}
use Rattle.order_kinds.specs.Same.{same_name}
use Rattle.zone_graph.specs.declared.route.Arc.{Arc}
use Rattle.zone_graph.specs.Graph.{Graph, HasArc}
use Rattle.zone_graph.specs.Pour.{lots_if, opposite_arc}
use Rattle.zone_graph.specs.Route.{IsIn}
use Rattle.market_model.specs.declared.event.Event.{Event}
use Rattle.market_model.specs.declared.event.Event.TheVariants as event
use Rattle.market_model.specs.declared.setup.Setup.{Setup}
use Rattle.market_model.specs.Capacity.{allocated_by, offered_by}
use Rattle.market_model.specs.Entering.{name_of_next, with_order}
use Rattle.market_model.specs.History.{and_then, enters_in, of_hour, touches}
use Rattle.market_model.specs.Lines.{line}
use Rattle.market_model.specs.Orders.{Placed, Standing, entered, filled, gives_moment, last_place, left, moment, placed, placed_by, taken_off, taken_off_by}
use Rattle.market_model.specs.Room.{halt_by, phase_by, room}
use Rattle.market_model.specs.View.{hidden_withdrawn, unlimited_taker, without_hidden}
use Rattle.market_model.specs.WellFormed.{FitAfter}
use Rattle.laws_of_market.proofs.Balances.{covered, shown-le-left}
use Rattle.laws_of_market.proofs.Capacities.{SameCapacity, allocated-more, last_said-more, offered-more, room-same}
use Rattle.laws_of_market.proofs.Members.{from_filter_map}
use Rattle.laws_of_market.proofs.Names.{entered_in, names-once, times_entered}
use Rattle.laws_of_market.proofs.Placed.{all_are_sound, picked-same}
use Rattle.laws_of_market.proofs.States.{entered-more, filled-more, taken_off-more}
use Rattle.laws_of_market.proofs.Tests.{same_name-eq, same_name-refl}
use Rattle.laws_of_market.proofs.Trades.{from_line}
use Rattle.laws_of_market.proofs.Unique.{entered-none, enters-placed, times-some}
use Rattle.laws_of_market.proofs.Uses.{IsWithinOffers, within_offers}
use Rattle.laws_of_market.proofs.NamedByHour.{AreNamedByHour, history-named, named-more}
use Rattle.laws_of_market.proofs.Restrict.{map-same}
use Rattle.laws_of_market.proofs.LocalMoments.{hour-same, moment-more}
use Rattle.laws_of_rows.specs.Depth.{maker_of}
use Rattle.laws_of_rows.proofs.Kept.{IsAfter, IsKept, line-of_kind, placed_as}
use Rattle.laws_of_rows.proofs.NextLeg.{IsDepth, maker_now, taker_of}
use Rattle.laws_of_rows.proofs.Once.{hidden-in_line, hidden-none, hidden_of, withdrawn-hidden}
use Rattle.laws_of_rows.proofs.RowLemmas.{same_name-sym}

-- an event that uses and offers no capacity keeps within the offers
within-idle : (V : List Event) (e : Event) → IsWithinOffers V → ((q : Quarter) (arc : Arc) → allocated_by q arc e ≡ 0)
    → ((q : Quarter) (arc : Arc) → offered_by q arc e ≡ None) → IsWithinOffers (and_then V e)
within-idle V e within unused unoffered = record {
  covered = λ q arc.
      let had = within.covered q arc in
      rw (allocated-more V e q arc, allocated-more V e q (opposite_arc arc), offered-more V e q arc, unused q arc, unused q (opposite_arc arc), unoffered q arc) (omega (arith, had));
  most = λ q arc. rw (offered-more V e q arc, unoffered q arc) (within.most q arc);
}

-- an event that gives an order no moment leaves it the one that it has
moment-idle : (V : List Event) (e : Event) (p : Placed) → ((before : List Event) → gives_moment p before e ≡ false) → moment (and_then V e) p ≡ moment V p
moment-idle V e p none = go (touches p.name.hour e) refl
  where
    go : (b : Bool) → touches p.name.hour e ≡ b → moment (and_then V e) p ≡ moment V p
    go true t = moment-more p.name.hour V e p t refl ∙ ap (λ b. if b then length (of_hour p.name.hour V) + 1 else moment V p) (none (of_hour p.name.hour V))
    go false t = ap (last_place (gives_moment p)) (hour-same p.name.hour V e t)

-- what withdrawals leave as it was
record IsSameBut (events V : List Event) : Type 0 where
  within : IsWithinOffers V
  named : AreNamedByHour V
  placed_are : placed V ≡ placed events
  filled_is : (name : OrderName) → filled V name ≡ filled events name
  entered_is : (name : OrderName) → entered V name ≡ entered events name
  moment_is : (p : Placed) → moment V p ≡ moment events p
  count_is : (hour : ℕ) → entered_in V hour ≡ entered_in events hour
  capacity : SameCapacity V events

withdrawal-same : (events V : List Event) (s : Standing) → IsSameBut events V → IsSameBut events (and_then V (hidden_withdrawn s))
withdrawal-same events V s same = record {
  within = within-idle V (hidden_withdrawn s) same.within (λ q arc. refl) (λ q arc. refl);
  named = named-more V (hidden_withdrawn s) same.named tt;
  placed_are = picked-same placed_by V (hidden_withdrawn s) refl ∙ same.placed_are;
  filled_is = λ name. let more = filled-more V (hidden_withdrawn s) name in let had = same.filled_is name in omega (arith, more, had);
  entered_is = λ name. let more = entered-more V (hidden_withdrawn s) name in let had = same.entered_is name in omega (arith, more, had);
  moment_is = λ p. moment-idle V (hidden_withdrawn s) p (λ before. refl) ∙ same.moment_is p;
  count_is = λ hour. let more = sum_by_push (λ e. cond (enters_in hour e) 1 0) V (hidden_withdrawn s) in let had = same.count_is hour in omega (arith, more, had);
  capacity = record {
    allocated_same = λ q arc. let more = allocated-more V (hidden_withdrawn s) q arc in let had = same.capacity.allocated_same q arc in omega (arith, more, had);
    offered_same = λ q arc. offered-more V (hidden_withdrawn s) q arc ∙ same.capacity.offered_same q arc;
    phase_same = λ hour. last_said-more (phase_by hour) phase.Open V (hidden_withdrawn s) ∙ same.capacity.phase_same hour;
    halted_same = λ border hour. last_said-more (halt_by border hour) false V (hidden_withdrawn s) ∙ same.capacity.halted_same border hour;
  };
}

withdrawals-same : (events V : List Event) (orders : List Standing) → IsSameBut events V → IsSameBut events (V ++ map hidden_withdrawn orders)
withdrawals-same events V [] same = subst (IsSameBut events) (sym (append-nil V)) same
withdrawals-same events V (s ∷ orders) same =
    subst (IsSameBut events) (append_snoc V (hidden_withdrawn s) (map hidden_withdrawn orders))
    (withdrawals-same events (and_then V (hidden_withdrawn s)) orders (withdrawal-same events V s same))

-- an order of a line, as it stands
record IsStanding (events : List Event) (s : Standing) : Type 0 where
  filled_is : s.filled ≡ filled events s.name
  left_is : s.left ≡ left events s.name
  moment_is : s.moment ≡ moment events (placed_as s)

line-standing : (events : List Event) (contract : Contract) (side : Side) (s : Standing) → IsIn s (line events contract side) → IsStanding events s
line-standing events contract side s i =
    subst (IsStanding events) (sym (from_line events contract side s i).is) (record { filled_is = refl; left_is = refl; moment_is = refl })

module _ (setup : Setup) (events : List Event) (fit : FitAfter setup [] events) (contract : Contract) (side : Side) (zone : ℕ) where
  abbrev pub shown : List Event
  shown = without_hidden events contract side

  abbrev pub taker_name : OrderName
  taker_name = name_of_next (without_hidden events contract side) (unlimited_taker contract side zone)

  abbrev pub entry : Event
  entry = event.Entered (name_of_next (without_hidden events contract side) (unlimited_taker contract side zone)) 0 (unlimited_taker contract side zone)

  -- the history from which the taker takes
  abbrev pub start : List Event
  start = with_order (without_hidden events contract side) 0 (unlimited_taker contract side zone)

  same : IsSameBut events shown
  same = withdrawals-same events events (filter (λ (o : Standing). nat_lt o.shown o.left) (line events contract side)) (record {
    within = within_offers setup events fit;
    named = history-named setup events fit;
    placed_are = refl;
    filled_is = λ name. refl;
    entered_is = λ name. refl;
    moment_is = λ p. refl;
    count_is = λ hour. refl;
    capacity = record { allocated_same = λ q arc. refl; offered_same = λ q arc. refl; phase_same = λ hour. refl; halted_same = λ border hour. refl };
  })

  -- the taker's name is new
  never : times_entered events taker_name ≡ 0
  never = fresh_count (times_entered events taker_name) (λ some. (names-once setup events fit).numbered taker_name some)
    where
      fresh_count : (n : ℕ) → (1 ≤ n → taker_name.number ≤ entered_in events contract.hour) → n ≡ 0
      fresh_count n h = let at : ¬ (1 ≤ n) = λ some. let low = h some in let count = same.count_is contract.hour in omega (arith, low, count) in omega (arith, at)

  new_name : (p : Placed) → IsIn p (placed events) → same_name p.name taker_name ≡ false
  new_name p i = go (same_name p.name taker_name) refl
    where
      go : (b : Bool) → same_name p.name taker_name ≡ b → b ≡ false
      go false e = refl
      go true e =
          let from = from_filter_map placed_by p events i in
          let some = times-some p.name from.0 events from.1 (enters-placed p from.0 from.2) in
          let times : times_entered events p.name ≡ 0 = ap (times_entered events) (same_name-eq p.name taker_name e) ∙ never in
          absurd (omega (arith, some, times))

  new_to : (p : Placed) → IsIn p (placed events) → same_name taker_name p.name ≡ false
  new_to p i = same_name-sym taker_name p.name ∙ new_name p i

  taken_off-start : (name : OrderName) → taken_off start name ≡ taken_off events name + sum_by (hidden_of name) (line events contract side)
  taken_off-start name =
      let more = taken_off-more shown entry name in
      let parts = sum_by-append (taken_off_by name) events (map hidden_withdrawn (filter (λ (o : Standing). nat_lt o.shown o.left) (line events contract side))) in
      let off = withdrawn-hidden name (line events contract side) in
      omega (arith, more, parts, off)

  filled-start : (name : OrderName) → filled start name ≡ filled events name
  filled-start name = let more = filled-more shown entry name in let had = same.filled_is name in omega (arith, more, had)

  entered-start : (name : OrderName) → entered start name ≡ entered events name + lots_if (same_name taker_name name) 4294967295
  entered-start name = let more = entered-more shown entry name in let had = same.entered_is name in omega (arith, more, had)

  entered-other : (name : OrderName) → same_name taker_name name ≡ false → entered start name ≡ entered events name
  entered-other name other = entered-start name ∙ ap (λ b. entered events name + lots_if b 4294967295) other ∙ omega arith

  in_line-placed : (s : Standing) → IsIn s (line events contract side) → same_name taker_name s.name ≡ false
  in_line-placed s i =
      let found = from_line events contract side s i in
      ap (λ (x : Standing). same_name taker_name x.name) found.is ∙ new_to found.order found.is_open.is_placed

  left-start : (s : Standing) → IsIn s (line events contract side) → left start s.name ≡ s.shown
  left-start s i =
      let stands = line-standing events contract side s i in
      let kind = line-of_kind events contract side s i in
      let off = taken_off-start s.name in
      let fills = filled-start s.name in
      let enters = entered-other s.name (in_line-placed s i) in
      let hides = hidden-in_line events contract side s (names-once setup events fit).once i in
      let most = shown-le-left s.order.kind s.filled s.left in
      let shows = kind.shown_is in
      let had = stands.left_is in
      omega (arith, off, fills, enters, hides, most, shows, had)

  start-hour : (s : Standing) → IsIn s (line events contract side) → s.name.hour ≡ contract.hour
  start-hour s i =
      let found = from_line events contract side s i in
      ap (λ (x : Standing). x.name.hour) found.is
      ∙ ((all_are_sound setup events fit).orders found.order found.is_open.is_placed).named
      ∙ ap (λ (c : Contract). c.hour) found.of_contract

  kept-start : (s : Standing) → IsIn s (line events contract side) → IsKept start s
  kept-start s i =
      let stands = line-standing events contract side s i in
      let fills = filled-start s.name in
      let had = stands.filled_is in
      let rest = left-start s i in
      record {
        taken = 0;
        filled_is = omega (arith, fills, had);
        left_is = omega (arith, rest);
        moment_is = λ some. moment-idle shown entry (placed_as s) (λ before. in_line-placed s i) ∙ same.moment_is (placed_as s) ∙ sym stands.moment_is;
      }

  -- the taker has entered
  pub after-start : IsAfter events contract side (taker_of taker_name contract side zone) start
  after-start = record {
    within = within-idle shown entry same.within (λ q arc. refl) (λ q arc. refl);
    named = named-more shown entry same.named refl;
    placed_are = filter_map-append placed_by shown (entry ∷ []) ∙ ap (λ ps. ps ++ taker_of taker_name contract side zone ∷ []) same.placed_are;
    fresh = new_name;
    in_hour = refl;
    closed = λ p i.
        let off = taken_off-start p.name in
        let fills = filled-start p.name in
        let enters = entered-other p.name (new_to p i) in omega (arith, off, fills, enters);
    orders = kept-start;
    line_hour = start-hour;
  }

  left-taker : left start taker_name ≡ 4294967295
  left-taker =
      let off = taken_off-start taker_name in
      let fills = filled-start taker_name in
      let none = hidden-none taker_name (line events contract side) (λ s i. same_name-sym s.name taker_name ∙ in_line-placed s i) in
      let nothing = entered-none taker_name events never in
      let most = covered setup events fit taker_name in
      let own = entered-start taker_name in
      let all : lots_if (same_name taker_name taker_name) 4294967295 ≡ 4294967295 = ap (λ b. lots_if b 4294967295) (same_name-refl taker_name) in
      omega (arith, off, fills, none, nothing, most, own, all)

  capacity-start : SameCapacity start events
  capacity-start = record {
    allocated_same = λ q arc. let more = allocated-more shown entry q arc in let had = same.capacity.allocated_same q arc in omega (arith, more, had);
    offered_same = λ q arc. offered-more shown entry q arc ∙ same.capacity.offered_same q arc;
    phase_same = λ hour. last_said-more (phase_by hour) phase.Open shown entry ∙ same.capacity.phase_same hour;
    halted_same = λ border hour. last_said-more (halt_by border hour) false shown entry ∙ same.capacity.halted_same border hour;
  }

  -- and what it finds is what the makers show, the rooms, and all of its quantity
  pub depth-start : (graph : Graph) (rooms : Arc → ℕ) → ((arc : Arc) → HasArc graph arc → rooms arc ≡ room events (contract_quarters contract) arc)
      → IsDepth graph events contract side taker_name start (record { makers = map maker_of (line events contract side); room = rooms; left = 4294967295 })
  depth-start graph rooms are = record {
    makers = map-same maker_of (maker_now start) (line events contract side)
        (λ s i. λ j. record { name = s.name; zone = s.order.zone; price = s.price; left = sym (left-start s i) j });
    rooms = λ arc known. are arc known ∙ ap (λ f. f arc) (sym (room-same start events capacity-start (contract_quarters contract)));
    rest = sym left-taker;
  }
