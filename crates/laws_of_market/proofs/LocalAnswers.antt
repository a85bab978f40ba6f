-- Certificates, views and the open names of an hour depend on its events alone.
use Rattle.std.proofs.Common.{◌≡◌, ◌∙◌, ℕ, ◌+◌, Bool, true, false, not, List, [], ◌∷◌, ◌++◌, filter, length, map, sum_by, Option, Some, None, nat_eq, nat_lt, eqb-true, refl, sym, ap, subst, if◌then◌else◌}
use Rattle.std.specs.List.{cons_option, filter_map}
use Rattle.order_kinds.specs.declared.contract.Contract.{Contract}
use Rattle.order_kinds.specs.declared.order.Order.{Order}
use Rattle.order_kinds.specs.declared.order.OrderName.{OrderName}
use Rattle.order_kinds.specs.declared.side.Side.{Side}
use Rattle.order_kinds.specs.Period.{contract_quarters}
use Rattle.order_kinds.specs.Same.{same_name}
use Rattle.order_kinds.specs.Side.{opposite}
use Rattle.zone_graph.specs.declared.route.Arc.{Arc}
use Rattle.zone_graph.specs.Graph.{Graph}
use Rattle.zone_graph.specs.Route.{IsIn, has}
use Rattle.zone_graph.proofs.Membership.{from_map}
use Rattle.market_model.specs.declared.event.Event.{Event}
use Rattle.market_model.specs.declared.event.Event.TheVariants as event
use Rattle.market_model.specs.Certificate.{bound_of, crossing_inside, crossing_lots, room_across, unfilled_zones, zones_in_reach}
use Rattle.market_model.specs.Entering.{after_taking, with_order}
use Rattle.market_model.specs.History.{touches}
use Rattle.market_model.specs.Lines.{line}
use Rattle.market_model.specs.Orders.{Standing, is_open, name_given, open_names}
use Rattle.market_model.specs.Refusals.{desk_room, has_desk_room}
use Rattle.market_model.specs.Room.{room}
use Rattle.market_model.specs.View.{hidden_withdrawn, rows_of, trade_of, unlimited_taker, view, without_hidden}
use Rattle.laws_of_market.proofs.Members.{from_filter_map}
use Rattle.laws_of_market.proofs.LocalEntries.{after_taking-agree, legs_taken-agree, with_order-agree}
use Rattle.laws_of_market.proofs.LocalLines.{contract-hours, line-agree}
use Rattle.laws_of_market.proofs.NamedByHour.{AreNamedByHour, IsNamedByHour}
use Rattle.laws_of_market.proofs.Restrict.{filter-same}
use Rattle.laws_of_market.proofs.LocalStates.{Agree, agree-append, is_open-agree, room-agree}

-- ---- certificates

module _ (hours : List ℕ) (a b : List Event) (agree : Agree hours a b) (graph : Graph) (caller : ℕ) (order : Order) (h : IsIn order.contract.hour hours) where
  pub unfilled_zones-agree : unfilled_zones graph a caller order ≡ unfilled_zones graph b caller order
  unfolding unfilled_zones
  unfilled_zones-agree =
      ap (λ (rooms : Arc → ℕ). zones_in_reach graph rooms order.side order.zone)
      (room-agree hours (after_taking graph a caller order) (after_taking graph b caller order) (after_taking-agree hours a b agree graph caller order h)
      (contract_quarters order.contract) (contract-hours hours order.contract h))

  pub bound_of-agree : (zones : List ℕ) → bound_of graph a caller order zones ≡ bound_of graph b caller order zones
  unfolding bound_of
  bound_of-agree zones =
      let start = with_order-agree hours a b agree graph caller order h in
      ap (λ standing. sum_by (crossing_lots order) (filter (λ (other : Standing). has other.order.zone zones) standing)
      + room_across graph (room (with_order a caller order) (contract_quarters order.contract)) order.side zones)
      (line-agree hours (with_order a caller order) (with_order b caller order) start order.contract (opposite order.side) h)
      ∙ ap (λ (rooms : Arc → ℕ). crossing_inside (with_order b caller order) order zones + room_across graph rooms order.side zones)
      (room-agree hours (with_order a caller order) (with_order b caller order) start (contract_quarters order.contract) (contract-hours hours order.contract h))

-- ---- views

hidden-named : (orders : List Standing) → AreNamedByHour (map hidden_withdrawn orders)
hidden-named orders e h = let from = from_map hidden_withdrawn e orders h in subst IsNamedByHour (sym from.2) tt

module _ (hours : List ℕ) (a b : List Event) (agree : Agree hours a b) (graph : Graph) (contract : Contract) (side : Side) (h : IsIn contract.hour hours) where
  abbrev hides : Standing → Bool
  hides order = nat_lt order.shown order.left

  without_hidden-agree : Agree hours (without_hidden a contract side) (without_hidden b contract side)
  without_hidden-agree =
      subst (λ (orders : List Standing). Agree hours (without_hidden a contract side) (b ++ map hidden_withdrawn (filter hides orders))) (line-agree hours a b agree contract side h)
      (agree-append hours a b (map hidden_withdrawn (filter hides (line a contract side))) agree (hidden-named (filter hides (line a contract side))))

  pub view-agree : (zone : ℕ) → view graph a contract side zone ≡ view graph b contract side zone
  unfolding view
  view-agree zone =
      ap (λ legs. rows_of (filter_map trade_of legs))
      (legs_taken-agree hours (without_hidden a contract side) (without_hidden b contract side) without_hidden-agree graph 0 (unlimited_taker contract side zone) h)

-- ---- the open names of an hour

picked-nothing : {X Y : Type 0} (pick : X → Option Y) (p : X → Bool) (xs : List X) → ((x : X) → p x ≡ false → pick x ≡ None) → filter_map pick (filter p xs) ≡ filter_map pick xs
picked-nothing pick p [] none = refl
picked-nothing {X} {Y} pick p (x ∷ xs) none = go (picked-nothing pick p xs none) (p x) refl
  where
    go : filter_map pick (filter p xs) ≡ filter_map pick xs → (t : Bool) → p x ≡ t
        → filter_map pick (if t then (x ∷ filter p xs) else (filter p xs)) ≡ cons_option (pick x) (filter_map pick xs)
    go rest true e = ap (cons_option (pick x)) rest
    go rest false e = rest ∙ sym (ap (λ o. cons_option o (filter_map pick xs)) (none x e))

given-elsewhere : (hour : ℕ) (e : Event) → touches hour e ≡ false → name_given hour e ≡ None
given-elsewhere hour (event.Entered given caller order) t = rw t refl
given-elsewhere hour (event.EnteredBlock given caller order) t = rw t refl
given-elsewhere hour _ t = refl

-- a name that is given by an hour is of it
given-hour : (hour : ℕ) (name : OrderName) (e : Event) → name_given hour e ≡ Some name → name.hour ≡ hour
given-hour hour name (event.Entered given caller order) is = by_test (nat_eq given.hour hour) refl is
  where
    by_test : (t : Bool) → nat_eq given.hour hour ≡ t → (if t then Some given else None) ≡ Some name → name.hour ≡ hour
    by_test true e k = let same : given ≡ name = cc in ap (λ (n : OrderName). n.hour) (sym same) ∙ eqb-true given.hour hour e
    by_test false e k = absurd (cc)
given-hour hour name (event.EnteredBlock given caller order) is = by_test (nat_eq given.hour hour) refl is
  where
    by_test : (t : Bool) → nat_eq given.hour hour ≡ t → (if t then Some given else None) ≡ Some name → name.hour ≡ hour
    by_test true e k = let same : given ≡ name = cc in ap (λ (n : OrderName). n.hour) (sym same) ∙ eqb-true given.hour hour e
    by_test false e k = absurd (cc)
given-hour hour name _ is = absurd (cc)

-- the open names of an hour are of it
pub open_names-hour : (events : List Event) (hour : ℕ) (name : OrderName) → IsIn name (filter_map (name_given hour) events) → name.hour ≡ hour
open_names-hour events hour name i = let x = from_filter_map (name_given hour) name events i in given-hour hour name x.0 x.2

pub open_names-agree : (hours : List ℕ) (a b : List Event) → Agree hours a b → (hour : ℕ) → IsIn hour hours → open_names a hour ≡ open_names b hour
open_names-agree hours a b agree hour h =
    let given : filter_map (name_given hour) a ≡ filter_map (name_given hour) b =
    sym (picked-nothing (name_given hour) (touches hour) a (given-elsewhere hour)) ∙ ap (filter_map (name_given hour)) (agree.same hour h)
    ∙ picked-nothing (name_given hour) (touches hour) b (given-elsewhere hour) in
    filter-same (is_open a) (is_open b) (filter_map (name_given hour) a)
    (λ name i. is_open-agree hours a b agree name (subst (λ n. IsIn n hours) (sym (open_names-hour a hour name i)) h))
    ∙ ap (filter (is_open b)) given

pub has_desk_room-agree : (hours : List ℕ) (a b : List Event) → Agree hours a b → (name : OrderName) → IsIn name.hour hours → has_desk_room a name ≡ has_desk_room b name
has_desk_room-agree hours a b agree name h =
    ap (λ names. nat_lt (length (filter (λ (other : OrderName). not (same_name other name)) names)) desk_room) (open_names-agree hours a b agree name.hour h)
