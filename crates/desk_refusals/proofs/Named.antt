-- What a command that concerns one hour alone says of that hour.
use Rattle.std.proofs.Common.{◌≡◌, ◌∙◌, ℕ, not, Bool, true, false, List, [], ◌∷◌, nat_lt, Option, Some, None, is_none, is_some, refl, sym, ap, subst}
use Rattle.std.specs.List.{find}
use Rattle.std.specs.Option.{option_and_then, option_map}
use Rattle.order_kinds.specs.declared.order.OrderName.{OrderName}
use Rattle.order_kinds.specs.declared.contract.Contract.{Contract}
use Rattle.order_kinds.specs.declared.contract.Quarter.{Quarter}
use Rattle.order_kinds.specs.declared.phase.Phase.{Phase}
use Rattle.order_kinds.specs.declared.side.Side.{Side}
use Rattle.contract_book.specs.declared.resting.Resting.{Resting}
use Rattle.order_kinds.specs.Period.{hours_from, range_quarters}
use Rattle.order_kinds.specs.Phase.{is_later}
use Rattle.zone_graph.specs.declared.route.Arc.{Arc}
use Rattle.zone_graph.specs.Graph.{Graph}
use Rattle.zone_graph.specs.Grid.{arc_between}
use Rattle.market_model.specs.declared.command.Command.{Command}
use Rattle.market_model.specs.declared.command.Command.TheVariants as command
use Rattle.market_model.specs.declared.event.Event.{Event}
use Rattle.market_model.specs.declared.refusal.Refusal.{Refusal}
use Rattle.market_model.specs.declared.refusal.Refusal.TheVariants as refusal
use Rattle.market_model.specs.Orders.{Placed}
use Rattle.market_model.specs.Refusals.{below_flow, closed_hour, gate_refusal, has_own, is_below_left, no_room, offer_refusal, order_is_known, own_limit, request_refusal}
use Rattle.market_model.specs.Room.{is_closed_phase, phase_of}
use Rattle.market_model.specs.Rules.{first_broken, hours_concerned, unless}
use Rattle.market_model.specs.Sweep.{first_answer, or_else}
use Rattle.market_model.specs.Asked.{first_in_hour}
use Rattle.market_model.specs.StateRules.{capacity_refusal, capacity_rules}
use Rattle.laws_of_books.proofs.LineOrders.{same_names}
use Rattle.desk_refusals.specs.Found.{own_limit_order, record_of}
use Rattle.desk_refusals.proofs.Ranges.{whole-range}

-- a name of the hour is told by its number
pub told-number : (hour : ℕ) (name : OrderName) → name.hour ≡ hour → name ≡ record { hour = hour; number = name.number }
told-number hour name same = same_names name (record { hour = hour; number = name.number }) same refl

-- the first of one hour
pub one-closed : (closed : ℕ → Bool) (hours : List ℕ) (hour : ℕ) → hours ≡ hour ∷ []
    → option_map (λ first. refusal.Closed first) (find closed hours) ≡ unless (not (closed hour)) (refusal.Closed hour)
one-closed closed hours hour own = ap (λ some. option_map (λ first. refusal.Closed first) (find closed some)) own ∙ go (closed hour) refl
  where
    go : (b : Bool) → closed hour ≡ b → option_map (λ first. refusal.Closed first) (find closed (hour ∷ [])) ≡ unless (not b) (refusal.Closed hour)
    go true is = rw is refl
    go false is = rw is refl

-- a rule before others that are not broken
pub only : (o : Option Refusal) → or_else o (λ _. None) ≡ o
only None = refl
only (Some broken) = refl

-- a gate of the hour leads from its phase
pub gate-is : (events : List Event) (own : ℕ) (given : Command) (hour : ℕ) (asked phase : Phase) → given ≡ command.Gate hour asked → hours_concerned given ≡ own ∷ []
    → phase ≡ phase_of events own → unless (is_later asked phase) (refusal.GateBack phase) ≡ gate_refusal events given
gate-is events own given hour asked phase is concerned same =
    let only_hour : hour ∷ [] ≡ own ∷ [] = ap hours_concerned (sym is) ∙ concerned in
    let here : hour ≡ own = cc in
    ap (λ p. unless (is_later asked p) (refusal.GateBack p)) (same ∙ ap (phase_of events) (sym here)) ∙ ap (gate_refusal events) (sym is)

-- the capacity rules on an offer and on a request of one hour
module _ (graph : Graph) (events : List Event) (own : ℕ) (given : Command) (from to : ℕ) (first last : Quarter) (lots : ℕ) where
  pub offer-over : (arc : Arc) → given ≡ command.Offer from to first last lots → hours_concerned given ≡ own ∷ [] → arc_between graph from to ≡ Some arc
      → first_in_hour (below_flow events arc lots) (record { arc = arc; first = first; last = last; lots = lots }) own ≡ capacity_refusal graph events given
  unfolding capacity_refusal
  offer-over arc is concerned found =
      let hours : hours_from first.hour last.hour ≡ own ∷ [] = ap hours_concerned (sym is) ∙ concerned in
      whole-range own arc first last lots (below_flow events arc lots) hours
      ∙ ap (option_and_then (λ over. first_answer (below_flow events over lots) (range_quarters first last))) (sym found)
      ∙ sym (only (offer_refusal graph events (command.Offer from to first last lots)))
      ∙ ap (λ c. first_broken (capacity_rules graph events c)) (sym is)

  pub offer-none : given ≡ command.Offer from to first last lots → arc_between graph from to ≡ None → None ≡ capacity_refusal graph events given
  unfolding capacity_refusal
  offer-none is found =
      ap (option_and_then (λ over. first_answer (below_flow events over lots) (range_quarters first last))) (sym found)
      ∙ sym (only (offer_refusal graph events (command.Offer from to first last lots)))
      ∙ ap (λ c. first_broken (capacity_rules graph events c)) (sym is)

  pub request-over : (arc : Arc) → given ≡ command.Request from to first last lots → hours_concerned given ≡ own ∷ [] → arc_between graph from to ≡ Some arc
      → first_in_hour (no_room events arc lots) (record { arc = arc; first = first; last = last; lots = lots }) own ≡ capacity_refusal graph events given
  unfolding capacity_refusal
  request-over arc is concerned found =
      let hours : hours_from first.hour last.hour ≡ own ∷ [] = ap hours_concerned (sym is) ∙ concerned in
      whole-range own arc first last lots (no_room events arc lots) hours
      ∙ ap (option_and_then (λ over. first_answer (no_room events over lots) (range_quarters first last))) (sym found)
      ∙ sym (only (request_refusal graph events (command.Request from to first last lots)))
      ∙ ap (λ c. first_broken (capacity_rules graph events c)) (sym is)

  pub request-none : given ≡ command.Request from to first last lots → arc_between graph from to ≡ None → None ≡ capacity_refusal graph events given
  unfolding capacity_refusal
  request-none is found =
      ap (option_and_then (λ over. first_answer (no_room events over lots) (range_quarters first last))) (sym found)
      ∙ sym (only (request_refusal graph events (command.Request from to first last lots)))
      ∙ ap (λ c. first_broken (capacity_rules graph events c)) (sym is)

-- a command that is asked of the hour's phase
pub closed-other : (events : List Event) (own : ℕ) (given : Command) → ((hour : ℕ) (phase : Phase) → ¬ (given ≡ command.Gate hour phase))
    → ((contract : Contract) (side : Side) (zone : ℕ) → ¬ (given ≡ command.View contract side zone)) → hours_concerned given ≡ own ∷ []
    → option_map (λ first. refusal.Closed first) (closed_hour events given) ≡ unless (not (is_closed_phase (phase_of events own))) (refusal.Closed own)
closed-other events own (command.Gate hour phase) no_gate no_view concerned = absurd (no_gate hour phase refl)
closed-other events own (command.View contract side zone) no_gate no_view concerned = absurd (no_view contract side zone refl)
closed-other events own given no_gate no_view concerned =
    one-closed (λ other. is_closed_phase (phase_of events other)) (hours_concerned given) own concerned

-- a command that asks for no capacity
pub no_capacity : (graph : Graph) (events : List Event) (given : Command)
    → ((from to : ℕ) (first last : Quarter) (lots : ℕ) → ¬ (given ≡ command.Offer from to first last lots))
    → ((from to : ℕ) (first last : Quarter) (lots : ℕ) → ¬ (given ≡ command.Request from to first last lots)) → None ≡ capacity_refusal graph events given
unfolding capacity_refusal
no_capacity graph events (command.Offer from to first last lots) no_offer no_request = absurd (no_offer from to first last lots refl)
no_capacity graph events (command.Request from to first last lots) no_offer no_request = absurd (no_request from to first last lots refl)
no_capacity graph events _ no_offer no_request = refl

-- ---- orders of the hour

-- what is to be left is below what is left of the caller's limit order
pub below-is : (events : List Event) (caller to hour : ℕ) (name : OrderName) (order : Resting) → name.hour ≡ hour
    → own_limit_order events caller (record { hour = hour; number = name.number }) ≡ Some order
    → nat_lt to order.left ≡ is_below_left events to (own_limit events caller name)
below-is events caller to hour name order same held =
    subst (λ (n : OrderName). nat_lt to order.left ≡ is_below_left events to (own_limit events caller n)) (sym (told-number hour name same))
    (go (own_limit events caller (record { hour = hour; number = name.number })) held)
  where
    go : (o : Option Placed) → option_map (record_of events) o ≡ Some order → nat_lt to order.left ≡ is_below_left events to o
    go None is = absurd (cc)
    go (Some placed) is = let own : record_of events placed ≡ order = cc in ap (λ (r : Resting). nat_lt to r.left) (sym own)

module _ (events : List Event) (caller hour : ℕ) (given : Command) (name : OrderName) where
  pub cancel-known : given ≡ command.Cancel name → hours_concerned given ≡ hour ∷ []
      → has_own events caller (record { hour = hour; number = name.number }) ≡ order_is_known events caller given
  cancel-known is concerned =
      let hours : name.hour ∷ [] ≡ hour ∷ [] = ap hours_concerned (sym is) ∙ concerned in
      let same : name.hour ≡ hour = cc in
      ap (has_own events caller) (sym (told-number hour name same)) ∙ ap (order_is_known events caller) (sym is)

  pub reduce-known : (to : ℕ) → given ≡ command.Reduce name to → hours_concerned given ≡ hour ∷ []
      → is_some (own_limit_order events caller (record { hour = hour; number = name.number })) ≡ order_is_known events caller given
  reduce-known to is concerned =
      let hours : name.hour ∷ [] ≡ hour ∷ [] = ap hours_concerned (sym is) ∙ concerned in
      let same : name.hour ≡ hour = cc in
      ap (λ n. is_some (own_limit_order events caller n)) (sym (told-number hour name same)) ∙ go (own_limit events caller name)
      ∙ ap (order_is_known events caller) (sym is)
    where
      go : (o : Option Placed) → is_some (option_map (record_of events) o) ≡ not (is_none o)
      go None = refl
      go (Some placed) = refl
