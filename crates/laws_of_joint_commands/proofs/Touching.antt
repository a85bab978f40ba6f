-- Which hours the events of takings and sweeps touch.
use Rattle.std.proofs.Common.{◌≡◌, inl, inr, ℕ, zero, suc, true, false, Bool, cond, List, [], ◌∷◌, ◌++◌, Option, Some, None, eq-eqb, refl, sym, ap, subst, ◌∙◌}
use Rattle.order_kinds.specs.declared.contract.Contract.{Contract}
use Rattle.order_kinds.specs.declared.contract.Part.{Part}
use Rattle.order_kinds.specs.declared.order.OrderName.{OrderName}
use Rattle.zone_graph.specs.Graph.{Graph}
use Rattle.zone_graph.specs.Route.{IsIn}
use Rattle.zone_graph.specs.Steps.{step_and_onward, steps}
use Rattle.zone_graph.proofs.Membership.{IsIn-append}
use Rattle.market_model.specs.declared.event.Event.{Event}
use Rattle.market_model.specs.History.{and_then, of_hour, touches}
use Rattle.market_model.specs.Lines.{partner}
use Rattle.market_model.specs.Orders.{left}
use Rattle.market_model.specs.Sweep.{left_in_hour, sweep, sweep_leg}
use Rattle.market_model.specs.Taking.{next_leg, standing_order, take}
use Rattle.laws_of_market.proofs.Falls.{IsLegIn, sweep_leg-hour, trade-leg}
use Rattle.laws_of_market.proofs.Repeats.{bind-some}
use Rattle.laws_of_market.proofs.NamedByHour.{AreNamedByHour}
use Rattle.laws_of_market.proofs.WithinHours.{AreWithinHours, IsWithinHours, sweep-within, take-within}

-- ---- lists by the hours that they touch

-- all of some events touch an hour
abbrev pub AllTouch : (hour : ℕ) → List Event → Type 0
AllTouch hour events = (e : Event) → IsIn e events → touches hour e ≡ true

pub touch-append : (hour : ℕ) (xs ys : List Event) → AllTouch hour xs → AllTouch hour ys → AllTouch hour (xs ++ ys)
touch-append hour xs ys a b e i = elim (IsIn-append e xs ys i) [ inl l ↦ a e l | inr r ↦ b e r ]

-- then all are of it
pub all-own : (hour : ℕ) (more : List Event) → AllTouch hour more → of_hour hour more ≡ more
all-own hour [] all = refl
all-own hour (e ∷ more) all =
    ap (λ t. cond t (e ∷ of_hour hour more) (of_hour hour more)) (all e (inl refl)) ∙ ap (λ xs. e ∷ xs) (all-own hour more (λ f i. all f (inr i)))

-- events that touch no hour but some are none of another
pub none-elsewhere : (hours : List ℕ) (hour : ℕ) (more : List Event) → AreWithinHours hours more → (IsIn hour hours → ⊥) → of_hour hour more ≡ []
none-elsewhere hours hour [] within apart = refl
none-elsewhere hours hour (e ∷ more) within apart = go (touches hour e) refl (none-elsewhere hours hour more (λ f i. within f (inr i)) apart)
  where
    go : (t : Bool) → touches hour e ≡ t → of_hour hour more ≡ [] → cond t (e ∷ of_hour hour more) (of_hour hour more) ≡ []
    go true touched rest = absurd (apart (within e (inl refl) hour touched))
    go false aside rest = rest

-- ---- legs of orders

-- each step of a repetition is a leg, where each step is
record IsLeg (e : Event) : Type 0 where
  contract : Contract
  leg_in : IsLegIn contract e

steps-legs : (most : ℕ) (step : List Event → Option Event) → ((events : List Event) (e : Event) → step events ≡ Some e → IsLeg e)
    → (events : List Event) (e : Event) → IsIn e (steps most step and_then events) → IsLeg e
unfolding steps
steps-legs zero step legs events e i = absurd i
steps-legs (suc most) step legs events e i =
    go (λ f. steps-legs most step legs (and_then events f) e) (step events) refl i
  where
    go : ((f : Event) → IsIn e (steps most step and_then (and_then events f)) → IsLeg e)
        → (o : Option Event) → step events ≡ o → IsIn e (step_and_onward o (λ f. steps most step and_then (and_then events f))) → IsLeg e
    go onward None is k = absurd k
    go onward (Some f) is k = elim k [
      | inl same ↦ subst IsLeg (sym same) (legs events f is)
      | inr j ↦ onward f j
    ]

next_leg-leg : (graph : Graph) (name : OrderName) (events : List Event) (e : Event) → next_leg graph name events ≡ Some e → IsLeg e
unfolding next_leg
next_leg-leg graph name events e is =
    let own = bind-some _ (standing_order events name) e is in
    let other = bind-some _ (partner graph events own.0) e own.2 in
    let leg = trade-leg graph events own.0 other.0 e other.2 in
    record { contract = own.0.order.contract; leg_in = record { leg = _; is = leg.is } }

-- a leg that touches no other hour touches its own
leg-touches : (hour : ℕ) (e : Event) → IsLeg e → IsWithinHours (hour ∷ []) e → touches hour e ≡ true
leg-touches hour e own within =
    let here : touches own.contract.hour e ≡ true = subst (λ f. touches own.contract.hour f ≡ true) own.leg_in.is (eq-eqb own.contract.hour own.contract.hour refl) in
    elim (within own.contract.hour here) [ inl same ↦ subst (λ h. touches h e ≡ true) same here | inr j ↦ absurd j ]

module _ (graph : Graph) (events : List Event) (named : AreNamedByHour events) where
  -- the legs of a taking are all of the order's hour
  pub take-touches : (name : OrderName) → AllTouch name.hour (take graph events name)
  unfolding take
  take-touches name e i =
      leg-touches name.hour e (steps-legs (left events name) (next_leg graph name) (next_leg-leg graph name) events e i)
      (take-within (name.hour ∷ []) graph events name (inl refl) named e i)

  -- and those of a sweep of the hour that is swept
  pub sweep-touches : (parts : List Part) (hour : ℕ) → AllTouch hour (sweep parts graph hour events)
  unfolding sweep
  sweep-touches parts hour e i =
      leg-touches hour e (steps-legs (left_in_hour events hour) (sweep_leg parts graph hour)
      (λ before f is. let made = sweep_leg-hour parts graph hour before f is in record { contract = made.contract; leg_in = made.leg_in }) events e i)
      (sweep-within (hour ∷ []) parts graph hour events (inl refl) named e i)

  pub sweep-own : (parts : List Part) (hour : ℕ) → of_hour hour (sweep parts graph hour events) ≡ sweep parts graph hour events
  sweep-own parts hour = all-own hour (sweep parts graph hour events) (sweep-touches parts hour)
