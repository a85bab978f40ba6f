-- The next leg of a taking and of a sweep fits the events before it.
use Rattle.std.proofs.Common.{◌≡◌, ◌∙◌, ℕ, ◌&&◌, true, false, List, [], Some, refl, sym, ap, subst, if◌then◌else◌}
use Rattle.std.specs.Ordering.{is_lt}
use Rattle.std.proofs.lemmas.Bool.{and_parts}
use Rattle.order_kinds.specs.declared.contract.Contract.{Contract}
use Rattle.order_kinds.specs.declared.contract.Part.{Part}
use Rattle.order_kinds.specs.declared.order.OrderName.{OrderName}
use Rattle.order_kinds.specs.declared.side.Side.{Side}
use Rattle.order_kinds.specs.declared.side.Side.TheVariants.{Buy, Sell}
use Rattle.order_kinds.specs.Same.{same_name}
use Rattle.order_kinds.specs.Side.{opposite}
use Rattle.market_model.specs.declared.event.Event.{Event}
use Rattle.market_model.specs.declared.setup.Setup.{Setup}
use Rattle.market_model.specs.Grid.{graph_of}
use Rattle.market_model.specs.Lines.{line, partner, time_cmp}
use Rattle.market_model.specs.Orders.{Placed, Standing, is_open, open_order, placed, standing}
use Rattle.market_model.specs.Sweep.{leg_in, leg_of_buy, resting_trade, sweep, sweep_leg}
use Rattle.market_model.specs.Taking.{next_leg, standing_order, take, trade}
use Rattle.market_model.specs.WellFormed.{FitAfter, Fits, IsMarketSetup}
use Rattle.laws_of_market.proofs.Members.{from_first_answer}
use Rattle.laws_of_market.proofs.Placed.{AllAreSound, all_are_sound}
use Rattle.laws_of_market.proofs.Repeats.{bind-some, map-some, steps-fit}
use Rattle.laws_of_market.proofs.Tests.{same_name-eq}
use Rattle.laws_of_market.proofs.Trades.{IsInLine, IsOpen, IsPartner, from_line, partner-is, trade-fits}
use Rattle.zone_graph.proofs.Finding.{from_find}

pub opposite-opposite : (side : Side) → opposite (opposite side) ≡ side
opposite-opposite Buy = refl
opposite-opposite Sell = refl

-- the order that is found under a name is an open order of that name
pub record IsFound (events : List Event) (name : OrderName) (found : Placed) : Type 0 where
  pub is_open : IsOpen events found
  pub is_named : found.name ≡ name

pub open_order-is : (events : List Event) (name : OrderName) (found : Placed) → open_order events name ≡ Some found → IsFound events name found
open_order-is events name found e =
    let r = from_find (λ order. same_name order.name name && is_open events order.name) found (placed events) e in
    let both = and_parts (same_name found.name name) (is_open events found.name) r.1 in
    record { is_open = record { is_placed = r.0; is_left = both.1 }; is_named = same_name-eq found.name name both.0 }

module _ (setup : Setup) (is_setup : IsMarketSetup setup) (events : List Event) (fit : FitAfter setup [] events) where
  sound : AllAreSound setup events
  sound = all_are_sound setup events fit

  -- a trade of an open order with its partner fits, whoever is the taker
  pub partner_trade-fits : (own : Placed) (found : Standing) (e : Event) → IsOpen events own
      → IsPartner (graph_of setup) events (standing events own) found
      → trade (graph_of setup) events (standing events own) found ≡ Some e → Fits setup events e
  partner_trade-fits own found e own_open is_partner is =
      let other = is_partner.in_line in
      trade-fits setup events own other.order e is_setup own_open other.is_open (sound.orders own own_open.is_placed)
      (sound.orders other.order other.is_open.is_placed) other.of_contract other.on_side
      (subst (λ s. trade (graph_of setup) events (standing events own) s ≡ Some e) other.is is)

  pub partner_taker-fits : (own : Placed) (found : Standing) (e : Event) → IsOpen events own
      → IsPartner (graph_of setup) events (standing events own) found
      → trade (graph_of setup) events found (standing events own) ≡ Some e → Fits setup events e
  partner_taker-fits own found e own_open is_partner is =
      let other = is_partner.in_line in
      let side : own.order.side ≡ opposite other.order.order.side = sym (ap opposite other.on_side ∙ opposite-opposite own.order.side) in
      trade-fits setup events other.order own e is_setup other.is_open own_open (sound.orders other.order other.is_open.is_placed)
      (sound.orders own own_open.is_placed) (sym other.of_contract) side
      (subst (λ s. trade (graph_of setup) events s (standing events own) ≡ Some e) other.is is)

  pub next_leg-fits : (name : OrderName) (e : Event) → next_leg (graph_of setup) name events ≡ Some e → Fits setup events e
  unfolding next_leg
  next_leg-fits name e is =
      let own = bind-some _ (standing_order events name) e is in
      let found = map-some (standing events) (open_order events name) own.0 own.1 in
      let order = open_order-is events name found.0 found.1 in
      let other = bind-some _ (partner (graph_of setup) events own.0) e own.2 in
      let at_own = subst (λ s. partner (graph_of setup) events s ≡ Some other.0) (sym found.2) other.1 in
      partner_trade-fits found.0 other.0 e order.is_open (partner-is (graph_of setup) events (standing events found.0) other.0 at_own)
      (subst (λ s. trade (graph_of setup) events s other.0 ≡ Some e) (sym found.2) other.2)

  -- the leg of a resting buy with its partner fits
  resting-fits : (own : Placed) (found : Standing) (e : Event) → IsOpen events own
      → IsPartner (graph_of setup) events (standing events own) found
      → resting_trade (graph_of setup) events (standing events own) found ≡ Some e → Fits setup events e
  resting-fits own found e own_open is_partner is =
      elim (is_lt (time_cmp (standing events own) found))
      as (λ b. (if b then trade (graph_of setup) events found (standing events own) else trade (graph_of setup) events (standing events own) found) ≡ Some e → Fits setup events e) [
        | true ↦ λ k. partner_taker-fits own found e own_open is_partner k
        | false ↦ λ k. partner_trade-fits own found e own_open is_partner k
      ] is

  pub leg_of_buy-fits : (contract : Contract) (buy : Standing) (e : Event) → IsInLine events contract Buy buy
      → leg_of_buy (graph_of setup) events buy ≡ Some e → Fits setup events e
  leg_of_buy-fits contract buy e in_line is =
      let at_order = subst (λ s. leg_of_buy (graph_of setup) events s ≡ Some e) in_line.is is in
      let other = bind-some (resting_trade (graph_of setup) events (standing events in_line.order))
      (partner (graph_of setup) events (standing events in_line.order)) e at_order in
      resting-fits in_line.order other.0 e in_line.is_open
      (partner-is (graph_of setup) events (standing events in_line.order) other.0 other.1) other.2

  pub sweep_leg-fits : (parts : List Part) (hour : ℕ) (e : Event) → sweep_leg parts (graph_of setup) hour events ≡ Some e → Fits setup events e
  unfolding sweep_leg
  sweep_leg-fits parts hour e is =
      let part = from_first_answer (λ part. leg_in (graph_of setup) events (record { hour = hour; part = part })) e parts is in
      let contract : Contract = record { hour = hour; part = part.0 } in
      let buy = from_first_answer (leg_of_buy (graph_of setup) events) e (line events contract Buy) part.2 in
      leg_of_buy-fits contract buy.0 e (from_line events contract Buy buy.0 buy.1) buy.2

-- the legs of a taking fit
pub take-fits : (setup : Setup) → IsMarketSetup setup → (events : List Event) → FitAfter setup [] events → (name : OrderName)
    → FitAfter setup events (take (graph_of setup) events name)
unfolding take
take-fits setup is_setup events fit name =
    steps-fit setup _ (next_leg (graph_of setup) name) (λ before e fit_before is. next_leg-fits setup is_setup before fit_before name e is) events fit

-- the legs of a sweep fit
pub sweep-fits : (setup : Setup) → IsMarketSetup setup → (parts : List Part) (hour : ℕ) (events : List Event) → FitAfter setup [] events
    → FitAfter setup events (sweep parts (graph_of setup) hour events)
unfolding sweep
sweep-fits setup is_setup parts hour events fit =
    steps-fit setup _ (sweep_leg parts (graph_of setup) hour) (λ before e fit_before is. sweep_leg-fits setup is_setup before fit_before parts hour e is) events fit
