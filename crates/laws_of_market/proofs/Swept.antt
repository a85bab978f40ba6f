-- Where the sweep of an hour ends nothing is left to trade in it.
use Rattle.std.proofs.Common.{◌≡◌, ◌∙◌, inl, inr, ℕ, zero, suc, ◌&&◌, true, false, List, [], ◌++◌, None, nat_le, refl, sym, ap, subst, arith}
use Rattle.std.proofs.lemmas.Bool.{leb-true, true≢false, and_parts}
use Rattle.order_kinds.specs.declared.contract.Contract.{Contract}
use Rattle.order_kinds.specs.declared.contract.Part.{Part}
use Rattle.order_kinds.specs.declared.contract.Part.TheVariants as part
use Rattle.order_kinds.specs.declared.side.Side.TheVariants.{Buy, Sell}
use Rattle.order_kinds.specs.Contract.{is_known}
use Rattle.order_kinds.specs.Side.{opposite}
use Rattle.zone_graph.specs.Graph.{Graph}
use Rattle.zone_graph.specs.Route.{IsIn}
use Rattle.zone_graph.proofs.Finding.{find-none}
use Rattle.market_model.specs.declared.event.Event.{Event}
use Rattle.market_model.specs.declared.setup.Setup.{Setup}
use Rattle.market_model.specs.Grid.{graph_of}
use Rattle.market_model.specs.History.{and_then}
use Rattle.market_model.specs.Lines.{can_trade, line, partner, rooms_for}
use Rattle.market_model.specs.Orders.{Placed, Standing, standing}
use Rattle.market_model.specs.Sweep.{all_parts, leg_in, leg_of_buy, sweep, sweep_leg}
use Rattle.market_model.specs.WellFormed.{FitAfter, IsMarketSetup}
use Rattle.laws_of_market.proofs.Falls.{sweep-run}
use Rattle.laws_of_market.proofs.Legs.{sweep-fits}
use Rattle.laws_of_market.proofs.Growing.{fit-append}
use Rattle.laws_of_market.proofs.Lines.{IsIn-line, no_partner}
use Rattle.laws_of_market.proofs.Members.{first_answer-none}
use Rattle.laws_of_market.proofs.Placed.{all_are_sound}
use Rattle.laws_of_market.proofs.Repeats.{fold-and_then, run-end}
use Rattle.laws_of_market.proofs.Trades.{IsOpen}
use Rattle.laws_of_market.proofs.Uncrossed.{IsUncrossed}

-- a sweep tries every part of an hour
in_parts : (part : Part) → is_known part ≡ true → IsIn part all_parts
in_parts part.Hour known = inl refl
in_parts (part.Half number) known = halves number known
  where
    halves : (n : ℕ) → (nat_le 1 n && nat_le n 2) ≡ true → IsIn (part.Half n) all_parts
    halves zero k = absurd (true≢false (sym k))
    halves (suc zero) k = inr (inl refl)
    halves (suc (suc zero)) k = inr (inr (inl refl))
    halves (suc (suc (suc n))) k =
        let most = leb-true (suc (suc (suc n))) 2 (and_parts (nat_le 1 (suc (suc (suc n)))) (nat_le (suc (suc (suc n))) 2) k).1 in absurd (omega (arith, most))
in_parts (part.Quarter number) known = quarters number known
  where
    quarters : (n : ℕ) → (nat_le 1 n && nat_le n 4) ≡ true → IsIn (part.Quarter n) all_parts
    quarters zero k = absurd (true≢false (sym k))
    quarters (suc zero) k = inr (inr (inr (inl refl)))
    quarters (suc (suc zero)) k = inr (inr (inr (inr (inl refl))))
    quarters (suc (suc (suc zero))) k = inr (inr (inr (inr (inr (inl refl)))))
    quarters (suc (suc (suc (suc zero)))) k = inr (inr (inr (inr (inr (inr (inl refl))))))
    quarters (suc (suc (suc (suc (suc n))))) k =
        let most = leb-true (suc (suc (suc (suc (suc n))))) 4 (and_parts (nat_le 1 (suc (suc (suc (suc (suc n)))))) (nat_le (suc (suc (suc (suc (suc n))))) 4) k).1 in
        absurd (omega (arith, most))

module _ (graph : Graph) (events : List Event) (own : Placed) (on_buy : own.order.side ≡ Buy) where
  abbrev it : Standing
  it = standing events own

  -- a buy that has a leg with no partner can trade with no open sell
  no_pair : (other : Placed) → IsOpen events other → other.order.contract ≡ own.order.contract → other.order.side ≡ Sell → leg_of_buy graph events it ≡ None
      → can_trade graph (rooms_for events it) it (standing events other) ≡ false
  unfolding partner
  no_pair other opened same on_sell none =
      let there : IsIn (standing events other) (line events own.order.contract (opposite own.order.side)) =
      subst (λ side. IsIn (standing events other) (line events own.order.contract side)) (on_sell ∙ sym (ap opposite on_buy))
      (subst (λ c. IsIn (standing events other) (line events c other.order.side)) same (IsIn-line events other opened)) in
      find-none (can_trade graph (rooms_for events it) it) (line events own.order.contract (opposite own.order.side)) (no_partner graph events own on_buy none) (standing events other) there

-- where no leg of an hour's sweep is left the hour is uncrossed
ended : (setup : Setup) (events : List Event) → FitAfter setup [] events → (hour : ℕ) → sweep_leg all_parts (graph_of setup) hour events ≡ None
    → IsUncrossed (graph_of setup) hour events
unfolding sweep_leg
ended setup events fit hour none buy sell buy_open sell_open in_hour same on_buy on_sell =
    let graph : Graph = graph_of setup in
    let contract : Contract = buy.order.contract in
    let known = ((all_are_sound setup events fit).orders buy buy_open.is_placed).in_part in
    let no_leg = first_answer-none (λ part. leg_in graph events (record { hour = hour; part = part })) all_parts none contract.part (in_parts contract.part known) in
    let its : leg_in graph events contract ≡ None = subst (λ n. leg_in graph events (record { hour = n; part = contract.part }) ≡ None) (sym in_hour) no_leg in
    let there : IsIn (standing events buy) (line events contract Buy) = subst (λ side. IsIn (standing events buy) (line events contract side)) on_buy (IsIn-line events buy buy_open) in
    no_pair graph events buy on_buy sell sell_open (sym same) on_sell
    (first_answer-none (leg_of_buy graph events) (line events contract Buy) its (standing events buy) there)

-- after its sweep an hour is uncrossed
pub uncrossed-swept : (setup : Setup) → IsMarketSetup setup → (hour : ℕ) (events : List Event) → FitAfter setup [] events
    → IsUncrossed (graph_of setup) hour (events ++ sweep all_parts (graph_of setup) hour events)
uncrossed-swept setup is_setup hour events fit =
    let graph : Graph = graph_of setup in
    let legs : List Event = sweep all_parts graph hour events in
    let at_end = run-end (sweep_leg all_parts graph hour) and_then events legs (sweep-run setup is_setup all_parts hour events fit) in
    ended setup (events ++ legs) (fit-append setup [] events legs fit (sweep-fits setup is_setup all_parts hour events fit)) hour
    (subst (λ state. sweep_leg all_parts graph hour state ≡ None) (fold-and_then events legs) at_end)
