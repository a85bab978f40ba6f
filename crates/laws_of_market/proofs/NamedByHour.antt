-- Histories in which every name is of the hour of its contract or of its period's first.
use Rattle.std.proofs.Common.{◌≡◌, ◌∙◌, inl, inr, ◌≤◌, List, [], ◌∷◌, ◌++◌, nat_lt, sym, ap, subst, arith}
use Rattle.std.proofs.lemmas.Bool.{ltb-true, and_parts}
use Rattle.zone_graph.specs.Route.{IsIn}
use Rattle.zone_graph.proofs.Membership.{IsIn-append}
use Rattle.market_model.specs.declared.event.Event.{Event}
use Rattle.market_model.specs.declared.event.Event.TheVariants as event
use Rattle.market_model.specs.declared.setup.Setup.{Setup}
use Rattle.market_model.specs.History.{and_then}
use Rattle.market_model.specs.WellFormed.{FitAfter, Fits}
use Rattle.laws_of_market.proofs.Growing.{grows}
use Rattle.laws_of_market.proofs.Placed.{AllAreSound, all_are_sound}
use Rattle.laws_of_market.proofs.Repeats.{fit-more}

-- the names of an event are of its hour
abbrev pub IsNamedByHour : Event → Type 0
IsNamedByHour (event.Entered name caller order) = name.hour ≡ order.contract.hour
IsNamedByHour (event.EnteredBlock name caller order) = (name.hour ≡ order.first) × (order.first ≤ order.last)
IsNamedByHour (event.Leg contract leg) = (leg.taker.hour ≡ contract.hour) × (leg.maker.hour ≡ contract.hour)
IsNamedByHour (event.BlockLeg first last leg) = (leg.taker.hour ≡ first) × (leg.maker.hour ≡ first) × (first ≤ last)
IsNamedByHour _ = Unit {0}

abbrev pub AreNamedByHour : List Event → Type 0
AreNamedByHour events = (e : Event) → IsIn e events → IsNamedByHour e

pub named-more : (events : List Event) (e : Event) → AreNamedByHour events → IsNamedByHour e → AreNamedByHour (and_then events e)
named-more events e named own f h = elim (IsIn-append f events (e ∷ []) h) [
  | inl i ↦ named f i
  | inr i ↦ elim i [ inl s ↦ subst IsNamedByHour (sym s) own | inr j ↦ absurd j ]
]

pub named-append : (events more : List Event) → AreNamedByHour events → AreNamedByHour more → AreNamedByHour (events ++ more)
named-append events more named own f h = elim (IsIn-append f events more h) [ inl i ↦ named f i | inr i ↦ own f i ]

-- what fits is so named
named-fits : (setup : Setup) (before : List Event) (e : Event) → AllAreSound setup before → Fits setup before e → IsNamedByHour e
named-fits setup before (event.Entered name caller order) sound fits = ap (λ n. n.hour) fits.named
named-fits setup before (event.EnteredBlock name caller order) sound fits =
    let period = and_parts (nat_lt order.first order.last) _ fits.of_period in
    let ordered = ltb-true order.first order.last period.0 in
    (ap (λ n. n.hour) fits.named, omega arith)
named-fits setup before (event.Leg contract leg) sound fits =
    let taker = (sound.orders fits.taker fits.taker_open.is_placed).named in
    let maker = (sound.orders fits.maker fits.maker_open.is_placed).named in (
      ap (λ n. n.hour) (sym fits.taker_open.is_named) ∙ taker ∙ ap (λ c. c.hour) fits.taker_contract,
      ap (λ n. n.hour) (sym fits.maker_open.is_named) ∙ maker ∙ ap (λ c. c.hour) fits.maker_contract,
    )
named-fits setup before (event.BlockLeg first last leg) sound fits =
    let taker = sound.blocks fits.taker fits.taker_open.is_placed in
    let maker = sound.blocks fits.maker fits.maker_open.is_placed in
    let period = and_parts (nat_lt fits.taker.order.first fits.taker.order.last) _ taker.of_period in
    let order = ltb-true fits.taker.order.first fits.taker.order.last period.0 in
    let first_is = fits.taker_first in
    let last_is = fits.taker_last in (
      ap (λ n. n.hour) (sym fits.taker_open.is_named) ∙ taker.named ∙ fits.taker_first,
      ap (λ n. n.hour) (sym fits.maker_open.is_named) ∙ maker.named ∙ fits.maker_first,
      omega arith,
    )
named-fits setup before _ sound fits = tt

-- a history that is so named, together with what is needed to go on
record NamedSoFar (setup : Setup) (events : List Event) : Type 0 where
  fit : FitAfter setup [] events
  named : AreNamedByHour events

named-step : (setup : Setup) (before : List Event) (e : Event) → NamedSoFar setup before → Fits setup before e → NamedSoFar setup (and_then before e)
named-step setup before e so_far fits = record {
  fit = fit-more setup before e so_far.fit fits;
  named = named-more before e so_far.named (named-fits setup before e (all_are_sound setup before so_far.fit) fits);
}

-- every history whose events fit is so named
pub history-named : (setup : Setup) (events : List Event) → FitAfter setup [] events → AreNamedByHour events
history-named setup events fit = (grows setup (NamedSoFar setup) (named-step setup) [] events fit (record { fit = tt; named = λ e h. absurd h })).named
