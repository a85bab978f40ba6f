-- What a gate brings about.
use Rattle.std.proofs.Common.{◌≡◌, ◌∙◌, ℕ, List, [], ◌∷◌, ◌++◌, append_assoc, sym, ap}
use Rattle.std.proofs.lemmas.List.{append-nil}
use Rattle.order_kinds.specs.declared.phase.Phase.{Phase}
use Rattle.zone_graph.specs.Graph.{Graph}
use Rattle.market_model.specs.declared.event.Event.{Event}
use Rattle.market_model.specs.declared.event.Event.TheVariants as event
use Rattle.market_model.specs.Market.{gate, withdrawals}
use Rattle.market_model.specs.Sweep.{all_parts, sweep}

-- the gate is put behind the events, and then what it withdraws
pub gated : (events with_gate done withdrawn : List Event) (hour : ℕ) (phase : Phase) → with_gate ≡ events ++ event.Gated hour phase ∷ []
    → done ≡ with_gate ++ withdrawn → withdrawn ≡ withdrawals events hour phase → done ≡ events ++ event.Gated hour phase ∷ withdrawals events hour phase
gated events with_gate done withdrawn hour phase is_gate is_done is_withdrawn =
    is_done
    ∙ ap (λ history. history ++ withdrawn) is_gate
    ∙ append_assoc events (event.Gated hour phase ∷ []) withdrawn
    ∙ ap (λ more. events ++ event.Gated hour phase ∷ more) is_withdrawn

-- and then the hour is swept
pub gate-is : (graph : Graph) (events with_gate done after withdrawn : List Event) (hour : ℕ) (phase : Phase) → with_gate ≡ events ++ event.Gated hour phase ∷ []
    → done ≡ with_gate ++ withdrawn → withdrawn ≡ withdrawals events hour phase → after ≡ done ++ sweep all_parts graph hour done
    → after ≡ events ++ gate all_parts graph hour phase events
gate-is graph events with_gate done after withdrawn hour phase is_gate is_done is_withdrawn is =
    let made : List Event = event.Gated hour phase ∷ withdrawals events hour phase in
    let legs : List Event = sweep all_parts graph hour (events ++ made) in
    is
    ∙ ap (λ history. history ++ sweep all_parts graph hour history) (gated events with_gate done withdrawn hour phase is_gate is_done is_withdrawn)
    ∙ append_assoc events made legs
    ∙ ap (λ more. events ++ (made ++ more)) (sym (append-nil legs))
