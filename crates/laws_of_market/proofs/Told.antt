-- An event of a reply fits the events before it.
use Rattle.std.proofs.Common.{◌≡◌, ◌∙◌, ℕ, List, [], ◌∷◌, ◌++◌, append_assoc, sym, ap, subst}
use Rattle.order_kinds.specs.declared.contract.Part.{Part}
use Rattle.market_model.specs.declared.command.Command.{Command}
use Rattle.market_model.specs.declared.event.Event.{Event}
use Rattle.market_model.specs.declared.setup.Setup.{Setup}
use Rattle.market_model.specs.History.{events_of}
use Rattle.market_model.specs.Market.{reply_by}
use Rattle.market_model.specs.WellFormed.{FitAfter, Fits, IsHistory, IsMarketSetup}
use Rattle.laws_of_market.proofs.Growing.{fit-back, fit-front}
use Rattle.laws_of_market.proofs.Replies.{reply-history}

-- the events before it fit, and it fits them
pub told-fits : (setup : Setup) → IsMarketSetup setup → (parts : List Part) (events : List Event) (caller : ℕ) (given : Command) → IsHistory setup events
    → (before after : List Event) (event : Event) → events_of (reply_by parts setup events caller given) ≡ before ++ (event ∷ after)
    → FitAfter setup [] (events ++ before) × Fits setup (events ++ before) event
told-fits setup is_setup parts events caller given history before after event is =
    (fit-front setup [] (events ++ before) (event ∷ after) whole, (fit-back setup [] (events ++ before) (event ∷ after) whole).0)
  where
    whole : FitAfter setup [] ((events ++ before) ++ (event ∷ after))
    whole = subst (FitAfter setup []) (ap (λ es. events ++ es) is ∙ sym (append_assoc events before (event ∷ after)))
        (reply-history setup is_setup parts events caller history given).fit
