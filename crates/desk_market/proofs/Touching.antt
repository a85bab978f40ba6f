-- The hours in which a command plans are hours of the day, and ascend.
use Rattle.std.proofs.Common.{◌≡◌, ℕ, if◌then◌else◌, is_none, [], Option, Some, None, refl, sym, ap, subst}
use Rattle.market_model.specs.declared.command.Command.{Command}
use Rattle.market_model.specs.declared.refusal.Refusal.{Refusal}
use Rattle.market_model.specs.declared.setup.Setup.{Setup}
use Rattle.market_model.specs.Rules.{early_refusal, touched_hours}
use Rattle.basket_match.proofs.TouchedHours.{AreHoursOf, touched-hours}
use Rattle.desk_market.specs.Standing.{planned_hours}

module _ (setup : Setup) (caller : ℕ) (given : Command) where
  -- all that it touches, where it breaks no rule by itself, and else none
  pub planned-touched : early_refusal setup caller given ≡ None → planned_hours setup caller given ≡ touched_hours setup caller given
  planned-touched early = ap (λ (o : Option Refusal). if is_none o then touched_hours setup caller given else []) early

  pub planned-none : (broken : Refusal) → early_refusal setup caller given ≡ Some broken → planned_hours setup caller given ≡ []
  planned-none broken early = ap (λ (o : Option Refusal). if is_none o then touched_hours setup caller given else []) early

  pub hours-planned : AreHoursOf setup (planned_hours setup caller given)
  hours-planned = go (early_refusal setup caller given) refl
    where
      go : (o : Option Refusal) → early_refusal setup caller given ≡ o → AreHoursOf setup (planned_hours setup caller given)
      go None early = subst (AreHoursOf setup) (sym (planned-touched early)) (touched-hours setup caller given early)
      go (Some broken) early = subst (AreHoursOf setup) (sym (planned-none broken early)) (record { within = λ hour none. absurd none; up = refl })
