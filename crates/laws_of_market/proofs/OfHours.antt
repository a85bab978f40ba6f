-- A history and the events of some of its hours agree on these hours.
use Rattle.std.proofs.Common.{◌≡◌, ◌||◌, inl, inr, ℕ, Bool, true, false, List, [], ◌∷◌, refl, sym, subst}
use Rattle.std.specs.List.{list_any}
use Rattle.zone_graph.specs.Route.{IsIn}
use Rattle.zone_graph.proofs.Membership.{from_filter}
use Rattle.market_model.specs.declared.event.Event.{Event}
use Rattle.market_model.specs.declared.setup.Setup.{Setup}
use Rattle.market_model.specs.History.{of_hour, touches}
use Rattle.market_model.specs.WellFormed.{FitAfter}
use Rattle.laws_of_market.proofs.LocalBlocks.{block_line-agree}
use Rattle.laws_of_market.proofs.LocalLines.{contract-hours, line-agree, sweep-agree, take-agree}
use Rattle.laws_of_market.proofs.NamedByHour.{history-named}
use Rattle.laws_of_market.proofs.LocalReplies.{reply-local}
use Rattle.laws_of_market.proofs.Restrict.{filter-filter}
use Rattle.laws_of_market.proofs.LocalStates.{Agree, room-agree}
use Rattle.laws_of_market.specs.HourLists.{BlockLinesStandAlone, HoursAnswerAlone, LinesStandAlone, OneHourAnswersAlone, SweepsStandAlone, TakingsStandAlone, of_hours}

touches-some : (hours : List ℕ) (hour : ℕ) (e : Event) → IsIn hour hours → touches hour e ≡ true → list_any (λ h. touches h e) hours ≡ true
touches-some [] hour e i own = absurd i
touches-some (other ∷ hours) hour e i own = elim i [
  | inl same ↦ or_left (touches other e) (list_any (λ h. touches h e) hours) (subst (λ h. touches h e ≡ true) same own)
  | inr j ↦ or_right (touches other e) (list_any (λ h. touches h e) hours) (touches-some hours hour e j own)
]
  where
    or_left : (a b : Bool) → a ≡ true → (a || b) ≡ true
    or_left a b h = rw h refl

    or_right : (a b : Bool) → b ≡ true → (a || b) ≡ true
    or_right true b h = refl
    or_right false b h = h

module _ (setup : Setup) (events : List Event) (fit : FitAfter setup [] events) where
  -- of some hours
  pub hours-agree : (hours : List ℕ) → Agree hours (of_hours hours events) events
  hours-agree hours = record {
    named_a = λ e i. history-named setup events fit e (from_filter (λ f. list_any (λ h. touches h f) hours) e events i).0;
    named_b = history-named setup events fit;
    same = λ hour i. filter-filter (touches hour) (λ f. list_any (λ h. touches h f) hours) events (λ e j own. touches-some hours hour e i own);
  }

  -- of one hour
  pub hour-agrees : (hours : List ℕ) (hour : ℕ) → ((other : ℕ) → IsIn other hours → other ≡ hour) → Agree hours (of_hour hour events) events
  hour-agrees hours hour alone = record {
    named_a = λ e i. history-named setup events fit e (from_filter (touches hour) e events i).0;
    named_b = history-named setup events fit;
    same = λ other i. subst (λ h. of_hour h (of_hour hour events) ≡ of_hour h events) (sym (alone other i))
        (filter-filter (touches hour) (touches hour) events (λ e j own. own));
  }

  pub one-agrees : (hour : ℕ) → Agree (hour ∷ []) (of_hour hour events) events
  one-agrees hour = hour-agrees (hour ∷ []) hour (λ other i. elim i [ inl same ↦ same | inr j ↦ absurd j ])

pub answer_alone : HoursAnswerAlone
answer_alone setup parts events caller given fit =
    reply-local parts setup (of_hours _ events) events caller given (hours-agree setup events fit _)

pub one_answers : OneHourAnswersAlone
one_answers setup parts events caller given hour fit alone =
    reply-local parts setup (of_hour hour events) events caller given (hour-agrees setup events fit _ hour alone)

pub stand_alone : LinesStandAlone
stand_alone setup events contract side fit =
    let agree = one-agrees setup events fit contract.hour in (
      line-agree (contract.hour ∷ []) (of_hour contract.hour events) events agree contract side (inl refl),
      room-agree (contract.hour ∷ []) (of_hour contract.hour events) events agree _ (contract-hours (contract.hour ∷ []) contract (inl refl)),
    )

pub take_alone : TakingsStandAlone
take_alone setup graph events name fit =
    take-agree (name.hour ∷ []) (of_hour name.hour events) events graph name (one-agrees setup events fit name.hour) (inl refl)

pub sweep_alone : SweepsStandAlone
sweep_alone setup parts graph events hour fit =
    sweep-agree (hour ∷ []) (of_hour hour events) events parts graph hour (one-agrees setup events fit hour) (inl refl)

pub blocks_alone : BlockLinesStandAlone
blocks_alone setup events first last side fit =
    block_line-agree (first ∷ []) (of_hour first events) events (one-agrees setup events fit first) first last side (inl refl)
