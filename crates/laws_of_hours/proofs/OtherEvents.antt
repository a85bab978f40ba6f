-- Histories that agree on an hour have its flows, so an event of another hour leaves them.
use Rattle.std.proofs.Common.{◌≡◌, ◌∙◌, ◌++◌, inl, inr, ℕ, false, List, [], ◌∷◌, None, unwrap_or, ◌+ℤ◌, refl, sym, ap, ap₂, subst}
use Rattle.std.proofs.lemmas.List.{append-nil}
use Rattle.std.proofs.lemmas.List.Elements.{filter-append}
use Rattle.order_kinds.specs.declared.contract.Quarter.{Quarter}
use Rattle.order_kinds.specs.Period.{quarter_of}
use Rattle.quarter_capacity.specs.Capacity.{flow_of}
use Rattle.zone_graph.specs.declared.route.Arc.{Arc}
use Rattle.zone_graph.specs.Graph.{Graph}
use Rattle.zone_graph.specs.Pour.{opposite_arc}
use Rattle.market_model.specs.declared.event.Event.{Event}
use Rattle.market_model.specs.declared.event.Event.TheVariants as event
use Rattle.market_model.specs.declared.setup.Setup.{Setup}
use Rattle.market_model.specs.Capacity.{allocated_by, offered_by}
use Rattle.market_model.specs.Room.{halt_by, phase_by}
use Rattle.market_model.specs.History.{and_then, of_hour, touches}
use Rattle.market_model.specs.WellFormed.{FitAfter, Fits}
use Rattle.laws_of_market.proofs.Repeats.{fit-more}
use Rattle.laws_of_market.proofs.NamedByHour.{history-named}
use Rattle.laws_of_market.proofs.LocalStates.{Agree, allocated-agree, halted-agree, offered-agree, phase-agree}
use Rattle.laws_of_market.proofs.OfHours.{one-agrees}
use Rattle.flow_netting.specs.Flows.{Flows}
use Rattle.flow_netting.specs.Flows as kept
use Rattle.laws_of_hours.specs.FlowLaws.{HoursHaveTheirFlows, OtherEventsLeaveTheFlows}
use Rattle.laws_of_hours.specs.Standing.{Stands}
use Rattle.laws_of_hours.proofs.Noted.{no_more, noted-stands}

-- histories that agree on an hour have the same flows
agree-stands : (graph : Graph) (a b : List Event) (hour : ℕ) (flows : Flows) → Agree (hour ∷ []) a b → Stands graph a hour flows → Stands graph b hour flows
agree-stands graph a b hour flows agree is = record {
  size = is.size;
  offered_same = λ arc there number first last.
      is.offered_same arc there number first last ∙ offered-agree (hour ∷ []) a b agree (quarter_of hour number) arc (inl refl);
  flow_same = λ arc there number first last.
      is.flow_same arc there number first last
      ∙ ap₂ flow_of (allocated-agree (hour ∷ []) a b agree (quarter_of hour number) arc (inl refl))
      (allocated-agree (hour ∷ []) a b agree (quarter_of hour number) (opposite_arc arc) (inl refl));
  halted_same = λ border there. is.halted_same border there ∙ halted-agree (hour ∷ []) a b agree border hour (inl refl);
  phase_same = is.phase_same ∙ phase-agree (hour ∷ []) a b agree hour (inl refl);
}

agree-back : (hours : List ℕ) (a b : List Event) → Agree hours a b → Agree hours b a
agree-back hours a b agree = record { named_a = agree.named_b; named_b = agree.named_a; same = λ hour i. sym (agree.same hour i) }

pub hours_have : HoursHaveTheirFlows
hours_have setup graph events hour flows fit =
    let agree = one-agrees setup events fit hour in (
      agree-stands graph (of_hour hour events) events hour flows agree,
      agree-stands graph events (of_hour hour events) hour flows (agree-back (hour ∷ []) (of_hour hour events) events agree),
    )

-- an event that does not touch an hour adds nothing to its events
untouched : (hour : ℕ) (events : List Event) (e : Event) → touches hour e ≡ false → of_hour hour events ≡ of_hour hour (and_then events e)
untouched hour events e none =
    sym (filter-append (touches hour) events (e ∷ []) ∙ ap (λ rest. of_hour hour events ++ rest) (alone none) ∙ append-nil (of_hour hour events))
  where
    alone : touches hour e ≡ false → of_hour hour (e ∷ []) ≡ []
    alone h = rw h refl

module _ (setup : Setup) (graph : Graph) (events : List Event) (e : Event) (hour : ℕ) (flows : Flows)
    (fit : FitAfter setup [] events) (fits : Fits setup events e) (is : Stands graph events hour flows) where
  -- an event of another hour leaves the flows
  pub untouched-stands : touches hour e ≡ false → Stands graph (and_then events e) hour flows
  untouched-stands none = agree-stands graph events (and_then events e) hour flows (record {
    named_a = history-named setup events fit;
    named_b = history-named setup (and_then events e) (fit-more setup events e fit fits);
    same = λ other i. elim i [ inl same ↦ here other same | inr j ↦ absurd j ];
  }) is
    where
      here : (other : ℕ) → other ≡ hour → of_hour other events ≡ of_hour other (and_then events e)
      here other same = subst (λ h. of_hour h events ≡ of_hour h (and_then events e)) (sym same) (untouched hour events e none)

-- an event that says nothing of offers, flows, halts and phases leaves the flows
unsaid-stands : (graph : Graph) (events : List Event) (e : Event) (hour : ℕ) (flows : Flows) → Stands graph events hour flows
    → ((quarter : Quarter) (arc : Arc) → allocated_by quarter arc e ≡ 0) → ((quarter : Quarter) (arc : Arc) → offered_by quarter arc e ≡ None)
    → ((border : ℕ) → halt_by border hour e ≡ None) → phase_by hour e ≡ None → Stands graph (and_then events e) hour flows
unsaid-stands graph events e hour flows is allocates offers halts gates = noted-stands graph events e hour flows flows is (record {
  size = refl;
  offers = λ arc there number first last. sym (ap (λ o. unwrap_or o (kept.offered_of flows arc number)) (offers (quarter_of hour number) arc));
  flows = λ arc there number first last.
      no_more (kept.flow_of flows arc number)
      ∙ sym (ap₂ (λ m l. kept.flow_of flows arc number +ℤ flow_of m l) (allocates (quarter_of hour number) arc)
      (allocates (quarter_of hour number) (opposite_arc arc)));
  halts = λ border there. sym (ap (λ o. unwrap_or o (kept.is_halted flows border)) (halts border));
  phase = sym (ap (λ o. unwrap_or o flows.phase) gates);
})

pub others : OtherEventsLeaveTheFlows
others setup graph events (event.Entered name caller order) hour flows fit fits is leaves =
    unsaid-stands graph events (event.Entered name caller order) hour flows is (λ quarter arc. refl) (λ quarter arc. refl) (λ border. refl) refl
others setup graph events (event.EnteredBlock name caller order) hour flows fit fits is leaves =
    unsaid-stands graph events (event.EnteredBlock name caller order) hour flows is (λ quarter arc. refl) (λ quarter arc. refl) (λ border. refl) refl
others setup graph events (event.Withdrawn name lots) hour flows fit fits is leaves =
    unsaid-stands graph events (event.Withdrawn name lots) hour flows is (λ quarter arc. refl) (λ quarter arc. refl) (λ border. refl) refl
others setup graph events (event.Reduced name by) hour flows fit fits is leaves =
    unsaid-stands graph events (event.Reduced name by) hour flows is (λ quarter arc. refl) (λ quarter arc. refl) (λ border. refl) refl
others setup graph events e hour flows fit fits is leaves =
    untouched-stands setup graph events e hour flows fit fits is leaves
