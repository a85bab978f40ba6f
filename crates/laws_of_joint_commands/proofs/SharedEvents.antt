-- An event that some hours share, and the sweeps after it.
use Rattle.std.proofs.Common.{◌≡◌, ◌∙◌, inl, inr, ℕ, ◌+◌, ◌-◌, Bool, true, false, List, [], ◌∷◌, ◌++◌, flat_map, nat_le, Option, Some, None, refl, sym, ap, subst, if◌then◌else◌, arith}
use Rattle.std.proofs.lemmas.Bool.{and_from, and_parts, le-leb, leb-true, true≢false}
use Rattle.order_kinds.specs.declared.contract.Part.{Part}
use Rattle.order_kinds.specs.Period.{hours_from, is_within}
use Rattle.zone_graph.specs.declared.route.Arc.{Arc}
use Rattle.zone_graph.specs.Graph.{Graph}
use Rattle.zone_graph.specs.Grid.{arc_between}
use Rattle.zone_graph.specs.Route.{IsIn, has}
use Rattle.zone_graph.proofs.Membership.{IsIn-has, IsIn-left, IsIn-range, IsIn-right, from_range, has-IsIn}
use Rattle.market_model.specs.declared.command.Command.{Command}
use Rattle.market_model.specs.declared.command.Command.TheVariants as command
use Rattle.market_model.specs.declared.event.Event.{Event}
use Rattle.market_model.specs.declared.event.Event.TheVariants as event
use Rattle.market_model.specs.declared.refusal.Refusal.{Refusal}
use Rattle.market_model.specs.declared.reply.Reply.TheVariants as reply
use Rattle.market_model.specs.declared.setup.Setup.{Setup}
use Rattle.market_model.specs.Grid.{graph_of}
use Rattle.market_model.specs.History.{and_then, events_of, of_hour, touches}
use Rattle.market_model.specs.Market.{reply_let_in, events_done, on_arc, refused_or, reply_by, then_sweeps}
use Rattle.market_model.specs.Refusals.{refusal_of_command}
use Rattle.market_model.specs.Rules.{ascends, hours_concerned}
use Rattle.market_model.specs.Sweep.{sweep}
use Rattle.market_model.specs.WellFormed.{FitAfter}
use Rattle.laws_of_market.proofs.Repeats.{map-some}
use Rattle.laws_of_market.proofs.NamedByHour.{AreNamedByHour, IsNamedByHour, history-named}
use Rattle.laws_of_joint_commands.specs.Ranges.{RangesAreDoneHourByHour, RangesOfAnHour, RangesTouchTheirHours, SharedEventsAreSweptHourByHour, SharedEventsOfAnHour, TouchesJust, shared_event, swept_after}
use Rattle.laws_of_joint_commands.proofs.SweptHours.{ascends-different, flat_map-same, hours-ascend, then-of_hour, then-swept}

-- ---- the hours of a period

-- an hour is within a period where it is one of its hours
pub within-has : (first last hour : ℕ) → is_within first last hour ≡ has hour (hours_from first last)
within-has first last hour = go (is_within first last hour) (has hour (hours_from first last)) refl refl
  where
    inside : IsIn hour (hours_from first last) → is_within first last hour ≡ true
    inside i =
        let there = from_range hour first (last + 1 - first) i in
        and_from (nat_le first hour) (nat_le hour last) (le-leb first hour there.0) (le-leb hour last (omega (arith, there.0, there.1)))

    among : is_within first last hour ≡ true → IsIn hour (hours_from first last)
    among e =
        let both = and_parts (nat_le first hour) (nat_le hour last) e in
        let low = leb-true first hour both.0 in
        let high = leb-true hour last both.1 in
        IsIn-range hour first (last + 1 - first) low (omega (arith, low, high))

    go : (a b : Bool) → is_within first last hour ≡ a → has hour (hours_from first last) ≡ b → a ≡ b
    go true true e k = refl
    go false false e k = refl
    go true false e k = absurd (true≢false (sym (has-IsIn hour (hours_from first last) (among e)) ∙ k))
    go false true e k = absurd (true≢false (sym (inside (IsIn-has hour (hours_from first last) k)) ∙ e))

-- ---- one event that hours share

-- what an hour has of one event
one-of_hour : (hour : ℕ) (e : Event) (t : Bool) → touches hour e ≡ t → of_hour hour (e ∷ []) ≡ (if t then e ∷ [] else [])
one-of_hour hour e true is = rw is refl
one-of_hour hour e false is = rw is refl

module _ (parts : List Part) (graph : Graph) (hours : List ℕ) (up : ascends hours ≡ true) (history : List Event) (shared : Event) (named : AreNamedByHour history)
    (own : IsNamedByHour shared) (just : TouchesJust hours shared) where
  alone-named : AreNamedByHour (shared ∷ [])
  alone-named e i = elim i [ inl same ↦ subst IsNamedByHour (sym same) own | inr j ↦ absurd j ]

  here : (hour : ℕ) → has hour hours ≡ true → sweep parts graph hour (of_hour hour history ++ of_hour hour (shared ∷ [])) ≡ swept_after parts graph history shared hour
  here hour there = ap (λ es. sweep parts graph hour (of_hour hour history ++ es)) (one-of_hour hour shared true (just hour ∙ there))

  pub shared-swept : then_sweeps parts graph hours history shared ≡ shared ∷ flat_map (swept_after parts graph history shared) hours
  shared-swept = ap (λ rest. shared ∷ rest)
      (then-swept parts graph hours (ascends-different hours up) history (shared ∷ []) named alone-named
      ∙ flat_map-same _ (swept_after parts graph history shared) hours (λ hour i. here hour (has-IsIn hour hours i)))

  pub shared-of_hour : (hour : ℕ) → of_hour hour (then_sweeps parts graph hours history shared) ≡ (if has hour hours then shared ∷ swept_after parts graph history shared hour else [])
  shared-of_hour hour = then-of_hour parts graph hours (ascends-different hours up) history (shared ∷ []) named alone-named hour ∙ by (has hour hours) refl
    where
      own_sweep : List Event
      own_sweep = sweep parts graph hour (of_hour hour history ++ of_hour hour (shared ∷ []))

      by : (t : Bool) → has hour hours ≡ t → of_hour hour (shared ∷ []) ++ (if t then own_sweep else []) ≡ (if t then shared ∷ swept_after parts graph history shared hour else [])
      by true there = ap (λ es. es ++ own_sweep) (one-of_hour hour shared true (just hour ∙ there)) ∙ ap (λ es. shared ∷ es) (here hour there)
      by false apart = ap (λ es. es ++ []) (one-of_hour hour shared false (just hour ∙ apart))

last-named : (setup : Setup) (history : List Event) (e : Event) → FitAfter setup [] (and_then history e) → AreNamedByHour history × IsNamedByHour e
last-named setup history e fit =
    let named = history-named setup (and_then history e) fit in
    ((λ f i. named f (IsIn-left f history (e ∷ []) i)), named e (IsIn-right e history (e ∷ []) (inl refl)))

pub swept_shared : SharedEventsAreSweptHourByHour
swept_shared setup parts graph hours history shared fit up just =
    let named = last-named setup history shared fit in shared-swept parts graph hours up history shared named.0 named.1 just

pub of_hour_shared : SharedEventsOfAnHour
of_hour_shared setup parts graph hours history shared hour fit up just =
    let named = last-named setup history shared fit in shared-of_hour parts graph hours up history shared named.0 named.1 just hour

-- ---- commands over a range

-- what is known of the event of such a command
record IsRangeEvent (given : Command) (shared : Event) : Type 0 where
  named : IsNamedByHour shared
  just : TouchesJust (hours_concerned given) shared
  up : ascends (hours_concerned given) ≡ true

range-event : (graph : Graph) (given : Command) (shared : Event) → shared_event graph given ≡ Some shared → IsRangeEvent given shared
range-event graph (command.Offer from to first last lots) shared is =
    let found = map-some (λ (arc : Arc). event.Offered arc first last lots) (arc_between graph from to) shared is in
    subst (IsRangeEvent (command.Offer from to first last lots)) found.2 (record { named = tt; just = within-has first.hour last.hour; up = hours-ascend first.hour last.hour })
range-event graph (command.Request from to first last lots) shared is =
    let found = map-some (λ (arc : Arc). event.Granted arc first last lots) (arc_between graph from to) shared is in
    subst (IsRangeEvent (command.Request from to first last lots)) found.2 (record { named = tt; just = within-has first.hour last.hour; up = hours-ascend first.hour last.hour })
range-event graph (command.Halt from to first last) shared is =
    let found = map-some (λ (arc : Arc). event.Halted arc.border first last) (arc_between graph from to) shared is in
    subst (IsRangeEvent (command.Halt from to first last)) found.2 (record { named = tt; just = within-has first last; up = hours-ascend first last })
range-event graph (command.Resume from to first last) shared is =
    let found = map-some (λ (arc : Arc). event.Resumed arc.border first last) (arc_between graph from to) shared is in
    subst (IsRangeEvent (command.Resume from to first last)) found.2 (record { named = tt; just = within-has first last; up = hours-ascend first last })
range-event graph _ shared is = absurd (cc)

module _ (parts : List Part) (setup : Setup) (history : List Event) (caller : ℕ) where
  -- an event and the sweeps of a range
  abbrev over : (first last : ℕ) → Event → List Event
  over first last shared = then_sweeps parts (graph_of setup) (hours_from first last) history shared

  range-done : (given : Command) (shared : Event) → shared_event (graph_of setup) given ≡ Some shared
      → reply_let_in parts setup history caller given ≡ reply.Done (then_sweeps parts (graph_of setup) (hours_concerned given) history shared)
  unfolding events_done
  range-done (command.Offer from to first last lots) shared is =
      let found = map-some (λ (arc : Arc). event.Offered arc first last lots) (arc_between (graph_of setup) from to) shared is in
      ap (λ o. reply.Done (on_arc o (λ (arc : Arc). over first.hour last.hour (event.Offered arc first last lots)))) found.1
      ∙ ap (λ e. reply.Done (over first.hour last.hour e)) found.2
  range-done (command.Request from to first last lots) shared is =
      let found = map-some (λ (arc : Arc). event.Granted arc first last lots) (arc_between (graph_of setup) from to) shared is in
      ap (λ o. reply.Done (on_arc o (λ (arc : Arc). over first.hour last.hour (event.Granted arc first last lots)))) found.1
      ∙ ap (λ e. reply.Done (over first.hour last.hour e)) found.2
  range-done (command.Halt from to first last) shared is =
      let found = map-some (λ (arc : Arc). event.Halted arc.border first last) (arc_between (graph_of setup) from to) shared is in
      ap (λ o. reply.Done (on_arc o (λ (arc : Arc). over first last (event.Halted arc.border first last)))) found.1
      ∙ ap (λ e. reply.Done (over first last e)) found.2
  range-done (command.Resume from to first last) shared is =
      let found = map-some (λ (arc : Arc). event.Resumed arc.border first last) (arc_between (graph_of setup) from to) shared is in
      ap (λ o. reply.Done (on_arc o (λ (arc : Arc). over first last (event.Resumed arc.border first last)))) found.1
      ∙ ap (λ e. reply.Done (over first last e)) found.2
  range-done _ shared is = absurd (cc)

  -- a command that no rule refuses is answered
  pub unrefused : (given : Command) → refusal_of_command setup history caller given ≡ None → reply_by parts setup history caller given ≡ reply_let_in parts setup history caller given
  unfolding reply_by
  unrefused given is = ap (λ (o : Option Refusal). refused_or o (λ _. reply_let_in parts setup history caller given)) is

pub touch_ranges : RangesTouchTheirHours
touch_ranges graph given shared is = let range = range-event graph given shared is in (range.just, range.up)

pub done_ranges : RangesAreDoneHourByHour
done_ranges setup parts history caller given shared fit free is =
    let range = range-event (graph_of setup) given shared is in
    unrefused parts setup history caller given free ∙ range-done parts setup history caller given shared is
    ∙ ap reply.Done (shared-swept parts (graph_of setup) (hours_concerned given) range.up history shared (history-named setup history fit) range.named range.just)

pub of_hour_ranges : RangesOfAnHour
of_hour_ranges setup parts history caller given shared hour fit free is =
    let range = range-event (graph_of setup) given shared is in
    ap (λ r. of_hour hour (events_of r)) (unrefused parts setup history caller given free ∙ range-done parts setup history caller given shared is)
    ∙ shared-of_hour parts (graph_of setup) (hours_concerned given) range.up history shared (history-named setup history fit) range.named range.just hour
