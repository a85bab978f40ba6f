-- Flows that stand for a list of events refuse offers and requests as the market does.
use Rattle.std.proofs.Common.{◌≡◌, ◌∙◌, ◌+◌, ◌-◌, ℕ, Bool, true, false, not, List, [], ◌∷◌, nat_le, nat_lt, Option, Some, None, pos, ℤ, refl, sym, ap, subst, if◌then◌else◌, arith}
use Rattle.std.proofs.lemmas.Bool.{and_parts, le-ltb, leb-false, leb-true, lt-ltb}
use Rattle.std.specs.Option.{option_map}
use Rattle.std.specs.Prelude.{int_lt}
use Rattle.order_kinds.specs.Period.{EachQuarter, hours_from, is_within, quarter_of}
use Rattle.zone_graph.specs.declared.route.Arc.{Arc}
use Rattle.zone_graph.specs.Graph.{Graph, HasArc}
use Rattle.market_model.specs.declared.event.Event.{Event}
use Rattle.market_model.specs.declared.refusal.Refusal.TheVariants as refusal
use Rattle.market_model.specs.Refusals.{below_flow, no_room}
use Rattle.market_model.specs.Room.{lots_of}
use Rattle.market_model.specs.Rules.{unless}
use Rattle.market_model.specs.Sweep.{first_answer, or_else}
use Rattle.flow_netting.specs.Flows.{Flows, flow_of}
use Rattle.capacity_requests.specs.Requests.{flow_above, room_below, room_in}
use Rattle.flow_netting.specs.QuarterSet.{has}
use Rattle.laws_of_hours.specs.FlowLaws.{IsRangeIn}
use Rattle.laws_of_hours.specs.Standing.{Stands}
use Rattle.laws_of_hours.specs.Refusing.{OneHourRefusesOffersAlike, OneHourRefusesRequestsAlike, RangesRefuseOffersHourByHour, RangesRefuseRequestsHourByHour, below_flow_of, no_room_of, offer_refused_by, request_refused_by}
use Rattle.laws_of_hours.proofs.Answering.{range-first}
use Rattle.laws_of_hours.proofs.RequestRooms.{flows_are, rooms_are}

-- ---- one quarter

above-is : (hour number lots : ℕ) (flow : ℤ)
    → unless (not (int_lt (pos lots) flow)) (refusal.BelowFlow (quarter_of hour number) (lots_of flow))
    ≡ option_map (below_flow_of hour) (if int_lt (pos lots) flow then Some (number, lots_of flow) else None)
above-is hour number lots flow = by (int_lt (pos lots) flow)
  where
    by : (b : Bool) → unless (not b) (refusal.BelowFlow (quarter_of hour number) (lots_of flow))
        ≡ option_map (below_flow_of hour) (if b then Some (number, lots_of flow) else None)
    by true = refl
    by false = refl

below-is : (hour number lots room : ℕ)
    → unless (nat_le lots room) (refusal.NoRoom (quarter_of hour number) room)
    ≡ option_map (no_room_of hour) (if nat_lt room lots then Some (number, room) else None)
below-is hour number lots room = by (nat_le lots room) refl
  where
    by : (b : Bool) → nat_le lots room ≡ b → unless b (refusal.NoRoom (quarter_of hour number) room)
        ≡ option_map (no_room_of hour) (if nat_lt room lots then Some (number, room) else None)
    by true e = rw (le-ltb room lots (leb-true lots room e)) refl
    by false e = rw (lt-ltb room lots (leb-false lots room e)) refl

module _ (graph : Graph) (events : List Event) (hour : ℕ) (flows : Flows) (arc : Arc) (lots : ℕ) (is : Stands graph events hour flows) (there : HasArc graph arc) where
  offers-same : EachQuarter (λ number. below_flow events arc lots (quarter_of hour number) ≡ option_map (below_flow_of hour) (flow_above flows arc lots number))
  offers-same number first last =
      ap (λ z. unless (not (int_lt (pos lots) z)) (refusal.BelowFlow (quarter_of hour number) (lots_of z)))
      (sym (flows_are graph events hour flows arc is there number first last))
      ∙ above-is hour number lots (flow_of flows arc number)

  requests-same : EachQuarter (λ number. no_room events arc lots (quarter_of hour number) ≡ option_map (no_room_of hour) (room_below flows arc lots number))
  requests-same number first last =
      ap (λ (room : ℕ). unless (nat_le lots room) (refusal.NoRoom (quarter_of hour number) room))
      (sym (rooms_are graph events hour flows arc is there number first last))
      ∙ below-is hour number lots (room_in flows arc number)

-- ---- several hours

pub offers_by_hour : RangesRefuseOffersHourByHour
offers_by_hour graph events first last flows sets arc lots over there =
    range-first (below_flow events arc lots) (λ hour. flow_above (flows hour) arc lots) below_flow_of first last sets over.covers
    (λ hour within. offers-same graph events hour (flows hour) arc lots (over.stands hour within) there)

pub requests_by_hour : RangesRefuseRequestsHourByHour
requests_by_hour graph events first last flows sets arc lots over there =
    range-first (no_room events arc lots) (λ hour. room_below (flows hour) arc lots) no_room_of first last sets over.covers
    (λ hour within. requests-same graph events hour (flows hour) arc lots (over.stands hour within) there)

-- ---- one hour

-- an hour by itself
one-hour : {Y : Type 0} (ask : ℕ → Option Y) (first last hour : ℕ) → first ≡ hour → last ≡ hour → first_answer ask (hours_from first last) ≡ ask hour
one-hour {Y} ask first last hour starts ends = ap (λ (hours : List ℕ). first_answer ask hours) alone ∙ by (ask hour)
  where
    alone : hours_from first last ≡ hour ∷ []
    alone = let count : last + 1 - first ≡ 1 = omega (arith, starts, ends) in rw (count, starts) refl

    by : (o : Option Y) → or_else o (λ _. None) ≡ o
    by None = refl
    by (Some y) = refl

-- an hour from its own number to itself is no other one
same-hour : (first last hour other : ℕ) → first ≡ hour → last ≡ hour → is_within first last other ≡ true → hour ≡ other
same-hour first last hour other starts ends within =
    let both = and_parts (nat_le first other) (nat_le other last) within in
    let low = leb-true first other both.0 in
    let high = leb-true other last both.1 in
    omega (arith, starts, ends, low, high)

pub offers_alike : OneHourRefusesOffersAlike
offers_alike graph events hour first last flows arc set lots is there starts ends covers =
    offers_by_hour graph events first last (λ _. flows) (λ _. set) arc lots (record {
      stands = λ other within. subst (λ h. Stands graph events h flows) (same-hour first.hour last.hour hour other starts ends within) is;
      covers = λ other within. subst (λ h. IsRangeIn h first last (has set)) (same-hour first.hour last.hour hour other starts ends within) covers;
    }) there
    ∙ one-hour (λ other. offer_refused_by flows other arc set lots) first.hour last.hour hour starts ends

pub requests_alike : OneHourRefusesRequestsAlike
requests_alike graph events hour first last flows arc set lots is there starts ends covers =
    requests_by_hour graph events first last (λ _. flows) (λ _. set) arc lots (record {
      stands = λ other within. subst (λ h. Stands graph events h flows) (same-hour first.hour last.hour hour other starts ends within) is;
      covers = λ other within. subst (λ h. IsRangeIn h first last (has set)) (same-hour first.hour last.hour hour other starts ends within) covers;
    }) there
    ∙ one-hour (λ other. request_refused_by flows other arc set lots) first.hour last.hour hour starts ends
