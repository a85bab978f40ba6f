-- The quarters of one hour that are in a range, and what they refuse.
use Rattle.std.proofs.Common.{◌≡◌, ◌∙◌, ℕ, ◌+◌, ◌==◌, ◌&&◌, ◌||◌, Bool, true, false, List, [], ◌∷◌, filter, flat_map, nat_le, nat_lt, Option, option_map, eq-eqb, refl, sym, ap, ap₂, subst, arith}
use Rattle.std.proofs.lemmas.Bool.{le-leb, le-ltb, lt-leb}
use Rattle.order_kinds.specs.declared.contract.Quarter.{Quarter}
use Rattle.order_kinds.specs.Period.{EachQuarter, hour_quarters, hours_from, is_not_after, is_quarter, quarter_of, range_quarters}
use Rattle.order_kinds.proofs.Hours.{hours-next, hours-none}
use Rattle.zone_graph.specs.declared.route.Arc.{Arc}
use Rattle.zone_graph.specs.Graph.{Graph, HasArc}
use Rattle.zone_graph.specs.Route.{IsIn}
use Rattle.zone_graph.proofs.Membership.{from_map, from_range}
use Rattle.market_model.specs.declared.event.Event.{Event}
use Rattle.market_model.specs.declared.refusal.Refusal.{Refusal}
use Rattle.market_model.specs.Refusals.{below_flow, no_room}
use Rattle.market_model.specs.Sweep.{first_answer}
use Rattle.market_model.specs.Asked.{first_in_hour}
use Rattle.laws_of_market.proofs.Restrict.{filter-same}
use Rattle.capacity_requests.specs.Requests.{first_flow_above, first_room_below}
use Rattle.flow_netting.specs.declared.quarter_set.QuarterSet.{QuarterSet}
use Rattle.flow_netting.specs.Flows.{Flows}
use Rattle.flow_netting.specs.QuarterSet.{has}
use Rattle.laws_of_hours.specs.FlowLaws.{IsRangeIn}
use Rattle.laws_of_hours.specs.Standing.{Stands}
use Rattle.laws_of_hours.specs.Refusing.{below_flow_of, no_room_of}
use Rattle.laws_of_hours.proofs.Refused.{offers_alike, requests_alike}

-- ---- a range cut to the quarters of an hour

within : (hour a b : ℕ) → is_not_after (quarter_of hour a) (quarter_of hour b) ≡ nat_le a b
within hour a b =
    ap₂ (λ (less same : Bool). less || (same && nat_le a b)) (le-ltb hour hour (omega arith)) (eq-eqb hour hour refl)

-- the number from which on the quarters of an hour do not come before a quarter
from_number : (first : Quarter) (hour : ℕ) → (a : ℕ) × EachQuarter (λ number. nat_le a number ≡ is_not_after first (quarter_of hour number))
from_number first hour = go (nat_lt first.hour hour) (first.hour == hour)
  where
    go : (less same : Bool) → (a : ℕ) × EachQuarter (λ number. nat_le a number ≡ (less || (same && nat_le first.number number)))
    go true same = (0, λ number low high. le-leb 0 number (omega arith))
    go false true = (first.number, λ number low high. refl)
    go false false = (5, λ number low high. lt-leb 5 number (omega (arith, high)))

-- and the number up to which they do not come after one
to_number : (last : Quarter) (hour : ℕ) → (b : ℕ) × EachQuarter (λ number. nat_le number b ≡ is_not_after (quarter_of hour number) last)
to_number last hour = go (nat_lt hour last.hour) (hour == last.hour)
  where
    go : (less same : Bool) → (b : ℕ) × EachQuarter (λ number. nat_le number b ≡ (less || (same && nat_le number last.number)))
    go true same = (4, λ number low high. le-leb number 4 high)
    go false true = (last.number, λ number low high. refl)
    go false false = (0, λ number low high. lt-leb number 0 (omega (arith, low)))

-- an hour by itself
alone : (hour : ℕ) → hours_from hour hour ≡ hour ∷ []
alone hour = hours-next hour hour (omega arith) ∙ ap (λ hours. hour ∷ hours) (hours-none (hour + 1) hour (omega arith))

module _ (hour : ℕ) (first last : Quarter) where
  abbrev is_asked : Quarter → Bool
  is_asked quarter = is_not_after first quarter && is_not_after quarter last

  cut_first : Quarter
  cut_first = quarter_of hour (from_number first hour).0

  cut_last : Quarter
  cut_last = quarter_of hour (to_number last hour).0

  starts-same : EachQuarter (λ number. is_not_after cut_first (quarter_of hour number) ≡ is_not_after first (quarter_of hour number))
  unfolding cut_first
  starts-same number low high = within hour (from_number first hour).0 number ∙ (from_number first hour).1 number low high

  ends-same : EachQuarter (λ number. is_not_after (quarter_of hour number) cut_last ≡ is_not_after (quarter_of hour number) last)
  unfolding cut_last
  ends-same number low high = within hour number (to_number last hour).0 ∙ (to_number last hour).1 number low high

  -- the quarters of the cut range are those of the hour that are asked for
  cut-quarters : range_quarters cut_first cut_last ≡ filter is_asked (hour_quarters hour)
  unfolding cut_first cut_last
  cut-quarters =
      ap (λ hours. filter (λ quarter. is_not_after cut_first quarter && is_not_after quarter cut_last) (flat_map hour_quarters hours)) (alone hour)
      ∙ filter-same (λ quarter. is_not_after cut_first quarter && is_not_after quarter cut_last) is_asked (hour_quarters hour) each
    where
      each : (quarter : Quarter) → IsIn quarter (hour_quarters hour) → (is_not_after cut_first quarter && is_not_after quarter cut_last) ≡ is_asked quarter
      each quarter i =
          let own = from_map (quarter_of hour) quarter (1 ∷ 2 ∷ 3 ∷ 4 ∷ []) i in
          let bounds = from_range own.0 1 4 own.1 in
          subst (λ q. (is_not_after cut_first q && is_not_after q cut_last) ≡ is_asked q) (sym own.2)
          (ap₂ (λ (starts ends : Bool). starts && ends) (starts-same own.0 bounds.0 (omega (arith, bounds.1))) (ends-same own.0 bounds.0 (omega (arith, bounds.1))))

  cut-covers : (set : QuarterSet) → IsRangeIn hour first last (has set) → IsRangeIn hour cut_first cut_last (has set)
  cut-covers set covers number low high =
      covers number low high
      ∙ sym (ap₂ (λ (starts ends : Bool). is_quarter (quarter_of hour number) && starts && ends) (starts-same number low high) (ends-same number low high))

  module _ (graph : Graph) (events : List Event) (flows : Flows) (set : QuarterSet)
      (arc : Arc) (lots : ℕ) (is : Stands graph events hour flows) (there : HasArc graph arc) where
    cut-first : (ask : Quarter → Option Refusal) → first_in_hour ask (record { arc = arc; first = first; last = last; lots = lots }) hour ≡ first_answer ask (range_quarters cut_first cut_last)
    unfolding first_in_hour
    cut-first ask = ap (first_answer ask) (sym cut-quarters)

    first_hour : cut_first.hour ≡ hour
    unfolding cut_first
    first_hour = refl

    last_hour : cut_last.hour ≡ hour
    unfolding cut_last
    last_hour = refl

    module _ (own : ℕ) (same : own ≡ hour) (covers : IsRangeIn own first last (has set)) (found : Option (ℕ × ℕ)) where
      covers_here : IsRangeIn hour cut_first cut_last (has set)
      covers_here = cut-covers set (subst (λ h. IsRangeIn h first last (has set)) same covers)

      -- the flows of the hour refuse as the market does
      pub offer-refused : found ≡ first_flow_above flows arc set lots
          → option_map (below_flow_of own) found ≡ first_in_hour (below_flow events arc lots) (record { arc = arc; first = first; last = last; lots = lots }) hour
      offer-refused told =
          ap₂ (λ h o. option_map (below_flow_of h) o) same told
          ∙ sym (cut-first (below_flow events arc lots) ∙ offers_alike graph events hour cut_first cut_last flows arc set lots is there first_hour last_hour covers_here)

      pub request-refused : found ≡ first_room_below flows arc set lots
          → option_map (no_room_of own) found ≡ first_in_hour (no_room events arc lots) (record { arc = arc; first = first; last = last; lots = lots }) hour
      request-refused told =
          ap₂ (λ h o. option_map (no_room_of h) o) same told
          ∙ sym (cut-first (no_room events arc lots) ∙ requests_alike graph events hour cut_first cut_last flows arc set lots is there first_hour last_hour covers_here)

-- a range of one hour alone
pub whole-range : (hour : ℕ) (arc : Arc) (first last : Quarter) (lots : ℕ) (ask : Quarter → Option Refusal) → hours_from first.hour last.hour ≡ hour ∷ []
    → first_in_hour ask (record { arc = arc; first = first; last = last; lots = lots }) hour ≡ first_answer ask (range_quarters first last)
unfolding first_in_hour
whole-range hour arc first last lots ask own =
    ap (λ hours. first_answer ask (filter (λ quarter. is_not_after first quarter && is_not_after quarter last) (flat_map hour_quarters hours))) (sym own)
