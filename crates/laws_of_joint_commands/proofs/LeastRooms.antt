-- The least of the rooms of several hours.
use Rattle.std.proofs.Common.{◌≡◌, ◌∙◌, inl, ℕ, List, [], ◌∷◌, flat_map, fold, map, min, refl, sym, ap, arith}
use Rattle.order_kinds.specs.declared.contract.Quarter.{Quarter}
use Rattle.order_kinds.specs.Period.{hour_quarters, hours_from, quarter_of}
use Rattle.zone_graph.specs.declared.route.Arc.{Arc}
use Rattle.zone_graph.proofs.Membership.{from_map}
use Rattle.market_model.specs.declared.event.Event.{Event}
use Rattle.market_model.specs.Room.{least, quarter_room, room}
use Rattle.laws_of_market.proofs.NamedByHour.{AreNamedByHour, history-named}
use Rattle.laws_of_market.proofs.Restrict.{map-same}
use Rattle.laws_of_market.proofs.LocalStates.{room-agree}
use Rattle.laws_of_joint_commands.specs.ByHour.{hour_events}
use Rattle.laws_of_joint_commands.specs.PeriodRooms.{PeriodRoomsAreTheLeastOfHours, hour_room, period_room}
use Rattle.laws_of_joint_commands.proofs.SweptHours.{own-agrees}

-- the least of a number and some others
fold-least : (m n : ℕ) (ns : List ℕ) → fold min (min m n) ns ≡ min m (fold min n ns)
fold-least m n [] = refl
fold-least m n (other ∷ ns) =
    let together : min (min m n) other ≡ min m (min n other) = omega arith in
    ap (λ k. fold min k ns) together ∙ fold-least m (min n other) ns

-- numbers of the quarters of several hours
hours-least : (of : Quarter → ℕ) (m : ℕ) (hours : List ℕ)
    → fold min m (map of (flat_map hour_quarters hours)) ≡ fold min m (map (λ hour. least (map of (hour_quarters hour))) hours)
hours-least of m [] = refl
hours-least of m (hour ∷ hours) =
    let four : List ℕ = map of (quarter_of hour 2 ∷ quarter_of hour 3 ∷ quarter_of hour 4 ∷ []) in
    hours-least of (fold min (min m (of (quarter_of hour 1))) four) hours
    ∙ ap (λ k. fold min k (map (λ other. least (map of (hour_quarters other))) hours)) (fold-least m (of (quarter_of hour 1)) four)

period-least : (of : Quarter → ℕ) (hours : List ℕ) → least (map of (flat_map hour_quarters hours)) ≡ least (map (λ hour. least (map of (hour_quarters hour))) hours)
period-least of [] = refl
period-least of (hour ∷ hours) = hours-least of (least (map of (hour_quarters hour))) hours

-- the rooms of a period, by the hours' own events
pub rooms-own : (history : List Event) → AreNamedByHour history → (first last : ℕ) (arc : Arc)
    → room history (flat_map hour_quarters (hours_from first last)) arc ≡ period_room (hour_events history) first last arc
rooms-own history named first last arc =
    period-least (quarter_room history arc) (hours_from first last)
    ∙ ap least (map-same (λ hour. hour_room history hour arc) (λ hour. hour_room (hour_events history hour) hour arc) (hours_from first last) (λ hour i.
    ap (λ (rooms : Arc → ℕ). rooms arc) (sym (room-agree (hour ∷ []) (hour_events history hour) history (own-agrees history named hour) (hour_quarters hour) (λ quarter j.
    inl (ap (λ (q : Quarter). q.hour) (from_map (quarter_of hour) quarter (1 ∷ 2 ∷ 3 ∷ 4 ∷ []) j).2))))))

pub least_of_hours : PeriodRoomsAreTheLeastOfHours
least_of_hours setup history first last arc fit = rooms-own history (history-named setup history fit) first last arc
