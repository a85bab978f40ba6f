-- An hour as it is planned differs from the hour as it is settled in touched zones alone.
use Rattle.std.proofs.Common.{◌≡◌, ◌≢◌, ◌⊎◌, ◌∙◌, inl, inr, ℕ, ◌<◌, ◌≤◌, ◌==◌, ◌&&◌, ◌||◌, Bool, true, false, not, List, refl, sym, ap, arith, eq-eqb, eqb-true}
use Rattle.std.proofs.lemmas.Bool.{and_from, and_parts, cases_eq, ne_eqb, or_cases, true≢false}
use Rattle.std.specs.Int.RustNames.{bit_or}
use Rattle.std.specs.List.{range_with_len}
use Rattle.order_kinds.specs.declared.contract.Contract.{Contract}
use Rattle.order_kinds.specs.declared.side.Side.{Side}
use Rattle.order_kinds.specs.Period.{contract_quarters}
use Rattle.zone_graph.specs.declared.route.Arc.{Arc}
use Rattle.zone_graph.specs.Graph.{Graph, HasArc, HasZone, IsGraph, border_count, end_of, ends_of, start_of, zone_count}
use Rattle.zone_graph.specs.Rooms.{room_of}
use Rattle.zone_graph.specs.Route.{IsIn, has}
use Rattle.zone_graph.proofs.Again.{or-true}
use Rattle.zone_graph.proofs.Membership.{IsIn-has, IsIn-range, from_range, has-IsIn}
use Rattle.contract_book.proofs.BookShapes.{any-some}
use Rattle.market_model.specs.declared.event.Event.{Event}
use Rattle.market_model.specs.Room.{room}
use Rattle.laws_of_views.specs.Changes.{AreAmong, RoomsDifferWithin}
use Rattle.laws_of_views.specs.Nearby.{DifferWithin, is_within, seen_elsewhere}
use Rattle.local_view.specs.Nearness.{zones_touched}
use Rattle.desk_views.specs.Moved.{AreMoved, has_moved, is_moved, moves_in}
use Rattle.cut_proof.specs.ZoneSet.{holds}
use Rattle.desk_views.proofs.Bits.{among-second, in_touched}
use Rattle.desk_views.proofs.Lists.{from_some}

within-more : (graph : Graph) (zones others : List ℕ) (arc : Arc) → AreAmong zones others → is_within graph zones arc ≡ true → is_within graph others arc ≡ true
within-more graph zones others arc among is =
    let both = and_parts (has (start_of graph arc) zones) (has (end_of graph arc) zones) is in
    and_from (has (start_of graph arc) others) (has (end_of graph arc) others)
    (has-IsIn (start_of graph arc) others (among (start_of graph arc) (IsIn-has (start_of graph arc) zones both.0)))
    (has-IsIn (end_of graph arc) others (among (end_of graph arc) (IsIn-has (end_of graph arc) zones both.1)))

-- two lists of events differ in the zones of the orders that changed and of the rooms that moved
pub differ-touched : (graph : Graph) (before after : List Event) (contract : Contract) (side : Side) (orders rooms : ℕ)
    → seen_elsewhere after contract side (zones_touched graph (bit_or orders rooms)) ≡ seen_elsewhere before contract side (zones_touched graph (bit_or orders rooms))
    → RoomsDifferWithin graph before after contract (zones_touched graph rooms)
    → DifferWithin graph before after contract side (zones_touched graph (bit_or orders rooms))
differ-touched graph before after contract side orders rooms seen within = record {
  orders = seen;
  rooms = λ arc known apart.
      elim (cases_eq (room after (contract_quarters contract) arc) (room before (contract_quarters contract) arc)) [
        | inl same ↦ same
        | inr differs ↦
            absurd (true≢false (sym
            (within-more graph (zones_touched graph rooms) (zones_touched graph (bit_or orders rooms)) arc (among-second graph orders rooms) (within arc known differs)) ∙ apart))
      ];
}

-- ---- rooms

-- where all rooms are as they were no zone is touched
pub none-moved : (graph : Graph) (before after : List Event) (contract : Contract) (zones : List ℕ)
    → ((arc : Arc) → HasArc graph arc → room after (contract_quarters contract) arc ≡ room before (contract_quarters contract) arc)
    → RoomsDifferWithin graph before after contract zones
none-moved graph before after contract zones same arc known differs = absurd (differs (same arc known))

-- an arc has one of the two directions
arc-moved : (old new : List (ℕ × ℕ)) (border : ℕ) (forward : Bool) → is_moved old new (record { border = border; forward = forward }) ≡ true → has_moved old new border ≡ true
arc-moved old new border true is = ap (λ b. b || is_moved old new (record { border = border; forward = false })) is
arc-moved old new border false is = ap (λ b. is_moved old new (record { border = border; forward = true }) || b) is ∙ or-true (is_moved old new (record { border = border; forward = true }))

-- and two ends, those of its border
ends-own : (graph : Graph) (border : ℕ) (forward : Bool) (P : ℕ → Type 0) → P (ends_of graph border).0 → P (ends_of graph border).1
    → P (start_of graph (record { border = border; forward = forward })) × P (end_of graph (record { border = border; forward = forward }))
ends-own graph border true P first second = (first, second)
ends-own graph border false P first second = (second, first)

module _ (graph : Graph) (is : IsGraph graph) (few : zone_count graph ≤ 64) (before after : List Event) (contract : Contract) (old new : List (ℕ × ℕ))
    (were : (arc : Arc) → HasArc graph arc → room_of old arc ≡ room before (contract_quarters contract) arc)
    (are : (arc : Arc) → HasArc graph arc → room_of new arc ≡ room after (contract_quarters contract) arc) (zones : ℕ) (moved : AreMoved graph old new zones) where
  -- both ends of each arc whose room moved are touched
  pub moved-within : RoomsDifferWithin graph before after contract (zones_touched graph zones)
  moved-within arc known differs =
      and_from (has (start_of graph arc) (zones_touched graph zones)) (has (end_of graph arc) (zones_touched graph zones))
      (has-IsIn (start_of graph arc) (zones_touched graph zones) both.0) (has-IsIn (end_of graph arc) (zones_touched graph zones) both.1)
    where
      here : has_moved old new arc.border ≡ true
      here =
          arc-moved old new arc.border arc.forward
          (ap not (ne_eqb (room_of old arc) (room_of new arc) (λ same. differs (sym (are arc known) ∙ sym same ∙ were arc known))))

      touched : (zone : ℕ) → HasZone graph zone → (((ends_of graph arc.border).0 == zone) || ((ends_of graph arc.border).1 == zone)) ≡ true → IsIn zone (zones_touched graph zones)
      touched zone there is_end =
          in_touched graph zones zone there
          (moved zone (omega (arith, there, few))
          ∙ any-some (moves_in graph old new zone) arc.border (range_with_len 0 (border_count graph)) (IsIn-range arc.border 0 (border_count graph) (omega arith) (omega (arith, known)))
          (ap (λ b. b && (((ends_of graph arc.border).0 == zone) || ((ends_of graph arc.border).1 == zone))) here ∙ is_end))

      both : IsIn (start_of graph arc) (zones_touched graph zones) × IsIn (end_of graph arc) (zones_touched graph zones)
      both =
          let within = is.within arc.border known in
          ends-own graph arc.border arc.forward (λ zone. IsIn zone (zones_touched graph zones))
          (touched (ends_of graph arc.border).0 within.0 (ap (λ b. b || ((ends_of graph arc.border).1 == (ends_of graph arc.border).0)) (eq-eqb (ends_of graph arc.border).0 (ends_of graph arc.border).0 refl)))
          (touched (ends_of graph arc.border).1 within.1
          (ap (λ b. ((ends_of graph arc.border).0 == (ends_of graph arc.border).1) || b) (eq-eqb (ends_of graph arc.border).1 (ends_of graph arc.border).1 refl)
          ∙ or-true ((ends_of graph arc.border).0 == (ends_of graph arc.border).1)))

  -- and only there
  pub from-moved : (zone : ℕ) → zone < 64 → holds zones zone ≡ true
      → (arc : Arc) × HasArc graph arc × ((start_of graph arc ≡ zone) ⊎ (end_of graph arc ≡ zone)) × (room after (contract_quarters contract) arc ≢ room before (contract_quarters contract) arc)
  from-moved zone small is =
      let border = from_some (moves_in graph old new zone) (range_with_len 0 (border_count graph)) (sym (moved zone small) ∙ is) in
      let known : border.0 < border_count graph = (let within = (from_range border.0 0 (border_count graph) border.1).1 in omega (arith, within)) in
      let both = and_parts (has_moved old new border.0) (((ends_of graph border.0).0 == zone) || ((ends_of graph border.0).1 == zone)) border.2 in
      let forward = from_arc border.0 both.0 in
      let arc : Arc = record { border = border.0; forward = forward.0 } in (
        arc,
        known,
        from_ends border.0 forward.0 zone both.1,
        λ same. true≢false (sym forward.1 ∙ ap not (eq-eqb (room_of old arc) (room_of new arc) (were arc known ∙ sym same ∙ sym (are arc known)))),
      )
    where
      from_arc : (border : ℕ) → has_moved old new border ≡ true → (forward : Bool) × (is_moved old new (record { border = border; forward = forward }) ≡ true)
      from_arc border is = elim (or_cases (is_moved old new (record { border = border; forward = true })) (is_moved old new (record { border = border; forward = false })) is) [
        | inl forward ↦ (true, forward)
        | inr backward ↦ (false, backward)
      ]

      from_ends : (border : ℕ) (forward : Bool) (end : ℕ) → (((ends_of graph border).0 == end) || ((ends_of graph border).1 == end)) ≡ true
          → (start_of graph (record { border = border; forward = forward }) ≡ end) ⊎ (end_of graph (record { border = border; forward = forward }) ≡ end)
      from_ends border forward end is = go forward (or_cases ((ends_of graph border).0 == end) ((ends_of graph border).1 == end) is)
        where
          go : (way : Bool) → (((ends_of graph border).0 == end) ≡ true) ⊎ (((ends_of graph border).1 == end) ≡ true)
              → (start_of graph (record { border = border; forward = way }) ≡ end) ⊎ (end_of graph (record { border = border; forward = way }) ≡ end)
          go true (inl first) = inl (eqb-true (ends_of graph border).0 end first)
          go true (inr second) = inr (eqb-true (ends_of graph border).1 end second)
          go false (inl first) = inr (eqb-true (ends_of graph border).0 end first)
          go false (inr second) = inl (eqb-true (ends_of graph border).1 end second)
