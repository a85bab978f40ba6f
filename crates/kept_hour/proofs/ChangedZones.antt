-- What the changes that a store has noted leave as the hour is settled.
use Rattle.std.proofs.Common.{◌≡◌, ◌∙◌, inl, ℕ, ◌<◌, ◌≤◌, Bool, true, false, not, List, [], ◌∷◌, filter, map, take, Option, None, refl, sym, ap, ap₂, subst, arith}
use Rattle.std.proofs.lemmas.Bool.{true≢false}
use mathlib.Core.List.{map-map}
use Rattle.std.specs.List.{list_any}
use Rattle.order_kinds.specs.declared.contract.Contract.{Contract}
use Rattle.order_kinds.specs.declared.side.Side.{Side}
use Rattle.order_kinds.specs.Contract.{contract_at, part_at}
use Rattle.order_kinds.specs.Period.{contract_quarters}
use Rattle.zone_graph.specs.declared.route.Arc.{Arc}
use Rattle.quarter_capacity.specs.Capacity.{remaining_of}
use Rattle.zone_graph.specs.Graph.{Graph, HasArc, HasZone, border_count, zone_count}
use Rattle.zone_graph.specs.Route.{IsIn, has}
use Rattle.zone_graph.proofs.Membership.{IsIn-map, from_filter, from_map, has-IsIn}
use Rattle.contract_book.specs.declared.resting.Resting.{Resting}
use Rattle.contract_book.specs.Book.{line_of}
use Rattle.flow_netting.specs.Flows.{Flows}
use Rattle.flow_netting.specs.Flows as kept
use Rattle.market_model.specs.declared.event.Event.{Event}
use Rattle.market_model.specs.Board.{IsHourOf}
use Rattle.market_model.specs.Lines.{line}
use Rattle.market_model.specs.Orders.{Standing}
use Rattle.market_model.specs.Room.{room}
use Rattle.laws_of_market.proofs.Placed.{all_are_sound}
use Rattle.laws_of_market.proofs.Rooms.{kept_part-is}
use Rattle.laws_of_market.proofs.Trades.{from_line}
use Rattle.laws_of_market.proofs.LocalLines.{line-agree}
use Rattle.laws_of_market.proofs.Restrict.{filter-filter, map-same, filter-map}
use Rattle.laws_of_books.specs.BookOf.{book_of, resting_of}
use Rattle.laws_of_books.proofs.PartLines.{line_of-book}
use Rattle.laws_of_hours.specs.Standing.{Stands}
use Rattle.laws_of_hours.proofs.Rooms.{remains}
use Rattle.laws_of_hours.specs.OrderEvents.{without_hand}
use Rattle.laws_of_hours.proofs.NextEvents.{agrees}
use Rattle.laws_of_rows.specs.declared.trades.Maker.{Maker}
use Rattle.laws_of_rows.specs.Depth.{AreInZones, maker_of}
use Rattle.laws_of_rows.proofs.Views.{makers-known}
use Rattle.laws_of_views.specs.Nearby.{is_elsewhere, seen_elsewhere}
use Rattle.hour_store.specs.declared.change.Change.{Change}
use Rattle.hour_store.specs.Changed.{AreChangedBorders, AreChangedZones, changes_flows, changes_over, has_changed, is_untouched, zones_of}
use Rattle.hour_store.specs.Contents.{AreAlikeOver}
use Rattle.hour_store.specs.Store.{Store}
use Rattle.hour_store.proofs.BordersChange.{borders-change}
use Rattle.hour_store.proofs.ChangesLeave.{flows-change, lines-change}
use Rattle.kept_hour.specs.Changed.{AreRoomsSettled, AreRoomsSettledBut, AreSeenElsewhere, AreZonesPlanned, HasTouched}
use Rattle.kept_hour.specs.Kept.{IsKept}
use Rattle.kept_hour.specs.Planned.{moves_flows, planned_of}
use Rattle.kept_hour.specs.State.{HourState}
use Rattle.kept_hour.proofs.Keeping.{alike-stands, own}
use Rattle.kept_hour.proofs.Shows.{known-at, number-at}

-- ---- the line of a part and side, as a book has it and as a view sees it

-- what a view sees of a record of an hour
seen_record : (hour : ℕ) → Resting → Maker
seen_record hour order = record { name = record { hour = hour; number = order.number }; zone = order.zone; price = order.price; left = order.shown }

module _ (graph : Graph) (hour : ℕ) (events : List Event) (of : IsHourOf graph hour events) (part : ℕ) (side : Side) where
  abbrev contract : Contract
  contract = contract_at hour part

  abbrev orders : List Standing
  orders = line events (contract_at hour part) side

  line-history : orders ≡ line of.history contract side
  line-history = line-agree (hour ∷ []) events of.history (agrees graph hour events of) contract side (inl refl)

  -- its orders bear the hour
  bears-hour : (order : Standing) → IsIn order orders → order.name.hour ≡ hour
  bears-hour order i =
      let found = from_line of.history contract side order (subst (IsIn order) line-history i) in
      ap (λ (x : Standing). x.name.hour) found.is
      ∙ ((all_are_sound of.setup of.history of.fit).orders found.order found.is_open.is_placed).named
      ∙ ap (λ (c : Contract). c.hour) found.of_contract

  -- and stand in zones of the grid
  stands-there : (order : Standing) → IsIn order orders → HasZone graph order.order.zone
  stands-there order i =
      let known : AreInZones graph (map maker_of (line of.history contract side)) =
      subst (λ g. AreInZones g (map maker_of (line of.history contract side))) of.over_grid (makers-known of.setup of.history of.fit contract side) in
      known.each (maker_of order) (IsIn-map maker_of order (line of.history contract side) (subst (IsIn order) line-history i))

  -- so some of them are seen as their records say
  seen-records : (p : Standing → Bool) → map maker_of (filter p orders) ≡ map (seen_record hour) (map resting_of (filter p orders))
  unfolding seen_record
  seen-records p =
      map-same maker_of (λ order. seen_record hour (resting_of order)) (filter p orders)
      (λ order i. ap (λ h. record (maker_of order) { name = record { hour = h; number = order.name.number } }) (bears-hour order (from_filter p order orders i).0))
      ∙ sym (map-map (seen_record hour) resting_of (filter p orders))

  module _ (few : zone_count graph ≤ 64) (changes : List Change) (touched : List ℕ) (are : AreChangedZones changes touched) (low : part < 7)
      (zones : List ℕ) (among : HasTouched graph (zones_of touched part side) zones) where
    -- a record is of a zone elsewhere
    abbrev is_out : Resting → Bool
    is_out order = not (has order.zone zones)

    -- what stands elsewhere was not changed
    out-untouched : (order : Standing) → IsIn order orders → is_out (resting_of order) ≡ true → is_untouched changes part side (resting_of order) ≡ true
    out-untouched order i out = by (has_changed changes part side order.order.zone) refl
      where
        by : (b : Bool) → has_changed changes part side order.order.zone ≡ b → not b ≡ true
        by false e = refl
        by true e =
            let known = stands-there order i in
            let there = has-IsIn order.order.zone zones (among order.order.zone known (are part side order.order.zone low (omega (arith, known, few)) ∙ e)) in
            absurd (true≢false (sym out ∙ ap not there))

    seen-untouched : seen_elsewhere events (contract_at hour part) side zones
        ≡ map (seen_record hour) (filter is_out (filter (is_untouched changes part side) (map resting_of orders)))
    seen-untouched =
        seen-records (is_elsewhere zones)
        ∙ ap (map (seen_record hour))
        (sym (filter-map is_out resting_of orders)
        ∙ sym (filter-filter is_out (is_untouched changes part side) (map resting_of orders) (λ record_of i out.
        let from = from_map resting_of record_of orders i in
        ap (is_untouched changes part side) from.2 ∙ out-untouched from.0 from.1 (ap is_out (sym from.2) ∙ out))))

-- the line of a book
pub line-of-book : (events : List Event) (hour part : ℕ) (side : Side) → part < 7 → line_of (book_of events hour) part side ≡ map resting_of (line events (contract_at hour part) side)
line-of-book events hour part side low =
    ap (λ n. line_of (book_of events hour) n side) (sym (number-at part low)) ∙ line_of-book events hour (part_at part) side (known-at part low)

-- ---- rooms over flows that stand for two lists of events

rooms-same : (graph : Graph) (before after : List Event) (hour part : ℕ) (flows : Flows) → Stands graph before hour flows → Stands graph after hour flows
    → (arc : Arc) → part < 7 → HasArc graph arc → room after (contract_quarters (contract_at hour part)) arc ≡ room before (contract_quarters (contract_at hour part)) arc
rooms-same graph before after hour part flows was is arc low there =
    sym (kept_part-is after hour arc flows.phase (kept.is_halted flows arc.border) (kept.remaining_of flows arc) is.phase_same (is.halted_same arc.border there)
    (remains graph after hour flows arc is there) (part_at part) (known-at part low))
    ∙ kept_part-is before hour arc flows.phase (kept.is_halted flows arc.border) (kept.remaining_of flows arc) was.phase_same (was.halted_same arc.border there)
    (remains graph before hour flows arc was there) (part_at part) (known-at part low)

-- the room of an arc where flows say the same over its border
rooms-over : (graph : Graph) (before after : List Event) (hour part : ℕ) (old new : Flows) → Stands graph before hour old → Stands graph after hour new
    → (arc : Arc) → AreAlikeOver arc.border old new → part < 7 → HasArc graph arc
    → room after (contract_quarters (contract_at hour part)) arc ≡ room before (contract_quarters (contract_at hour part)) arc
rooms-over graph before after hour part old new was is arc over low there =
    sym (kept_part-is after hour arc new.phase (kept.is_halted new arc.border) (kept.remaining_of new arc) is.phase_same (is.halted_same arc.border there)
    (remains graph after hour new arc is there) (part_at part) (known-at part low))
    ∙ kept_part-is before hour arc new.phase (kept.is_halted new arc.border) (kept.remaining_of new arc) (over.phase ∙ was.phase_same)
    (over.halts ∙ was.halted_same arc.border there)
    (λ number first last.
    ap₂ remaining_of (over.offers arc refl number first last) (over.flows arc refl number first last) ∙ remains graph before hour old arc was there number first last)
    (part_at part) (known-at part low)

-- ---- an hour, as its fields have it

module _ (grid : Graph) (number : ℕ) (events : List Event) (settled : ℕ) (hand : Option ℕ) (numbers settled_numbers : ℕ) (store : Store)
    (kept : IsKept (own grid number events settled hand) settled numbers settled_numbers store)
    (seen : HourState) (view_is : own grid number events settled hand ≡ seen) where
  abbrev mine : HourState
  mine = own grid number events settled hand

  pub seen-elsewhere : seen.board.hand ≡ None → zone_count seen.board.grid ≤ 64 → (touched : List ℕ) → AreChangedZones store.changes touched → AreSeenElsewhere seen touched
  seen-elsewhere free few touched are =
      subst (λ h. AreSeenElsewhere h touched) view_is (λ part side zones low among.
      let keeps = kept.keeps in
      let none : hand ≡ None = subst (λ (h : HourState). h.board.hand ≡ None) (sym view_is) free in
      let small : zone_count grid ≤ 64 = subst (λ (h : HourState). zone_count h.board.grid ≤ 64) (sym view_is) few in
      let now = line-of-book events number part side low in
      let then = line-of-book (take settled events) number part side low in
      let book : store.contents.book ≡ book_of events number = keeps.contents.book ∙ ap (λ h. without_hand h (book_of events number)) none in
      let seen_in = λ (records : List Resting). map (seen_record number) (filter (λ (order : Resting). not (has order.zone zones)) records) in
      seen-untouched grid number events keeps.board.stands part side small store.changes touched are low zones among
      ∙ ap (λ l. seen_in (filter (is_untouched store.changes part side) l)) (sym now ∙ ap (λ b. line_of b part side) (sym book))
      ∙ ap seen_in (lines-change store keeps.target part side keeps.back)
      ∙ ap (λ l. seen_in (filter (is_untouched store.changes part side) l)) (ap (λ b. line_of b part side) keeps.target_of.book ∙ then)
      ∙ sym (seen-untouched grid number (take settled events) keeps.settled.stands part side small store.changes touched are low zones among))

  pub zones-planned : (touched : List ℕ) → AreChangedZones store.changes touched → AreZonesPlanned seen touched
  zones-planned touched are =
      subst (λ h. AreZonesPlanned h touched) view_is (λ part side zone low small is. kept.keeps.noted.orders part side zone low (sym (are part side zone low small) ∙ is))

  pub flows-planned : list_any changes_flows store.changes ≡ true → list_any moves_flows (planned_of seen) ≡ true
  flows-planned is = subst (λ h. list_any moves_flows (planned_of h) ≡ true) view_is (kept.keeps.noted.flows is)

  pub rooms-settled : list_any changes_flows store.changes ≡ false → AreRoomsSettled seen
  rooms-settled none =
      subst AreRoomsSettled view_is (λ part arc low there.
      let keeps = kept.keeps in
      let was = alike-stands grid (take settled events) number keeps.target.flows store.contents.flows keeps.target_of.flows (flows-change store keeps.target keeps.back none) in
      rooms-same grid (take settled events) events number part store.contents.flows was keeps.contents.flows arc low there)

  pub rooms-settled-but : border_count seen.board.grid ≤ 128 → (changed : List Bool) → AreChangedBorders store.changes changed → AreRoomsSettledBut seen changed
  rooms-settled-but few changed are =
      subst (λ h. AreRoomsSettledBut h changed) view_is (λ part arc low there unmarked.
      let keeps = kept.keeps in
      let small : border_count grid ≤ 128 = subst (λ (h : HourState). border_count h.board.grid ≤ 128) (sym view_is) few in
      let none : list_any (changes_over arc.border) store.changes ≡ false = sym (are arc.border (omega (arith, there, small))) ∙ unmarked in
      rooms-over grid (take settled events) events number part keeps.target.flows store.contents.flows keeps.target_of.flows keeps.contents.flows arc
      (borders-change store keeps.target arc.border keeps.back none) low there)
