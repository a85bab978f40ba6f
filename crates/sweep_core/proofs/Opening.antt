-- After a leg no other part has one that had none, unless the opposite of an arc of its route gets its
-- first room.
use Rattle.std.proofs.Common.{◌≡◌, ◌≢◌, ◌∙◌, inl, inr, ℕ, zero, suc, ◌+◌, ◌<◌, ◌==◌, ◌&&◌, ◌||◌, Bool, true, false, not, List, [], ◌∷◌, Some, None, if◌then◌else◌, nat_lt, refl, sym, ap, subst, arith}
use Rattle.std.proofs.lemmas.Bool.{and_parts, or_cases, true≢false}
use Rattle.std.specs.List.{list_any}
use Rattle.order_kinds.specs.declared.contract.Contract.{Contract}
use Rattle.order_kinds.specs.declared.contract.Quarter.{Quarter}
use Rattle.order_kinds.specs.declared.phase.Phase.TheVariants as phase
use Rattle.order_kinds.specs.declared.side.Side.{Side}
use Rattle.order_kinds.specs.declared.side.Side.TheVariants.{Buy, Sell}
use Rattle.order_kinds.specs.Contract.{contract_at}
use Rattle.order_kinds.specs.Period.{contract_has, contract_quarters}
use Rattle.order_kinds.specs.Same.{same_name}
use Rattle.quarter_capacity.specs.Capacity.{flow_of, remaining_of}
use Rattle.zone_graph.specs.declared.route.Arc.{Arc}
use Rattle.zone_graph.specs.Graph.{HasArc}
use Rattle.zone_graph.specs.Pour.{lots_if, opposite_arc, uses}
use Rattle.zone_graph.specs.Route.{IsIn}
use Rattle.zone_graph.proofs.Arcs.{IsIn-uses, opposite-twice}
use Rattle.cut_proof.proofs.Ways.{way_has_arc}
use Rattle.market_model.specs.declared.event.Event.{Event}
use Rattle.market_model.specs.declared.event.Event.TheVariants as event
use Rattle.market_model.specs.declared.event.Leg.{Leg}
use Rattle.market_model.specs.declared.setup.Setup.{Setup}
use Rattle.market_model.specs.Board.{BoardState, CanBeMade, IsBoard, after_leg}
use Rattle.market_model.specs.Capacity.{allocated, allocated_by, offered, remaining}
use Rattle.market_model.specs.Grid.{graph_of}
use Rattle.market_model.specs.History.{and_then}
use Rattle.market_model.specs.Lines.{buyer_zone, line, priority_cmp, seller_zone}
use Rattle.market_model.specs.Orders.{Placed, is_open, names, placed, placed_by, standing}
use Rattle.market_model.specs.Room.{halt_by, is_halted, is_open_phase, lots_of, phase_by, phase_of, quarter_room, room}
use Rattle.market_model.specs.Sweep.{all_parts, leg_in}
use Rattle.market_model.specs.WellFormed.{FitAfter, LegFits}
use Rattle.laws_of_market.proofs.Ascending.{itself}
use Rattle.laws_of_market.proofs.Capacities.{allocated-more, last_said-more, offered-more}
use Rattle.laws_of_market.proofs.Lines.{IsIn-line, priority_weak}
use Rattle.laws_of_market.proofs.Names.{names-once}
use Rattle.laws_of_market.proofs.Placed.{picked-same}
use Rattle.laws_of_market.proofs.Tests.{same_name-eq}
use Rattle.laws_of_market.proofs.Trades.{from_line}
use Rattle.laws_of_market.proofs.Unique.{one_order}
use Rattle.laws_of_market.proofs.Uses.{contract_has-is, lots_of-remaining, room-le}
use Rattle.laws_of_market.proofs.LocalLines.{line-agree, sweep_leg-named}
use Rattle.laws_of_market.proofs.LocalStates.{agree-more}
use Rattle.laws_of_books.proofs.Untouched.{left-kept, standing-kept}
use Rattle.laws_of_boards.specs.Fronts.{StandInFor}
use Rattle.laws_of_boards.proofs.Unopened.{unopened}
use Rattle.laws_of_boards.proofs.Legs.{made-fits}
use Rattle.laws_of_boards.proofs.Rises.{least-follows}
use Rattle.laws_of_boards.proofs.Shared.{board-agrees, board-graph}
use Rattle.sweep_core.specs.declared.part_set.PartSet.{PartSet}
use Rattle.sweep_core.specs.Meeting.{part_room}
use Rattle.sweep_core.specs.Parts.{has_part}
use Rattle.sweep_core.specs.Sweeping.{OthersAreQuiet, event_in, may_open, next_event, part_leg}
use Rattle.sweep_core.proofs.Lines.{price-first}

-- ---- rooms

-- the room in a quarter, by what is open, offered and allocated
abbrev room_at : (free : Bool) → (offer there back : ℕ) → ℕ
room_at free offer there back = if free then lots_of (remaining_of offer (flow_of there back)) else 0

room-falls : (free : Bool) (offer there more back : ℕ) → 0 < room_at free offer (there + more) back → 0 < room_at free offer there back
room-falls true offer there more back some =
    let now = lots_of-remaining offer (there + more) back in
    let was = lots_of-remaining offer there back in
    omega (arith, now, was, some)
room-falls false offer there more back some = some

module _ (events : List Event) (contract : Contract) (leg : Leg)
    (shut : (arc : Arc) → IsIn arc leg.route → 0 < room events (contract_quarters contract) (opposite_arc arc)) where
  abbrev made : Event
  made = event.Leg contract leg

  abbrev after : List Event
  after = and_then events made

  abbrev is_free : Arc → Quarter → Bool
  is_free arc quarter = is_open_phase (phase_of events quarter.hour) && not (is_halted events arc.border quarter.hour)

  quarter-after : (arc : Arc) (quarter : Quarter) → quarter_room after arc quarter
      ≡ room_at (is_free arc quarter) (offered events quarter arc) (allocated events quarter arc + allocated_by quarter arc made)
      (allocated events quarter (opposite_arc arc) + allocated_by quarter (opposite_arc arc) made)
  quarter-after arc quarter =
      ap (λ p. if is_open_phase p && not (is_halted after arc.border quarter.hour) then lots_of (remaining after quarter arc) else 0)
      (last_said-more (phase_by quarter.hour) phase.Open events made)
      ∙ ap (λ h. if is_open_phase (phase_of events quarter.hour) && not h then lots_of (remaining after quarter arc) else 0)
      (last_said-more (halt_by arc.border quarter.hour) false events made)
      ∙ ap (λ n. room_at (is_free arc quarter) n (allocated after quarter arc) (allocated after quarter (opposite_arc arc))) (offered-more events made quarter arc)
      ∙ ap (λ n. room_at (is_free arc quarter) (offered events quarter arc) n (allocated after quarter (opposite_arc arc))) (allocated-more events made quarter arc)
      ∙ ap (λ n. room_at (is_free arc quarter) (offered events quarter arc) (allocated events quarter arc + allocated_by quarter arc made) n)
      (allocated-more events made quarter (opposite_arc arc))

  -- no arc gets its first room
  quarter-some : (arc : Arc) (quarter : Quarter) → 0 < quarter_room after arc quarter → 0 < quarter_room events arc quarter
  quarter-some arc quarter some = go (contract_has contract quarter && uses leg.route (opposite_arc arc)) refl
    where
      go : (b : Bool) → (contract_has contract quarter && uses leg.route (opposite_arc arc)) ≡ b → 0 < quarter_room events arc quarter
      go true is =
          let both = and_parts (contract_has contract quarter) (uses leg.route (opposite_arc arc)) is in
          let had = subst (λ a. 0 < room events (contract_quarters contract) a) (opposite-twice arc) (shut (opposite_arc arc) (IsIn-uses leg.route (opposite_arc arc) both.1)) in
          let most = room-le events (contract_quarters contract) arc quarter (contract_has-is contract quarter both.0) in
          omega (arith, had, most)
      go false is =
          let none : allocated events quarter (opposite_arc arc) + allocated_by quarter (opposite_arc arc) made ≡ allocated events quarter (opposite_arc arc) =
          ap (λ b. allocated events quarter (opposite_arc arc) + lots_if b leg.lots) is ∙ omega arith in
          room-falls (is_free arc quarter) (offered events quarter arc) (allocated events quarter arc) (allocated_by quarter arc made) (allocated events quarter (opposite_arc arc))
          (subst (λ n. 0 < n) (quarter-after arc quarter
          ∙ ap (λ n. room_at (is_free arc quarter) (offered events quarter arc) (allocated events quarter arc + allocated_by quarter arc made) n) none) some)

  none-opens : (quarters : List Quarter) (arc : Arc) → 0 < room after quarters arc → 0 < room events quarters arc
  none-opens quarters arc some = least-follows (quarter_room events arc) (quarter_room after arc) quarters (λ q i. quarter-some arc q) some

-- ---- lines

-- the orders of another contract stand as they stood
module _ (setup : Setup) (events : List Event) (fit : FitAfter setup [] events) (contract : Contract) (leg : Leg) (fits : LegFits setup events contract leg)
    (other : Contract) (apart : other ≢ contract) where
  unnamed : (order : Placed) → IsIn order (placed events) → order.order.contract ≡ other → names leg order.name ≡ false
  unnamed order there of_other = go (names leg order.name) refl
    where
      same : (named : Placed) → IsIn named (placed events) → named.order.contract ≡ contract → named.name ≡ order.name → ⊥
      same named i of_contract is =
          let one : named ≡ order = one_order events (names-once setup events fit) named order i there is in
          apart (sym of_other ∙ ap (λ (p : Placed). p.order.contract) (sym one) ∙ of_contract)

      go : (b : Bool) → names leg order.name ≡ b → b ≡ false
      go false e = refl
      go true e = absurd (elim (or_cases (same_name leg.taker order.name) (same_name leg.maker order.name) e) [
        | inl t ↦ same fits.taker fits.taker_open.is_placed fits.taker_contract (fits.taker_open.is_named ∙ same_name-eq leg.taker order.name t)
        | inr m ↦ same fits.maker fits.maker_open.is_placed fits.maker_contract (fits.maker_open.is_named ∙ same_name-eq leg.maker order.name m)
      ])

  stand-in : (side : Side) → StandInFor side (line events other side) (line (and_then events (event.Leg contract leg)) other side)
  stand-in side found i =
      let made : Event = event.Leg contract leg in
      let now = from_line (and_then events made) other side found i in
      let there : IsIn now.order (placed events) = subst (IsIn now.order) (picked-same placed_by events made refl) now.is_open.is_placed in
      let aside = unnamed now.order there now.of_contract in
      let same : found ≡ standing events now.order = now.is ∙ standing-kept events made now.order aside in
      let opened : is_open events now.order.name ≡ true = ap (λ n. nat_lt 0 n) (sym (left-kept events made now.order.name aside)) ∙ now.is_open.is_left in
      let stood = IsIn-line events now.order (record { is_placed = there; is_left = opened }) in (
        found,
        subst (λ s. IsIn s (line events other side)) (sym same)
            (subst (λ c. IsIn (standing events now.order) (line events c side)) now.of_contract
            (subst (λ s. IsIn (standing events now.order) (line events now.order.order.contract s)) now.on_side stood)),
        refl,
        price-first side found found (itself (priority_cmp side) (priority_weak side) found),
      )

-- ---- boards

-- the arcs of a leg that can be made are the grid's
pub arcs-known : (board : BoardState) (part : ℕ) (leg : Leg) → CanBeMade board part leg → (arc : Arc) → IsIn arc leg.route → HasArc board.grid arc
arcs-known board part leg can arc i =
    let fits = can.2 in
    subst (λ g. HasArc g arc) can.1
    (way_has_arc (graph_of can.0) (room board.events (contract_quarters (contract_at board.hour part)))
    (seller_zone (standing board.events fits.taker) (standing board.events fits.maker)) (buyer_zone (standing board.events fits.taker) (standing board.events fits.maker))
    leg.route arc fits.carried.is_route.way i)

some-room : (n : ℕ) → (n == 0) ≡ false → 0 < n
some-room zero e = absurd (true≢false e)
some-room (suc n) e = omega arith

any-none : (p : Arc → Bool) (arcs : List Arc) → list_any p arcs ≡ false → (arc : Arc) → IsIn arc arcs → p arc ≡ false
any-none p [] none arc i = absurd i
any-none p (first ∷ arcs) none arc i = go (p first) refl none i (λ k j. any-none p arcs k arc j)
  where
    go : (b : Bool) → p first ≡ b → (b || list_any p arcs) ≡ false → IsIn arc (first ∷ arcs) → (list_any p arcs ≡ false → IsIn arc arcs → p arc ≡ false) → p arc ≡ false
    go true e k j rest = absurd (true≢false k)
    go false e k j rest = elim j [ inl same ↦ ap p same ∙ e | inr later ↦ rest k later ]

some-none : (e : Event) → Some e ≡ None → ⊥
some-none e same = cc

-- over rooms that say the same of the grid's arcs an arc may open or not
pub may-open-same : (board : BoardState) (room other : Arc → ℕ) (route : List Arc) → ((arc : Arc) → HasArc board.grid arc → room arc ≡ other arc)
    → ((arc : Arc) → IsIn arc route → HasArc board.grid arc) → may_open room route ≡ may_open other route
may-open-same board room other [] same known = refl
may-open-same board room other (arc ∷ route) same known =
    ap (λ n. (n == 0) || may_open room route) (same (opposite_arc arc) (known arc (inl refl)))
    ∙ ap (λ b. (other (opposite_arc arc) == 0) || b) (may-open-same board room other route same (λ a i. known a (inr i)))

-- the parts that are left out have no leg after it either
pub quiet-after : (board : BoardState) (part : ℕ) (leg : Leg) (opens : Bool) (before after : PartSet) → IsBoard board → CanBeMade board part leg
    → part_leg board part ≡ Some (event_in board part leg) → next_event board ≡ Some (event_in board part leg)
    → opens ≡ may_open (part_room board part) leg.route → OthersAreQuiet board before
    → ((other : ℕ) → other < 7 → has_part after other ≡ (if opens then true else has_part before other))
    → OthersAreQuiet (after_leg board part leg) after
quiet-after board part leg opens before after is_board can found next tells quiet marks other less left_out =
    go opens (sym tells) (sym (marks other less) ∙ left_out)
  where
    contract : Contract
    contract = contract_at board.hour part

    aside : Contract
    aside = contract_at board.hour other

    made : Event
    made = event_in board part leg

    go : (b : Bool) → may_open (part_room board part) leg.route ≡ b → (if b then true else has_part before other) ≡ false → part_leg (after_leg board part leg) other ≡ None
    go true e k = absurd (true≢false k)
    go false e k =
        let had_none = quiet other less k in
        let apart : aside ≢ contract = λ same. some-none made (sym found ∙ ap (leg_in board.grid board.events) (sym same) ∙ had_none) in
        let agree = board-agrees board is_board in
        let agree_after = agree-more (board.hour ∷ []) board.events is_board.stands.history made agree
        (sweep_leg-named all_parts board.grid board.hour board.events made agree.named_a next) in
        let was : (side : Side) → line board.events aside side ≡ line is_board.stands.history aside side =
        λ side. line-agree (board.hour ∷ []) board.events is_board.stands.history agree aside side (inl refl) in
        let now : (side : Side) → line (and_then board.events made) aside side ≡ line (and_then is_board.stands.history made) aside side =
        λ side. line-agree (board.hour ∷ []) (and_then board.events made) (and_then is_board.stands.history made) agree_after aside side (inl refl) in
        let stands : (side : Side) → StandInFor side (line board.events aside side) (line (and_then board.events made) aside side) =
        λ side. subst (λ xs. StandInFor side xs (line (and_then board.events made) aside side)) (sym (was side))
        (subst (λ xs. StandInFor side (line is_board.stands.history aside side) xs) (sym (now side))
        (stand-in is_board.stands.setup is_board.stands.history is_board.stands.fit contract leg (made-fits board is_board part leg can) aside apart side)) in
        let shut : (arc : Arc) → IsIn arc leg.route → 0 < room board.events (contract_quarters contract) (opposite_arc arc) =
        λ arc i. some-room (part_room board part (opposite_arc arc)) (any-none (λ a. part_room board part (opposite_arc a) == 0) leg.route e arc i) in
        unopened board.grid board.events (and_then board.events made) aside (board-graph board is_board) (stands Buy) (stands Sell)
        (λ arc there some. none-opens board.events contract leg shut (contract_quarters aside) arc some) had_none
