-- An hour in which nothing trades is so after an entry and the legs of a deal, where no leg went over an arc
-- whose opposite arc had no room.
use Rattle.std.proofs.Common.{◌≡◌, ◌∙◌, inl, inr, ◌⊎◌, ℕ, ◌||◌, Bool, true, false, not, nat_le, nat_lt, List, [], ◌∷◌, ◌++◌, refl, sym, ap, subst, arith}
use Rattle.std.proofs.lemmas.Bool.{and_parts, leb-true, ltb-true, true≢false}
use Rattle.std.specs.List.{list_any}
use Rattle.order_kinds.specs.declared.contract.Contract.{Contract}
use Rattle.order_kinds.specs.declared.contract.Quarter.{Quarter}
use Rattle.order_kinds.specs.declared.order.BlockOrder.{BlockOrder}
use Rattle.order_kinds.specs.declared.order.OrderName.{OrderName}
use Rattle.order_kinds.specs.Period.{block_has, hour_quarters, is_quarter, is_within, quarter_of}
use Rattle.zone_graph.specs.declared.route.Arc.{Arc}
use Rattle.zone_graph.specs.declared.route.RouteLeg.{RouteLeg}
use Rattle.zone_graph.specs.Graph.{Graph}
use Rattle.zone_graph.specs.Pour.{opposite_arc, uses}
use Rattle.zone_graph.specs.Route.{IsIn}
use Rattle.zone_graph.proofs.Arcs.{IsIn-uses, opposite-twice}
use Rattle.zone_graph.proofs.Membership.{IsIn-map, IsIn-range, from_map}
use Rattle.block_match.specs.declared.deal.BlockDeal.{BlockDeal}
use Rattle.block_match.specs.Market.{deal_events, leg_event}
use Rattle.market_model.specs.declared.event.Event.{Event}
use Rattle.market_model.specs.declared.event.Event.TheVariants as event
use Rattle.market_model.specs.Board.{IsHourOf}
use Rattle.laws_of_market.proofs.Uses.{room-le}
use Rattle.laws_of_boards.specs.Quiet.{IsAside}
use Rattle.laws_of_joint_commands.specs.PeriodRooms.{hour_room}
use Rattle.desk_changes.specs.Quiet.{HasNoLeg}
use Rattle.desk_changes.specs.LegOpenings.{is_shut_back, may_open, opens}
use Rattle.desk_changes.proofs.Hours.{its-graph}
use Rattle.desk_changes.proofs.Staying.{HadRoom, stays-quiet}

-- where no item passes a test none of them does
none-any : {X : Type 0} (p : X → Bool) (xs : List X) → list_any p xs ≡ false → (x : X) → IsIn x xs → p x ≡ false
none-any p [] none x i = absurd i
none-any {X} p (y ∷ ys) none x i = go (p y) refl none i (λ k j. none-any p ys k x j)
  where
    go : (b : Bool) → p y ≡ b → (b || list_any p ys) ≡ false → (x ≡ y) ⊎ IsIn x ys → (list_any p ys ≡ false → IsIn x ys → p x ≡ false) → p x ≡ false
    go true is k j later = absurd (true≢false k)
    go false is k j later = elim j [ inl same ↦ ap p same ∙ is | inr i ↦ later k i ]

-- a test that does not fail
not-false : (b : Bool) → not b ≡ false → b ≡ true
not-false true is = refl
not-false false is = absurd (true≢false is)

-- a quarter of an hour is one of its four
in-four : (hour : ℕ) (quarter : Quarter) → quarter.hour ≡ hour → is_quarter quarter ≡ true → IsIn quarter (hour_quarters hour)
in-four hour quarter in_hour is =
    let both = and_parts (nat_le 1 quarter.number) (nat_le quarter.number 4) is in
    let low = leb-true 1 quarter.number both.0 in
    let high = leb-true quarter.number 4 both.1 in
    subst (λ h. IsIn (quarter_of h quarter.number) (hour_quarters hour)) (sym in_hour)
    (IsIn-map (quarter_of hour) quarter.number (1 ∷ 2 ∷ 3 ∷ 4 ∷ []) (IsIn-range quarter.number 1 4 low (omega (arith, high))))

module _ (hour : ℕ) (events : List Event) where
  abbrev rooms : Arc → ℕ
  rooms = hour_room events hour

  -- a leg over arcs whose opposite arcs had room raises no arc from nothing
  leg-had : (graph : Graph) (first last : ℕ) (deal : BlockDeal) (leg : RouteLeg) → opens rooms leg.route ≡ false
      → HadRoom graph hour events (leg_event first last deal leg)
  leg-had graph first last deal leg shut arc quarter has in_hour is =
      let both = and_parts (block_has first last quarter) (uses leg.route (opposite_arc arc)) is in
      let of_block = and_parts (is_within first last quarter.hour) (is_quarter quarter) both.0 in
      let back : is_shut_back rooms (opposite_arc arc) ≡ false =
      none-any (is_shut_back rooms) leg.route shut (opposite_arc arc) (IsIn-uses leg.route (opposite_arc arc) both.1) in
      let free : not (nat_lt 0 (rooms arc)) ≡ false = subst (λ a. not (nat_lt 0 (rooms a)) ≡ false) (opposite-twice arc) back in
      let some = ltb-true 0 (rooms arc) (not-false (nat_lt 0 (rooms arc)) free) in
      let most = room-le events (hour_quarters hour) arc quarter (in-four hour quarter in_hour of_block.1) in
      omega (arith, some, most)

  legs-had : (graph : Graph) (first last : ℕ) (deal : BlockDeal) → may_open rooms deal.legs ≡ false → (e : Event) → IsIn e (deal_events first last deal)
      → HadRoom graph hour events e
  legs-had graph first last deal none e i =
      let from = from_map (leg_event first last deal) e deal.legs i in
      subst (HadRoom graph hour events) (sym from.2)
      (leg-had graph first last deal from.0 (none-any (λ (leg : RouteLeg). opens rooms leg.route) deal.legs none from.0 from.1))

  legs-aside : (contract : Contract) (first last : ℕ) (deal : BlockDeal) (e : Event) → IsIn e (deal_events first last deal) → IsAside contract e
  legs-aside contract first last deal e i =
      let from = from_map (leg_event first last deal) e deal.legs i in
      subst (IsAside contract) (sym from.2) tt

  -- after a deal
  pub deal-quiet : (graph : Graph) (first last : ℕ) (deal : BlockDeal) → IsHourOf graph hour (events ++ deal_events first last deal) → may_open rooms deal.legs ≡ false
      → HasNoLeg graph hour events → HasNoLeg graph hour (events ++ deal_events first last deal)
  deal-quiet graph first last deal follows none quiet part =
      stays-quiet graph hour events part (its-graph graph hour (events ++ deal_events first last deal) follows) (deal_events first last deal) follows
      (legs-aside (record { hour = hour; part = part }) first last deal) (legs-had graph first last deal none) (quiet part)

  -- after an entry and the legs of its deal
  pub entry-quiet : (graph : Graph) (name : OrderName) (caller : ℕ) (order : BlockOrder) (first last : ℕ) (deal : BlockDeal)
      → IsHourOf graph hour (events ++ event.EnteredBlock name caller order ∷ deal_events first last deal) → may_open rooms deal.legs ≡ false
      → HasNoLeg graph hour events → HasNoLeg graph hour (events ++ event.EnteredBlock name caller order ∷ deal_events first last deal)
  entry-quiet graph name caller order first last deal follows none quiet part =
      let entry : Event = event.EnteredBlock name caller order in
      stays-quiet graph hour events part (its-graph graph hour (events ++ entry ∷ deal_events first last deal) follows) (entry ∷ deal_events first last deal) follows
      (λ e i. elim i [
        | inl is ↦ subst (IsAside (record { hour = hour; part = part })) (sym is) tt
        | inr j ↦ legs-aside (record { hour = hour; part = part }) first last deal e j
      ])
      (λ e i. elim i [
        | inl is ↦ subst (HadRoom graph hour events) (sym is) (λ arc quarter has in_hour k. absurd (true≢false (sym k)))
        | inr j ↦ legs-had graph first last deal none e j
      ])
      (quiet part)
