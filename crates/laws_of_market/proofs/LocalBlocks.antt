-- What happens as blocks enter and are matched depends on the events of their hours alone.
use Rattle.std.proofs.Common.{◌≡◌, ◌∙◌, inl, inr, ℕ, zero, suc, ◌+◌, ◌-◌, ◌≤◌, ◌&&◌, Bool, true, false, List, [], ◌∷◌, ◌++◌, filter, flat_map, length, map, Option, Some, None, nat_eq, eqb-true, eq-eqb, refl, sym, ap, subst, if◌then◌else◌, arith}
use Rattle.std.specs.List.{find}
use Rattle.std.specs.Option.{option_map}
use Rattle.std.specs.Ordering.{is_lt}
use Rattle.std.proofs.lemmas.Bool.{and_parts}
use Rattle.order_kinds.specs.declared.contract.Part.{Part}
use Rattle.order_kinds.specs.declared.contract.Quarter.{Quarter}
use Rattle.order_kinds.specs.declared.order.BlockOrder.{BlockOrder}
use Rattle.order_kinds.specs.declared.order.OrderName.{OrderName}
use Rattle.order_kinds.specs.declared.side.Side.{Side}
use Rattle.order_kinds.specs.declared.side.Side.TheVariants.{Buy}
use Rattle.order_kinds.specs.Period.{block_quarters, hour_quarters, hours_from, quarter_of}
use Rattle.order_kinds.specs.Same.{same_name, same_side}
use Rattle.order_kinds.specs.Side.{crosses, opposite}
use Rattle.zone_graph.specs.declared.route.Arc.{Arc}
use Rattle.zone_graph.specs.declared.route.RouteLeg.{RouteLeg}
use Rattle.zone_graph.specs.Graph.{Graph}
use Rattle.zone_graph.specs.Pour.{pour_leg}
use Rattle.zone_graph.specs.Route.{IsIn}
use Rattle.zone_graph.specs.Steps.{step_and_onward, steps}
use Rattle.zone_graph.proofs.Membership.{from_filter, from_flat_map, from_map, IsIn-range}
use Rattle.market_model.specs.declared.event.Event.{Event}
use Rattle.market_model.specs.declared.event.Event.TheVariants as event
use Rattle.market_model.specs.Blocks.{StandingBlock, block_buyer_zone, block_deal, block_deals, block_leg, block_leg_over, block_legs, block_line, block_partner, block_priority_cmp, block_seller_zone, block_stands_in, block_time_cmp, can_trade_blocks, carries_whole, deal_of_buy, enter_block, entering_block, is_of_period, legs_with, match_blocks, partner_found, resting_block_legs, standing_block, with_block}
use Rattle.market_model.specs.History.{and_then}
use Rattle.market_model.specs.Orders.{PlacedBlock, block_moment, block_placed_by, blocks_placed, enters_block, is_open, last_place, left, next_name, open_block}
use Rattle.market_model.specs.Room.{room}
use Rattle.market_model.specs.Sweep.{first_answer, sweeps}
use Rattle.laws_of_market.proofs.BlockDeals.{IsInBlockLine, block_partner-is, from_block_line}
use Rattle.laws_of_market.proofs.Members.{from_filter_map, from_first_answer}
use Rattle.laws_of_market.proofs.Repeats.{map-some}
use Rattle.laws_of_market.proofs.Tests.{same_name-eq}
use Rattle.laws_of_market.proofs.LocalEntries.{sweeps-agree}
use Rattle.laws_of_market.proofs.LocalLines.{first_answer-same, steps-agree, steps-named}
use Rattle.laws_of_market.proofs.NamedByHour.{AreNamedByHour, IsNamedByHour, named-append}
use Rattle.laws_of_market.proofs.Restrict.{filter-filter, filter-same, find-filter, find-same, map-same}
use Rattle.laws_of_market.proofs.LocalStates.{Agree, agree-append, agree-more, blocks_placed-agree, is_open-agree, left-agree, next_name-agree, room-agree}
use Rattle.zone_graph.specs.InOrder.{in_order}

-- a block that entered is named by its first hour, which is not after its last
pub record IsPeriodNamed (block : PlacedBlock) : Type 0 where
  pub named : block.name.hour ≡ block.order.first
  pub ordered : block.order.first ≤ block.order.last

pub block-named : (events : List Event) → AreNamedByHour events → (block : PlacedBlock) → IsIn block (blocks_placed events) → IsPeriodNamed block
block-named events named block h =
    let x = from_filter_map block_placed_by block events h in by_event x.0 block (named x.0 x.1) x.2
  where
    by_event : (e : Event) (block : PlacedBlock) → IsNamedByHour e → block_placed_by e ≡ Some block → IsPeriodNamed block
    by_event (event.EnteredBlock given caller entering) found own is =
        let same : record { name = given; caller = caller; order = entering } ≡ found = cc in subst IsPeriodNamed same (record { named = own.0; ordered = own.1 })
    by_event _ found own is = absurd (cc)

-- the hours of a block's quarters are those of its period
pub period-hours : (hours : List ℕ) (first last : ℕ) → ((hour : ℕ) → IsIn hour (hours_from first last) → IsIn hour hours)
    → (quarter : Quarter) → IsIn quarter (block_quarters first last) → IsIn quarter.hour hours
period-hours hours first last within quarter i =
    let of_hour = from_flat_map hour_quarters quarter (hours_from first last) i in
    let number = from_map (quarter_of of_hour.0) quarter (1 ∷ 2 ∷ 3 ∷ 4 ∷ []) of_hour.2 in
    subst (λ n. IsIn n hours) (ap (λ (q : Quarter). q.hour) (sym number.2)) (within of_hour.0 of_hour.1)

pub first-in : (first last : ℕ) → first ≤ last → IsIn first (hours_from first last)
first-in first last order = IsIn-range first first (last + 1 - first) (omega arith) (omega arith)

module _ (hours : List ℕ) (a b : List Event) (agree : Agree hours a b) where
  abbrev in_hour : ℕ → PlacedBlock → Bool
  in_hour hour block = nat_eq block.name.hour hour

  pub standing_block-agree : (block : PlacedBlock) → IsIn block.name.hour hours → standing_block a block ≡ standing_block b block
  standing_block-agree block h =
      let rest = left-agree hours a b agree block.name h in
      let time : block_moment a block ≡ block_moment b block = ap (last_place (enters_block block)) (agree.same block.name.hour h) in
      λ i. record { name = block.name; order = block.order; left = rest i; moment = time i }

  blocks_stand-agree : (first last : ℕ) (side : Side) → IsIn first hours
      → filter (block_stands_in a first last side) (blocks_placed a) ≡ filter (block_stands_in b first last side) (blocks_placed b)
  blocks_stand-agree first last side h =
      sym (filter-filter (block_stands_in a first last side) (in_hour first) (blocks_placed a) (λ block i s. in_its_hour a agree.named_a block i s))
      ∙ filter-same (block_stands_in a first last side) (block_stands_in b first last side) (filter (in_hour first) (blocks_placed a)) (λ block i.
      let hour = eqb-true block.name.hour first (from_filter (in_hour first) block (blocks_placed a) i).1 in
      ap (λ t. t && is_of_period first last block.order && same_side block.order.side side)
      (is_open-agree hours a b agree block.name (subst (λ n. IsIn n hours) (sym hour) h)))
      ∙ ap (filter (block_stands_in b first last side)) (blocks_placed-agree hours a b agree first h)
      ∙ filter-filter (block_stands_in b first last side) (in_hour first) (blocks_placed b) (λ block i s. in_its_hour b agree.named_b block i s)
    where
      in_its_hour : (events : List Event) → AreNamedByHour events → (block : PlacedBlock) → IsIn block (blocks_placed events) → block_stands_in events first last side block ≡ true
          → in_hour first block ≡ true
      in_its_hour events named block i s =
          let both = and_parts (is_open events block.name && is_of_period first last block.order) (same_side block.order.side side) s in
          let front = and_parts (is_open events block.name) (is_of_period first last block.order) both.0 in
          let period = and_parts (nat_eq block.order.first first) (nat_eq block.order.last last) front.1 in
          eq-eqb block.name.hour first ((block-named events named block i).named ∙ eqb-true block.order.first first period.0)

  pub block_line-agree : (first last : ℕ) (side : Side) → IsIn first hours → block_line a first last side ≡ block_line b first last side
  unfolding block_line
  block_line-agree first last side h =
      ap (in_order (block_priority_cmp side)) (map-same (standing_block a) (standing_block b) (filter (block_stands_in a first last side) (blocks_placed a)) (λ block i.
      let passes = from_filter (block_stands_in a first last side) block (blocks_placed a) i in
      let both = and_parts (is_open a block.name && is_of_period first last block.order) (same_side block.order.side side) passes.1 in
      let front = and_parts (is_open a block.name) (is_of_period first last block.order) both.0 in
      let period = and_parts (nat_eq block.order.first first) (nat_eq block.order.last last) front.1 in
      let hour = (block-named a agree.named_a block passes.0).named ∙ eqb-true block.order.first first period.0 in
      standing_block-agree block (subst (λ n. IsIn n hours) (sym hour) h))
      ∙ ap (map (standing_block b)) (blocks_stand-agree first last side h))

-- a leg of a pour is one of the two blocks
pub record IsMade (own other : StandingBlock) (e : Event) : Type 0 where
  pub leg : RouteLeg
  pub is : block_leg_over own other leg ≡ e

pub block_leg-made : (graph : Graph) (own other : StandingBlock) (events : List Event) (e : Event) → block_leg graph own other events ≡ Some e → IsMade own other e
unfolding block_leg
block_leg-made graph own other events e is =
    let made = map-some (block_leg_over own other) (pour_leg graph (room events (block_quarters own.order.first own.order.last))
    (block_seller_zone own other) (block_buyer_zone own other) (left events own.name)) e is in
    record { leg = made.0; is = made.2 }

-- two blocks as they stand, of one period that is all within some hours
pub record ArePeriodNamed (hours : List ℕ) (own other : StandingBlock) : Type 0 where
  pub own_named : own.name.hour ≡ own.order.first
  pub other_named : other.name.hour ≡ own.order.first
  pub ordered : own.order.first ≤ own.order.last
  pub within : (hour : ℕ) → IsIn hour (hours_from own.order.first own.order.last) → IsIn hour hours

module _ (hours : List ℕ) (graph : Graph) (own other : StandingBlock) (named : ArePeriodNamed hours own other) where
  own_in : IsIn own.name.hour hours
  own_in = subst (λ n. IsIn n hours) (sym named.own_named) (named.within own.order.first (first-in own.order.first own.order.last named.ordered))

  block_leg-agree : (a b : List Event) → Agree hours a b → block_leg graph own other a ≡ block_leg graph own other b
  unfolding block_leg
  block_leg-agree a b agree =
      let quarters : List Quarter = block_quarters own.order.first own.order.last in
      ap (λ (rooms : Arc → ℕ). option_map (block_leg_over own other) (pour_leg graph rooms (block_seller_zone own other) (block_buyer_zone own other) (left a own.name)))
      (room-agree hours a b agree quarters (period-hours hours own.order.first own.order.last named.within))
      ∙ ap (λ n. option_map (block_leg_over own other) (pour_leg graph (room b quarters) (block_seller_zone own other) (block_buyer_zone own other) n))
      (left-agree hours a b agree own.name own_in)

  pub block_leg-named : (events : List Event) (e : Event) → AreNamedByHour events → block_leg graph own other events ≡ Some e → IsNamedByHour e
  unfolding block_leg
  block_leg-named events e are is =
      let made = map-some (block_leg_over own other) (pour_leg graph (room events (block_quarters own.order.first own.order.last))
      (block_seller_zone own other) (block_buyer_zone own other) (left events own.name)) e is in
      subst IsNamedByHour made.2 (named.own_named, named.other_named, named.ordered)

  pub block_legs-agree : (a b : List Event) → Agree hours a b → block_legs graph own other a ≡ block_legs graph own other b
  unfolding block_legs
  block_legs-agree a b agree =
      steps-agree hours (left a own.name) (block_leg graph own other) block_leg-agree block_leg-named a b agree
      ∙ ap (λ n. steps n (block_leg graph own other) and_then b) (left-agree hours a b agree own.name own_in)

  pub block_legs-named : (events : List Event) → AreNamedByHour events → AreNamedByHour (block_legs graph own other events)
  unfolding block_legs
  block_legs-named events are = steps-named (left events own.name) (block_leg graph own other) block_leg-named events are

  pub carries_whole-agree : (a b : List Event) → Agree hours a b → carries_whole graph a own other ≡ carries_whole graph b own other
  carries_whole-agree a b agree =
      let legs : List Event = block_legs graph own other a in
      let after = agree-append hours a b legs agree (block_legs-named a agree.named_a) in
      ap (λ n. nat_eq n 0) (left-agree hours (a ++ legs) (b ++ legs) after own.name own_in)
      ∙ ap (λ l. nat_eq (left (b ++ l) own.name) 0) (block_legs-agree a b agree)

-- a block as it stands, whose period is all within some hours
pub record IsWithin (hours : List ℕ) (own : StandingBlock) : Type 0 where
  pub own_named : own.name.hour ≡ own.order.first
  pub ordered : own.order.first ≤ own.order.last
  pub within : (hour : ℕ) → IsIn hour (hours_from own.order.first own.order.last) → IsIn hour hours

-- with a block of the opposite line of its period it is a pair
pair-named : (hours : List ℕ) (events : List Event) (own other : StandingBlock) (side : Side) → AreNamedByHour events → IsWithin hours own
    → IsInBlockLine events own.order.first own.order.last side other → ArePeriodNamed hours own other
pair-named hours events own other side named is_within in_line = record {
  own_named = is_within.own_named;
  other_named = ap (λ (s : StandingBlock). s.name.hour) in_line.is ∙ (block-named events named in_line.block in_line.is_open.is_placed).named ∙ in_line.of_first;
  ordered = is_within.ordered;
  within = is_within.within;
}

module _ (hours : List ℕ) (a b : List Event) (agree : Agree hours a b) (graph : Graph) where
  pub block_partner-agree : (own : StandingBlock) → IsWithin hours own → block_partner graph a own ≡ block_partner graph b own
  unfolding block_partner
  block_partner-agree own is_within =
      let side : Side = opposite own.order.side in
      let first_in = is_within.within own.order.first (first-in own.order.first own.order.last is_within.ordered) in
      find-same (can_trade_blocks graph a own) (can_trade_blocks graph b own) (block_line a own.order.first own.order.last side) (λ other i.
      let pair = pair-named hours a own other side agree.named_a is_within (from_block_line a own.order.first own.order.last side other i) in
      ap (λ t. if nat_eq other.order.quantity.0 own.order.quantity.0 && crosses own.order.side own.order.price other.order.price then t else false)
      (carries_whole-agree hours graph own other pair a b agree))
      ∙ ap (find (can_trade_blocks graph b own)) (block_line-agree hours a b agree own.order.first own.order.last side first_in)

  -- a partner that is found, with its block, is a pair either way round
  pub partner-pair : (own found : StandingBlock) → IsWithin hours own → block_partner graph a own ≡ Some found → ArePeriodNamed hours own found
  partner-pair own found is_within is =
      pair-named hours a own found (opposite own.order.side) agree.named_a is_within (block_partner-is graph a own found is).in_line

  pub partner-turned : (own found : StandingBlock) → IsWithin hours own → block_partner graph a own ≡ Some found → ArePeriodNamed hours found own
  partner-turned own found is_within is =
      let in_line = (block_partner-is graph a own found is).in_line in
      let pair = partner-pair own found is_within is in
      let first : found.order.first ≡ own.order.first = ap (λ (s : StandingBlock). s.order.first) in_line.is ∙ in_line.of_first in
      let last : found.order.last ≡ own.order.last = ap (λ (s : StandingBlock). s.order.last) in_line.is ∙ in_line.of_last in
      record {
        own_named = pair.other_named ∙ sym first;
        other_named = pair.own_named ∙ sym first;
        ordered = rw (first, last) pair.ordered;
        within = rw (first, last) pair.within;
      }

  -- the legs of a buy with its partner
  deal_of_buy-agree : (buy : StandingBlock) → IsWithin hours buy → deal_of_buy graph a buy ≡ deal_of_buy graph b buy
  deal_of_buy-agree buy is_within =
      go (block_partner graph a buy) refl ∙ ap (option_map (resting_block_legs graph b buy)) (block_partner-agree buy is_within)
    where
      go : (o : Option StandingBlock) → block_partner graph a buy ≡ o → option_map (resting_block_legs graph a buy) o ≡ option_map (resting_block_legs graph b buy) o
      go None is = refl
      go (Some found) is = ap Some
          (ap (λ l. if is_lt (block_time_cmp buy found) then l else block_legs graph buy found a) (block_legs-agree hours graph found buy (partner-turned buy found is_within is) a b agree)
          ∙ ap (λ l. if is_lt (block_time_cmp buy found) then block_legs graph found buy b else l) (block_legs-agree hours graph buy found (partner-pair buy found is_within is) a b agree))

  deal_of_buy-named : (buy : StandingBlock) (deal : List Event) → IsWithin hours buy → deal_of_buy graph a buy ≡ Some deal → AreNamedByHour deal
  deal_of_buy-named buy deal is_within is =
      let found = map-some (resting_block_legs graph a buy) (block_partner graph a buy) deal is in
      subst AreNamedByHour found.2 (elim (is_lt (block_time_cmp buy found.0))
      as (λ t. AreNamedByHour (if t then block_legs graph found.0 buy a else block_legs graph buy found.0 a)) [
        | true ↦ block_legs-named hours graph found.0 buy (partner-turned buy found.0 is_within found.1) a agree.named_a
        | false ↦ block_legs-named hours graph buy found.0 (partner-pair buy found.0 is_within found.1) a agree.named_a
      ])

  -- what stands in the buy line of a period is within it
  pub line-within : (first last : ℕ) (buy : StandingBlock) → ((hour : ℕ) → IsIn hour (hours_from first last) → IsIn hour hours) → IsIn buy (block_line a first last Buy) → IsWithin hours buy
  line-within first last buy within i =
      let in_line = from_block_line a first last Buy buy i in
      let named = block-named a agree.named_a in_line.block in_line.is_open.is_placed in
      let first_is : buy.order.first ≡ first = ap (λ (s : StandingBlock). s.order.first) in_line.is ∙ in_line.of_first in
      let last_is : buy.order.last ≡ last = ap (λ (s : StandingBlock). s.order.last) in_line.is ∙ in_line.of_last in
      record {
        own_named = ap (λ (s : StandingBlock). s.name.hour) in_line.is ∙ named.named ∙ ap (λ (s : StandingBlock). s.order.first) (sym in_line.is);
        ordered = subst (λ (s : StandingBlock). s.order.first ≤ s.order.last) (sym in_line.is) named.ordered;
        within = rw (first_is, last_is) within;
      }

  pub block_deal-agree : (first last : ℕ) → IsIn first hours → ((hour : ℕ) → IsIn hour (hours_from first last) → IsIn hour hours)
      → block_deal graph first last a ≡ block_deal graph first last b
  unfolding block_deal
  block_deal-agree first last h within =
      first_answer-same (deal_of_buy graph a) (deal_of_buy graph b) (block_line a first last Buy) (λ buy i. deal_of_buy-agree buy (line-within first last buy within i))
      ∙ ap (first_answer (deal_of_buy graph b)) (block_line-agree hours a b agree first last Buy h)

  pub block_deal-named : (first last : ℕ) (deal : List Event) → ((hour : ℕ) → IsIn hour (hours_from first last) → IsIn hour hours)
      → block_deal graph first last a ≡ Some deal → AreNamedByHour deal
  unfolding block_deal
  block_deal-named first last deal within is =
      let buy = from_first_answer (deal_of_buy graph a) deal (block_line a first last Buy) is in
      deal_of_buy-named buy.0 deal (line-within first last buy.0 within buy.1) buy.2

-- ---- several deals, and blocks that enter

-- deals that agree, from histories that agree
deals-agree : (hours : List ℕ) (most : ℕ) (step : List Event → Option (List Event))
    → ((a b : List Event) → Agree hours a b → step a ≡ step b)
    → ((a b : List Event) (deal : List Event) → Agree hours a b → step a ≡ Some deal → AreNamedByHour deal)
    → (a b : List Event) → Agree hours a b → steps most step (λ before deal. before ++ deal) a ≡ steps most step (λ before deal. before ++ deal) b
unfolding steps
deals-agree hours zero step same named a b agree = refl
deals-agree hours (suc most) step same named a b agree =
    go (λ deal own. deals-agree hours most step same named (a ++ deal) (b ++ deal) (agree-append hours a b deal agree own)) (step a) refl
    ∙ ap (λ o. step_and_onward o (λ deal. steps most step (λ before more. before ++ more) (b ++ deal))) (same a b agree)
  where
    go : ((deal : List Event) → AreNamedByHour deal → steps most step (λ before more. before ++ more) (a ++ deal) ≡ steps most step (λ before more. before ++ more) (b ++ deal))
        → (o : Option (List Event)) → step a ≡ o
        → step_and_onward o (λ deal. steps most step (λ before more. before ++ more) (a ++ deal)) ≡ step_and_onward o (λ deal. steps most step (λ before more. before ++ more) (b ++ deal))
    go onward None is = refl
    go onward (Some deal) is = ap (λ rest. deal ∷ rest) (onward deal (named a b deal agree is))

-- what deals make is named by its hours
deals-named : (most : ℕ) (step : List Event → Option (List Event))
    → ((events : List Event) (deal : List Event) → AreNamedByHour events → step events ≡ Some deal → AreNamedByHour deal)
    → (events : List Event) → AreNamedByHour events → AreNamedByHour (flat_map (λ deal. deal) (steps most step (λ before deal. before ++ deal) events))
unfolding steps
deals-named zero step named events are = λ e h. absurd h
deals-named (suc most) step named events are =
    go (λ deal own. deals-named most step named (events ++ deal) (named-append events deal are own)) (step events) refl
  where
    go : ((deal : List Event) → AreNamedByHour deal → AreNamedByHour (flat_map (λ d. d) (steps most step (λ before more. before ++ more) (events ++ deal))))
        → (o : Option (List Event)) → step events ≡ o → AreNamedByHour (flat_map (λ d. d) (step_and_onward o (λ deal. steps most step (λ before more. before ++ more) (events ++ deal))))
    go onward None is = λ e h. absurd h
    go onward (Some deal) is =
        let own = named events deal are is in
        named-append deal (flat_map (λ d. d) (steps most step (λ before more. before ++ more) (events ++ deal))) own (onward deal own)

-- a history agrees with itself
pub agree-itself : (hours : List ℕ) (events : List Event) → AreNamedByHour events → Agree hours events events
agree-itself hours events named = record { named_a = named; named_b = named; same = λ hour h. refl }

module _ (hours : List ℕ) (graph : Graph) (first last : ℕ) (h : IsIn first hours) (within : (hour : ℕ) → IsIn hour (hours_from first last) → IsIn hour hours) where
  pub block_deals-agree : (a b : List Event) → Agree hours a b → block_deals graph first last a ≡ block_deals graph first last b
  unfolding block_deals
  block_deals-agree a b agree =
      deals-agree hours (length (block_line a first last Buy)) (block_deal graph first last) (λ x y same. block_deal-agree hours x y same graph first last h within)
      (λ x y deal same is. block_deal-named hours x y same graph first last deal within is) a b agree
      ∙ ap (λ l. steps (length l) (block_deal graph first last) (λ before deal. before ++ deal) b) (block_line-agree hours a b agree first last Buy h)

  pub block_deals-named : (events : List Event) → AreNamedByHour events → AreNamedByHour (flat_map (λ deal. deal) (block_deals graph first last events))
  unfolding block_deals
  block_deals-named events named =
      deals-named (length (block_line events first last Buy)) (block_deal graph first last)
      (λ xs deal are is. block_deal-named hours xs xs (agree-itself hours xs are) graph first last deal within is) events named

  pub match_blocks-agree : (parts : List Part) (a b : List Event) → Agree hours a b → match_blocks parts graph first last a ≡ match_blocks parts graph first last b
  unfolding match_blocks
  match_blocks-agree parts a b agree =
      let legs : List Event = flat_map (λ deal. deal) (block_deals graph first last a) in
      ap (λ rest. legs ++ rest) (sweeps-agree hours parts graph (hours_from first last) (a ++ legs) (b ++ legs)
      (agree-append hours a b legs agree (block_deals-named a agree.named_a)) within)
      ∙ ap (λ deals. flat_map (λ deal. deal) deals ++ sweeps parts graph (hours_from first last) (b ++ flat_map (λ deal. deal) deals)) (block_deals-agree a b agree)

module _ (hours : List ℕ) (a b : List Event) (agree : Agree hours a b) (graph : Graph) (caller : ℕ) (order : BlockOrder) (ordered : order.first ≤ order.last)
    (within : (hour : ℕ) → IsIn hour (hours_from order.first order.last) → IsIn hour hours) where
  first_in : IsIn order.first hours
  first_in = within order.first (first-in order.first order.last ordered)

  abbrev block_entry : Event
  block_entry = event.EnteredBlock (next_name a order.first) caller order

  block_names : next_name a order.first ≡ next_name b order.first
  block_names = next_name-agree hours a b agree order.first first_in

  pub with_block-agree : Agree hours (with_block a caller order) (with_block b caller order)
  with_block-agree =
      subst (λ (n : OrderName). Agree hours (with_block a caller order) (and_then b (event.EnteredBlock n caller order))) block_names
      (agree-more hours a b block_entry agree (refl, ordered))

  entering_block-agree : entering_block a caller order ≡ entering_block b caller order
  entering_block-agree =
      standing_block-agree hours (with_block a caller order) (with_block b caller order) with_block-agree (record { name = next_name a order.first; caller = caller; order = order }) first_in
      ∙ ap (λ (n : OrderName). standing_block (with_block b caller order) (record { name = n; caller = caller; order = order })) block_names

  pub entering-within : IsWithin hours (entering_block a caller order)
  entering-within = record { own_named = refl; ordered = ordered; within = within }

  pub partner_found-agree : partner_found graph a caller order ≡ partner_found graph b caller order
  partner_found-agree =
      block_partner-agree hours (with_block a caller order) (with_block b caller order) with_block-agree graph (entering_block a caller order) entering-within
      ∙ ap (block_partner graph (with_block b caller order)) entering_block-agree

  -- the legs with the partner that is found
  abbrev pub legs_found : List Event → List Event
  legs_found events = legs_with graph (with_block events caller order) (entering_block events caller order) (partner_found graph events caller order)

  legs_found-agree : legs_found a ≡ legs_found b
  legs_found-agree =
      go (partner_found graph a caller order) refl
      ∙ ap (λ s. legs_with graph (with_block b caller order) s (partner_found graph a caller order)) entering_block-agree
      ∙ ap (legs_with graph (with_block b caller order) (entering_block b caller order)) partner_found-agree
    where
      go : (o : Option StandingBlock) → partner_found graph a caller order ≡ o
          → legs_with graph (with_block a caller order) (entering_block a caller order) o ≡ legs_with graph (with_block b caller order) (entering_block a caller order) o
      go None is = refl
      go (Some found) is =
          block_legs-agree hours graph (entering_block a caller order) found
          (partner-pair hours (with_block a caller order) (with_block b caller order) with_block-agree graph (entering_block a caller order) found entering-within is)
          (with_block a caller order) (with_block b caller order) with_block-agree

  legs_found-named : AreNamedByHour (legs_found a)
  legs_found-named = go (partner_found graph a caller order) refl
    where
      go : (o : Option StandingBlock) → partner_found graph a caller order ≡ o
          → AreNamedByHour (legs_with graph (with_block a caller order) (entering_block a caller order) o)
      go None is = λ e h. absurd h
      go (Some found) is =
          block_legs-named hours graph (entering_block a caller order) found
          (partner-pair hours (with_block a caller order) (with_block b caller order) with_block-agree graph (entering_block a caller order) found entering-within is)
          (with_block a caller order) with_block-agree.named_a

  -- the events of a block that enters, before its sweeps
  abbrev pub entered_before : List Event → List Event
  entered_before events = (event.EnteredBlock (next_name events order.first) caller order ∷ []) ++ legs_found events

  pub entered_before-named : AreNamedByHour (entered_before a)
  entered_before-named =
      named-append (block_entry ∷ []) (legs_found a) (λ e i. elim i [ inl s ↦ subst IsNamedByHour (sym s) (refl, ordered) | inr k ↦ absurd k ]) legs_found-named

  entered_before-agree : entered_before a ≡ entered_before b
  entered_before-agree =
      ap (λ (n : OrderName). (event.EnteredBlock n caller order ∷ []) ++ legs_found a) block_names
      ∙ ap (λ l. (event.EnteredBlock (next_name b order.first) caller order ∷ []) ++ l) legs_found-agree

  pub enter_block-agree : (parts : List Part) → enter_block parts graph caller order a ≡ enter_block parts graph caller order b
  unfolding enter_block
  enter_block-agree parts =
      ap (λ rest. entered_before a ++ rest) (sweeps-agree hours parts graph (hours_from order.first order.last) (a ++ entered_before a) (b ++ entered_before a)
      (agree-append hours a b (entered_before a) agree entered_before-named) within)
      ∙ ap (λ done. done ++ sweeps parts graph (hours_from order.first order.last) (b ++ done)) entered_before-agree

-- the open block of a name
pub open_block-agree : (hours : List ℕ) (a b : List Event) → Agree hours a b → (name : OrderName) → IsIn name.hour hours → open_block a name ≡ open_block b name
open_block-agree hours a b agree name h =
    let of_a : PlacedBlock → Bool = λ block. same_name block.name name && is_open a block.name in
    let of_b : PlacedBlock → Bool = λ block. same_name block.name name && is_open b block.name in
    let in_hour : PlacedBlock → Bool = λ block. nat_eq block.name.hour name.hour in
    sym (find-filter of_a in_hour (blocks_placed a) (λ block i s. named_so a block s))
    ∙ find-same of_a of_b (filter in_hour (blocks_placed a)) (λ block i.
    let hour = eqb-true block.name.hour name.hour (from_filter in_hour block (blocks_placed a) i).1 in
    ap (λ t. same_name block.name name && t) (is_open-agree hours a b agree block.name (subst (λ n. IsIn n hours) (sym hour) h)))
    ∙ ap (find of_b) (blocks_placed-agree hours a b agree name.hour h)
    ∙ find-filter of_b in_hour (blocks_placed b) (λ block i s. named_so b block s)
  where
    named_so : (events : List Event) (block : PlacedBlock) → (same_name block.name name && is_open events block.name) ≡ true → nat_eq block.name.hour name.hour ≡ true
    named_so events block s =
        let both = and_parts (same_name block.name name) (is_open events block.name) s in
        eq-eqb block.name.hour name.hour (ap (λ (n : OrderName). n.hour) (same_name-eq block.name name both.0))
