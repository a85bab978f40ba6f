-- A deal of two blocks closes both, and its events are all of its period.
use Rattle.std.proofs.Common.{◌≡◌, ◌∙◌, inl, inr, ℕ, zero, suc, Bool, true, false, List, [], ◌∷◌, ◌++◌, map, Option, Some, None, eqb-true, refl, sym, ap, subst, if◌then◌else◌, arith}
use Rattle.std.proofs.lemmas.Bool.{ltb-true}
use Rattle.std.proofs.lemmas.List.{append-nil}
use Rattle.order_kinds.specs.declared.order.OrderName.{OrderName}
use Rattle.order_kinds.specs.Period.{is_within}
use Rattle.zone_graph.specs.declared.route.RouteLeg.{RouteLeg}
use Rattle.zone_graph.specs.Graph.{Graph}
use Rattle.zone_graph.specs.Route.{IsIn}
use Rattle.zone_graph.specs.Steps.{step_and_onward, steps}
use Rattle.market_model.specs.declared.event.Event.{Event}
use Rattle.market_model.specs.declared.event.Event.TheVariants as event
use Rattle.market_model.specs.declared.event.Leg.{Leg}
use Rattle.market_model.specs.declared.setup.Setup.{Setup}
use Rattle.market_model.specs.Blocks.{StandingBlock, block_leg, block_legs, standing_block}
use Rattle.market_model.specs.History.{and_then, of_hour}
use Rattle.market_model.specs.Orders.{PlacedBlock, is_open, left}
use Rattle.market_model.specs.WellFormed.{IsHistory, IsMarketSetup}
use Rattle.laws_of_market.proofs.BlockDeals.{IsOpenNow, deal-dealt, pour-start}
use Rattle.laws_of_market.proofs.Pours.{ArePair, pour-keeps}
use Rattle.laws_of_market.proofs.LocalBlocks.{IsMade, block_leg-made}
use Rattle.laws_of_books.specs.DealLaws.{IsDeal, with_deal}
use Rattle.block_match.specs.declared.deal.BlockDeal.{BlockDeal}
use Rattle.block_match.specs.Market.{deal_events, leg_event}

-- ---- what a deal leaves

-- after some events nothing is left of two blocks, and the history is well-formed
pub record ClosesBoth (setup : Setup) (after : List Event) (taker maker : OrderName) : Type 0 where
  pub well_formed : IsHistory setup after
  pub taker_left : left after taker ≡ 0
  pub maker_left : left after maker ≡ 0

pub deal-closes : (setup : Setup) → IsMarketSetup setup → (start : List Event) → IsHistory setup start → (taker maker : PlacedBlock) → IsDeal setup start taker maker
    → ClosesBoth setup (with_deal setup start taker maker) taker.name maker.name
deal-closes setup is_setup start history taker maker deal =
    let pair : ArePair taker maker = record { one_first = deal.one_first; one_last = deal.one_last; one_quantity = deal.one_quantity; opposed = deal.opposed } in
    let taker_open : IsOpenNow start taker = record { is_placed = deal.taker_open.is_placed; is_left = deal.taker_open.is_left } in
    let maker_open : IsOpenNow start maker = record { is_placed = deal.maker_open.is_placed; is_left = deal.maker_open.is_left } in
    let after : List Event = with_deal setup start taker maker in
    let kept = pour-keeps setup is_setup start taker maker (standing_block start taker) (standing_block start maker) pair taker_open.is_placed maker_open.is_placed refl refl refl refl
    start (pour-start setup is_setup start history taker maker pair taker_open maker_open) in
    let dealt = deal-dealt setup is_setup start history taker maker pair taker_open maker_open after kept (eqb-true (left after taker.name) 0 deal.whole) in
    record { well_formed = dealt.well_formed; taker_left = dealt.taker_closed; maker_left = dealt.maker_closed }

-- ---- which blocks a deal names

-- each leg of a pour is one of the two blocks
steps-made : (own other : StandingBlock) (most : ℕ) (step : List Event → Option Event) → ((events : List Event) (e : Event) → step events ≡ Some e → IsMade own other e)
    → (events : List Event) (e : Event) → IsIn e (steps most step and_then events) → IsMade own other e
unfolding steps
steps-made own other zero step made events e i = absurd i
steps-made own other (suc most) step made events e i =
    go (λ f. steps-made own other most step made (and_then events f) e) (step events) refl i
  where
    go : ((f : Event) → IsIn e (steps most step and_then (and_then events f)) → IsMade own other e)
        → (o : Option Event) → step events ≡ o → IsIn e (step_and_onward o (λ f. steps most step and_then (and_then events f))) → IsMade own other e
    go onward None is k = absurd k
    go onward (Some f) is k = elim k [
      | inl same ↦ subst (IsMade own other) (sym same) (made events f is)
      | inr j ↦ onward f j
    ]

legs-made : (graph : Graph) (own other : StandingBlock) (events : List Event) (e : Event) → IsIn e (block_legs graph own other events) → IsMade own other e
unfolding block_legs
legs-made graph own other events e i =
    steps-made own other (left events own.name) (block_leg graph own other) (λ before f is. block_leg-made graph own other before f is) events e i

-- the leg of an event of blocks
abbrev leg_of : Leg → Event → Leg
leg_of none (event.BlockLeg first last leg) = leg
leg_of none _ = none

-- where the legs of two blocks are a deal's and take all of the one that takes, the deal names the two
pub record AreNamed (first : ℕ) (deal : BlockDeal) (taker maker : StandingBlock) : Type 0 where
  pub taker_is : taker.name ≡ record { hour = first; number = deal.taker }
  pub maker_is : maker.name ≡ record { hour = first; number = deal.maker }

pub deal-named : (graph : Graph) (first last : ℕ) (deal : BlockDeal) (taker maker : StandingBlock) (start : List Event)
    → block_legs graph taker maker start ≡ deal_events first last deal → is_open start taker.name ≡ true → left (start ++ block_legs graph taker maker start) taker.name ≡ 0
    → AreNamed first deal taker maker
deal-named graph first last deal taker maker start same opened closed = go deal.legs refl
  where
    go : (legs : List RouteLeg) → deal.legs ≡ legs → AreNamed first deal taker maker
    go [] none =
        let nothing : block_legs graph taker maker start ≡ [] = same ∙ ap (map (leg_event first last deal)) none in
        let some = ltb-true 0 (left start taker.name) opened in
        let all : left start taker.name ≡ 0 = ap (λ es. left es taker.name) (sym (append-nil start) ∙ ap (λ es. start ++ es) (sym nothing)) ∙ closed in
        absurd (omega (arith, some, all))
    go (leg ∷ legs) some =
        let e : Event = leg_event first last deal leg in
        let there : IsIn e (block_legs graph taker maker start) =
        subst (IsIn e) (sym (same ∙ ap (map (leg_event first last deal)) some)) (inl refl) in
        let made = legs-made graph taker maker start e there in
        let traded : Leg = leg_of (record { taker = taker.name; maker = maker.name; lots = 0; price = deal.price; route = [] }) e in
        let legs_same = ap (leg_of traded) made.is in
        record { taker_is = ap (λ (l : Leg). l.taker) legs_same; maker_is = ap (λ (l : Leg). l.maker) legs_same }

-- ---- the hours of a deal

-- one choice of two that are the same
pub same-both : {X : Type 0} (x : X) (t : Bool) → x ≡ (if t then x else x)
same-both x true = refl
same-both x false = refl

-- what an hour has of a deal: all of it or nothing
pub deal-hours : (first last : ℕ) (deal : BlockDeal) (hour : ℕ) → of_hour hour (deal_events first last deal) ≡ (if is_within first last hour then deal_events first last deal else [])
deal-hours first last deal hour = by (is_within first last hour) refl
  where
    each : (t : Bool) → is_within first last hour ≡ t → (legs : List RouteLeg)
        → of_hour hour (map (leg_event first last deal) legs) ≡ (if t then map (leg_event first last deal) legs else [])
    each true is [] = refl
    each false is [] = refl
    each true is (leg ∷ legs) = rw is (ap (λ es. leg_event first last deal leg ∷ es) (each true is legs))
    each false is (leg ∷ legs) = rw is (each false is legs)

    by : (t : Bool) → is_within first last hour ≡ t → of_hour hour (deal_events first last deal) ≡ (if t then deal_events first last deal else [])
    by t is = each t is deal.legs
