-- What is counted of a well-formed history, event by event, is what its schedule shows.
use Rattle.std.proofs.Common.{◌≡◌, ◌∙◌, ◌+◌, ◌==◌, ◌&&◌, ℕ, Bool, true, false, List, [], ◌∷◌, ◌++◌, Some, refl, sym, ap, ap₂, subst, arith}
use Rattle.std.specs.List.{sum_by}
use Rattle.std.proofs.Math.Seq.{append_snoc}
use Rattle.std.proofs.lemmas.List.Sums.{sum_by-cons}
use Rattle.order_kinds.specs.declared.contract.Contract.{Contract}
use Rattle.order_kinds.specs.declared.contract.Quarter.{Quarter}
use Rattle.order_kinds.specs.declared.side.Side.{Side}
use Rattle.order_kinds.specs.declared.side.Side.TheVariants.{Buy, Sell}
use Rattle.order_kinds.specs.Period.{block_has, contract_has}
use Rattle.order_kinds.specs.Side.{opposite}
use Rattle.zone_graph.specs.Pour.{lots_if}
use Rattle.market_model.specs.declared.event.Event.{Event}
use Rattle.market_model.specs.declared.event.Event.TheVariants as event
use Rattle.market_model.specs.declared.event.Leg.{Leg}
use Rattle.market_model.specs.declared.setup.Setup.{Setup}
use Rattle.market_model.specs.History.{and_then}
use Rattle.market_model.specs.WellFormed.{BlockLegFits, FitAfter, Fits, LegFits}
use Rattle.laws_of_market.proofs.Growing.{fit-front}
use Rattle.laws_of_market.proofs.Names.{names-once}
use Rattle.laws_of_market.proofs.Placed.{all_are_sound}
use Rattle.ship_schedule.specs.declared.period.Period.{Period}
use Rattle.ship_schedule.specs.declared.period.Period.TheVariants as period
use Rattle.ship_schedule.specs.Rows.{is_number}
use Rattle.ship_schedule.specs.Schedule.{traded_by}
use Rattle.ship_schedule.specs.Tally.{leg_lots, party_lots, party_of, position_lots, sells, sum_along}
use Rattle.ship_schedule.proofs.Evened.{block_bought_in, block_sold_in, bought_in, sold_in}
use Rattle.ship_schedule.proofs.Known.{Knows, block_party, knows, order_party}
use Rattle.ship_schedule.proofs.Parties.{buyer_by, seller_by}

-- ---- of a taker and a maker one sells

-- the side on which sales are counted, and the other
abbrev pub side_of : (selling : Bool) → Side
side_of true = Sell
side_of false = Buy

first_alone : (has a b : Bool) (lots : ℕ) → lots_if (has && (a && true)) lots + lots_if (has && (b && false)) lots ≡ lots_if (has && a) lots
first_alone true true true lots = omega arith
first_alone true true false lots = omega arith
first_alone true false true lots = omega arith
first_alone true false false lots = omega arith
first_alone false a b lots = omega arith

second_alone : (has a b : Bool) (lots : ℕ) → lots_if (has && (a && false)) lots + lots_if (has && (b && true)) lots ≡ lots_if (has && b) lots
second_alone true true true lots = omega arith
second_alone true true false lots = omega arith
second_alone true false true lots = omega arith
second_alone true false false lots = omega arith
second_alone false a b lots = omega arith

module _ {X : Type 0} (zone : X → ℕ) (taker maker : X) (has : Bool) (place lots : ℕ) where
  -- the lots of both, where sales are counted or purchases
  abbrev both : (own its : Side) → Bool → ℕ
  both own its selling = lots_if (has && is_number (zone taker) (sells own) place selling) lots + lots_if (has && is_number (zone maker) (sells its) place selling) lots

  pub seller_lots : (own its : Side) → its ≡ opposite own → both own its true ≡ lots_if (has && (zone (seller_by taker maker own) == place)) lots
  seller_lots Sell Buy e = first_alone has (zone taker == place) (zone maker == place) lots
  seller_lots Buy Sell e = second_alone has (zone taker == place) (zone maker == place) lots
  seller_lots Buy Buy e = absurd (cc)
  seller_lots Sell Sell e = absurd (cc)

  pub buyer_lots : (own its : Side) → its ≡ opposite own → both own its false ≡ lots_if (has && (zone (buyer_by taker maker own) == place)) lots
  buyer_lots Buy Sell e = first_alone has (zone taker == place) (zone maker == place) lots
  buyer_lots Sell Buy e = second_alone has (zone taker == place) (zone maker == place) lots
  buyer_lots Buy Buy e = absurd (cc)
  buyer_lots Sell Sell e = absurd (cc)

-- ---- one event

module _ (setup : Setup) (all : List Event) (fit : FitAfter setup [] all) (place : ℕ) (quarter : Quarter) where
  module _ (before more : List Event) (is : all ≡ before ++ more) (known : Knows before) where
    leg-is : (contract : Contract) (leg : Leg) → LegFits setup before contract leg → (selling : Bool)
        → leg_lots (period.Contract contract) quarter place selling before leg ≡ traded_by all (side_of selling) place quarter (event.Leg contract leg)
    leg-is contract leg fits selling =
        ap₂ (λ taker maker. party_lots own quarter place selling leg.lots taker + party_lots own quarter place selling leg.lots maker)
        (ap (party_of before) (sym fits.taker_open.is_named) ∙ known.orders fits.taker fits.taker_open.is_placed)
        (ap (party_of before) (sym fits.maker_open.is_named) ∙ known.orders fits.maker fits.maker_open.is_placed)
        ∙ by selling
      where
        own : Period
        own = period.Contract contract

        by : (sale : Bool) → party_lots (period.Contract contract) quarter place sale leg.lots (Some (order_party fits.taker))
            + party_lots (period.Contract contract) quarter place sale leg.lots (Some (order_party fits.maker))
            ≡ traded_by all (side_of sale) place quarter (event.Leg contract leg)
        by true =
            seller_lots (λ order. order.order.zone) fits.taker fits.maker (contract_has contract quarter) place leg.lots fits.taker.order.side fits.maker.order.side fits.opposed
            ∙ ap (λ b. lots_if (contract_has contract quarter && b) leg.lots)
            (sym (sold_in setup all before more is (names-once setup all fit) (all_are_sound setup all fit) contract leg fits place))
        by false =
            buyer_lots (λ order. order.order.zone) fits.taker fits.maker (contract_has contract quarter) place leg.lots fits.taker.order.side fits.maker.order.side fits.opposed
            ∙ ap (λ b. lots_if (contract_has contract quarter && b) leg.lots)
            (sym (bought_in setup all before more is (names-once setup all fit) (all_are_sound setup all fit) contract leg fits place))

    block_leg-is : (first last : ℕ) (leg : Leg) → BlockLegFits setup before first last leg → (selling : Bool)
        → leg_lots (period.Hours first last) quarter place selling before leg ≡ traded_by all (side_of selling) place quarter (event.BlockLeg first last leg)
    block_leg-is first last leg fits selling =
        ap₂ (λ taker maker. party_lots (period.Hours first last) quarter place selling leg.lots taker + party_lots (period.Hours first last) quarter place selling leg.lots maker)
        (ap (party_of before) (sym fits.taker_open.is_named) ∙ known.blocks fits.taker fits.taker_open.is_placed)
        (ap (party_of before) (sym fits.maker_open.is_named) ∙ known.blocks fits.maker fits.maker_open.is_placed)
        ∙ by selling
      where
        by : (sale : Bool) → party_lots (period.Hours first last) quarter place sale leg.lots (Some (block_party fits.taker))
            + party_lots (period.Hours first last) quarter place sale leg.lots (Some (block_party fits.maker))
            ≡ traded_by all (side_of sale) place quarter (event.BlockLeg first last leg)
        by true =
            seller_lots (λ block. block.order.zone) fits.taker fits.maker (block_has first last quarter) place leg.lots fits.taker.order.side fits.maker.order.side fits.opposed
            ∙ ap (λ b. lots_if (block_has first last quarter && b) leg.lots)
            (sym (block_sold_in setup all before more is (names-once setup all fit) (all_are_sound setup all fit) first last leg fits place))
        by false =
            buyer_lots (λ block. block.order.zone) fits.taker fits.maker (block_has first last quarter) place leg.lots fits.taker.order.side fits.maker.order.side fits.opposed
            ∙ ap (λ b. lots_if (block_has first last quarter && b) leg.lots)
            (sym (block_bought_in setup all before more is (names-once setup all fit) (all_are_sound setup all fit) first last leg fits place))

    event-is : (e : Event) → Fits setup before e → (selling : Bool) → position_lots quarter place selling before e ≡ traded_by all (side_of selling) place quarter e
    event-is (event.Leg contract leg) fits selling = leg-is contract leg fits selling
    event-is (event.BlockLeg first last leg) fits selling = block_leg-is first last leg fits selling
    event-is _ fits selling = refl

  -- the events from some place on
  pub positions-are : (selling : Bool) (before more : List Event) → all ≡ before ++ more → FitAfter setup before more
      → sum_along (position_lots quarter place selling) before more ≡ sum_by (traded_by all (side_of selling) place quarter) more
  positions-are selling before [] is fits = refl
  positions-are selling before (e ∷ more) is fits =
      let known = knows setup before (fit-front setup [] before (e ∷ more) (subst (FitAfter setup []) is fit)) in
      omega (
        arith,
        event-is before (e ∷ more) is known e fits.0 selling,
        positions-are selling (and_then before e) more (is ∙ sym (append_snoc before e more)) fits.1,
        sum_by-cons (traded_by all (side_of selling) place quarter) e more,
      )
