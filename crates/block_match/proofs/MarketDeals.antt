-- A block finds in a book what it finds in the market, and so does a period.
use Rattle.std.proofs.Common.{◌≡◌, ◌∙◌, ℕ, ◌==◌, ◌&&◌, Bool, true, false, List, [], ◌∷◌, filter, find, map, nat_eq, Option, Some, None, if◌then◌else◌, refl, sym, ap, eqb-true}
use Rattle.std.proofs.lemmas.Bool.{and_parts, true≢false}
use Rattle.std.specs.Option.{option_map}
use Rattle.std.specs.Ordering.{is_lt}
use Rattle.order_kinds.specs.declared.side.Side.{Side}
use Rattle.order_kinds.specs.declared.side.Side.TheVariants.{Buy}
use Rattle.order_kinds.specs.Same.{same_side}
use Rattle.order_kinds.specs.Side.{crosses, opposite}
use Rattle.zone_graph.specs.declared.route.Arc.{Arc}
use Rattle.zone_graph.specs.declared.route.RouteLeg.{RouteLeg}
use Rattle.zone_graph.specs.Graph.{Graph}
use Rattle.zone_graph.specs.Route.{IsIn}
use Rattle.zone_graph.proofs.Finding.{find-map, from_find}
use Rattle.zone_graph.proofs.Membership.{from_filter}
use Rattle.block_book.specs.declared.block.RestingBlock.{RestingBlock}
use Rattle.market_model.specs.declared.event.Event.{Event}
use Rattle.market_model.specs.declared.event.Event.TheVariants as event
use Rattle.market_model.specs.declared.setup.Setup.{Setup}
use Rattle.market_model.specs.Blocks.{StandingBlock, block_deal, block_legs, block_partner, block_priority_cmp, block_stands_in, block_time_cmp, can_trade_blocks, carries_whole as all_carried, deal_of_buy as market_deal, is_of_period, resting_block_legs, standing_block}
use Rattle.market_model.specs.Grid.{graph_of}
use Rattle.market_model.specs.Orders.{PlacedBlock, blocks_placed, is_open, left}
use Rattle.market_model.specs.Sweep.{first_answer, or_else}
use Rattle.market_model.specs.WellFormed.{IsHistory, IsMarketSetup}
use Rattle.laws_of_market.proofs.Legs.{opposite-opposite}
use Rattle.laws_of_market.proofs.Members.{from_in_order}
use Rattle.laws_of_market.proofs.Placed.{all_are_sound}
use Rattle.laws_of_market.proofs.Pours.{ArePair}
use Rattle.laws_of_market.proofs.Tests.{same_side-eq}
use Rattle.laws_of_market.proofs.LocalLines.{first_answer-same}
use Rattle.laws_of_market.proofs.Restrict.{find-same}
use Rattle.block_match.specs.declared.deal.BlockDeal.{BlockDeal}
use Rattle.block_match.specs.Deals.{deal_of_buy, deal_with, partner_of, resting_deal}
use Rattle.laws_of_books.specs.BlocksOf.{blocks_of, resting_block}
use Rattle.block_match.specs.Market.{IsMarketDeal, OpenBlocksDealAsInTheMarket, PeriodsDealAsInTheMarket, deal_events, rooms_over}
use Rattle.block_match.specs.Meeting.{can_trade, carries_whole, is_crossed, legs_between}
use Rattle.laws_of_books.proofs.MarketBooks.{block_line-are, line-are, lined}
use Rattle.block_match.proofs.MarketLegs.{carries-are, legs-are}

-- two open blocks that may trade
record AreOpen (events : List Event) (own other : PlacedBlock) : Type 0 where
  own_in : IsIn own (blocks_placed events)
  own_open : is_open events own.name ≡ true
  other_in : IsIn other (blocks_placed events)
  other_open : is_open events other.name ≡ true

turned : (own other : PlacedBlock) → ArePair own other → ArePair other own
turned own other pair = record {
  one_first = sym pair.one_first;
  one_last = sym pair.one_last;
  one_quantity = sym pair.one_quantity;
  opposed = sym (ap opposite pair.opposed ∙ opposite-opposite own.order.side);
}

turned-open : (events : List Event) (own other : PlacedBlock) → AreOpen events own other → AreOpen events other own
turned-open events own other open_both = record {
  own_in = open_both.other_in;
  own_open = open_both.other_open;
  other_in = open_both.own_in;
  other_open = open_both.own_open;
}

module _ (setup : Setup) (is_setup : IsMarketSetup setup) (events : List Event) (history : IsHistory setup events) where
  abbrev graph : Graph
  graph = graph_of setup

  abbrev rested : PlacedBlock → RestingBlock
  rested block = resting_block events block

  abbrev stood : PlacedBlock → StandingBlock
  stood block = standing_block events block

  -- the legs of the market between two blocks are those of the deal of the two
  pair-legs : (taker maker : PlacedBlock) → ArePair taker maker → AreOpen events taker maker
      → block_legs graph (stood taker) (stood maker) events
      ≡ deal_events taker.order.first taker.order.last (deal_with graph (rooms_over events taker.order.first taker.order.last) (rested taker) (rested maker))
  pair-legs taker maker pair are =
      let first : ℕ = taker.order.first in
      let legs : List RouteLeg = legs_between graph (rooms_over events first taker.order.last) (rested taker) (rested maker) in
      let own_hour : taker.name.hour ≡ first = ((all_are_sound setup events history.fit).blocks taker are.own_in).named in
      let other_hour : maker.name.hour ≡ first = ((all_are_sound setup events history.fit).blocks maker are.other_in).named ∙ pair.one_first in
      legs-are setup is_setup events history taker maker pair are.own_in are.own_open are.other_in are.other_open
      ∙ (λ k. map (λ (leg : RouteLeg). event.BlockLeg first taker.order.last (record {
        taker = record { hour = own_hour k; number = taker.name.number };
        maker = record { hour = other_hour k; number = maker.name.number };
        lots = leg.lots;
        price = maker.order.price;
        route = leg.route;
      })) legs)

  -- the same for the two the other way round, in the words of the first one's period
  turned-legs : (own other : PlacedBlock) → ArePair own other → AreOpen events own other
      → block_legs graph (stood other) (stood own) events
      ≡ deal_events own.order.first own.order.last (deal_with graph (rooms_over events own.order.first own.order.last) (rested other) (rested own))
  turned-legs own other pair are =
      pair-legs other own (turned own other pair) (turned-open events own other are)
      ∙ ap (λ h. deal_events h other.order.last (deal_with graph (rooms_over events h other.order.last) (rested other) (rested own))) pair.one_first
      ∙ ap (λ h. deal_events own.order.first h (deal_with graph (rooms_over events own.order.first h) (rested other) (rested own))) pair.one_last

  -- the deal of two resting blocks
  resting-legs : (own other : PlacedBlock) → ArePair own other → AreOpen events own other
      → resting_block_legs graph events (stood own) (stood other)
      ≡ deal_events own.order.first own.order.last (resting_deal graph (rooms_over events own.order.first own.order.last) (rested own) (rested other))
  resting-legs own other pair are =
      go (is_lt (block_time_cmp (stood own) (stood other))) (turned-legs own other pair are) (pair-legs own other pair are)
    where
      go : (b : Bool)
          → block_legs graph (stood other) (stood own) events
          ≡ deal_events own.order.first own.order.last (deal_with graph (rooms_over events own.order.first own.order.last) (rested other) (rested own))
          → block_legs graph (stood own) (stood other) events
          ≡ deal_events own.order.first own.order.last (deal_with graph (rooms_over events own.order.first own.order.last) (rested own) (rested other))
          → (if b then block_legs graph (stood other) (stood own) events else block_legs graph (stood own) (stood other) events)
          ≡ deal_events own.order.first own.order.last
          (if b then deal_with graph (rooms_over events own.order.first own.order.last) (rested other) (rested own)
          else deal_with graph (rooms_over events own.order.first own.order.last) (rested own) (rested other))
      go true e k = e
      go false e k = k

  module _ (own : PlacedBlock) (own_in : IsIn own (blocks_placed events)) (own_open : is_open events own.name ≡ true) where
    abbrev rooms : Arc → ℕ
    rooms = rooms_over events own.order.first own.order.last

    abbrev others : List PlacedBlock
    others = lined events own.order.first own.order.last (opposite own.order.side)

    abbrev can : PlacedBlock → Bool
    can other = can_trade graph rooms (rested own) (rested other)

    -- a block of the opposite line
    record IsMet (other : PlacedBlock) : Type 0 where
      is_in : IsIn other (blocks_placed events)
      opened : is_open events other.name ≡ true
      one_first : other.order.first ≡ own.order.first
      one_last : other.order.last ≡ own.order.last
      opposed : other.order.side ≡ opposite own.order.side

    met : (other : PlacedBlock) → IsIn other others → IsMet other
    met other i =
        let side : Side = opposite own.order.side in
        let stands : PlacedBlock → Bool = block_stands_in events own.order.first own.order.last side in
        let kept = from_filter stands other (blocks_placed events)
        (from_in_order (λ a b. block_priority_cmp side (standing_block events a) (standing_block events b)) other (filter stands (blocks_placed events)) i) in
        let both = and_parts (is_open events other.name && is_of_period own.order.first own.order.last other.order) (same_side other.order.side side) kept.1 in
        let front = and_parts (is_open events other.name) (is_of_period own.order.first own.order.last other.order) both.0 in
        let period = and_parts (nat_eq other.order.first own.order.first) (nat_eq other.order.last own.order.last) front.1 in
        record {
          is_in = kept.0;
          opened = front.0;
          one_first = eqb-true other.order.first own.order.first period.0;
          one_last = eqb-true other.order.last own.order.last period.1;
          opposed = same_side-eq other.order.side side both.1;
        }

    both_open : (other : PlacedBlock) → IsMet other → AreOpen events own other
    both_open other is = record { own_in = own_in; own_open = own_open; other_in = is.is_in; other_open = is.opened }

    paired : (other : PlacedBlock) → IsMet other → (other.order.quantity.0 == own.order.quantity.0) ≡ true → ArePair own other
    paired other is e =
        let lots : other.order.quantity.0 ≡ own.order.quantity.0 = eqb-true other.order.quantity.0 own.order.quantity.0 e in
        record { one_first = is.one_first; one_last = is.one_last; one_quantity = λ k. record { 0 = lots k }; opposed = is.opposed }

    -- what is left of open blocks is all of them
    test-whole : (other : PlacedBlock) → IsMet other → (left events other.name == left events own.name) ≡ (other.order.quantity.0 == own.order.quantity.0)
    test-whole other is =
        ap (λ n. n == left events own.name) (history.whole other is.is_in is.opened)
        ∙ ap (λ n. other.order.quantity.0 == n) (history.whole own own_in own_open)

    -- the block can trade with another in the book where it can in the market
    can-are : (other : PlacedBlock) → IsIn other others → can_trade_blocks graph events (stood own) (stood other) ≡ can other
    can-are other i =
        let is = met other i in
        go is (other.order.quantity.0 == own.order.quantity.0) (crosses own.order.side own.order.price other.order.price) refl
        ∙ ap (λ b. if b && crosses own.order.side own.order.price other.order.price then carries_whole graph rooms (rested own) (rested other) else false) (sym (test-whole other is))
      where
        go : IsMet other → (same cross : Bool) → (other.order.quantity.0 == own.order.quantity.0) ≡ same
            → (if same && cross then all_carried graph events (stood own) (stood other) else false)
            ≡ (if same && cross then carries_whole graph rooms (rested own) (rested other) else false)
        go is true true e =
            carries-are setup is_setup events history own other (paired other is e) own_in own_open is.is_in is.opened
        go is true false e = refl
        go is false cross e = refl

    abbrev partner : Option PlacedBlock
    partner = find can others

    in_market : block_partner graph events (stood own) ≡ option_map stood partner
    unfolding block_partner
    in_market =
        ap (find (can_trade_blocks graph events (stood own))) (block_line-are events own.order.first own.order.last (opposite own.order.side))
        ∙ find-map (can_trade_blocks graph events (stood own)) stood others
        ∙ ap (option_map stood) (find-same (λ other. can_trade_blocks graph events (stood own) (stood other)) can others can-are)

    in_book : partner_of graph rooms (blocks_of events own.order.first) (rested own) ≡ option_map rested partner
    in_book =
        ap (find (can_trade graph rooms (rested own))) (line-are setup events history.fit own.order.first own.order.last (opposite own.order.side))
        ∙ find-map (can_trade graph rooms (rested own)) rested others

    -- the partner and the block are a pair of open blocks
    found-met : (other : PlacedBlock) → partner ≡ Some other → IsMet other
    found-met other e = met other (from_find can other others e).0

    found-pair : (other : PlacedBlock) → partner ≡ Some other → ArePair own other
    found-pair other e =
        paired other (found-met other e)
        (sym (test-whole other (found-met other e))
        ∙ passes (left events other.name == left events own.name) (is_crossed (rested own) (rested other)) (from_find can other others e).1)
      where
        passes : (same cross : Bool) → (if same && cross then carries_whole graph rooms (rested own) (rested other) else false) ≡ true → same ≡ true
        passes true cross k = refl
        passes false cross k = absurd (true≢false (sym k))

    -- what is said of the partner in the market is said of it in the book
    on-partner : {X Y : Type 0} (in_line : StandingBlock → X) (of_deal : Y → X) (deal : RestingBlock → Y)
        → ((other : PlacedBlock) → partner ≡ Some other → in_line (stood other) ≡ of_deal (deal (rested other)))
        → option_map in_line (block_partner graph events (stood own))
        ≡ option_map of_deal (option_map deal (partner_of graph rooms (blocks_of events own.order.first) (rested own)))
    on-partner {X} {Y} in_line of_deal deal same =
        ap (option_map in_line) in_market ∙ go partner refl ∙ ap (λ o. option_map of_deal (option_map deal o)) (sym in_book)
      where
        go : (o : Option PlacedBlock) → partner ≡ o → option_map in_line (option_map stood o) ≡ option_map of_deal (option_map deal (option_map rested o))
        go None e = refl
        go (Some other) e = ap Some (same other e)

    pub open-deal : IsMarketDeal graph events own rooms (blocks_of events own.order.first)
    open-deal = record {
      found = partner;
      in_market = in_market;
      in_book = in_book;
      legs = on-partner (λ maker. block_legs graph (stood own) maker events) (deal_events own.order.first own.order.last) (deal_with graph rooms (rested own))
          (λ other e. pair-legs own other (found-pair other e) (both_open other (found-met other e)));
    }

    buy-deal : market_deal graph events (stood own)
        ≡ option_map (deal_events own.order.first own.order.last) (deal_of_buy graph rooms (blocks_of events own.order.first) (rested own))
    buy-deal =
        on-partner (resting_block_legs graph events (stood own)) (deal_events own.order.first own.order.last) (resting_deal graph rooms (rested own))
        (λ other e. resting-legs own other (found-pair other e) (both_open other (found-met other e)))

pub open_blocks : OpenBlocksDealAsInTheMarket
open_blocks setup events own is_setup history own_in own_open = open-deal setup is_setup events history own own_in own_open

-- ---- the deal of a period

answer-map : {X Y Z : Type 0} (ask : Y → Option Z) (f : X → Y) (xs : List X) → first_answer ask (map f xs) ≡ first_answer (λ x. ask (f x)) xs
answer-map ask f [] = refl
answer-map ask f (x ∷ xs) = ap (λ (rest : Option _). or_else (ask (f x)) (λ _. rest)) (answer-map ask f xs)

answer-of : {X Y Z : Type 0} (ask : X → Option Y) (f : Y → Z) (xs : List X) → first_answer (λ x. option_map f (ask x)) xs ≡ option_map f (first_answer ask xs)
answer-of ask f [] = refl
answer-of {X} {Y} {Z} ask f (x ∷ xs) = go (ask x) (answer-of ask f xs)
  where
    go : (o : Option Y) → first_answer (λ z. option_map f (ask z)) xs ≡ option_map f (first_answer ask xs)
        → or_else (option_map f o) (λ _. first_answer (λ z. option_map f (ask z)) xs) ≡ option_map f (or_else o (λ _. first_answer ask xs))
    go None rest = rest
    go (Some y) rest = refl

pub periods : PeriodsDealAsInTheMarket
unfolding block_deal
periods setup events first last is_setup history =
    let graph : Graph = graph_of setup in
    let buys : List PlacedBlock = lined events first last Buy in
    let book : List RestingBlock = blocks_of events first in
    let ask : RestingBlock → Option BlockDeal = deal_of_buy graph (rooms_over events first last) book in
    ap (first_answer (market_deal graph events)) (block_line-are events first last Buy)
    ∙ answer-map (market_deal graph events) (standing_block events) buys
    ∙ first_answer-same (λ buy. market_deal graph events (standing_block events buy)) (λ buy. option_map (deal_events first last) (ask (resting_block events buy))) buys each
    ∙ answer-of (λ buy. ask (resting_block events buy)) (deal_events first last) buys
    ∙ ap (option_map (deal_events first last)) (sym (answer-map ask (resting_block events) buys) ∙ ap (first_answer ask) (sym (line-are setup events history.fit first last Buy)))
  where
    each : (buy : PlacedBlock) → IsIn buy (lined events first last Buy)
        → market_deal (graph_of setup) events (standing_block events buy)
        ≡ option_map (deal_events first last) (deal_of_buy (graph_of setup) (rooms_over events first last) (blocks_of events first) (resting_block events buy))
    each buy i =
        let stands : PlacedBlock → Bool = block_stands_in events first last Buy in
        let kept = from_filter stands buy (blocks_placed events)
        (from_in_order (λ a b. block_priority_cmp Buy (standing_block events a) (standing_block events b)) buy (filter stands (blocks_placed events)) i) in
        let both = and_parts (is_open events buy.name && is_of_period first last buy.order) (same_side buy.order.side Buy) kept.1 in
        let front = and_parts (is_open events buy.name) (is_of_period first last buy.order) both.0 in
        let period = and_parts (nat_eq buy.order.first first) (nat_eq buy.order.last last) front.1 in
        buy-deal setup is_setup events history buy kept.0 front.0
        ∙ ap (λ h. option_map (deal_events h buy.order.last) (deal_of_buy (graph_of setup) (rooms_over events h buy.order.last) (blocks_of events h) (resting_block events buy)))
        (eqb-true buy.order.first first period.0)
        ∙ ap (λ h. option_map (deal_events first h) (deal_of_buy (graph_of setup) (rooms_over events first h) (blocks_of events first) (resting_block events buy)))
        (eqb-true buy.order.last last period.1)
