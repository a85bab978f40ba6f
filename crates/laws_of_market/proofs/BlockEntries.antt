-- What happens as blocks enter and are matched leaves a history well-formed.
use Rattle.std.proofs.Common.{◌≡◌, ◌∙◌, inl, ℕ, ◌<◌, ◌&&◌, Bool, true, false, List, [], ◌∷◌, ◌++◌, append_assoc, filter, flat_map, length, map, Option, Some, None, nat_lt, refl, sym, ap, subst, if◌then◌else◌, arith}
use Rattle.std.proofs.lemmas.Bool.{lt-ltb, and_parts, and_from}
use Rattle.std.proofs.lemmas.List.{append-nil, length-map}
use Rattle.std.specs.Ordering.{is_lt}
use Rattle.order_kinds.specs.declared.contract.Part.{Part}
use Rattle.order_kinds.specs.declared.order.BlockOrder.{BlockOrder}
use Rattle.order_kinds.specs.declared.order.OrderName.{OrderName}
use Rattle.order_kinds.specs.declared.price.Lots.{Lots}
use Rattle.order_kinds.specs.declared.side.Side.TheVariants.{Buy}
use Rattle.order_kinds.specs.Order.{block_fault}
use Rattle.order_kinds.specs.Period.{hours_from, is_within}
use Rattle.order_kinds.specs.Same.{same_side}
use Rattle.order_kinds.specs.Side.{opposite}
use Rattle.zone_graph.specs.Graph.{HasZone}
use Rattle.zone_graph.specs.Steps.{steps}
use Rattle.market_model.specs.declared.event.Event.{Event}
use Rattle.market_model.specs.declared.event.Event.TheVariants as event
use Rattle.market_model.specs.declared.setup.Setup.{Setup}
use Rattle.market_model.specs.Blocks.{AreBlockDeals, IsBlockPour, StandingBlock, block_priority_cmp, block_stands_in, block_deal, block_deals, block_legs, block_line, block_partner, block_time_cmp, deal_of_buy, enter_block, entering_block, is_of_period, legs_with, match_blocks, partner_found, resting_block_legs, standing_block}
use Rattle.market_model.specs.Grid.{graph_of}
use Rattle.market_model.specs.Orders.{PlacedBlock, block_placed_by, blocks_placed, is_open, left, next_name}
use Rattle.market_model.specs.Rules.{is_block_period}
use Rattle.market_model.specs.Sweep.{sweeps}
use Rattle.market_model.specs.WellFormed.{BlockEnters, IsHistory, IsMarketSetup}
use Rattle.laws_of_market.proofs.BlockDeals.{IsBlockPartner, IsInBlockLine, IsOpenNow, block_partner-is, deal-dealt, from_block_line, pour-start}
use Rattle.laws_of_market.proofs.Counts.{fewer-lt, length-in_order}
use Rattle.laws_of_market.proofs.Entries.{sweeps-history}
use Rattle.laws_of_market.proofs.Legs.{opposite-opposite}
use Rattle.laws_of_market.proofs.Members.{IsIn-filter_map, from_first_answer}
use Rattle.laws_of_market.proofs.Pours.{ArePair, pour-keeps, pour-run}
use Rattle.laws_of_market.proofs.Repeats.{fold-deals, map-some, run-kept, steps-keep}
use Rattle.laws_of_market.proofs.Roles.{same_pour}
use Rattle.laws_of_market.proofs.Soundness.{block_fault-none, lots_in_range-bounds}
use Rattle.laws_of_market.proofs.Wholes.{history-more, new_block-whole}
use Rattle.zone_graph.proofs.Membership.{IsIn-right}

module _ (setup : Setup) (is_setup : IsMarketSetup setup) (events : List Event) (history : IsHistory setup events) where
  -- a deal of a block: the history is well-formed, the block is closed, and whatever is open was open
  -- before
  pub record ClosesBlock (own : PlacedBlock) (after : List Event) : Type 0 where
    pub well_formed : IsHistory setup after
    pub blocks : blocks_placed after ≡ blocks_placed events
    pub closed : left after own.name ≡ 0
    pub opens : (name : OrderName) → is_open after name ≡ true → is_open events name ≡ true

  -- the legs of an open block with its partner are such a deal
  pub partner_legs-close : (own : PlacedBlock) (found : StandingBlock) → IsOpenNow events own → IsBlockPartner (graph_of setup) events (standing_block events own) found
      → ClosesBlock own (events ++ block_legs (graph_of setup) (standing_block events own) found events)
  partner_legs-close own found own_open is_partner =
      let other = is_partner.in_line in
      let pair : ArePair own other.block = record {
        one_first = other.of_first;
        one_last = other.of_last;
        one_quantity = ap (λ (b : StandingBlock). b.order.quantity) (sym other.is) ∙ is_partner.one_quantity;
        opposed = other.on_side;
      } in
      let kept = pour-keeps setup is_setup events own other.block (standing_block events own) found pair own_open.is_placed other.is_open.is_placed refl refl
      (ap (λ (b : StandingBlock). b.name) other.is) (ap (λ (b : StandingBlock). b.order) other.is) events
      (pour-start setup is_setup events history own other.block pair own_open other.is_open) in
      let dealt = deal-dealt setup is_setup events history own other.block pair own_open other.is_open
      (events ++ block_legs (graph_of setup) (standing_block events own) found events) kept is_partner.carried in
      record { well_formed = dealt.well_formed; blocks = dealt.blocks; closed = dealt.taker_closed; opens = dealt.opens }

  -- and a run: each is the next one, and after the last there is none
  pub partner_legs-run : (own : PlacedBlock) (found : StandingBlock) → IsOpenNow events own → block_partner (graph_of setup) events (standing_block events own) ≡ Some found
      → IsBlockPour (graph_of setup) (standing_block events own) found events (block_legs (graph_of setup) (standing_block events own) found events)
  partner_legs-run own found own_open is =
      let is_partner = block_partner-is (graph_of setup) events (standing_block events own) found is in
      let other = is_partner.in_line in
      let pair : ArePair own other.block = record {
        one_first = other.of_first;
        one_last = other.of_last;
        one_quantity = ap (λ (b : StandingBlock). b.order.quantity) (sym other.is) ∙ is_partner.one_quantity;
        opposed = other.on_side;
      } in
      pour-run setup is_setup events own other.block (standing_block events own) found pair own_open.is_placed other.is_open.is_placed refl refl
      (ap (λ (b : StandingBlock). b.name) other.is) (ap (λ (b : StandingBlock). b.order) other.is) events
      (pour-start setup is_setup events history own other.block pair own_open other.is_open)

  -- so are the legs the other way round, with the partner as the taker
  pub partner_taker-close : (own : PlacedBlock) (found : StandingBlock) → IsOpenNow events own → IsBlockPartner (graph_of setup) events (standing_block events own) found
      → ClosesBlock own (events ++ block_legs (graph_of setup) found (standing_block events own) events)
  partner_taker-close own found own_open is_partner =
      let other = is_partner.in_line in
      let its_name : found.name ≡ other.block.name = ap (λ (b : StandingBlock). b.name) other.is in
      let its_order : found.order ≡ other.block.order = ap (λ (b : StandingBlock). b.order) other.is in
      let quantity : other.block.order.quantity ≡ own.order.quantity = ap (λ (b : StandingBlock). b.order.quantity) (sym other.is) ∙ is_partner.one_quantity in
      let side : own.order.side ≡ opposite other.block.order.side = sym (ap opposite other.on_side ∙ opposite-opposite own.order.side) in
      let pair : ArePair other.block own = record {
        one_first = sym other.of_first;
        one_last = sym other.of_last;
        one_quantity = sym quantity;
        opposed = side;
      } in
      let lots : left events own.name ≡ left events found.name =
      history.whole own own_open.is_placed own_open.is_left ∙ ap (λ (q : Lots). q.0) (sym quantity)
      ∙ sym (history.whole other.block other.is_open.is_placed other.is_open.is_left) ∙ ap (left events) (sym its_name) in
      let carried : left (events ++ block_legs (graph_of setup) found (standing_block events own) events) found.name ≡ 0 =
      sym (same_pour (graph_of setup) (standing_block events own) found (ap (λ (o : BlockOrder). o.first) its_order ∙ other.of_first)
      (ap (λ (o : BlockOrder). o.last) its_order ∙ other.of_last) (ap (λ (o : BlockOrder). o.side) its_order ∙ other.on_side) events lots)
      ∙ is_partner.carried in
      let kept = pour-keeps setup is_setup events other.block own found (standing_block events own) pair other.is_open.is_placed own_open.is_placed its_name its_order
      refl refl events (pour-start setup is_setup events history other.block own pair other.is_open own_open) in
      let dealt = deal-dealt setup is_setup events history other.block own pair other.is_open own_open
      (events ++ block_legs (graph_of setup) found (standing_block events own) events) kept
      (ap (left (events ++ block_legs (graph_of setup) found (standing_block events own) events)) (sym its_name) ∙ carried) in
      record { well_formed = dealt.well_formed; blocks = dealt.blocks; closed = dealt.maker_closed; opens = dealt.opens }

  -- so are the legs of two resting blocks
  resting-close : (own : PlacedBlock) (found : StandingBlock) → IsOpenNow events own → IsBlockPartner (graph_of setup) events (standing_block events own) found
      → ClosesBlock own (events ++ resting_block_legs (graph_of setup) events (standing_block events own) found)
  resting-close own found own_open is_partner =
      elim (is_lt (block_time_cmp (standing_block events own) found))
      as (λ b. ClosesBlock own (events ++ (if b then block_legs (graph_of setup) found (standing_block events own) events else block_legs (graph_of setup) (standing_block events own) found events))) [
        | true ↦ partner_taker-close own found own_open is_partner
        | false ↦ partner_legs-close own found own_open is_partner
      ]

  -- the next deal of a period closes a block of its buy line
  pub record IsNextDeal (first last : ℕ) (deal : List Event) : Type 0 where
    pub buy : StandingBlock
    pub in_line : IsInBlockLine events first last Buy buy
    pub closes : ClosesBlock in_line.block (events ++ deal)

  pub deal_step-closes : (first last : ℕ) (deal : List Event) → block_deal (graph_of setup) first last events ≡ Some deal → IsNextDeal first last deal
  unfolding block_deal
  deal_step-closes first last deal is =
      let buy = from_first_answer (deal_of_buy (graph_of setup) events) deal (block_line events first last Buy) is in
      let in_line = from_block_line events first last Buy buy.0 buy.1 in
      let at_block = subst (λ b. deal_of_buy (graph_of setup) events b ≡ Some deal) in_line.is buy.2 in
      let other = map-some (resting_block_legs (graph_of setup) events (standing_block events in_line.block))
      (block_partner (graph_of setup) events (standing_block events in_line.block)) deal at_block in
      record {
        buy = buy.0;
        in_line = in_line;
        closes = subst (λ d. ClosesBlock in_line.block (events ++ d)) other.2
            (resting-close in_line.block other.0 in_line.is_open (block_partner-is (graph_of setup) events (standing_block events in_line.block) other.0 other.1));
      }

-- what a block needs to enter, besides its name
pub record MayEnterBlock (setup : Setup) (caller : ℕ) (order : BlockOrder) : Type 0 where
  pub of_caller : caller < length setup.callers
  pub from_hour : is_within 1 setup.hours order.first ≡ true
  pub to_hour : is_within 1 setup.hours order.last ≡ true
  pub of_period : is_block_period order.first order.last ≡ true
  pub in_zone : HasZone (graph_of setup) order.zone
  pub sound : block_fault order ≡ None

-- so it enters under the next name of its first hour
pub block-may-enters : (setup : Setup) (caller : ℕ) (order : BlockOrder) (events : List Event) → MayEnterBlock setup caller order
    → BlockEnters setup events (next_name events order.first) caller order
block-may-enters setup caller order events may = record {
  named = refl;
  of_caller = may.of_caller;
  from_hour = may.from_hour;
  to_hour = may.to_hour;
  of_period = may.of_period;
  in_zone = may.in_zone;
  sound = may.sound;
}

-- how many blocks stand in a buy line
block_line-length : (events : List Event) (first last : ℕ) → length (block_line events first last Buy) ≡ length (filter (block_stands_in events first last Buy) (blocks_placed events))
unfolding block_line
block_line-length events first last =
    length-in_order (block_priority_cmp Buy) (map (standing_block events) (filter (block_stands_in events first last Buy) (blocks_placed events)))
    ∙ length-map (filter (block_stands_in events first last Buy) (blocks_placed events)) (standing_block events)

-- a block that stands in the line after a deal stood in it before
stood_too : (before deal : List Event) (first last : ℕ) (block : PlacedBlock) → ((name : OrderName) → is_open (before ++ deal) name ≡ true → is_open before name ≡ true)
    → block_stands_in (before ++ deal) first last Buy block ≡ true → block_stands_in before first last Buy block ≡ true
stood_too before deal first last block opens e =
    let both = and_parts (is_open (before ++ deal) block.name && is_of_period first last block.order) (same_side block.order.side Buy) e in
    let front = and_parts (is_open (before ++ deal) block.name) (is_of_period first last block.order) both.0 in
    and_from (is_open before block.name && is_of_period first last block.order) (same_side block.order.side Buy)
    (and_from (is_open before block.name) (is_of_period first last block.order) (opens block.name front.0) front.1) both.1

module _ (setup : Setup) (is_setup : IsMarketSetup setup) where
  -- the deals of a period leave a history well-formed
  pub deals-history : (first last : ℕ) (events : List Event) → IsHistory setup events
      → IsHistory setup (events ++ flat_map (λ deal. deal) (block_deals (graph_of setup) first last events))
  unfolding block_deals
  deals-history first last events history =
      let deals : List (List Event) = steps (length (block_line events first last Buy)) (block_deal (graph_of setup) first last) (λ history deal. history ++ deal) events in
      subst (IsHistory setup) (fold-deals events deals)
      (steps-keep (length (block_line events first last Buy)) (block_deal (graph_of setup) first last) (λ history deal. history ++ deal) (IsHistory setup)
      (λ before deal kept is. (deal_step-closes setup is_setup before kept first last deal is).closes.well_formed) events history)

  -- so does matching the blocks of a period
  pub match_blocks-history : (parts : List Part) (first last : ℕ) (events : List Event) → IsHistory setup events
      → IsHistory setup (events ++ match_blocks parts (graph_of setup) first last events)
  unfolding match_blocks
  match_blocks-history parts first last events history =
      let legs : List Event = flat_map (λ deal. deal) (block_deals (graph_of setup) first last events) in
      subst (IsHistory setup) (append_assoc events legs (sweeps parts (graph_of setup) (hours_from first last) (events ++ legs)))
      (sweeps-history setup is_setup parts (hours_from first last) (events ++ legs) (deals-history first last events history))

  -- the legs of an entering block, where it finds a partner
  legs_with-history : (start : List Event) (own : PlacedBlock) (found : Option StandingBlock) → IsHistory setup start → IsOpenNow start own
      → block_partner (graph_of setup) start (standing_block start own) ≡ found
      → IsHistory setup (start ++ legs_with (graph_of setup) start (standing_block start own) found)
  legs_with-history start own None history own_open is = subst (IsHistory setup) (sym (append-nil start)) history
  legs_with-history start own (Some maker) history own_open is =
      (partner_legs-close setup is_setup start history own maker own_open (block_partner-is (graph_of setup) start (standing_block start own) maker is)).well_formed

  -- a block that enters leaves a history well-formed
  pub enter_block-history : (parts : List Part) (caller : ℕ) (order : BlockOrder) (events : List Event) → MayEnterBlock setup caller order → IsHistory setup events
      → IsHistory setup (events ++ enter_block parts (graph_of setup) caller order events)
  unfolding enter_block
  enter_block-history parts caller order events may history =
      let name : OrderName = next_name events order.first in
      let entered : Event = event.EnteredBlock name caller order in
      let entry : List Event = entered ∷ [] in
      let block : PlacedBlock = record { name = name; caller = caller; order = order } in
      let may_fit = block-may-enters setup caller order events may in
      let start = history-more setup events entered history may_fit tt in
      let whole : left (events ++ entry) name ≡ order.quantity.0 = new_block-whole setup events history.fit block entered may_fit refl in
      let some = (lots_in_range-bounds order.quantity (block_fault-none order may.sound).quantity).0 in
      let opened : IsOpenNow (events ++ entry) block = record {
        is_placed = IsIn-filter_map block_placed_by entered block (events ++ entry) (IsIn-right entered events entry (inl refl)) refl;
        is_left = lt-ltb 0 (left (events ++ entry) name) (omega arith);
      } in
      let legs : List Event = legs_with (graph_of setup) (events ++ entry) (entering_block events caller order) (partner_found (graph_of setup) events caller order) in
      let dealt = legs_with-history (events ++ entry) block (partner_found (graph_of setup) events caller order) start opened refl in
      let done : List Event = entry ++ legs in
      let all = subst (IsHistory setup) (append_assoc events entry legs) dealt in
      subst (IsHistory setup) (append_assoc events done (sweeps parts (graph_of setup) (hours_from order.first order.last) (events ++ done)))
      (sweeps-history setup is_setup parts (hours_from order.first order.last) (events ++ done) all)

  -- the deals of a period are a run: each is the next one, and after the last there is none
  pub deals-run : (first last : ℕ) (events : List Event) → IsHistory setup events → AreBlockDeals (graph_of setup) first last events (block_deals (graph_of setup) first last events)
  unfolding block_deals
  deals-run first last events history =
      run-kept (length (block_line events first last Buy)) (block_deal (graph_of setup) first last) (λ before deal. before ++ deal) (λ before. length (block_line before first last Buy))
      (IsHistory setup) (λ before deal kept is. let next = deal_step-closes setup is_setup before kept first last deal is in (next.closes.well_formed, shorter before deal kept next))
      events history (omega arith)
    where
      shorter : (before deal : List Event) (kept : IsHistory setup before) → IsNextDeal setup is_setup before kept first last deal
          → length (block_line (before ++ deal) first last Buy) < length (block_line before first last Buy)
      shorter before deal kept next =
          let block = next.in_line.block in
          let stood : PlacedBlock → Bool = block_stands_in before first last Buy in
          let stands : PlacedBlock → Bool = block_stands_in (before ++ deal) first last Buy in
          let less : length (filter stands (blocks_placed before)) < length (filter stood (blocks_placed before)) =
          fewer-lt stands stood (blocks_placed before) block next.in_line.is_open.is_placed (λ b h e. stood_too before deal first last b next.closes.opens e)
          next.in_line.stands (ap (λ n. nat_lt 0 n && is_of_period first last block.order && same_side block.order.side Buy) next.closes.closed) in
          rw (block_line-length (before ++ deal) first last, block_line-length before first last, next.closes.blocks) less
