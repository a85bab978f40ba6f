-- The walk along the buys of a period: each so far has no partner, and the next one is tried.
use Rattle.std.proofs.Common.{◌≡◌, ◌∙◌, ◌<◌, ℕ, ◌==◌, ◌&&◌, Bool, true, false, List, ◌∷◌, length, Option, Some, None, IfSome, IsSome, if◌then◌else◌, refl, sym, ap, subst, eqb-true}
use Rattle.std.proofs.lemmas.Bool.{true≢false}
use Rattle.std.specs.Option.{option_map}
use Rattle.order_kinds.specs.declared.side.Side.{Side}
use Rattle.order_kinds.specs.declared.side.Side.TheVariants.{Buy, Sell}
use Rattle.order_kinds.specs.Side.{opposite}
use Rattle.zone_graph.specs.declared.route.Arc.{Arc}
use Rattle.zone_graph.specs.declared.route.RouteLeg.{RouteLeg}
use Rattle.zone_graph.specs.Graph.{Graph, HasZone}
use Rattle.zone_graph.specs.Route.{IsIn}
use Rattle.zone_graph.proofs.Finding.{from_find, map-none}
use Rattle.block_book.specs.declared.block.RestingBlock.{RestingBlock}
use Rattle.block_book.specs.Book.{IsBook, after_in, block_of, first_of, line_of}
use Rattle.market_model.specs.Sweep.{first_answer, or_else}
use Rattle.block_match.specs.declared.partner.Partner.{Partner}
use Rattle.block_match.specs.Deals.{deal_of_buy, is_earlier, partner_of, resting_deal}
use Rattle.block_match.specs.Meeting.{HaveZones, can_trade, carries_whole, is_crossed, legs_between}
use Rattle.block_match.specs.Walking.{deal_over, from_block, partner_with_legs, resting_deal_over, with_legs}
use Rattle.block_match.proofs.Partners.{in-book, line-differ, line-in, line-last, line-side, number_of}
use Rattle.zone_graph.proofs.Walks.{GoesOn, StandsAt, fewer, goes-on, stands-at, stands-in}

answers-here : {X Y : Type 0} (ask : X → Option Y) (x : X) (xs : List X) (y : Y) → ask x ≡ Some y → first_answer ask (x ∷ xs) ≡ Some y
answers-here ask x xs y e = ap (λ o. or_else o (λ _. first_answer ask xs)) e

answers-later : {X Y : Type 0} (ask : X → Option Y) (x : X) (xs : List X) → ask x ≡ None → first_answer ask (x ∷ xs) ≡ first_answer ask xs
answers-later ask x xs e = ap (λ o. or_else o (λ _. first_answer ask xs)) e

-- a partner is on the other side, and of the same quantity
pub record IsPartner (own other : RestingBlock) : Type 0 where
  pub opposed : other.side ≡ opposite own.side
  pub one_quantity : other.quantity ≡ own.quantity

pub partner-meets : (graph : Graph) (room : Arc → ℕ) (book : List RestingBlock) (own other : RestingBlock) → partner_of graph room book own ≡ Some other → IsPartner own other
partner-meets graph room book own other e =
    let found = from_find (can_trade graph room own) other (line_of book own.last (opposite own.side)) e in
    record {
      opposed = line-side book own.last (opposite own.side) other found.0;
      one_quantity = eqb-true other.quantity own.quantity (passes (other.quantity == own.quantity) (is_crossed own other) found.1);
    }
  where
    passes : (same cross : Bool) → (if same && cross then carries_whole graph room own other else false) ≡ true → same ≡ true
    passes true cross k = refl
    passes false cross k = absurd (true≢false (sym k))

-- the legs between two such blocks are the same, whichever of them is named first
pub legs-either : (graph : Graph) (room : Arc → ℕ) (own other : RestingBlock) → IsPartner own other → legs_between graph room other own ≡ legs_between graph room own other
legs-either graph room own other meets = go own.side other.side refl refl meets.opposed
  where
    go : (side its : Side) → own.side ≡ side → other.side ≡ its → its ≡ opposite side → legs_between graph room other own ≡ legs_between graph room own other
    go Buy Buy e k o = absurd (cc)
    go Buy Sell e k o = rw (e, k, meets.one_quantity) refl
    go Sell Buy e k o = rw (e, k, meets.one_quantity) refl
    go Sell Sell e k o = absurd (cc)

-- the deal of two blocks over the legs between them
dealt : (graph : Graph) (room : Arc → ℕ) (buy sell : RestingBlock) → IsPartner buy sell → resting_deal_over buy sell (legs_between graph room buy sell) ≡ resting_deal graph room buy sell
dealt graph room buy sell meets =
    ap (λ (legs : List RouteLeg). if is_earlier buy sell then deal_over sell buy legs else deal_over buy sell (legs_between graph room buy sell)) (sym (legs-either graph room buy sell meets))

module _ (graph : Graph) (room : Arc → ℕ) (book : List RestingBlock) (buy : RestingBlock) where
  -- the deal of a buy that has a partner, and of one that has none
  pub buy-deals : (found : Partner) → partner_with_legs graph room book buy ≡ Some found → deal_of_buy graph room book buy ≡ Some (resting_deal_over buy found.block found.legs)
  buy-deals found = go (partner_of graph room book buy) refl
    where
      go : (o : Option RestingBlock) → partner_of graph room book buy ≡ o → option_map (with_legs graph room buy) o ≡ Some found
          → option_map (resting_deal graph room buy) o ≡ Some (resting_deal_over buy found.block found.legs)
      go None e k = absurd (cc)
      go (Some sell) e k =
          let same : with_legs graph room buy sell ≡ found = cc in
          ap Some (sym (dealt graph room buy sell (partner-meets graph room book buy sell e)) ∙ ap (λ (p : Partner). resting_deal_over buy p.block p.legs) same)

  pub buy-has_none : partner_with_legs graph room book buy ≡ None → deal_of_buy graph room book buy ≡ None
  buy-has_none none =
      ap (option_map (resting_deal graph room buy)) (map-none (with_legs graph room buy) (partner_of graph room book buy) none)

module _ (graph : Graph) (room : Arc → ℕ) (book : List RestingBlock) (last : ℕ) (sound : IsBook book) (found : Option RestingBlock)
    (stands : found ≡ first_of (from_block (line_of book last Buy) found))
    (onward : first_answer (deal_of_buy graph room book) (from_block (line_of book last Buy) found) ≡ first_answer (deal_of_buy graph room book) (line_of book last Buy)) where
  module _ (buy : RestingBlock) (is : found ≡ Some buy) where
    at : StandsAt number_of (line_of book last Buy) buy
    at = stands-at number_of (line_of book last Buy) found buy is stands

    in_line : IsIn buy (line_of book last Buy)
    in_line = stands-in number_of (line_of book last Buy) buy at

    pub buys-known : block_of book buy.number ≡ Some buy
    buys-known = in-book book sound buy (line-in book last Buy buy in_line)

    pub buys-there : IsSome (block_of book buy.number)
    buys-there = subst IsSome (sym buys-known) refl

    pub buys-zone : HaveZones graph book → HasZone graph buy.zone
    buys-zone zones = zones buy (line-in book last Buy buy in_line)

    -- the buy has a partner
    pub buys-found : (partner : Partner) → partner_with_legs graph room book buy ≡ Some partner
        → first_answer (deal_of_buy graph room book) (line_of book last Buy) ≡ Some (resting_deal_over buy partner.block partner.legs)
    buys-found partner e =
        let here : from_block (line_of book last Buy) found ≡ buy ∷ at.back = ap (from_block (line_of book last Buy)) is ∙ at.here in
        sym onward ∙ ap (first_answer (deal_of_buy graph room book)) here
        ∙ answers-here (deal_of_buy graph room book) buy at.back (resting_deal_over buy partner.block partner.legs) (buy-deals graph room book buy partner e)

    -- it has none, and the walk goes on
    module _ (next : Option RestingBlock) (after : IfSome (block_of book buy.number) (λ block. next ≡ after_in buy.number (line_of book block.last block.side))) where
      behind : next ≡ after_in buy.number (line_of book last Buy)
      behind =
          subst (λ o. IfSome o (λ block. next ≡ after_in buy.number (line_of book block.last block.side))) buys-known after
          ∙ ap (λ l. after_in buy.number (line_of book l buy.side)) (line-last book last Buy buy in_line)
          ∙ ap (λ s. after_in buy.number (line_of book last s)) (line-side book last Buy buy in_line)

      goes : GoesOn number_of (line_of book last Buy) found next buy
      goes = goes-on number_of (line_of book last Buy) found next buy (line-differ book sound last Buy) is stands behind

      pub buys-fewer : length (from_block (line_of book last Buy) next) < length (from_block (line_of book last Buy) found)
      buys-fewer = fewer number_of (line_of book last Buy) found next buy goes

      pub buys-stands : next ≡ first_of (from_block (line_of book last Buy) next)
      buys-stands = goes.stands

      pub buys-onward : partner_with_legs graph room book buy ≡ None
          → first_answer (deal_of_buy graph room book) (from_block (line_of book last Buy) next) ≡ first_answer (deal_of_buy graph room book) (line_of book last Buy)
      buys-onward none =
          ap (first_answer (deal_of_buy graph room book)) goes.onward
          ∙ sym (answers-later (deal_of_buy graph room book) buy goes.back (buy-has_none graph room book buy none))
          ∙ ap (first_answer (deal_of_buy graph room book)) (sym goes.was) ∙ onward
