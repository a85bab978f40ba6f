-- A deal of two blocks leaves a history well-formed: both are then closed.
use Rattle.std.proofs.Common.{◌≡◌, ◌≢◌, ◌∙◌, ℕ, ◌&&◌, Bool, true, false, List, ◌++◌, filter, map, Some, nat_eq, nat_lt, eqb-true, refl, sym, ap, subst, if◌then◌else◌, arith}
use Rattle.std.proofs.lemmas.Bool.{ltb-true, true≢false, and_parts}
use Rattle.order_kinds.specs.declared.order.OrderName.{OrderName}
use Rattle.order_kinds.specs.declared.price.Lots.{Lots}
use Rattle.order_kinds.specs.declared.side.Side.{Side}
use Rattle.order_kinds.specs.Same.{same_name, same_side}
use Rattle.order_kinds.specs.Side.{crosses, opposite}
use Rattle.zone_graph.specs.Graph.{Graph}
use Rattle.zone_graph.specs.Route.{IsIn}
use Rattle.zone_graph.proofs.Membership.{from_filter, from_map}
use Rattle.zone_graph.proofs.Finding.{from_find}
use Rattle.market_model.specs.declared.event.Event.{Event}
use Rattle.market_model.specs.declared.setup.Setup.{Setup}
use Rattle.market_model.specs.Blocks.{StandingBlock, block_legs, block_line, block_partner, block_priority_cmp, block_stands_in, can_trade_blocks, carries_whole, is_of_period, standing_block}
use Rattle.market_model.specs.Orders.{PlacedBlock, blocks_placed, is_open, left}
use Rattle.market_model.specs.WellFormed.{IsHistory, IsMarketSetup}
use Rattle.laws_of_market.proofs.Members.{from_in_order}
use Rattle.laws_of_market.proofs.Pours.{ArePair, PourKeeps}
use Rattle.laws_of_market.proofs.Tests.{same_name-eq, same_name-refl, same_side-eq}

-- an open block: it entered, and something is left of it
pub record IsOpenNow (events : List Event) (block : PlacedBlock) : Type 0 where
  pub is_placed : IsIn block (blocks_placed events)
  pub is_left : is_open events block.name ≡ true

-- what stands in a line of blocks is an open block of the period and side
pub record IsInBlockLine (events : List Event) (first last : ℕ) (side : Side) (found : StandingBlock) : Type 0 where
  pub block : PlacedBlock
  pub is_open : IsOpenNow events block
  pub of_first : block.order.first ≡ first
  pub of_last : block.order.last ≡ last
  pub on_side : block.order.side ≡ side
  pub stands : block_stands_in events first last side block ≡ true
  pub is : found ≡ standing_block events block

pub from_block_line : (events : List Event) (first last : ℕ) (side : Side) (found : StandingBlock) → IsIn found (block_line events first last side) → IsInBlockLine events first last side found
unfolding block_line
from_block_line events first last side found h =
    let stands_in : PlacedBlock → Bool = block_stands_in events first last side in
    let listed = from_in_order (block_priority_cmp side) found (map (standing_block events) (filter stands_in (blocks_placed events))) h in
    let stands = from_map (standing_block events) found (filter stands_in (blocks_placed events)) listed in
    let passes = from_filter stands_in stands.0 (blocks_placed events) stands.1 in
    let both = and_parts (is_open events stands.0.name && is_of_period first last stands.0.order) (same_side stands.0.order.side side) passes.1 in
    let front = and_parts (is_open events stands.0.name) (is_of_period first last stands.0.order) both.0 in
    let period = and_parts (nat_eq stands.0.order.first first) (nat_eq stands.0.order.last last) front.1 in
    record {
      block = stands.0;
      is_open = record { is_placed = passes.0; is_left = front.0 };
      of_first = eqb-true stands.0.order.first first period.0;
      of_last = eqb-true stands.0.order.last last period.1;
      on_side = same_side-eq stands.0.order.side side both.1;
      stands = passes.1;
      is = stands.2;
    }

-- the partner of a block is one of the same quantity, with which the pour carries all
pub record IsBlockPartner (graph : Graph) (events : List Event) (own found : StandingBlock) : Type 0 where
  pub in_line : IsInBlockLine events own.order.first own.order.last (opposite own.order.side) found
  pub one_quantity : found.order.quantity ≡ own.order.quantity
  pub carried : left (events ++ block_legs graph own found events) own.name ≡ 0

pub block_partner-is : (graph : Graph) (events : List Event) (own found : StandingBlock) → block_partner graph events own ≡ Some found → IsBlockPartner graph events own found
unfolding block_partner
block_partner-is graph events own found e =
    let r = from_find (can_trade_blocks graph events own) found (block_line events own.order.first own.order.last (opposite own.order.side)) e in
    go (from_block_line events own.order.first own.order.last (opposite own.order.side) found r.0) (nat_eq found.order.quantity.0 own.order.quantity.0)
    (crosses own.order.side own.order.price found.order.price) refl r.1
  where
    go : IsInBlockLine events own.order.first own.order.last (opposite own.order.side) found → (same cross : Bool) → nat_eq found.order.quantity.0 own.order.quantity.0 ≡ same
        → (if same && cross then carries_whole graph events own found else false) ≡ true → IsBlockPartner graph events own found
    go in_line true true e k =
        let lots : found.order.quantity.0 ≡ own.order.quantity.0 = eqb-true found.order.quantity.0 own.order.quantity.0 e in
        record {
          in_line = in_line;
          one_quantity = λ i. record { 0 = lots i };
          carried = eqb-true (left (events ++ block_legs graph own found events) own.name) 0 k;
        }
    go in_line true false e k = absurd (true≢false (sym k))
    go in_line false cross e k = absurd (true≢false (sym k))

module _ (setup : Setup) (is_setup : IsMarketSetup setup) (start : List Event) (history : IsHistory setup start)
    (taker maker : PlacedBlock) (is_pair : ArePair taker maker) (taker_open : IsOpenNow start taker) (maker_open : IsOpenNow start maker) where
  -- what a pour keeps holds at its start
  pub pour-start : PourKeeps setup start taker maker start
  pour-start = record {
    fit = history.fit;
    blocks = refl;
    equal = history.whole maker maker_open.is_placed maker_open.is_left ∙ ap (λ (q : Lots). q.0) is_pair.one_quantity
        ∙ sym (history.whole taker taker_open.is_placed taker_open.is_left);
    others = λ name not_taker not_maker. refl;
  }

  -- where all is carried, both blocks are closed, and whatever is open was open before
  pub record IsDealt (after : List Event) : Type 0 where
    pub well_formed : IsHistory setup after
    pub blocks : blocks_placed after ≡ blocks_placed start
    pub taker_closed : left after taker.name ≡ 0
    pub maker_closed : left after maker.name ≡ 0
    pub opens : (name : OrderName) → is_open after name ≡ true → is_open start name ≡ true

  pub deal-dealt : (after : List Event) → PourKeeps setup start taker maker after → left after taker.name ≡ 0 → IsDealt after
  deal-dealt after kept none = record {
    well_formed = record {
      fit = kept.fit;
      whole = λ block h opened. let same = stays block.name opened in
          same ∙ history.whole block (subst (IsIn block) kept.blocks h) (subst (λ n. nat_lt 0 n ≡ true) same opened);
    };
    blocks = kept.blocks;
    taker_closed = none;
    maker_closed = kept.equal ∙ none;
    opens = λ name opened. subst (λ n. nat_lt 0 n ≡ true) (stays name opened) opened;
  }
    where
      closed : (name other : OrderName) → name ≡ other → left after name ≡ 0 → is_open after other ≡ true → ⊥
      closed name other same zero_left opened =
          let some = ltb-true 0 (left after other) opened in
          let nothing : left after other ≡ 0 = ap (left after) (sym same) ∙ zero_left in omega arith

      apart : (a b : OrderName) → same_name a b ≡ false → a ≢ b
      apart a b e same = absurd (true≢false (sym (subst (λ n. same_name a n ≡ true) same (same_name-refl a)) ∙ e))

      go : (name : OrderName) → is_open after name ≡ true → (of_taker of_maker : Bool) → same_name taker.name name ≡ of_taker → same_name maker.name name ≡ of_maker
          → left after name ≡ left start name
      go name opened true of_maker e k = absurd (closed taker.name name (same_name-eq taker.name name e) none opened)
      go name opened false true e k = absurd (closed maker.name name (same_name-eq maker.name name k) (kept.equal ∙ none) opened)
      go name opened false false e k = kept.others name (apart taker.name name e) (apart maker.name name k)

      stays : (name : OrderName) → is_open after name ≡ true → left after name ≡ left start name
      stays name opened = go name opened (same_name taker.name name) (same_name maker.name name) refl refl
