-- A block that enters, and what it finds.
use Rattle.std.proofs.Common.{◌≡◌, ◌∙◌, ℕ, ◌+◌, ◌-◌, ◌≤◌, get_or, length, false, cond, List, [], ◌∷◌, ◌++◌, append_assoc, filter, map, Option, Some, None, if◌then◌else◌, inl, refl, sym, ap, subst, eq-eqb, arith}
use Rattle.std.proofs.lemmas.Bool.{lt-ltb}
use Rattle.std.proofs.lemmas.List.{length-append, map-append}
use Rattle.std.proofs.lemmas.List.Elements.{filter-append, filter_map-append}
use Rattle.std.proofs.Math.Seq.{get_or-append_seam}
use Rattle.std.specs.Option.{is_some, option_map}
use Rattle.std.specs.Ordering.{is_lt}
use Rattle.order_kinds.specs.declared.order.BlockOrder.{BlockOrder}
use Rattle.order_kinds.specs.declared.order.OrderName.{OrderName}
use Rattle.order_kinds.specs.declared.side.Side.{Side}
use Rattle.order_kinds.specs.Side.{opposite}
use Rattle.zone_graph.specs.Graph.{Graph}
use Rattle.zone_graph.proofs.Membership.{IsIn-right}
use Rattle.market_model.specs.declared.event.Event.{Event}
use Rattle.market_model.specs.declared.event.Event.TheVariants as event
use Rattle.market_model.specs.Blocks.{StandingBlock, block_legs, block_line, block_partner, block_time_cmp, entering_block, legs_with, partner_found, resting_block_legs, standing_block, with_block}
use Rattle.market_model.specs.History.{and_then}
use Rattle.market_model.specs.Orders.{PlacedBlock, block_placed_by, blocks_placed, left, next_name}
use Rattle.laws_of_market.proofs.BlockDeals.{block_partner-is}
use Rattle.laws_of_market.proofs.Members.{IsIn-filter_map}
use Rattle.laws_of_market.proofs.Placed.{all_are_sound}
use Rattle.laws_of_market.proofs.Soundness.{block_fault-none, lots_in_range-bounds}
use Rattle.laws_of_market.proofs.Wholes.{history-more, new_block-whole}
use Rattle.plain_orders.specs.Listed.{block_line_of, blocks_of, is_block_of}
use Rattle.plain_matching.specs.Grown.{Grew}
use Rattle.plain_matching.specs.BlockEntering.{CanEnterBlock, IsHistoryOver}
use Rattle.plain_matching.specs.Meeting.{MeetsAll, Stands, deal_in, legs_of}
use Rattle.plain_matching.proofs.Lines.{line-meets, lines-are}
use Rattle.plain_matching.proofs.Times.{entered-later}

module _ (graph : Graph) (events : List Event) (caller : ℕ) (order : BlockOrder) (can : CanEnterBlock graph events caller order) where
  abbrev pub name : OrderName
  name = next_name events order.first

  abbrev pub entry : Event
  entry = event.EnteredBlock name caller order

  abbrev pub block : PlacedBlock
  block = record { name = name; caller = caller; order = order }

  abbrev pub own : StandingBlock
  own = entering_block events caller order

  -- the history with the block is legal
  pub entered-legal : IsHistoryOver graph (with_block events caller order)
  entered-legal = record { setup = can.setup; over = can.over; history = history-more can.setup events entry can.history can.enters tt }

  -- the block stands in it
  pub entered-stands : Stands (with_block events caller order) (entering_block events caller order)
  entered-stands =
      let some = (lots_in_range-bounds order.quantity (block_fault-none order can.enters.sound).quantity).0 in
      let whole : left (and_then events entry) name ≡ order.quantity.0 = new_block-whole can.setup events can.history.fit block entry can.enters refl in
      record {
        block = block;
        is_placed = IsIn-filter_map block_placed_by entry block (and_then events entry) (IsIn-right entry events (entry ∷ []) (inl refl)) refl;
        is_left = lt-ltb 0 (left (and_then events entry) name) (omega (arith, some, whole));
        is = refl;
      }

  -- it is the last of the blocks of its first hour
  pub entered-last : (front : List StandingBlock) × (blocks_of (with_block events caller order) order.first ≡ front ++ entering_block events caller order ∷ [])
  entered-last =
      let placed : blocks_placed (and_then events entry) ≡ blocks_placed events ++ block ∷ [] = filter_map-append block_placed_by events (entry ∷ []) in
      let kept : filter (is_block_of order.first) (blocks_placed events ++ block ∷ []) ≡ filter (is_block_of order.first) (blocks_placed events) ++ block ∷ [] =
      filter-append (is_block_of order.first) (blocks_placed events) (block ∷ [])
      ∙ ap (λ t. filter (is_block_of order.first) (blocks_placed events) ++ cond t (block ∷ []) []) (eq-eqb order.first order.first refl) in (
        map (standing_block (and_then events entry)) (filter (is_block_of order.first) (blocks_placed events)),
        ap (λ blocks. map (standing_block (and_then events entry)) (filter (is_block_of order.first) blocks)) placed
            ∙ ap (map (standing_block (and_then events entry))) kept
            ∙ map-append (standing_block (and_then events entry)) (filter (is_block_of order.first) (blocks_placed events)) (block ∷ []),
      )

  -- so there is one
  pub entered-some : (listed : List StandingBlock) → listed ≡ blocks_of (with_block events caller order) order.first → 1 ≤ length listed
  entered-some listed is =
      let all : length listed ≡ length entered-last.0 + 1 = ap (λ blocks. length blocks) (is ∙ entered-last.1) ∙ length-append entered-last.0 (entering_block events caller order ∷ []) in
      omega (arith, all)

  -- and it is found at the last place
  pub entered-at : (listed : List StandingBlock) (place : ℕ) (found d : StandingBlock) → listed ≡ blocks_of (with_block events caller order) order.first
      → place + 1 ≡ length listed → found ≡ get_or listed place d → found ≡ entering_block events caller order
  entered-at listed place found d is last found_is =
      let all : length listed ≡ length entered-last.0 + 1 = ap (λ blocks. length blocks) (is ∙ entered-last.1) ∙ length-append entered-last.0 (entering_block events caller order ∷ []) in
      let seam : place ≡ length entered-last.0 = omega (arith, all, last) in
      found_is ∙ ap (λ blocks. get_or blocks place d) (is ∙ entered-last.1)
      ∙ ap (λ n. get_or (entered-last.0 ++ entering_block events caller order ∷ []) n d) seam
      ∙ get_or-append_seam entered-last.0 (entering_block events caller order) [] d

  -- the legs of its deal are those with its partner, which was there before
  pub entered-deal : (line : List StandingBlock) → line ≡ block_line (with_block events caller order) order.first order.last (opposite order.side)
      → legs_of (deal_in graph (with_block events caller order) line (entering_block events caller order))
      ≡ legs_with graph (with_block events caller order) (entering_block events caller order) (partner_found graph events caller order)
  unfolding block_partner entered-legal
  entered-deal line is =
      ap (λ others. legs_of (deal_in graph (and_then events entry) others own)) is ∙ by_partner (block_partner graph (and_then events entry) own) refl
    where
      by_partner : (o : Option StandingBlock) → block_partner graph (and_then events entry) own ≡ o
          → legs_of (option_map (resting_block_legs graph (and_then events entry) own) o) ≡ legs_with graph (and_then events entry) own o
      by_partner None found = refl
      by_partner (Some other) found =
          let its = (block_partner-is graph (and_then events entry) own other found).in_line in
          let sound = (all_are_sound can.setup (and_then events entry) entered-legal.history.fit).blocks its.block its.is_open.is_placed in
          let later : is_lt (block_time_cmp own (standing_block (and_then events entry) its.block)) ≡ false =
          entered-later can.setup events can.history.fit caller order name can.enters its.block its.is_open.is_placed (sym (sound.named ∙ its.of_first)) its.on_side in
          ap (λ b. if b then block_legs graph other own (and_then events entry) else block_legs graph own other (and_then events entry))
          (ap (λ s. is_lt (block_time_cmp own s)) its.is ∙ later)

  pub entered-found : (line : List StandingBlock) → line ≡ block_line (with_block events caller order) order.first order.last (opposite order.side)
      → is_some (deal_in graph (with_block events caller order) line (entering_block events caller order)) ≡ is_some (partner_found graph events caller order)
  unfolding block_partner
  entered-found line is =
      ap (λ others. is_some (deal_in graph (and_then events entry) others own)) is ∙ by_partner (block_partner graph (and_then events entry) own)
    where
      by_partner : (o : Option StandingBlock) → is_some (option_map (resting_block_legs graph (and_then events entry) own) o) ≡ is_some o
      by_partner None = refl
      by_partner (Some other) = refl

  -- what is made as the block enters: the history with it, the block as it stands, and the line in which
  -- it seeks its partner
  pub record IsReady (new : List Event) (found : StandingBlock) (line : List StandingBlock) : Type 0 where
    pub new_is : new ≡ with_block events caller order
    pub found_is : found ≡ entering_block events caller order
    pub line_is : line ≡ block_line (with_block events caller order) order.first order.last (opposite order.side)

  -- the history after the entry is put behind it
  pub entered-new : (new : List Event) (given : OrderName) → given ≡ next_name events order.first
      → new ≡ events ++ event.EnteredBlock given caller order ∷ [] → new ≡ with_block events caller order
  entered-new new given of_given of_new = of_new ∙ ap (λ n. events ++ event.EnteredBlock n caller order ∷ []) of_given

  pub ready : (new : List Event) (side : Side) (made listed seen sorted line : List StandingBlock) (found : StandingBlock)
      → new ≡ with_block events caller order → made ≡ blocks_of new order.first → listed ≡ made → seen ≡ made
      → side ≡ opposite order.side → sorted ≡ block_line_of seen order.first order.last side → line ≡ sorted
      → found ≡ get_or listed (length listed - 1) found → IsReady new found line
  ready new side made listed seen sorted line found of_new of_made of_listed of_seen of_side of_sorted of_line of_found =
      let entered : made ≡ blocks_of (with_block events caller order) order.first = of_made ∙ ap (λ h. blocks_of h order.first) of_new in
      let some = entered-some listed (of_listed ∙ entered) in
      record {
        new_is = of_new;
        found_is = entered-at listed (length listed - 1) found found (of_listed ∙ entered) (omega (arith, some)) of_found;
        line_is = of_line ∙ of_sorted ∙ ap (block_line_of seen order.first order.last) of_side
            ∙ lines-are graph (with_block events caller order) seen order.first order.last (opposite order.side) entered-legal (of_seen ∙ entered);
      }

  pub ready-meets : (new : List Event) (found : StandingBlock) (line : List StandingBlock) → IsReady new found line → MeetsAll graph new found line
  ready-meets new found line ready =
      subst (λ h. MeetsAll graph h found line) (sym ready.new_is)
      (subst (λ b. MeetsAll graph (with_block events caller order) b line) (sym ready.found_is)
      (subst (MeetsAll graph (with_block events caller order) own) (sym ready.line_is)
      (line-meets graph (with_block events caller order) own entered-legal entered-stands)))

  pub ready-found : (new : List Event) (found : StandingBlock) (line : List StandingBlock) → IsReady new found line
      → is_some (deal_in graph new line found) ≡ is_some (partner_found graph events caller order)
  ready-found new found line ready =
      ap (λ h. is_some (deal_in graph h line found)) ready.new_is
      ∙ ap (λ b. is_some (deal_in graph (with_block events caller order) line b)) ready.found_is
      ∙ entered-found line ready.line_is

  pub ready-legs : (new : List Event) (found : StandingBlock) (line : List StandingBlock) → IsReady new found line
      → new ++ legs_of (deal_in graph new line found)
      ≡ with_block events caller order ++ legs_with graph (with_block events caller order) (entering_block events caller order) (partner_found graph events caller order)
  ready-legs new found line ready =
      ap (λ h. h ++ legs_of (deal_in graph h line found)) ready.new_is
      ∙ ap (λ b. with_block events caller order ++ legs_of (deal_in graph (with_block events caller order) line b)) ready.found_is
      ∙ ap (λ legs. with_block events caller order ++ legs) (entered-deal line ready.line_is)

-- a history with an event that grew further
pub grew-on : (old now new more : List Event) → now ≡ old ++ more → Grew now new → Grew old new
grew-on old now new more is grown = record {
  more = more ++ grown.more;
  grew = grown.grew ∙ ap (λ events. events ++ grown.more) is ∙ append_assoc old more grown.more;
}
