-- A block that enters, hour by hour.
use Rattle.std.proofs.Common.{◌≡◌, ◌∙◌, inl, ℕ, ◌≤◌, Bool, true, false, List, [], ◌∷◌, ◌++◌, append_assoc, flat_map, nat_eq, nat_le, nat_lt, eqb-true, Option, Some, None, refl, sym, ap, subst, if◌then◌else◌, arith}
use Rattle.std.proofs.Math.Path.{fun_ext}
use Rattle.std.proofs.lemmas.Bool.{and_from, and_parts, le-leb, lt-ltb, ltb-true, true≢false}
use Rattle.std.proofs.lemmas.List.{append-nil}
use Rattle.std.proofs.lemmas.List.Elements.{filter-append}
use Rattle.std.specs.Option.{option_map}
use Rattle.order_kinds.specs.declared.contract.Part.{Part}
use Rattle.order_kinds.specs.declared.order.BlockOrder.{BlockOrder}
use Rattle.order_kinds.specs.declared.order.OrderName.{OrderName}
use Rattle.order_kinds.specs.Period.{hours_from, is_within}
use Rattle.zone_graph.specs.declared.route.Arc.{Arc}
use Rattle.zone_graph.specs.Graph.{Graph}
use Rattle.zone_graph.specs.Route.{has}
use Rattle.zone_graph.proofs.Finding.{map-none}
use Rattle.zone_graph.proofs.Membership.{IsIn-right}
use Rattle.market_model.specs.declared.command.Command.TheVariants as command
use Rattle.market_model.specs.declared.event.Event.{Event}
use Rattle.market_model.specs.declared.event.Event.TheVariants as event
use Rattle.market_model.specs.declared.refusal.Refusal.{Refusal}
use Rattle.market_model.specs.declared.refusal.Refusal.TheVariants as refusal
use Rattle.market_model.specs.declared.reply.Reply.TheVariants as reply
use Rattle.market_model.specs.declared.setup.Setup.{Setup}
use Rattle.market_model.specs.Blocks.{StandingBlock, block_legs, enter_block, entering_block, legs_with, partner_found, standing_block, with_block}
use Rattle.market_model.specs.Grid.{graph_of}
use Rattle.market_model.specs.History.{events_of, of_hour, touches}
use Rattle.market_model.specs.Market.{reply_let_in, events_done, reply_by}
use Rattle.market_model.specs.Orders.{PlacedBlock, block_placed_by, enters_block, is_open, last_place, left, next_name}
use Rattle.market_model.specs.Refusals.{block_desk_refusal, has_desk_room, refusal_of_command}
use Rattle.market_model.specs.Rules.{early_refusal, unless}
use Rattle.market_model.specs.Sweep.{or_else, sweep, sweeps}
use Rattle.market_model.specs.WellFormed.{BlockEnters, IsHistory, IsMarketSetup, IsOpenBlock}
use Rattle.laws_of_market.proofs.Members.{IsIn-filter_map}
use Rattle.laws_of_market.proofs.Repeats.{map-some}
use Rattle.laws_of_market.proofs.Soundness.{block_fault-none, lots_in_range-bounds}
use Rattle.laws_of_market.proofs.Wholes.{history-more, new_block-whole}
use Rattle.laws_of_market.proofs.LocalAnswers.{has_desk_room-agree}
use Rattle.laws_of_market.proofs.NamedByHour.{AreNamedByHour, history-named}
use Rattle.laws_of_market.proofs.LocalStates.{Agree, agree-more, is_open-agree, left-agree, next_name-agree}
use Rattle.laws_of_market.proofs.StateRules.{state_comes_second}
use Rattle.laws_of_books.specs.BlocksOf.{blocks_of, resting_block}
use Rattle.laws_of_books.proofs.BlocksKept.{resting-same}
use Rattle.laws_of_books.proofs.Partners.{make_deals}
use Rattle.laws_of_books.proofs.WholeBlockBooks.{hour-book}
use Rattle.block_match.specs.declared.deal.BlockDeal.{BlockDeal}
use Rattle.block_match.specs.Deals.{deal_of_block}
use Rattle.block_match.specs.Market.{IsMarketDeal, deal_events, entered_block, rooms_over}
use Rattle.block_match.proofs.MarketEntries.{entering_blocks}
use Rattle.laws_of_boards.proofs.Admitting as admitting
use Rattle.laws_of_joint_commands.specs.ByHour.{hour_events}
use Rattle.laws_of_joint_commands.specs.EnteringBlocks.{AreClosed, BlocksEnterHourByHour, BlocksFindRoomInTheirFirstHour, EntriesGoOnInHours, EntriesOfAnHour, EntryDealsCloseBoth, block_entry, deal_found, events_of_deal, has_of_entry, legs_found, refused_at_desk, swept_after_entry}
use Rattle.laws_of_joint_commands.proofs.ClosingDeals.{ClosesBoth, deal-closes, deal-hours, deal-named, same-both}
use Rattle.laws_of_joint_commands.proofs.HoursGoOn.{go-on}
use Rattle.laws_of_joint_commands.proofs.LeastRooms.{rooms-own}
use Rattle.laws_of_joint_commands.proofs.SharedEvents.{unrefused, within-has}
use Rattle.laws_of_joint_commands.proofs.SweptHours.{ascends-different, flat_map-same, hours-ascend, own-agrees, then-of_hour, then-swept}

-- ---- the events of a deal, where there is one

abbrev gathered : Option (List Event) → List Event
gathered None = []
gathered (Some events) = events

legs-gathered : (graph : Graph) (events : List Event) (taker : StandingBlock) (o : Option StandingBlock)
    → legs_with graph events taker o ≡ gathered (option_map (λ maker. block_legs graph taker maker events) o)
legs-gathered graph events taker None = refl
legs-gathered graph events taker (Some maker) = refl

deal-gathered : (first last : ℕ) (o : Option BlockDeal) → events_of_deal first last o ≡ gathered (option_map (deal_events first last) o)
deal-gathered first last None = refl
deal-gathered first last (Some deal) = refl

module _ (setup : Setup) (is_setup : IsMarketSetup setup) (history : List Event) (is_history : IsHistory setup history) (caller : ℕ) (order : BlockOrder)
    (enters : BlockEnters setup history (next_name history order.first) caller order) where
  abbrev graph : Graph
  graph = graph_of setup

  abbrev first : ℕ
  first = order.first

  abbrev last : ℕ
  last = order.last

  -- the events of the first hour
  abbrev own : List Event
  own = of_hour first history

  named : AreNamedByHour history
  named = history-named setup history is_history.fit

  ordered : first ≤ last
  ordered = let less = ltb-true first last (and_parts (nat_lt first last) _ enters.of_period).0 in omega (arith, less)

  agree : Agree (first ∷ []) own history
  agree = own-agrees history named first

  -- ---- the block as it enters, by the events of its first hour

  name-own : next_name own first ≡ next_name history first
  name-own = next_name-agree (first ∷ []) own history agree first (inl refl)

  abbrev entry : Event
  entry = block_entry history caller order

  entry-own : block_entry own caller order ≡ entry
  entry-own = ap (λ (n : OrderName). event.EnteredBlock n caller order) name-own

  -- the history and the hour with the block entered
  abbrev entered : List Event
  entered = with_block history caller order

  abbrev block : PlacedBlock
  block = entered_block history caller order

  abbrev stands : StandingBlock
  stands = entering_block history caller order

  entered-agree : Agree (first ∷ []) (with_block own caller order) entered
  entered-agree =
      subst (λ e. Agree (first ∷ []) (with_block own caller order) (history ++ e ∷ [])) entry-own
      (agree-more (first ∷ []) own history (block_entry own caller order) agree (refl, ordered))

  record-own : resting_block (with_block own caller order) (entered_block own caller order) ≡ resting_block entered block
  record-own =
      resting-same entered (with_block own caller order) (entered_block own caller order)
      (left-agree (first ∷ []) (with_block own caller order) entered entered-agree (next_name own first) (inl refl))
      (ap (last_place (enters_block (entered_block own caller order))) (entered-agree.same first (inl refl)))
      ∙ ap (λ (n : OrderName). resting_block entered (record { name = n; caller = caller; order = order })) name-own

  -- ---- the deal

  abbrev deal : Option BlockDeal
  deal = deal_of_block graph (rooms_over history first last) (blocks_of history first) (resting_block entered block)

  found-own : deal_found graph (hour_events history) caller order ≡ deal
  found-own =
      ap (λ (rooms : Arc → ℕ). deal_of_block graph rooms (blocks_of own first) (resting_block (with_block own caller order) (entered_block own caller order)))
      (fun_ext (λ (arc : Arc). sym (rooms-own history named first last arc)))
      ∙ ap (λ book. deal_of_block graph (rooms_over history first last) book (resting_block (with_block own caller order) (entered_block own caller order)))
      (hour-book setup history is_history.fit first)
      ∙ ap (deal_of_block graph (rooms_over history first last) (blocks_of history first)) record-own

  market : IsMarketDeal graph entered block (rooms_over history first last) (blocks_of history first)
  market = entering_blocks setup history caller order is_setup is_history enters

  abbrev partner : Option StandingBlock
  partner = partner_found graph history caller order

  legs-own : legs_with graph entered stands partner ≡ legs_found graph (hour_events history) caller order
  legs-own =
      legs-gathered graph entered stands partner ∙ ap gathered market.legs ∙ sym (deal-gathered first last deal)
      ∙ ap (events_of_deal first last) (sym found-own)

  -- the entry and the legs of the deal
  abbrev legs : List Event
  legs = legs_found graph (hour_events history) caller order

  abbrev done : List Event
  done = block_entry own caller order ∷ legs

  -- ---- what they leave

  entered_history : IsHistory setup entered
  entered_history = history-more setup history entry is_history enters tt

  block_open : IsOpenBlock entered block block.name
  block_open =
      let whole : left entered block.name ≡ order.quantity.0 = new_block-whole setup history is_history.fit block entry enters refl in
      let some = (lots_in_range-bounds order.quantity (block_fault-none order enters.sound).quantity).0 in
      record {
        is_placed = IsIn-filter_map block_placed_by entry block entered (IsIn-right entry history (entry ∷ []) (inl refl)) refl;
        is_named = refl;
        is_left = lt-ltb 0 (left entered block.name) (omega (arith, whole, some));
      }

  -- the history with both
  after-is : entered ++ legs_with graph entered stands partner ≡ history ++ done
  after-is =
      append_assoc history (entry ∷ []) (legs_with graph entered stands partner)
      ∙ ap (λ es. history ++ (entry ∷ es)) legs-own
      ∙ ap (λ e. history ++ (e ∷ legs)) (sym entry-own)

  -- the partner that is found
  record IsFound (maker : StandingBlock) : Type 0 where
    other : PlacedBlock
    is : maker ≡ standing_block entered other
    closes : ClosesBoth setup (entered ++ block_legs graph stands maker entered) block.name other.name

  found : (maker : StandingBlock) → partner ≡ Some maker → IsFound maker
  found maker is =
      let made = make_deals setup entered block maker is_setup entered_history block_open is in
      record {
        other = made.0;
        is = made.1;
        closes = subst (λ (m : StandingBlock). ClosesBoth setup (entered ++ block_legs graph stands m entered) block.name made.0.name) (sym made.1)
            (deal-closes setup is_setup entered entered_history block made.0 made.2);
      }

  whole : IsHistory setup (history ++ done)
  whole = subst (IsHistory setup) after-is (by partner refl)
    where
      by : (o : Option StandingBlock) → partner ≡ o → IsHistory setup (entered ++ legs_with graph entered stands o)
      by None is = subst (IsHistory setup) (sym (append-nil entered)) entered_history
      by (Some maker) is = (found maker is).closes.well_formed

  done-named : AreNamedByHour done
  done-named e i = history-named setup (history ++ done) whole.fit e (IsIn-right e history done i)

  legs-hours : (hour : ℕ) → of_hour hour legs ≡ (if is_within first last hour then legs else [])
  legs-hours hour = by (deal_found graph (hour_events history) caller order)
    where
      by : (o : Option BlockDeal) → of_hour hour (events_of_deal first last o) ≡ (if is_within first last hour then events_of_deal first last o else [])
      by None = same-both [] (is_within first last hour)
      by (Some dealt) = deal-hours first last dealt hour

  -- what an hour has of both
  done-hours : (hour : ℕ) → of_hour hour done ≡ has_of_entry graph history caller order hour
  done-hours hour = by (nat_eq first hour) (is_within first last hour) refl refl (legs-hours hour)
    where
      by : (starts within : Bool) → nat_eq first hour ≡ starts → is_within first last hour ≡ within → of_hour hour legs ≡ (if within then legs else [])
          → (if starts then block_entry own caller order ∷ of_hour hour legs else of_hour hour legs) ≡ (if within then (if starts then block_entry own caller order ∷ legs else legs) else [])
      by true true e k is = ap (λ es. block_entry own caller order ∷ es) is
      by false true e k is = is
      by false false e k is = is
      by true false e k is =
          absurd (true≢false (sym (subst (λ h. is_within first last h ≡ true) (eqb-true first hour e)
          (and_from (nat_le first first) (nat_le first last) (le-leb first first (omega arith)) (le-leb first last ordered))) ∙ k))

  -- what is left of nothing is closed by the events of the first hour
  closed-own : (name : OrderName) → name.hour ≡ first → left (history ++ done) name ≡ 0 → is_open (own ++ has_of_entry graph history caller order first) name ≡ false
  closed-own name in_hour none =
      ap (λ es. is_open es name) (ap (λ es. own ++ es) (sym (done-hours first)) ∙ sym (filter-append (touches first) history done))
      ∙ is_open-agree (first ∷ []) (of_hour first (history ++ done)) (history ++ done) (own-agrees (history ++ done) (history-named setup (history ++ done) whole.fit) first) name (inl in_hour)
      ∙ ap (nat_lt 0) none

  closed-both : (dealt : BlockDeal) → deal_found graph (hour_events history) caller order ≡ Some dealt
      → AreClosed first dealt (own ++ has_of_entry graph history caller order first)
  closed-both dealt is =
      let legs_are : option_map (λ maker. block_legs graph stands maker entered) partner ≡ Some (deal_events first last dealt) =
      market.legs ∙ ap (option_map (deal_events first last)) (sym found-own ∙ is) in
      let made = map-some (λ (maker : StandingBlock). block_legs graph stands maker entered) partner (deal_events first last dealt) legs_are in
      let other = found made.0 made.1 in
      let after : entered ++ block_legs graph stands made.0 entered ≡ history ++ done =
      ap (λ o. entered ++ legs_with graph entered stands o) (sym made.1) ∙ after-is in
      let names = deal-named graph first last dealt stands made.0 entered made.2 block_open.is_left other.closes.taker_left in
      let maker_name : made.0.name ≡ other.other.name = ap (λ (s : StandingBlock). s.name) other.is in
      record {
        taker = closed-own _ refl (ap (λ es. left es (record { hour = first; number = dealt.taker })) (sym after)
            ∙ ap (left (entered ++ block_legs graph stands made.0 entered)) (sym names.taker_is) ∙ other.closes.taker_left);
        maker = closed-own _ refl (ap (λ es. left es (record { hour = first; number = dealt.maker })) (sym after)
            ∙ ap (left (entered ++ block_legs graph stands made.0 entered)) (sym names.maker_is ∙ maker_name) ∙ other.closes.maker_left);
      }

  -- ---- room on the desk

  room-own : has_desk_room entered (next_name history first) ≡ has_desk_room (with_block own caller order) (next_name own first)
  room-own =
      ap (has_desk_room entered) (sym name-own)
      ∙ sym (has_desk_room-agree (first ∷ []) (with_block own caller order) entered entered-agree (next_name own first) (inl refl))

  desk-own : block_desk_refusal graph history caller order ≡ refused_at_desk own caller order (deal_found graph (hour_events history) caller order)
  desk-own = by partner refl
    where
      by : (o : Option StandingBlock) → partner ≡ o → block_desk_refusal graph history caller order ≡ refused_at_desk own caller order (deal_found graph (hour_events history) caller order)
      by None is =
          let none : deal_found graph (hour_events history) caller order ≡ None =
          found-own ∙ map-none (deal_events first last) deal (sym market.legs ∙ ap (option_map (λ maker. block_legs graph stands maker entered)) is) in
          let here : block_desk_refusal graph history caller order ≡ unless (has_desk_room entered (next_name history first)) refusal.DeskFull = rw is refl in
          here ∙ ap (λ t. unless t refusal.DeskFull) room-own ∙ ap (refused_at_desk own caller order) (sym none)
      by (Some maker) is =
          let some = map-some (deal_events first last) deal (block_legs graph stands maker entered)
          (sym market.legs ∙ ap (option_map (λ other. block_legs graph stands other entered)) is) in
          let here : block_desk_refusal graph history caller order ≡ None = rw is refl in
          here ∙ ap (refused_at_desk own caller order) (sym (found-own ∙ some.1))

  -- ---- the reply

  abbrev hours : List ℕ
  hours = hours_from first last

  module _ (parts : List Part) where
    enters-by_hour : enter_block parts graph caller order history ≡ done ++ sweeps parts graph hours (history ++ done)
    unfolding enter_block
    enters-by_hour =
        ap (λ es. ((entry ∷ []) ++ es) ++ sweeps parts graph hours (history ++ ((entry ∷ []) ++ es))) legs-own
        ∙ ap (λ e. (e ∷ legs) ++ sweeps parts graph hours (history ++ (e ∷ legs))) (sym entry-own)

    swept : sweeps parts graph hours (history ++ done) ≡ flat_map (swept_after_entry parts graph history caller order) hours
    swept =
        then-swept parts graph hours (ascends-different hours (hours-ascend first last)) history done named done-named
        ∙ flat_map-same _ (swept_after_entry parts graph history caller order) hours (λ hour i. ap (λ es. sweep parts graph hour (of_hour hour history ++ es)) (done-hours hour))

    own-part : (hour : ℕ) → of_hour hour (done ++ sweeps parts graph hours (history ++ done))
        ≡ (if is_within first last hour then has_of_entry graph history caller order hour ++ swept_after_entry parts graph history caller order hour else [])
    own-part hour =
        then-of_hour parts graph hours (ascends-different hours (hours-ascend first last)) history done named done-named hour
        ∙ ap (λ es. es ++ (if has hour hours then sweep parts graph hour (of_hour hour history ++ es) else [])) (done-hours hour)
        ∙ ap (λ t. has_of_entry graph history caller order hour ++ (if t then swept_after_entry parts graph history caller order hour else [])) (sym (within-has first last hour))
        ∙ by (is_within first last hour) refl
      where
        by : (t : Bool) → is_within first last hour ≡ t
            → has_of_entry graph history caller order hour ++ (if t then swept_after_entry parts graph history caller order hour else [])
            ≡ (if t then has_of_entry graph history caller order hour ++ swept_after_entry parts graph history caller order hour else [])
        by true is = refl
        by false is = rw is refl

-- ---- the laws

-- a block that no rule refuses is refused by none of the early ones
early-free : (setup : Setup) (history : List Event) (caller : ℕ) (order : BlockOrder) → refusal_of_command setup history caller (command.EnterBlock order) ≡ None
    → early_refusal setup caller (command.EnterBlock order) ≡ None
early-free setup history caller order free = go (early_refusal setup caller (command.EnterBlock order)) _ (sym (state_comes_second setup history caller (command.EnterBlock order)) ∙ free)
  where
    go : (o : Option Refusal) (later : Unit {0} → Option Refusal) → or_else o later ≡ None → o ≡ None
    go None later k = refl
    go (Some broken) later k = absurd (cc)

pub room_in_first : BlocksFindRoomInTheirFirstHour
room_in_first setup history caller order is_setup is_history free =
    desk-own setup is_setup history is_history caller order (admitting.blocks setup history caller order free)

pub go_on_in_hours : EntriesGoOnInHours
go_on_in_hours setup history caller order is_setup is_history free =
    let enters = admitting.blocks setup history caller order free in
    let after = whole setup is_setup history is_history caller order enters in
    (after, go-on setup history _ is_setup after.fit (has_of_entry (graph_of setup) history caller order) (done-hours setup is_setup history is_history caller order enters))

pub close_both : EntryDealsCloseBoth
close_both setup history caller order dealt is_setup is_history free is =
    closed-both setup is_setup history is_history caller order (admitting.blocks setup history caller order free) dealt is

module _ (setup : Setup) (parts : List Part) (history : List Event) (caller : ℕ) (order : BlockOrder) (is_setup : IsMarketSetup setup) (is_history : IsHistory setup history)
    (free : refusal_of_command setup history caller (command.EnterBlock order) ≡ None) where
  may : BlockEnters setup history (next_name history order.first) caller order
  may = admitting.blocks setup history caller order (early-free setup history caller order free)

  replied : reply_let_in parts setup history caller (command.EnterBlock order) ≡ reply.Done (enter_block parts (graph_of setup) caller order history)
  unfolding events_done
  replied = refl

  entered_reply : reply_by parts setup history caller (command.EnterBlock order)
      ≡ reply.Done (done setup is_setup history is_history caller order may ++ sweeps parts (graph_of setup) (hours_from order.first order.last)
      (history ++ done setup is_setup history is_history caller order may))
  entered_reply =
      unrefused parts setup history caller (command.EnterBlock order) free ∙ replied
      ∙ ap reply.Done (enters-by_hour setup is_setup history is_history caller order may parts)

pub enter_by_hour : BlocksEnterHourByHour
enter_by_hour setup parts history caller order is_setup is_history free =
    let enters = may setup parts history caller order is_setup is_history free in
    entered_reply setup parts history caller order is_setup is_history free
    ∙ ap (λ rest. reply.Done (done setup is_setup history is_history caller order enters ++ rest)) (swept setup is_setup history is_history caller order enters parts)

pub enter_of_hour : EntriesOfAnHour
enter_of_hour setup parts history caller order hour is_setup is_history free =
    ap (λ r. of_hour hour (events_of r)) (entered_reply setup parts history caller order is_setup is_history free)
    ∙ own-part setup is_setup history is_history caller order (may setup parts history caller order is_setup is_history free) parts hour
