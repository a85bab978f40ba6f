-- The deals of a period, by the hours' own events.
use Rattle.std.proofs.Common.{◌≡◌, ◌∙◌, inl, ℕ, ◌+◌, ◌-◌, ◌≤◌, Bool, true, false, List, [], ◌∷◌, ◌++◌, append_assoc, flat_map, map, nat_le, nat_lt, Some, refl, sym, ap, subst, if◌then◌else◌, arith}
use Rattle.std.proofs.Math.Path.{fun_ext}
use Rattle.std.proofs.lemmas.Bool.{and_from, and_parts, le-leb, ltb-true}
use Rattle.std.proofs.lemmas.List.{append-nil}
use Rattle.std.proofs.lemmas.List.Elements.{filter-append}
use Rattle.std.proofs.lemmas.List.Folds.{flat_map-map}
use Rattle.std.specs.Option.{option_map}
use Rattle.std.specs.Ordering.{is_lt}
use Rattle.order_kinds.specs.declared.contract.Part.{Part}
use Rattle.order_kinds.specs.declared.order.OrderName.{OrderName}
use Rattle.order_kinds.specs.declared.side.Side.TheVariants.{Buy}
use Rattle.order_kinds.specs.Period.{hours_from, is_within}
use Rattle.zone_graph.specs.declared.route.Arc.{Arc}
use Rattle.zone_graph.specs.Graph.{Graph}
use Rattle.zone_graph.specs.Route.{IsIn}
use Rattle.zone_graph.proofs.Finding.{map-none}
use Rattle.zone_graph.proofs.Membership.{IsIn-right, has-IsIn}
use Rattle.zone_graph.proofs.Runs.{run-unique}
use Rattle.market_model.specs.declared.command.Command.TheVariants as command
use Rattle.market_model.specs.declared.event.Event.{Event}
use Rattle.market_model.specs.declared.reply.Reply.TheVariants as reply
use Rattle.market_model.specs.declared.setup.Setup.{Setup}
use Rattle.market_model.specs.Blocks.{AreBlockDeals, StandingBlock, block_deal, block_deals, block_legs, block_line, block_partner, block_time_cmp, deal_of_buy, match_blocks, resting_block_legs, standing_block}
use Rattle.market_model.specs.Grid.{graph_of}
use Rattle.market_model.specs.History.{of_hour, touches}
use Rattle.market_model.specs.Market.{reply_let_in, events_done}
use Rattle.market_model.specs.Orders.{PlacedBlock, is_open, left}
use Rattle.market_model.specs.Room.{least}
use Rattle.market_model.specs.Sweep.{sweep, sweeps}
use Rattle.market_model.specs.WellFormed.{IsHistory, IsMarketSetup, IsOpenBlock}
use Rattle.laws_of_market.proofs.Admitted.{refusal-none}
use Rattle.laws_of_market.proofs.BlockDeals.{from_block_line}
use Rattle.laws_of_market.proofs.BlockEntries.{deals-run}
use Rattle.laws_of_market.proofs.Members.{from_first_answer}
use Rattle.laws_of_market.proofs.Repeats.{map-some}
use Rattle.laws_of_market.proofs.LocalBlocks.{block-named, first-in}
use Rattle.laws_of_market.proofs.NamedByHour.{AreNamedByHour, history-named}
use Rattle.laws_of_market.proofs.Restrict.{map-same}
use Rattle.laws_of_market.proofs.LocalStates.{is_open-agree}
use Rattle.laws_of_books.specs.BlocksOf.{blocks_of}
use Rattle.laws_of_books.specs.DealLaws.{IsDeal, with_deal}
use Rattle.laws_of_books.proofs.Partners.{make_deals}
use Rattle.laws_of_books.proofs.WholeBlockBooks.{hour-book}
use Rattle.block_match.specs.declared.deal.BlockDeal.{BlockDeal}
use Rattle.block_match.specs.Deals.{deal_of_period}
use Rattle.block_match.specs.Market.{deal_events}
use Rattle.block_match.proofs.MarketDeals.{periods}
use Rattle.laws_of_joint_commands.specs.ByHour.{hour_events}
use Rattle.laws_of_joint_commands.specs.MatchingBlocks.{ArePeriodDeals, BlocksMatchHourByHour, MatchesAreTheReply, MatchesOfAnHour, NextDealsGoOnInHours, PeriodDealsGoOnInHours, PeriodsFindTheirNextDeal, PeriodsHaveTheirDeals, legs_of, next_deal, of_period, swept_after_legs, with_legs}
use Rattle.laws_of_joint_commands.specs.PeriodRooms.{hour_room, period_room}
use Rattle.laws_of_joint_commands.proofs.ClosingDeals.{deal-closes, deal-hours, deal-named, same-both}
use Rattle.laws_of_joint_commands.proofs.HoursGoOn.{go-on}
use Rattle.laws_of_joint_commands.proofs.LeastRooms.{rooms-own}
use Rattle.laws_of_joint_commands.proofs.SharedEvents.{unrefused, within-has}
use Rattle.laws_of_joint_commands.proofs.SweptHours.{ascends-different, flat_map-same, hours-ascend, own-agrees, then-of_hour, then-swept}

-- what an hour has of the legs of some deals
legs-hours : (first last : ℕ) (deals : List BlockDeal) (hour : ℕ) → of_hour hour (legs_of first last deals) ≡ of_period first last (legs_of first last deals) hour
legs-hours first last [] hour = same-both [] (is_within first last hour)
legs-hours first last (deal ∷ deals) hour =
    filter-append (touches hour) (deal_events first last deal) (legs_of first last deals)
    ∙ ap (λ es. es ++ of_hour hour (legs_of first last deals)) (deal-hours first last deal hour)
    ∙ ap (λ es. of_period first last (deal_events first last deal) hour ++ es) (legs-hours first last deals hour)
    ∙ by (is_within first last hour)
  where
    by : (t : Bool) → (if t then deal_events first last deal else []) ++ (if t then legs_of first last deals else [])
        ≡ (if t then deal_events first last deal ++ legs_of first last deals else [])
    by true = refl
    by false = refl

module _ (setup : Setup) (is_setup : IsMarketSetup setup) (first last : ℕ) where
  abbrev graph : Graph
  graph = graph_of setup

  -- ---- the next deal

  -- the next deal depends on the hours of the period alone
  same-next : (own other : ℕ → List Event) → own first ≡ other first → ((hour : ℕ) → IsIn hour (hours_from first last) → own hour ≡ other hour)
      → next_deal graph first last own ≡ next_deal graph first last other
  same-next own other starts same =
      ap (λ (rooms : Arc → ℕ). deal_of_period graph rooms (blocks_of (own first) first) last)
      (fun_ext (λ (arc : Arc). ap least (map-same (λ hour. hour_room (own hour) hour arc) (λ hour. hour_room (other hour) hour arc) (hours_from first last)
      (λ hour i. ap (λ es. hour_room es hour arc) (same hour i)))))
      ∙ ap (λ es. deal_of_period graph (period_room other first last) (blocks_of es first) last) starts

  module _ (history : List Event) (is_history : IsHistory setup history) where
    pub market-next : block_deal graph first last history ≡ option_map (deal_events first last) (next_deal graph first last (hour_events history))
    market-next =
        periods setup history first last is_setup is_history
        ∙ ap (λ (rooms : Arc → ℕ). option_map (deal_events first last) (deal_of_period graph rooms (blocks_of history first) last))
        (fun_ext (λ (arc : Arc). rooms-own history (history-named setup history is_history.fit) first last arc))
        ∙ ap (λ book. option_map (deal_events first last) (deal_of_period graph (period_room (hour_events history) first last) book last))
        (sym (hour-book setup history is_history.fit first))

    -- what a deal leaves
    record IsDone (deal : BlockDeal) : Type 0 where
      well_formed : IsHistory setup (history ++ deal_events first last deal)
      ordered : first ≤ last
      taker_left : left (history ++ deal_events first last deal) (record { hour = first; number = deal.taker }) ≡ 0
      maker_left : left (history ++ deal_events first last deal) (record { hour = first; number = deal.maker }) ≡ 0

    pair-done : (deal : BlockDeal) → first ≤ last → (taker maker : PlacedBlock) → IsDeal setup history taker maker
        → block_legs graph (standing_block history taker) (standing_block history maker) history ≡ deal_events first last deal → IsDone deal
    pair-done deal ordered taker maker dealt same =
        let closes = deal-closes setup is_setup history is_history taker maker dealt in
        let names = deal-named graph first last deal (standing_block history taker) (standing_block history maker) history same dealt.taker_open.is_left closes.taker_left in
        let after : with_deal setup history taker maker ≡ history ++ deal_events first last deal = ap (λ es. history ++ es) same in
        record {
          well_formed = subst (IsHistory setup) after closes.well_formed;
          ordered = ordered;
          taker_left = ap (λ es. left es (record { hour = first; number = deal.taker })) (sym after)
              ∙ ap (left (with_deal setup history taker maker)) (sym names.taker_is) ∙ closes.taker_left;
          maker_left = ap (λ es. left es (record { hour = first; number = deal.maker })) (sym after)
              ∙ ap (left (with_deal setup history taker maker)) (sym names.maker_is) ∙ closes.maker_left;
        }

    done : (deal : BlockDeal) → next_deal graph first last (hour_events history) ≡ Some deal → IsDone deal
    unfolding block_deal
    done deal is =
        let legs : List Event = deal_events first last deal in
        let in_market : block_deal graph first last history ≡ Some legs = market-next ∙ ap (option_map (deal_events first last)) is in
        let buy = from_first_answer (deal_of_buy graph history) legs (block_line history first last Buy) in_market in
        let in_line = from_block_line history first last Buy buy.0 buy.1 in
        let own : StandingBlock = standing_block history in_line.block in
        let at_block = subst (λ b. deal_of_buy graph history b ≡ Some legs) in_line.is buy.2 in
        let found = map-some (resting_block_legs graph history own) (block_partner graph history own) legs at_block in
        let opened : IsOpenBlock history in_line.block in_line.block.name = record { is_placed = in_line.is_open.is_placed; is_named = refl; is_left = in_line.is_open.is_left } in
        let made = make_deals setup history in_line.block found.0 is_setup is_history opened found.1 in
        let block : PlacedBlock = in_line.block in
        let in_order = (block-named history (history-named setup history is_history.fit) block in_line.is_open.is_placed).ordered in
        let starts : block.order.first ≡ first = in_line.of_first in
        let ends : block.order.last ≡ last = in_line.of_last in
        let ordered : first ≤ last = omega (arith, in_order, starts, ends) in
        by_time deal legs refl block made.0 made.2 made.3 ordered
        (ap (resting_block_legs graph history own) (sym made.1) ∙ found.2)
      where
        by_time : (deal : BlockDeal) (legs : List Event) → legs ≡ deal_events first last deal → (buy sell : PlacedBlock) → IsDeal setup history buy sell → IsDeal setup history sell buy → first ≤ last
            → resting_block_legs graph history (standing_block history buy) (standing_block history sell) ≡ legs → IsDone deal
        by_time deal legs are buy sell as_taker as_maker ordered = go (is_lt (block_time_cmp (standing_block history buy) (standing_block history sell)))
          where
            go : (t : Bool) → (if t then block_legs graph (standing_block history sell) (standing_block history buy) history
                else block_legs graph (standing_block history buy) (standing_block history sell) history) ≡ legs → IsDone deal
            go true same = pair-done deal ordered sell buy as_maker (same ∙ are)
            go false same = pair-done deal ordered buy sell as_taker (same ∙ are)

  -- ---- the deals one after the other

  -- some lists are the hours' own events of a history
  record AreOwn (own : ℕ → List Event) (history : List Event) : Type 0 where
    starts : own first ≡ of_hour first history
    same : (hour : ℕ) → IsIn hour (hours_from first last) → own hour ≡ of_hour hour history

  are-own : (history : List Event) → AreOwn (hour_events history) history
  are-own history = record { starts = refl; same = λ hour i. refl }

  next-own : (own : ℕ → List Event) (history : List Event) → AreOwn own history → next_deal graph first last own ≡ next_deal graph first last (hour_events history)
  next-own own history are = same-next own (hour_events history) are.starts are.same

  own-more : first ≤ last → (own : ℕ → List Event) (history : List Event) (deal : BlockDeal) → AreOwn own history → AreOwn (with_legs first last own deal) (history ++ deal_events first last deal)
  own-more ordered own history deal are = record {
    starts = one first (first-in first last ordered) are.starts;
    same = λ hour i. one hour i (are.same hour i);
  }
    where
      one : (hour : ℕ) → IsIn hour (hours_from first last) → own hour ≡ of_hour hour history
          → own hour ++ deal_events first last deal ≡ of_hour hour (history ++ deal_events first last deal)
      one hour i is =
          let within : is_within first last hour ≡ true = within-has first last hour ∙ has-IsIn hour (hours_from first last) i in
          let all : of_hour hour (deal_events first last deal) ≡ deal_events first last deal =
          deal-hours first last deal hour ∙ ap (λ t. if t then deal_events first last deal else []) within in
          ap (λ es. es ++ deal_events first last deal) is ∙ ap (λ es. of_hour hour history ++ es) (sym all)
          ∙ sym (filter-append (touches hour) history (deal_events first last deal))

  module _ (ordered : first ≤ last) where
    -- what is known of the deals that the hours find
    record AreMarkets (history : List Event) (deals : List BlockDeal) : Type 0 where
      run : AreBlockDeals graph first last history (map (deal_events first last) deals)
      well_formed : IsHistory setup (history ++ legs_of first last deals)

    are-markets : (deals : List BlockDeal) (history : List Event) → IsHistory setup history → (own : ℕ → List Event) → AreOwn own history
        → ArePeriodDeals graph first last own deals → AreMarkets history deals
    are-markets [] history is_history own are none = record {
      run = market-next history is_history ∙ ap (option_map (deal_events first last)) (sym (next-own own history are) ∙ none);
      well_formed = subst (IsHistory setup) (sym (append-nil history)) is_history;
    }
    are-markets (deal ∷ deals) history is_history own are some =
        let next = sym (next-own own history are) ∙ some.0 in
        let made = done history is_history deal next in
        let legs : List Event = deal_events first last deal in
        let rest = are-markets deals (history ++ legs) made.well_formed (with_legs first last own deal) (own-more ordered own history deal are) some.1 in
        record {
          run = (market-next history is_history ∙ ap (option_map (deal_events first last)) next, rest.run);
          well_formed = subst (IsHistory setup) (append_assoc history legs (legs_of first last deals)) rest.well_formed;
        }

    -- the market's deals are found by the hours
    are-found : (found : List (List Event)) (history : List Event) → IsHistory setup history → (own : ℕ → List Event) → AreOwn own history
        → AreBlockDeals graph first last history found → (deals : List BlockDeal) × ArePeriodDeals graph first last own deals
    are-found [] history is_history own are none =
        ([], next-own own history are ∙ map-none (deal_events first last) (next_deal graph first last (hour_events history)) (sym (market-next history is_history) ∙ none))
    are-found (legs ∷ found) history is_history own are some =
        let one = map-some (deal_events first last) (next_deal graph first last (hour_events history)) legs (sym (market-next history is_history) ∙ some.0) in
        let made = done history is_history one.0 one.1 in
        let rest = are-found found (history ++ deal_events first last one.0) made.well_formed (with_legs first last own one.0) (own-more ordered own history one.0 are)
        (subst (λ es. AreBlockDeals graph first last (history ++ es) found) (sym one.2) some.1) in
        (one.0 ∷ rest.0, (next-own own history are ∙ one.1, rest.1))

    module _ (history : List Event) (is_history : IsHistory setup history) (deals : List BlockDeal) (are : ArePeriodDeals graph first last (hour_events history) deals) where
      abbrev legs : List Event
      legs = legs_of first last deals

      abbrev hours : List ℕ
      hours = hours_from first last

      all-markets : AreMarkets history deals
      all-markets = are-markets deals history is_history (hour_events history) (are-own history) are

      named : AreNamedByHour history
      named = history-named setup history is_history.fit

      legs-named : AreNamedByHour legs
      legs-named e i = history-named setup (history ++ legs) all-markets.well_formed.fit e (IsIn-right e history legs i)

      legs-are : flat_map (λ deal. deal) (block_deals graph first last history) ≡ legs
      legs-are =
          ap (flat_map (λ deal. deal)) (run-unique (block_deal graph first last) (λ before deal. before ++ deal) history (block_deals graph first last history) (map (deal_events first last) deals)
          (deals-run setup is_setup first last history is_history) all-markets.run)
          ∙ flat_map-map (λ deal. deal) (deal_events first last) deals

      module _ (parts : List Part) where
        matched : match_blocks parts graph first last history ≡ legs ++ sweeps parts graph hours (history ++ legs)
        unfolding match_blocks
        matched = ap (λ es. es ++ sweeps parts graph hours (history ++ es)) legs-are

        -- an hour of the period sweeps after its own events and the legs
        own-sweep : (hour : ℕ) → is_within first last hour ≡ true
            → sweep parts graph hour (of_hour hour history ++ of_hour hour legs) ≡ swept_after_legs parts graph history legs hour
        own-sweep hour within =
            ap (λ es. sweep parts graph hour (of_hour hour history ++ es)) (legs-hours first last deals hour ∙ ap (λ t. if t then legs else []) within)

        matched-by_hour : match_blocks parts graph first last history ≡ legs ++ flat_map (swept_after_legs parts graph history legs) hours
        matched-by_hour =
            matched ∙ ap (λ es. legs ++ es)
            (then-swept parts graph hours (ascends-different hours (hours-ascend first last)) history legs named legs-named
            ∙ flat_map-same _ (swept_after_legs parts graph history legs) hours (λ hour i. own-sweep hour (within-has first last hour ∙ has-IsIn hour hours i)))

        matched-of_hour : (hour : ℕ) → of_hour hour (match_blocks parts graph first last history)
            ≡ (if is_within first last hour then legs ++ swept_after_legs parts graph history legs hour else [])
        matched-of_hour hour =
            ap (of_hour hour) matched
            ∙ then-of_hour parts graph hours (ascends-different hours (hours-ascend first last)) history legs named legs-named hour
            ∙ ap (λ t. of_hour hour legs ++ (if t then sweep parts graph hour (of_hour hour history ++ of_hour hour legs) else [])) (sym (within-has first last hour))
            ∙ ap (λ es. es ++ (if is_within first last hour then sweep parts graph hour (of_hour hour history ++ of_hour hour legs) else [])) (legs-hours first last deals hour)
            ∙ by (is_within first last hour) refl
          where
            by : (t : Bool) → is_within first last hour ≡ t
                → (if t then legs else []) ++ (if t then sweep parts graph hour (of_hour hour history ++ of_hour hour legs) else [])
                ≡ (if t then legs ++ swept_after_legs parts graph history legs hour else [])
            by true within = ap (λ es. legs ++ es) (own-sweep hour within)
            by false apart = refl

-- ---- the laws

pub find_next : PeriodsFindTheirNextDeal
find_next setup history first last is_setup is_history = market-next setup is_setup first last history is_history

pub next_go_on : NextDealsGoOnInHours
next_go_on setup history first last deal is_setup is_history is =
    let legs : List Event = deal_events first last deal in
    let made = done setup is_setup first last history is_history deal is in
    let after : List Event = history ++ legs in
    let within : is_within first last first ≡ true =
    and_from (nat_le first first) (nat_le first last) (le-leb first first (omega arith)) (le-leb first last made.ordered) in
    let in_first : of_hour first after ≡ of_hour first history ++ legs =
    filter-append (touches first) history legs ∙ ap (λ es. of_hour first history ++ es) (deal-hours first last deal first ∙ ap (λ t. if t then legs else []) within) in
    let closed : (name : OrderName) → name.hour ≡ first → left after name ≡ 0 → is_open (of_hour first history ++ legs) name ≡ false =
    λ name in_hour none. ap (λ es. is_open es name) (sym in_first)
    ∙ is_open-agree (first ∷ []) (of_hour first after) after (own-agrees after (history-named setup after made.well_formed.fit) first) name (inl in_hour) ∙ ap (nat_lt 0) none in (
      made.well_formed,
      go-on setup history legs is_setup made.well_formed.fit (of_period first last legs) (deal-hours first last deal),
      record {
        taker = closed (record { hour = first; number = deal.taker }) refl made.taker_left;
        maker = closed (record { hour = first; number = deal.maker }) refl made.maker_left;
      },
    )

pub have_deals : PeriodsHaveTheirDeals
have_deals setup history first last is_setup is_history ordered =
    are-found setup is_setup first last ordered (block_deals (graph_of setup) first last history) history is_history (hour_events history) (are-own setup is_setup first last history)
    (deals-run setup is_setup first last history is_history)

pub deals_go_on : PeriodDealsGoOnInHours
deals_go_on setup history first last deals is_setup is_history ordered are =
    let all = all-markets setup is_setup first last ordered history is_history deals are in
    (all.well_formed, go-on setup history (legs_of first last deals) is_setup all.well_formed.fit (of_period first last (legs_of first last deals)) (legs-hours first last deals))

pub match_by_hour : BlocksMatchHourByHour
match_by_hour setup parts history first last deals is_setup is_history ordered are =
    matched-by_hour setup is_setup first last ordered history is_history deals are parts

pub match_of_hour : MatchesOfAnHour
match_of_hour setup parts history first last deals hour is_setup is_history ordered are =
    matched-of_hour setup is_setup first last ordered history is_history deals are parts hour

replied : (setup : Setup) (parts : List Part) (history : List Event) (caller first last : ℕ)
    → reply_let_in parts setup history caller (command.Blocks first last) ≡ reply.Done (match_blocks parts (graph_of setup) first last history)
unfolding events_done
replied setup parts history caller first last = refl

pub match_reply : MatchesAreTheReply
match_reply setup parts history caller first last free =
    let period = (refusal-none setup history caller (command.Blocks first last) free).names.period in
    let less = ltb-true first last (and_parts (nat_lt first last) (nat_le (last + 1 - first) 24) period).0 in
    (omega (arith, less), unrefused parts setup history caller (command.Blocks first last) free ∙ replied setup parts history caller first last)
