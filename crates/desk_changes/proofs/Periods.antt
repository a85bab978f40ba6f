-- The deals of a period are found one after the other, in the first hour and the rooms of the period.
use Rattle.std.proofs.Common.{◌≡◌, ◌∙◌, ℕ, true, List, [], ◌∷◌, ◌++◌, append_assoc, nat_le, Some, None, sym, ap, subst, if◌then◌else◌, arith}
use Rattle.std.proofs.Math.Path.{fun_ext}
use Rattle.std.proofs.lemmas.Bool.{and_from, le-leb}
use Rattle.std.proofs.lemmas.List.{append-nil}
use Rattle.std.proofs.lemmas.List.Concat.{flat_map-append}
use Rattle.std.proofs.lemmas.List.Elements.{filter-append}
use Rattle.order_kinds.specs.Period.{hours_from, is_within}
use Rattle.zone_graph.specs.declared.route.Arc.{Arc}
use Rattle.zone_graph.specs.Graph.{Graph, HasArc, HasZone, IsGraph, border_count}
use Rattle.zone_graph.specs.Rooms.{room_of}
use Rattle.zone_graph.specs.Route.{IsIn}
use Rattle.zone_graph.proofs.Membership.{has-IsIn}
use Rattle.cut_proof.specs.Carrying.{FitTogether}
use Rattle.route_choice.specs.Poured.{rooms_after}
use Rattle.laws_of_books.specs.BlocksOf.{blocks_of}
use Rattle.laws_of_books.proofs.MarketBooks.{from-book}
use Rattle.block_match.specs.declared.deal.BlockDeal.{BlockDeal}
use Rattle.block_match.specs.Deals.{deal_of_period}
use Rattle.block_match.specs.Market.{deal_events, rooms_over}
use Rattle.block_match.specs.Meeting.{HaveZones}
use Rattle.block_book.specs.declared.block.RestingBlock.{RestingBlock}
use Rattle.market_model.specs.declared.event.Event.{Event}
use Rattle.market_model.specs.declared.setup.Setup.{Setup}
use Rattle.market_model.specs.Board.{IsHourOf}
use Rattle.market_model.specs.Grid.{graph_of}
use Rattle.market_model.specs.History.{of_hour, touches}
use Rattle.market_model.specs.Room.{least}
use Rattle.market_model.specs.WellFormed.{IsHistory}
use Rattle.laws_of_market.proofs.Growing.{fit-back}
use Rattle.laws_of_market.proofs.Placed.{all_are_sound}
use Rattle.laws_of_market.proofs.Restrict.{map-same}
use Rattle.laws_of_hours.proofs.NextEvents.{blocks-are}
use Rattle.laws_of_joint_commands.specs.ByHour.{hour_events}
use Rattle.laws_of_joint_commands.specs.EnteringBlocks.{AreClosed}
use Rattle.laws_of_joint_commands.specs.MatchingBlocks.{ArePeriodDeals, legs_of, next_deal, with_legs}
use Rattle.laws_of_joint_commands.specs.PeriodRooms.{hour_room, period_room}
use Rattle.laws_of_joint_commands.proofs.LeastRooms.{least_of_hours}
use Rattle.laws_of_joint_commands.proofs.PeriodDeals.{next_go_on}
use Rattle.laws_of_joint_commands.proofs.SharedEvents.{within-has}
use Rattle.desk_changes.specs.Periods.{AreDealsOf, IsPeriodOf}
use Rattle.desk_changes.specs.Rooms.{CanCarryEach}
use Rattle.desk_changes.proofs.Lowered.{fit-together, lowered}
use Rattle.desk_changes.proofs.SameRooms.{deal-rooms}

-- ---- the hours' own events

module _ (graph : Graph) (first last : ℕ) where
  -- the next deal depends on the hours of the period alone
  same-next : (own other : ℕ → List Event) → own first ≡ other first → ((hour : ℕ) → IsIn hour (hours_from first last) → own hour ≡ other hour)
      → next_deal graph first last own ≡ next_deal graph first last other
  same-next own other starts same =
      ap (λ (rooms : Arc → ℕ). deal_of_period graph rooms (blocks_of (own first) first) last)
      (fun_ext (λ (arc : Arc). ap least (map-same (λ hour. hour_room (own hour) hour arc) (λ hour. hour_room (other hour) hour arc) (hours_from first last)
      (λ hour i. ap (λ es. hour_room es hour arc) (same hour i)))))
      ∙ ap (λ es. deal_of_period graph (period_room other first last) (blocks_of es first) last) starts

  -- and so do all of them
  same-deals : (deals : List BlockDeal) (own other : ℕ → List Event) → own first ≡ other first → ((hour : ℕ) → IsIn hour (hours_from first last) → own hour ≡ other hour)
      → ArePeriodDeals graph first last own deals → ArePeriodDeals graph first last other deals
  same-deals [] own other starts same none = sym (same-next own other starts same) ∙ none
  same-deals (deal ∷ deals) own other starts same some = (
    sym (same-next own other starts same) ∙ some.0,
    same-deals deals (with_legs first last own deal) (with_legs first last other deal) (ap (λ es. es ++ deal_events first last deal) starts)
        (λ hour i. ap (λ es. es ++ deal_events first last deal) (same hour i)) some.1,
  )

-- ---- one deal

module _ (graph : Graph) (setup : Setup) (history : List Event) (first last : ℕ) (events : List Event) (rooms : List (ℕ × ℕ))
    (period : IsPeriodOf graph setup history first last events rooms) where
  abbrev own_graph : Graph
  own_graph = graph_of setup

  is_graph : IsGraph graph
  is_graph = subst IsGraph period.over_grid period.is_setup

  -- the rooms of the whole period
  over-period : (arc : Arc) → HasArc own_graph arc → room_of rooms arc ≡ rooms_over history first last arc
  over-period arc has =
      period.has_rooms arc (subst (λ g. HasArc g arc) period.over_grid has) ∙ sym (least_of_hours setup history first last arc period.is_history.fit)

  pub rooms-fit : FitTogether graph (room_of rooms)
  rooms-fit =
      subst (λ g. FitTogether g (room_of rooms)) period.over_grid
      (fit-together setup first last period.in_order history period.is_history.fit (room_of rooms) over-period)

  -- the events are the hour's of a history
  abbrev its-hour : IsHourOf graph first events
  its-hour = record {
    setup = setup;
    history = history;
    over_grid = period.over_grid;
    is_setup = period.is_setup;
    fit = period.is_history.fit;
    in_hour = period.in_hour;
  }

  -- the zones of its blocks are the graph's
  pub zones-known : HaveZones graph (blocks_of events first)
  zones-known block i =
      let there = from-book setup history period.is_history.fit first block (subst (IsIn block) (blocks-are graph first events its-hour) i) in
      let sound = (all_are_sound setup history period.is_history.fit).blocks there.block there.is_placed in
      subst (λ g. HasZone g block.zone) period.over_grid
      (subst (HasZone (graph_of setup)) (sym (ap (λ (r : RestingBlock). r.zone) there.is)) sound.in_zone)

  -- what the hours find is what is found in the rooms
  next-found : next_deal own_graph first last (hour_events history) ≡ deal_of_period graph (room_of rooms) (blocks_of events first) last
  next-found =
      ap (λ g. next_deal g first last (hour_events history)) period.over_grid
      ∙ ap (λ es. deal_of_period graph (period_room (hour_events history) first last) (blocks_of es first) last) period.in_hour
      ∙ sym (deal-rooms graph is_graph (room_of rooms) (period_room (hour_events history) first last) (blocks_of events first) last period.has_rooms)

  within-first : is_within first last first ≡ true
  within-first = and_from (nat_le first first) (nat_le first last) (le-leb first first (omega arith)) (le-leb first last period.in_order)

  module _ (deal : BlockDeal) (found : Some deal ≡ deal_of_period graph (room_of rooms) (blocks_of events first) last) where
    abbrev legs : List Event
    legs = deal_events first last deal

    abbrev after : List Event
    after = history ++ legs

    is-next : next_deal own_graph first last (hour_events history) ≡ Some deal
    is-next = next-found ∙ sym found

    -- what an hour of the period has of the legs
    its-legs : (hour : ℕ) → is_within first last hour ≡ true → of_hour hour legs ≡ legs
    its-legs hour within =
        (next_go_on setup history first last deal period.is_setup period.is_history is-next).1.own hour ∙ ap (λ t. if t then legs else []) within

    its-after : (hour : ℕ) → is_within first last hour ≡ true → of_hour hour after ≡ of_hour hour history ++ legs
    its-after hour within = filter-append (touches hour) history legs ∙ ap (λ es. of_hour hour history ++ es) (its-legs hour within)

    pub deal-follows : IsHourOf graph first (events ++ legs)
    deal-follows =
        let made = (next_go_on setup history first last deal period.is_setup period.is_history is-next).1 in
        subst (λ es. IsHourOf graph first (es ++ legs)) period.in_hour
        (subst (λ g. IsHourOf g first (of_hour first history ++ legs)) period.over_grid
        (made.parts first legs [] (ap (λ t. if t then legs else []) within-first ∙ sym (append-nil legs))))

    pub deal-closes : AreClosed first deal (events ++ legs)
    deal-closes =
        subst (λ es. AreClosed first deal (es ++ legs)) period.in_hour (next_go_on setup history first last deal period.is_setup period.is_history is-next).2

    well_formed : IsHistory setup after
    well_formed = (next_go_on setup history first last deal period.is_setup period.is_history is-next).0

    pub deal-can : CanCarryEach (border_count graph) (room_of rooms) deal.legs
    deal-can =
        subst (λ g. CanCarryEach (border_count g) (room_of rooms) deal.legs) period.over_grid
        (lowered setup first last period.in_order deal deal.legs history (room_of rooms) period.is_history.fit (fit-back setup [] history legs well_formed.fit) over-period).can

    -- the period goes on
    pub goes-on : (new : List (ℕ × ℕ)) → ((arc : Arc) → room_of new arc ≡ rooms_after (room_of rooms) deal.legs arc)
        → IsPeriodOf graph setup after first last (events ++ legs) new
    goes-on new are = record {
      over_grid = period.over_grid;
      is_setup = period.is_setup;
      is_history = well_formed;
      in_order = period.in_order;
      in_hour = its-after first within-first ∙ ap (λ es. es ++ legs) period.in_hour;
      has_rooms = λ arc has. are arc
          ∙ (lowered setup first last period.in_order deal deal.legs history (room_of rooms) period.is_history.fit (fit-back setup [] history legs well_formed.fit) over-period).over
          arc (subst (λ g. HasArc g arc) (sym period.over_grid) has)
          ∙ least_of_hours setup after first last arc well_formed.fit;
    }

    -- the deal, and those of the period after it, are those of the period
    pub deals-on : (rest : List BlockDeal) → ArePeriodDeals own_graph first last (hour_events after) rest → ArePeriodDeals own_graph first last (hour_events history) (deal ∷ rest)
    deals-on rest are = (
      is-next,
      same-deals own_graph first last rest (hour_events after) (with_legs first last (hour_events history) deal) (its-after first within-first)
          (λ hour i. its-after hour (within-has first last hour ∙ has-IsIn hour (hours_from first last) i)) are,
    )

  -- after the last there is none
  pub none-more : None ≡ deal_of_period graph (room_of rooms) (blocks_of events first) last → ArePeriodDeals own_graph first last (hour_events history) []
  none-more none = next-found ∙ sym none

-- ---- one after the other

-- the legs of some deals and one more
pub legs-more : (first last : ℕ) (deals : List BlockDeal) (deal : BlockDeal) → legs_of first last (deals ++ deal ∷ []) ≡ legs_of first last deals ++ deal_events first last deal
legs-more first last deals deal =
    flat_map-append (deal_events first last) deals (deal ∷ []) ∙ ap (λ es. legs_of first last deals ++ es) (append-nil (deal_events first last deal))

-- some deals were found: the period goes on behind them, and with its other deals they are those of the period
pub record AreSoFar (graph : Graph) (setup : Setup) (history : List Event) (first last : ℕ) (events : List Event) (deals : List BlockDeal) (now : List (ℕ × ℕ)) : Type 0 where
  pub period : IsPeriodOf graph setup (history ++ legs_of first last deals) first last (events ++ legs_of first last deals) now
  pub onward : (rest : List BlockDeal) → ArePeriodDeals (graph_of setup) first last (hour_events (history ++ legs_of first last deals)) rest
      → ArePeriodDeals (graph_of setup) first last (hour_events history) (deals ++ rest)

-- after every history of which the hour and the rooms are told
abbrev pub FoundSoFar : Graph → (first last : ℕ) → (events : List Event) → (rooms : List (ℕ × ℕ)) → List BlockDeal → (now : List (ℕ × ℕ)) → Type 0
FoundSoFar graph first last events rooms deals now = (setup : Setup) (history : List Event) → IsPeriodOf graph setup history first last events rooms
    → AreSoFar graph setup history first last events deals now

pub one-so-far : (graph : Graph) (first last : ℕ) (events : List Event) (rooms : List (ℕ × ℕ)) (deals : List BlockDeal) (now new : List (ℕ × ℕ)) (deal : BlockDeal)
    → FoundSoFar graph first last events rooms deals now
    → Some deal ≡ deal_of_period graph (room_of now) (blocks_of (events ++ legs_of first last deals) first) last
    → ((arc : Arc) → room_of new arc ≡ rooms_after (room_of now) deal.legs arc) → FoundSoFar graph first last events rooms (deals ++ deal ∷ []) new
one-so-far graph first last events rooms deals now new deal so_far found lower setup history period =
    let before = so_far setup history period in
    let legs : List Event = legs_of first last deals in
    let mine : List Event = deal_events first last deal in
    let more : (es : List Event) → (es ++ legs) ++ mine ≡ es ++ legs_of first last (deals ++ deal ∷ []) =
    λ es. append_assoc es legs mine ∙ ap (λ ls. es ++ ls) (sym (legs-more first last deals deal)) in
    record {
      period = subst (λ es. IsPeriodOf graph setup es first last (events ++ legs_of first last (deals ++ deal ∷ [])) new) (more history)
          (subst (λ es. IsPeriodOf graph setup ((history ++ legs) ++ mine) first last es new) (more events)
          (goes-on graph setup (history ++ legs) first last (events ++ legs) now before.period deal found new lower));
      onward = λ rest are. subst (ArePeriodDeals (graph_of setup) first last (hour_events history)) (sym (append_assoc deals (deal ∷ []) rest))
          (before.onward (deal ∷ rest) (deals-on graph setup (history ++ legs) first last (events ++ legs) now before.period deal found rest
          (subst (λ es. ArePeriodDeals (graph_of setup) first last (hour_events es) rest) (sym (more history)) are)));
    }

-- where there is no further deal all are found
pub all-found : (graph : Graph) (first last : ℕ) (events : List Event) (rooms : List (ℕ × ℕ)) (deals : List BlockDeal) (now : List (ℕ × ℕ))
    → FoundSoFar graph first last events rooms deals now → None ≡ deal_of_period graph (room_of now) (blocks_of (events ++ legs_of first last deals) first) last
    → AreDealsOf graph first last events rooms deals
all-found graph first last events rooms deals now so_far none setup history period =
    let before = so_far setup history period in
    let legs : List Event = legs_of first last deals in
    subst (ArePeriodDeals (graph_of setup) first last (hour_events history)) (append-nil deals)
    (before.onward [] (none-more graph setup (history ++ legs) first last (events ++ legs) now before.period none))
