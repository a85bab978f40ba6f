-- The lines of what was counted of a journal are its schedule.
use Rattle.std.proofs.Common.{◌≡◌, ◌∙◌, inl, inr, ◌+◌, ◌*◌, ◌<◌, ℕ, true, false, List, [], ◌∷◌, ◌++◌, length, map, pos, ◌-ℤ◌, refl, sym, ap, ap₂, subst, arith}
use Rattle.std.specs.Prelude.{nat_le}
use Rattle.std.specs.List.{flat_map, range_with_len}
use Rattle.std.proofs.lemmas.Bool.{and_parts}
use Rattle.std.proofs.lemmas.Bool.Decides.{nat_tests}
use Rattle.order_kinds.specs.declared.order.OrderName.{OrderName}
use Rattle.order_kinds.specs.Period.{block_quarters, contract_quarters, is_within}
use Rattle.zone_graph.specs.Graph.{border_count, zone_count}
use Rattle.zone_graph.specs.Route.{IsIn}
use Rattle.zone_graph.proofs.Membership.{from_range}
use Rattle.cut_proof.proofs.ArcSums.{sum_passing}
use Rattle.cut_proof.proofs.Ways.{borders_once}
use Rattle.market_model.specs.declared.entry.Entry.{Entry}
use Rattle.market_model.specs.declared.event.Event.{Event}
use Rattle.market_model.specs.declared.event.Event.TheVariants as event
use Rattle.market_model.specs.declared.setup.Setup.{Setup}
use Rattle.market_model.specs.Blocks.{block_buyer_zone, block_seller_zone, standing_block}
use Rattle.market_model.specs.Capacity.{allocated_by}
use Rattle.market_model.specs.Grid.{graph_of}
use Rattle.market_model.specs.History.{journal_events}
use Rattle.market_model.specs.Lines.{buyer_zone, seller_zone}
use Rattle.market_model.specs.Market.{IsLegal, turn_of}
use Rattle.market_model.specs.Orders.{Placed, PlacedBlock, standing}
use Rattle.market_model.specs.Room.{room}
use Rattle.market_model.specs.Sweep.{all_parts}
use Rattle.market_model.specs.WellFormed.{FitAfter, Fits, IsHistory, IsMarketSetup, IsOpenBlock, IsOpenOrder}
use Rattle.laws_of_market.proofs.Growing.{fit-back, fit-front}
use Rattle.laws_of_market.proofs.Journals.{run-history}
use Rattle.laws_of_market.proofs.Placed.{AllAreSound, all_are_sound}
use Rattle.ship_schedule.specs.Places.{quarter_at}
use Rattle.ship_schedule.specs.Rows.{row_at}
use Rattle.ship_schedule.specs.declared.tally.Tally.{Tally}
use Rattle.ship_schedule.specs.Schedule.{is_grant, is_trade}
use Rattle.ship_schedule.specs.ScheduleText.{Numbers, border_line, lines_of, numbers_in, numbers_of, quarter_lines, schedule_text, zone_line}
use Rattle.ship_schedule.specs.Tally.{AreWithin, Counts, IsSized, IsWithin, SameSize, arc_over}
use Rattle.ship_schedule.proofs.Agreeing.{positions-are}
use Rattle.ship_schedule.proofs.Evened.{parted}

-- ---- lines that show the same numbers

flat_map-same : {X Y : Type 0} (f g : X → List Y) (xs : List X) → ((x : X) → IsIn x xs → f x ≡ g x) → flat_map f xs ≡ flat_map g xs
flat_map-same f g [] same = refl
flat_map-same f g (x ∷ xs) same = ap₂ (λ a b. a ++ b) (same x (inl refl)) (flat_map-same f g xs (λ y i. same y (inr i)))

-- for each border and each zone the same numbers are shown in each quarter of the day
record SameNumbers (setup : Setup) (a b : Numbers) : Type 0 where
  borders : (border place : ℕ) → border < length setup.borders → place < 4 * setup.hours
      → (a.exchange border place ≡ b.exchange border place) × (a.explicit border place ≡ b.explicit border place)
  zones : (zone place : ℕ) → zone < length setup.zones → place < 4 * setup.hours
      → (a.sold zone place ≡ b.sold zone place) × (a.bought zone place ≡ b.bought zone place) × (a.net zone place ≡ b.net zone place)

module _ (setup : Setup) (a b : Numbers) (same : SameNumbers setup a b) where
  same_border : (place border : ℕ) → place < 4 * setup.hours → IsIn border (range_with_len 0 (border_count (graph_of setup)))
      → border_line setup (quarter_at place) border (a.exchange border place) (a.explicit border place)
      ≡ border_line setup (quarter_at place) border (b.exchange border place) (b.explicit border place)
  same_border place border day i =
      let known = (from_range border 0 (border_count (graph_of setup)) i).1 in
      let numbers = same.borders border place (omega (arith, known)) day in
      ap₂ (λ traded granted. border_line setup (quarter_at place) border traded granted) numbers.0 numbers.1

  same_zone : (place zone : ℕ) → place < 4 * setup.hours → IsIn zone (range_with_len 0 (zone_count (graph_of setup)))
      → zone_line setup (quarter_at place) zone (a.sold zone place) (a.bought zone place) (a.net zone place)
      ≡ zone_line setup (quarter_at place) zone (b.sold zone place) (b.bought zone place) (b.net zone place)
  same_zone place zone day i =
      let known = (from_range zone 0 (zone_count (graph_of setup)) i).1 in
      let numbers = same.zones zone place (omega (arith, known)) day in
      ap (λ n. zone_line setup (quarter_at place) zone n (a.bought zone place) (a.net zone place)) numbers.0
      ∙ ap (λ n. zone_line setup (quarter_at place) zone (b.sold zone place) n (a.net zone place)) numbers.1
      ∙ ap (λ n. zone_line setup (quarter_at place) zone (b.sold zone place) (b.bought zone place) n) numbers.2

  same_quarter : (place : ℕ) → place < 4 * setup.hours → quarter_lines setup a place ≡ quarter_lines setup b place
  same_quarter place day =
      ap₂ (λ borders zones. borders ++ zones)
      (flat_map-same (λ border. border_line setup (quarter_at place) border (a.exchange border place) (a.explicit border place))
      (λ border. border_line setup (quarter_at place) border (b.exchange border place) (b.explicit border place))
      (range_with_len 0 (border_count (graph_of setup))) (λ border i. same_border place border day i))
      (flat_map-same (λ zone. zone_line setup (quarter_at place) zone (a.sold zone place) (a.bought zone place) (a.net zone place))
      (λ zone. zone_line setup (quarter_at place) zone (b.sold zone place) (b.bought zone place) (b.net zone place))
      (range_with_len 0 (zone_count (graph_of setup))) (λ zone i. same_zone place zone day i))

  same_lines : lines_of setup a ≡ lines_of setup b
  same_lines =
      flat_map-same (quarter_lines setup a) (quarter_lines setup b) (range_with_len 0 (4 * setup.hours))
      (λ place i. let day = (from_range place 0 (4 * setup.hours) i).1 in same_quarter place (omega (arith, day)))

-- ---- what is counted

-- what a tally counts of a well-formed history is what its schedule shows
numbers-are : (setup : Setup) (events : List Event) (tally : Tally) → FitAfter setup [] events → Counts events tally → IsSized setup tally
    → SameNumbers setup (numbers_in tally.sums) (numbers_of events)
numbers-are setup events tally fit counts sized = record {
  borders = λ border place known day.
      let traded_there : border < length (row_at tally.sums.traded place) = subst (λ n. border < n) (sym (sized.traded place day)) known in
      let granted_there : border < length (row_at tally.sums.granted place) = subst (λ n. border < n) (sym (sized.granted place day)) known in (
        ap₂ (λ forward back. pos forward -ℤ pos back)
            (counts.traded place border true traded_there ∙ sym (sum_passing is_trade (allocated_by (quarter_at place) (arc_over border true)) events))
            (counts.traded place border false traded_there ∙ sym (sum_passing is_trade (allocated_by (quarter_at place) (arc_over border false)) events)),
        ap₂ (λ forward back. pos forward -ℤ pos back)
            (counts.granted place border true granted_there ∙ sym (sum_passing is_grant (allocated_by (quarter_at place) (arc_over border true)) events))
            (counts.granted place border false granted_there ∙ sym (sum_passing is_grant (allocated_by (quarter_at place) (arc_over border false)) events)),
      );
  zones = λ zone place known day.
      let there : zone < length (row_at tally.sums.positions place) = subst (λ n. zone < n) (sym (sized.positions place day)) known in
      let selling = counts.positions place zone true there ∙ positions-are setup events fit zone (quarter_at place) true [] events refl fit in
      let buying = counts.positions place zone false there ∙ positions-are setup events fit zone (quarter_at place) false [] events refl fit in
      (selling, buying, ap₂ (λ sales purchases. pos sales -ℤ pos purchases) selling buying);
}

-- ---- the legs of a history name what a tally has

hour_below : (hours hour : ℕ) → nat_le hour hours ≡ true → hour < hours + 1
hour_below hours hour e = grind (arith, nat_tests)

named_below : (hours hour : ℕ) → is_within 1 hours hour ≡ true → hour < hours + 1
named_below hours hour e = hour_below hours hour (and_parts (nat_le 1 hour) (nat_le hour hours) e).1

module _ (setup : Setup) (before : List Event) (sound : AllAreSound setup before) where
  order_hour : (order : Placed) (name : OrderName) → IsOpenOrder before order name → name.hour < setup.hours + 1
  order_hour order name is_open =
      let its = sound.orders order is_open.is_placed in
      subst (λ hour. hour < setup.hours + 1) (sym its.named ∙ ap (λ (n : OrderName). n.hour) is_open.is_named)
      (named_below setup.hours order.order.contract.hour its.in_hour)

  block_hour : (block : PlacedBlock) (name : OrderName) → IsOpenBlock before block name → name.hour < setup.hours + 1
  block_hour block name is_open =
      let its = sound.blocks block is_open.is_placed in
      subst (λ hour. hour < setup.hours + 1) (sym its.named ∙ ap (λ (n : OrderName). n.hour) is_open.is_named)
      (named_below setup.hours block.order.first its.from_hour)

  event_within : (e : Event) → Fits setup before e → IsWithin (setup.hours + 1) e
  event_within (event.Leg contract leg) fits = record {
    different = borders_once (graph_of setup) (room before (contract_quarters contract))
        (seller_zone (standing before fits.taker) (standing before fits.maker)) (buyer_zone (standing before fits.taker) (standing before fits.maker))
        leg.route fits.carried.is_route.way fits.carried.is_route.simple;
    taker = order_hour fits.taker leg.taker fits.taker_open;
    maker = order_hour fits.maker leg.maker fits.maker_open;
  }
  event_within (event.BlockLeg first last leg) fits = record {
    different = borders_once (graph_of setup) (room before (block_quarters first last))
        (block_seller_zone (standing_block before fits.taker) (standing_block before fits.maker))
        (block_buyer_zone (standing_block before fits.taker) (standing_block before fits.maker))
        leg.route fits.carried.is_route.way fits.carried.is_route.simple;
    taker = block_hour fits.taker leg.taker fits.taker_open;
    maker = block_hour fits.maker leg.maker fits.maker_open;
  }
  event_within _ fits = tt

events_within : (setup : Setup) (events : List Event) → FitAfter setup [] events → AreWithin (setup.hours + 1) events
events_within setup events fit = λ e i.
    let parts = parted e events i in
    let own : FitAfter setup [] (parts.0 ++ (e ∷ parts.1)) = subst (FitAfter setup []) parts.2 fit in
    event_within setup parts.0 (all_are_sound setup parts.0 (fit-front setup [] parts.0 (e ∷ parts.1) own)) e (fit-back setup [] parts.0 (e ∷ parts.1) own).0

-- ---- a journal

still_sized : (setup : Setup) (old new : Tally) → IsSized setup old → SameSize old new → IsSized setup new
still_sized setup old new sized same = record {
  traded = λ place day. same.traded place ∙ sized.traded place day;
  granted = λ place day. same.granted place ∙ sized.granted place day;
  positions = λ place day. same.positions place ∙ sized.positions place day;
  parties = same.parties ∙ sized.parties;
}

pub schedule-is : (setup : Setup) (entries : List Entry) (old new : Tally) → IsMarketSetup setup → IsLegal setup entries
    → Counts [] old → IsSized setup old → SameSize old new
    → (Counts [] old → AreWithin (length old.parties) (journal_events entries) → Counts (journal_events entries) new)
    → lines_of setup (numbers_in new.sums) ≡ schedule_text setup (journal_events entries)
schedule-is setup entries old new is_setup legal none sized same counted =
    let history : IsHistory setup (journal_events entries) =
    subst (λ es. IsHistory setup (journal_events es)) (sym legal) (run-history setup is_setup all_parts (map turn_of entries)) in
    let events = journal_events entries in
    let within : AreWithin (length old.parties) events = subst (λ n. AreWithin n events) (sym sized.parties) (events_within setup events history.fit) in
    same_lines setup (numbers_in new.sums) (numbers_of events)
    (numbers-are setup events new history.fit (counted none within) (still_sized setup old new sized same))
