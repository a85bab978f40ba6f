-- What one more event, and one more arc of a route, counts.
use Rattle.std.proofs.Common.{◌≡◌, ◌∙◌, inl, ◌+◌, ◌-◌, ◌<◌, ◌==◌, ◌&&◌, ◌||◌, ℕ, Bool, true, false, List, [], ◌∷◌, ◌++◌, length, map, take, get_or, Some, None, refl, sym, ap, subst, arith, if◌then◌else◌}
use Rattle.std.specs.Prelude.{slice_get}
use Rattle.std.specs.List.{cons_option}
use Rattle.std.proofs.Math.Seq.{append_snoc}
use Rattle.std.proofs.lemmas.List.{append-nil, take_more}
use Rattle.std.proofs.lemmas.List.Elements.{filter_map-append}
use Rattle.std.proofs.lemmas.List.Folds.{list_any_more}
use Rattle.std.proofs.lemmas.List.Sums.{sum_by_push}
use Rattle.order_kinds.specs.declared.order.OrderName.{OrderName}
use Rattle.zone_graph.specs.declared.route.Arc.{Arc}
use Rattle.zone_graph.specs.Pour.{lots_if, same_arc, uses}
use Rattle.zone_graph.specs.Route.{AreDifferent}
use Rattle.zone_graph.proofs.Arcs.{is_fresh, lots_if-or, never_both, same_arc-border, same_arc-symm}
use Rattle.zone_graph.proofs.Membership.{IsIn-left, IsIn-right}
use Rattle.market_model.specs.declared.entry.Entry.{Entry}
use Rattle.market_model.specs.declared.event.Event.{Event}
use Rattle.market_model.specs.declared.event.Event.TheVariants as event
use Rattle.market_model.specs.History.{and_then, events_of, journal_events}
use Rattle.laws_of_market.proofs.Journals.{journal_events-more}
use Rattle.market_model.specs.declared.event.Leg.{Leg}
use Rattle.order_kinds.specs.declared.contract.Quarter.{Quarter}
use Rattle.ship_schedule.specs.declared.balance.Balance.{Balance}
use Rattle.ship_schedule.specs.declared.period.Period.{Period}
use Rattle.ship_schedule.specs.declared.period.Period.TheVariants as period
use Rattle.ship_schedule.specs.Places.{period_has, quarter_at}
use Rattle.ship_schedule.specs.Rows.{Counted, InRows, SameShape, amount, is_number, row_at}
use Rattle.ship_schedule.specs.declared.party_index.Party.{Party}
use Rattle.ship_schedule.specs.declared.tally.Tally.{Tally}
use Rattle.ship_schedule.specs.Tally.{AreWithin, Counts, IsLegWithin, IsWithin, SameSize, arc_over, grant_lots, leg_lots, party_at, party_in, party_lots, party_of, position_lots, row_of, sum_along, trade_lots}

-- ---- one more arc of a route

-- of no arc nothing is counted
pub none_counted : (has : Bool) (old lots : ℕ) → old ≡ old + lots_if (has && false) lots
none_counted true old lots = omega arith
none_counted false old lots = omega arith

module _ (route : List Arc) (i : ℕ) (d : Arc) (differ : AreDifferent (map (λ arc. arc.border) route)) (within : i < length route) (lots : ℕ) (other : Arc) where
  uses_one_more : lots_if (uses (take (i + 1) route) other) lots ≡ lots_if (uses (take i route) other) lots + lots_if (same_arc (get_or route i d) other) lots
  uses_one_more =
      ap (λ b. lots_if b lots)
      (list_any_more (same_arc other) route i d within
      ∙ ap (λ b. uses (take i route) other || b) (same_arc-symm other (get_or route i d)))
      ∙ lots_if-or (uses (take i route) other) (same_arc (get_or route i d) other) lots
      (never_both (uses (take i route) other) (same_arc (get_or route i d) other)
      (λ same. is_fresh route i d other differ within (sym (same_arc-border (get_or route i d) other same))))

  -- what is counted with one more arc
  pub route_more : (has : Bool) (old mid new : ℕ) → mid ≡ old + lots_if (has && uses (take i route) other) lots
      → new ≡ mid + lots_if (has && same_arc (get_or route i d) other) lots → new ≡ old + lots_if (has && uses (take (i + 1) route) other) lots
  route_more true old mid new before counted = omega (arith, uses_one_more, before, counted)
  route_more false old mid new before counted = omega (arith, before, counted)

-- ---- one more event

sum_along-push : (count : List Event → Event → ℕ) (before events : List Event) (e : Event)
    → sum_along count before (events ++ e ∷ []) ≡ sum_along count before events + count (before ++ events) e
sum_along-push count before [] e =
    let own : count (before ++ []) e ≡ count before e = ap (λ es. count es e) (append-nil before) in omega (arith, own)
sum_along-push count before (x ∷ events) e =
    let own : count (and_then before x ++ events) e ≡ count (before ++ (x ∷ events)) e = ap (λ es. count es e) (append_snoc before x events) in
    omega (arith, own, sum_along-push count (and_then before x) events e)

-- what a tally counts of one more event
module _ (old new : Tally) (before : List Event) (e : Event) (counts : Counts before old) (size : SameSize old new) where
  pub counts_more :
      ((place border : ℕ) (forward : Bool) → InRows old.sums.traded place border
      → amount new.sums.traded place border forward ≡ amount old.sums.traded place border forward + trade_lots (quarter_at place) (arc_over border forward) e)
      → ((place border : ℕ) (forward : Bool) → InRows old.sums.granted place border
      → amount new.sums.granted place border forward ≡ amount old.sums.granted place border forward + grant_lots (quarter_at place) (arc_over border forward) e)
      → ((place zone : ℕ) (selling : Bool) → InRows old.sums.positions place zone
      → amount new.sums.positions place zone selling ≡ amount old.sums.positions place zone selling + position_lots (quarter_at place) zone selling before e)
      → ((hour : ℕ) → hour < length old.parties → row_of new.parties hour ≡ row_of old.parties hour ++ cons_option (party_in hour e) [])
      → Counts (and_then before e) new
  counts_more traded granted positions parties = record {
    traded = λ place border forward within.
        let own = subst (λ n. border < n) (size.traded place) within in
        traded place border forward own
        ∙ ap (λ n. n + trade_lots (quarter_at place) (arc_over border forward) e) (counts.traded place border forward own)
        ∙ sym (sum_by_push (trade_lots (quarter_at place) (arc_over border forward)) before e);
    granted = λ place border forward within.
        let own = subst (λ n. border < n) (size.granted place) within in
        granted place border forward own
        ∙ ap (λ n. n + grant_lots (quarter_at place) (arc_over border forward) e) (counts.granted place border forward own)
        ∙ sym (sum_by_push (grant_lots (quarter_at place) (arc_over border forward)) before e);
    positions = λ place zone selling within.
        let own = subst (λ n. zone < n) (size.positions place) within in
        positions place zone selling own
        ∙ ap (λ n. n + position_lots (quarter_at place) zone selling before e) (counts.positions place zone selling own)
        ∙ sym (sum_along-push (position_lots (quarter_at place) zone selling) [] before e);
    parties = λ hour within.
        let own = subst (λ n. hour < n) size.parties within in
        parties hour own
        ∙ ap (λ row. row ++ cons_option (party_in hour e) []) (counts.parties hour own)
        ∙ sym (filter_map-append (party_in hour) before (e ∷ []));
  }

pub nothing_more : (n : ℕ) → n ≡ n + 0
nothing_more n = omega arith

pub no_party : {X : Type 0} (xs : List X) → xs ≡ xs ++ []
no_party xs = sym (append-nil xs)

-- the party of the order or block that enters
pub party_more : {X : Type 0} (here : Bool) (x : X) (old new : List X) → new ≡ (if here then old ++ x ∷ [] else old)
    → new ≡ old ++ cons_option (if here then Some x else None) []
party_more true x old new noted = noted
party_more false x old new noted = noted ∙ sym (append-nil old)

-- a tally knows the parties of its events
pub known_party : (events : List Event) (tally : Tally) (name : OrderName) → Counts events tally → name.hour < length tally.parties
    → party_at tally.parties name ≡ party_of events name
known_party events tally name counts within = ap (λ row. slice_get row (name.number - 1)) (counts.parties name.hour within)

-- ---- more events

pub within_parts : (hours : ℕ) (xs ys : List Event) → AreWithin hours (xs ++ ys) → AreWithin hours xs × AreWithin hours ys
within_parts hours xs ys within = (λ e i. within e (IsIn-left e xs ys i), λ e i. within e (IsIn-right e xs ys i))

pub one_within : (hours : ℕ) (e : Event) → AreWithin hours (e ∷ []) → IsWithin hours e
one_within hours e within = within e (inl refl)

-- the events of one more entry, and one more event
pub entries_more : (entries : List Entry) (i : ℕ) (entry : Entry) → i < length entries → entry ≡ get_or entries i entry
    → journal_events (take (i + 1) entries) ≡ journal_events (take i entries) ++ events_of entry.reply
entries_more entries i entry within is =
    ap journal_events (take_more entries i entry within)
    ∙ ap (λ (own : Entry). journal_events (take i entries ++ own ∷ [])) (sym is)
    ∙ journal_events-more (take i entries) entry

pub events_more : (events : List Event) (i : ℕ) (e : Event) → i < length events → e ≡ get_or events i e → take (i + 1) events ≡ take i events ++ e ∷ []
events_more events i e within is = take_more events i e within ∙ ap (λ (own : Event). take i events ++ own ∷ []) (sym is)

-- sizes that are kept twice are kept
pub same_size : (a b c : Tally) → SameSize a b → SameSize b c → SameSize a c
same_size a b c first second = record {
  traded = λ place. second.traded place ∙ first.traded place;
  granted = λ place. second.granted place ∙ first.granted place;
  positions = λ place. second.positions place ∙ first.positions place;
  parties = second.parties ∙ first.parties;
}

-- ---- each kind of event

-- what a tally counts after one more event
abbrev pub Keeps : (old new : Tally) → Event → Type 0
Keeps old new e = (before : List Event) → Counts before old → IsWithin (length old.parties) e → Counts (and_then before e) new

pub itself : (tally : Tally) → SameSize tally tally
itself tally = record { traded = λ place. refl; granted = λ place. refl; positions = λ place. refl; parties = refl }

-- one of which nothing is counted
pub still : (tally : Tally) (e : Event) → ((quarter : Quarter) (arc : Arc) → trade_lots quarter arc e ≡ 0)
    → ((quarter : Quarter) (arc : Arc) → grant_lots quarter arc e ≡ 0)
    → ((quarter : Quarter) (zone : ℕ) (selling : Bool) (before : List Event) → position_lots quarter zone selling before e ≡ 0)
    → ((hour : ℕ) → party_in hour e ≡ None) → Keeps tally tally e
still tally e trades grants positions parties = λ before counts within.
    counts_more tally tally before e counts (itself tally)
    (λ place border forward w. let n = trades (quarter_at place) (arc_over border forward) in omega (arith, n))
    (λ place border forward w. let n = grants (quarter_at place) (arc_over border forward) in omega (arith, n))
    (λ place zone selling w. let n = positions (quarter_at place) zone selling before in omega (arith, n))
    (λ hour w. no_party (row_of tally.parties hour) ∙ ap (λ o. row_of tally.parties hour ++ cons_option o []) (sym (parties hour)))

-- one that enters an order or a block
pub entering : (tally : Tally) (parties : List (List Party)) (name : OrderName) (party : Party) (e : Event)
    → ((quarter : Quarter) (arc : Arc) → trade_lots quarter arc e ≡ 0) → ((quarter : Quarter) (arc : Arc) → grant_lots quarter arc e ≡ 0)
    → ((quarter : Quarter) (zone : ℕ) (selling : Bool) (before : List Event) → position_lots quarter zone selling before e ≡ 0)
    → ((hour : ℕ) → party_in hour e ≡ (if name.hour == hour then Some party else None))
    → ((hour : ℕ) → hour < length tally.parties → row_of parties hour ≡ (if name.hour == hour then row_of tally.parties hour ++ party ∷ [] else row_of tally.parties hour))
    → length parties ≡ length tally.parties → Keeps tally (record { sums = tally.sums; parties = parties }) e
entering tally parties name party e trades grants positions enters noted size = λ before counts within.
    counts_more tally (record { sums = tally.sums; parties = parties }) before e counts
    (record { traded = λ place. refl; granted = λ place. refl; positions = λ place. refl; parties = size })
    (λ place border forward w. let n = trades (quarter_at place) (arc_over border forward) in omega (arith, n))
    (λ place border forward w. let n = grants (quarter_at place) (arc_over border forward) in omega (arith, n))
    (λ place zone selling w. let n = positions (quarter_at place) zone selling before in omega (arith, n))
    (λ hour w. party_more (name.hour == hour) party (row_of tally.parties hour) (row_of parties hour) (noted hour w)
    ∙ ap (λ o. row_of tally.parties hour ++ cons_option o []) (sym (enters hour)))

-- one that trades
pub trading : (old new : Tally) (period : Period) (leg : Leg) (e : Event)
    → ((quarter : Quarter) (arc : Arc) → trade_lots quarter arc e ≡ lots_if (period_has period quarter && uses leg.route arc) leg.lots)
    → ((quarter : Quarter) (arc : Arc) → grant_lots quarter arc e ≡ 0)
    → ((quarter : Quarter) (zone : ℕ) (selling : Bool) (before : List Event) → position_lots quarter zone selling before e ≡ leg_lots period quarter zone selling before leg)
    → ((hour : ℕ) → party_in hour e ≡ None) → ((hours : ℕ) → IsWithin hours e → IsLegWithin hours leg)
    → (AreDifferent (map (λ arc. arc.border) leg.route)
    → Counted old.sums.traded new.sums.traded (λ place border forward. period_has period (quarter_at place) && uses leg.route (arc_over border forward)) leg.lots)
    → SameShape old.sums.traded new.sums.traded
    → ((place zone : ℕ) (selling : Bool) → InRows old.sums.positions place zone → amount new.sums.positions place zone selling
    ≡ amount old.sums.positions place zone selling + party_lots period (quarter_at place) zone selling leg.lots (party_at old.parties leg.taker)
    + party_lots period (quarter_at place) zone selling leg.lots (party_at old.parties leg.maker))
    → SameShape old.sums.positions new.sums.positions → new.sums.granted ≡ old.sums.granted → new.parties ≡ old.parties → Keeps old new e
trading old new period leg e trades grants zones enters is_within traded traded_shape positions positions_shape same_grants same_parties = λ before counts within.
    let leg_within = is_within (length old.parties) within in
    counts_more old new before e counts
    (record {
      traded = traded_shape;
      granted = λ place. ap (λ rows. length (row_at rows place)) same_grants;
      positions = positions_shape;
      parties = ap length same_parties;
    })
    (λ place border forward w. traded leg_within.different place border forward w
    ∙ ap (λ n. amount old.sums.traded place border forward + n) (sym (trades (quarter_at place) (arc_over border forward))))
    (λ place border forward w. ap (λ rows. amount rows place border forward) same_grants
    ∙ nothing_more (amount old.sums.granted place border forward)
    ∙ ap (λ n. amount old.sums.granted place border forward + n) (sym (grants (quarter_at place) (arc_over border forward))))
    (λ place zone selling w.
    let taker = ap (party_lots period (quarter_at place) zone selling leg.lots) (known_party before old leg.taker counts leg_within.taker) in
    let maker = ap (party_lots period (quarter_at place) zone selling leg.lots) (known_party before old leg.maker counts leg_within.maker) in
    let counted = positions place zone selling w in
    let own = zones (quarter_at place) zone selling before in
    omega (arith, taker, maker, counted, own))
    (λ hour w. ap (λ ps. row_of ps hour) same_parties ∙ no_party (row_of old.parties hour)
    ∙ ap (λ o. row_of old.parties hour ++ cons_option o []) (sym (enters hour)))

-- one that grants
pub granting : (tally : Tally) (rows : List (List Balance)) (arc : Arc) (first last : Quarter) (lots : ℕ)
    → Counted tally.sums.granted rows (λ place border forward. period_has (period.Range first last) (quarter_at place) && is_number arc.border arc.forward border forward) lots
    → SameShape tally.sums.granted rows
    → Keeps tally (record { sums = record { traded = tally.sums.traded; granted = rows; positions = tally.sums.positions }; parties = tally.parties })
    (event.Granted arc first last lots)
granting tally rows arc first last lots counted shape = λ before counts within.
    counts_more tally (record { sums = record { traded = tally.sums.traded; granted = rows; positions = tally.sums.positions }; parties = tally.parties })
    before (event.Granted arc first last lots) counts
    (record { traded = λ place. refl; granted = shape; positions = λ place. refl; parties = refl })
    (λ place border forward w. nothing_more (amount tally.sums.traded place border forward))
    counted
    (λ place zone selling w. nothing_more (amount tally.sums.positions place zone selling))
    (λ hour w. no_party (row_of tally.parties hour))
