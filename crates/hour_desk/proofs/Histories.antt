-- An hour goes on with what fits it by any setup of its grid: it stands over a wider setup, which has the hours and
-- callers of that one too.
use Rattle.std.proofs.Common.{◌≡◌, ℕ, ◌+◌, ◌≤◌, true, List, [], ◌∷◌, ◌++◌, length, nat_le, length-append, refl, subst, arith}
use Rattle.std.proofs.lemmas.Bool.{and_from, and_parts, le-leb, leb-true}
use Rattle.order_kinds.specs.declared.contract.Quarter.{Quarter}
use Rattle.order_kinds.specs.Period.{is_within}
use Rattle.zone_graph.specs.declared.route.Arc.{Arc}
use Rattle.zone_graph.specs.Graph.{Graph, IsGraph}
use Rattle.market_model.specs.declared.event.Event.{Event}
use Rattle.market_model.specs.declared.event.Event.TheVariants as event
use Rattle.market_model.specs.declared.setup.Caller.{Caller}
use Rattle.market_model.specs.declared.setup.Setup.{Setup}
use Rattle.market_model.specs.Board.{IsHourOf}
use Rattle.market_model.specs.Grid.{graph_of}
use Rattle.market_model.specs.History.{and_then}
use Rattle.market_model.specs.WellFormed.{BorderFits, Carries, FitAfter, Fits, IsRange}
use Rattle.laws_of_boards.specs.Hours.{IsHourIn, IsOfHour}
use Rattle.laws_of_boards.proofs.Fitting.{fits_in}

-- a setup over a graph
abbrev setup_over : Graph → (hours : ℕ) → List Caller → Setup
setup_over graph hours callers = record { hours = hours; zones = graph.zones; borders = graph.borders; callers = callers }

module _ (graph : Graph) (hours more : ℕ) (callers others : List Caller) (longer : hours ≤ more) (larger : length callers ≤ length others) where
  within : (hour : ℕ) → is_within 1 hours hour ≡ true → is_within 1 more hour ≡ true
  within hour is =
      let both = and_parts (nat_le 1 hour) (nat_le hour hours) is in
      let most = leb-true hour hours both.1 in
      and_from (nat_le 1 hour) (nat_le hour more) both.0 (le-leb hour more (omega arith))

  carries : (room : Arc → ℕ) (from to lots : ℕ) (route : List Arc) → Carries (setup_over graph hours callers) room from to lots route → Carries (setup_over graph more others) room from to lots route
  carries room from to lots route c = record { is_route = c.is_route; has_room = c.has_room }

  range : (arc : Arc) (first last : Quarter) → IsRange (setup_over graph hours callers) arc first last → IsRange (setup_over graph more others) arc first last
  range arc first last r = record { on_arc = r.on_arc; from_hour = within first.hour r.from_hour; to_hour = within last.hour r.to_hour; in_order = r.in_order }

  borders : (border first last : ℕ) → BorderFits (setup_over graph hours callers) border first last → BorderFits (setup_over graph more others) border first last
  borders border first last f = record { on_border = f.on_border; from_hour = within first f.from_hour; to_hour = within last f.to_hour; in_order = f.in_order }

  -- what fits by a setup fits by one with more hours and callers
  wider-fits : (before : List Event) (e : Event) → Fits (setup_over graph hours callers) before e → Fits (setup_over graph more others) before e
  wider-fits before (event.Entered name caller order) f =
      let few = f.of_caller in record {
        named = f.named;
        of_caller = omega arith;
        in_hour = within order.contract.hour f.in_hour;
        in_part = f.in_part;
        in_zone = f.in_zone;
        sound = f.sound;
      }
  wider-fits before (event.EnteredBlock name caller order) f =
      let few = f.of_caller in record {
        named = f.named;
        of_caller = omega arith;
        from_hour = within order.first f.from_hour;
        to_hour = within order.last f.to_hour;
        of_period = f.of_period;
        in_zone = f.in_zone;
        sound = f.sound;
      }
  wider-fits before (event.Leg contract leg) f = record {
    taker = f.taker;
    maker = f.maker;
    taker_open = f.taker_open;
    maker_open = f.maker_open;
    taker_contract = f.taker_contract;
    maker_contract = f.maker_contract;
    opposed = f.opposed;
    price = f.price;
    some = f.some;
    taker_shows = f.taker_shows;
    maker_shows = f.maker_shows;
    carried = carries _ _ _ leg.lots leg.route f.carried;
  }
  wider-fits before (event.BlockLeg first last leg) f = record {
    taker = f.taker;
    maker = f.maker;
    taker_open = f.taker_open;
    maker_open = f.maker_open;
    taker_first = f.taker_first;
    taker_last = f.taker_last;
    maker_first = f.maker_first;
    maker_last = f.maker_last;
    opposed = f.opposed;
    one_quantity = f.one_quantity;
    price = f.price;
    some = f.some;
    taker_has = f.taker_has;
    maker_has = f.maker_has;
    carried = carries _ _ _ leg.lots leg.route f.carried;
  }
  wider-fits before (event.Granted arc first last lots) f = record { range = range arc first last f.range; some = f.some; has_room = f.has_room }
  wider-fits before (event.Offered arc first last lots) f = record { range = range arc first last f.range; most = f.most; covers_flow = f.covers_flow }
  wider-fits before (event.Halted border first last) f = borders border first last f
  wider-fits before (event.Resumed border first last) f = borders border first last f
  wider-fits before (event.Gated hour phase) f = record { in_hour = within hour f.in_hour; later = f.later }
  wider-fits before (event.Withdrawn name lots) f = f
  wider-fits before (event.Reduced name by) f = f

  wider-fit : (before events : List Event) → FitAfter (setup_over graph hours callers) before events → FitAfter (setup_over graph more others) before events
  wider-fit before [] fit = tt
  wider-fit before (e ∷ events) fit = (wider-fits before e fit.0, wider-fit (and_then before e) events fit.1)

-- an hour stands over a setup by which all fits that fits by another one of its grid
pub record StandsWider (setup : Setup) (hour : ℕ) (events : List Event) : Type 0 where
  pub wider : Setup
  pub same : graph_of wider ≡ graph_of setup
  pub history : List Event
  pub in_hour : IsHourIn wider hour history events
  pub fits : (before : List Event) (e : Event) → Fits setup before e → Fits wider before e

pub stands-wider : (setup : Setup) (hour : ℕ) (events : List Event) → IsHourOf (graph_of setup) hour events → StandsWider setup hour events
stands-wider setup hour events stands =
    let graph : Graph = graph_of setup in
    let own : Setup = stands.setup in
    let fit : FitAfter (setup_over graph own.hours own.callers) [] stands.history =
    subst (λ g. FitAfter (setup_over g own.hours own.callers) [] stands.history) stands.over_grid stands.fit in
    let many : length (setup.callers ++ own.callers) ≡ length setup.callers + length own.callers = length-append setup.callers own.callers in
    record {
      wider = setup_over graph (setup.hours + own.hours) (setup.callers ++ own.callers);
      same = refl;
      history = stands.history;
      in_hour = record {
        is_setup = subst IsGraph stands.over_grid stands.is_setup;
        fit = wider-fit graph own.hours (setup.hours + own.hours) own.callers (setup.callers ++ own.callers) (omega arith) (omega arith) [] stands.history fit;
        in_hour = stands.in_hour;
      };
      fits = wider-fits graph setup.hours (setup.hours + own.hours) setup.callers (setup.callers ++ own.callers) (omega arith) (omega arith);
    }

-- so it goes on with an event of the hour alone that fits
pub goes-on : (setup : Setup) (hour : ℕ) (events : List Event) (e : Event) → IsHourOf (graph_of setup) hour events → IsOfHour hour e → Fits setup events e
    → IsHourOf (graph_of setup) hour (and_then events e)
goes-on setup hour events e stands own fits =
    let wide = stands-wider setup hour events stands in
    subst (λ g. IsHourOf g hour (and_then events e)) wide.same (fits_in wide.wider hour wide.history events e wide.in_hour own (wide.fits events e fits)).1.stands
