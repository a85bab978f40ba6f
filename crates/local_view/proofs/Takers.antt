-- What a taker takes over one best route after the other, and what it knows after that.
use Rattle.std.proofs.Common.{◌≡◌, ◌∙◌, ◌+◌, ◌-◌, ◌<◌, ℕ, true, List, [], ◌∷◌, ◌++◌, length, not, Option, is_some, Some, None, refl, sym, ap, subst, arith}
use Rattle.std.specs.List.{list_all}
use Rattle.std.specs.Option.{option_map}
use Rattle.order_kinds.specs.declared.side.Side.{Side}
use Rattle.order_kinds.specs.declared.side.Side.TheVariants.{Buy, Sell}
use Rattle.order_kinds.specs.Same.{same_side}
use Rattle.zone_graph.specs.declared.route.Arc.{Arc}
use Rattle.zone_graph.specs.declared.route.RouteLeg.{RouteLeg}
use Rattle.zone_graph.specs.Graph.{Graph, HasArc, HasZone, IsGraph, border_count}
use Rattle.zone_graph.specs.Pour.{room_after}
use Rattle.zone_graph.specs.Rooms.{room_of}
use Rattle.zone_graph.specs.Route.{IsIn, carried}
use Rattle.cut_proof.specs.Carrying.{CanCarry, FitTogether}
use Rattle.cut_proof.proofs.Carrying.{fit-kept, route_can_carry}
use Rattle.route_choice.specs.Freshness.{IsFresh, is_known, directed_route, has_room}
use Rattle.route_choice.specs.Poured.{AreRoomsAfter, lots_of, rooms_after}
use Rattle.route_choice.proofs.Fresh.{known_is_reached, searched_arcs, stays_fresh}
use Rattle.route_choice.proofs.Pours.{IsPoured, IsPourLeg, ended, leg_over_route, one_more, over_route, pour_leg-is}
use Rattle.route_choice.specs.Tree.{Tree}
use Rattle.local_view.specs.Nearness.{is_joined}
use Rattle.local_view.specs.Poured.{CarriesNext, leg_with, legs_with, room_after_next, sent_from, sent_to}
use Rattle.local_view.specs.Takers.{IsOwn, IsTaker, best_between}

-- ---- routes between the taker and an order

between : (graph : Graph) (room : Arc → ℕ) (side : Side) (zone other : ℕ) → directed_route graph room zone other (same_side side Sell) ≡ best_between graph room side zone other
between graph room Buy zone other = refl
between graph room Sell zone other = refl

-- ---- one leg

module _ (graph : Graph) (is : IsGraph graph) (rooms : List (ℕ × ℕ)) (size : length rooms ≡ border_count graph) (fit : FitTogether graph (room_of rooms)) (side : Side)
    (zone other left : ℕ) (some : 0 < left) (route : List Arc) (found : best_between graph (room_of rooms) side zone other ≡ Some route) where
  abbrev from : ℕ
  from = sent_from side zone other

  abbrev to : ℕ
  to = sent_to side zone other

  abbrev leg : RouteLeg
  leg = over_route (room_of rooms) left route

  next : leg_with graph (room_of rooms) side zone other left ≡ Some leg
  next = leg_over_route graph (room_of rooms) from to left route some found

  is_leg : IsPourLeg graph (room_of rooms) from to left leg
  is_leg = pour_leg-is graph (room_of rooms) from to left leg is next

  arcs_there : (arc : Arc) → IsIn arc route → HasArc graph arc
  arcs_there =
      searched_arcs graph (room_of rooms) (record { zone = zone; towards = same_side side Sell; distances = []; steps = [] }) other route is
      (between graph (room_of rooms) side zone other ∙ found)

  pub arcs_known : (arcs : List Arc) → arcs ≡ route → (size_now : ℕ) → size_now ≡ length rooms → (arc : Arc) → IsIn arc arcs → arc.border < size_now
  arcs_known arcs same size_now size_is arc i = subst (λ n. arc.border < n) (sym (size_is ∙ size)) (arcs_there arc (subst (IsIn arc) same i))

  pub can_carry : (lots : ℕ) (asked arcs : List Arc) → asked ≡ route → lots ≡ carried (room_of rooms) left asked → arcs ≡ route → CanCarry (length rooms) (room_of rooms) lots arcs
  can_carry lots asked arcs same_asked lots_are same =
      subst (λ n. CanCarry (length rooms) (room_of rooms) n arcs) (sym (lots_are ∙ ap (carried (room_of rooms) left) same_asked))
      (subst (CanCarry (length rooms) (room_of rooms) leg.lots) (sym same)
      (subst (λ borders. CanCarry borders (room_of rooms) leg.lots route) (sym size) (route_can_carry graph (room_of rooms) from to leg fit is_leg.fits)))

  -- the rooms after it
  module _ (after : List (ℕ × ℕ)) (lots : ℕ) (lots_are : lots ≡ carried (room_of rooms) left route)
      (over : (arc : Arc) → room_of after arc ≡ room_after (room_of rooms) (record { route = route; lots = lots }) arc) where
    leg_same : record { route = route; lots = lots } ≡ leg
    leg_same = λ i. record { route = route; lots = lots_are i }

    over_leg : (arc : Arc) → room_of after arc ≡ room_after (room_of rooms) leg arc
    over_leg arc = over arc ∙ ap (λ l. room_after (room_of rooms) l arc) leg_same

    pub carries : CarriesNext (room_of rooms) (room_of after) (leg_with graph (room_of rooms) side zone other left) (Some lots)
    carries = record {
      lots_are = ap (λ (l : RouteLeg). Some l.lots) leg_same ∙ ap (option_map (λ (l : RouteLeg). l.lots)) (sym next);
      rooms = λ arc. over_leg arc ∙ ap (λ n. room_after_next (room_of rooms) n arc) (sym next);
    }

    pub fit_after : FitTogether graph (room_of after)
    fit_after = subst (FitTogether graph) (λ i. λ arc. sym (over_leg arc) i) (fit-kept graph (room_of rooms) leg fit is_leg.fits.has_room)

    own-stays : (tree : Tree) → list_all (has_room (room_of after)) route ≡ true → IsOwn graph (room_of rooms) side zone tree → IsOwn graph (room_of after) side zone tree
    own-stays tree all own = record {
      here = own.here;
      towards = own.towards;
      told = stays_fresh tree (room_of after) route all graph (room_of rooms) other lots is own.told
          (ap (λ z. directed_route graph (room_of rooms) z other tree.towards) own.here ∙ ap (directed_route graph (room_of rooms) zone other) own.towards
          ∙ between graph (room_of rooms) side zone other ∙ found)
          over;
    }

    pub taker-stays : (own : Tree) → list_all (has_room (room_of after)) route ≡ true
        → IsTaker graph (room_of rooms) (record { side = side; zone = zone; own = own }) → IsTaker graph (room_of after) (record { side = side; zone = zone; own = own })
    taker-stays own all t = record { there = t.there; own = own-stays own all t.own }

-- a taker whose tree was made just now
pub taker-anew : (graph : Graph) (room : Arc → ℕ) (side : Side) (zone : ℕ) (tree : Tree) → HasZone graph zone → IsFresh graph room tree → tree.zone ≡ zone
    → tree.towards ≡ same_side side Sell → IsTaker graph room (record { side = side; zone = zone; own = tree })
taker-anew graph room side zone tree there told here towards = record { there = there; own = record { here = here; towards = towards; told = told } }

-- ---- the whole pour

-- legs so far of what is taken of an order
pub record IsTaken (graph : Graph) (start : Arc → ℕ) (side : Side) (zone other most : ℕ) (room : Arc → ℕ) (left : ℕ) : Type 0 where
  pub legs : List RouteLeg
  pub poured : IsPoured graph start (sent_from side zone other) (sent_to side zone other) most room left legs

-- one more of them
pub record TakesMore (graph : Graph) (start : Arc → ℕ) (side : Side) (zone other most : ℕ) (after : Arc → ℕ) (left lots : ℕ) : Type 0 where
  pub some : 0 < lots
  pub enough : lots < left + 1
  pub taken : IsTaken graph start side zone other most after (left - lots)

pub takes_more : (graph : Graph) (start : Arc → ℕ) (side : Side) (zone other most : ℕ) (room after : Arc → ℕ) (left lots : ℕ) → IsGraph graph
    → IsTaken graph start side zone other most room left → CarriesNext room after (leg_with graph room side zone other left) (Some lots)
    → TakesMore graph start side zone other most after left lots
takes_more graph start side zone other most room after left lots is taken carried = by (leg_with graph room side zone other left) refl carried.lots_are carried.rooms
  where
    by : (next : Option RouteLeg) → leg_with graph room side zone other left ≡ next → Some lots ≡ option_map (λ (l : RouteLeg). l.lots) next
        → ((arc : Arc) → after arc ≡ room_after_next room next arc) → TakesMore graph start side zone other most after left lots
    by None e none rooms = absurd (cc)
    by (Some leg) e some rooms =
        let same : lots ≡ leg.lots = cc in
        let l = pour_leg-is graph room (sent_from side zone other) (sent_to side zone other) left leg is e in
        let one = l.some in
        let enough = l.enough in
        record {
          some = omega (arith, same, one);
          enough = omega (arith, same, enough);
          taken = record {
            legs = taken.legs ++ leg ∷ [];
            poured = subst (λ n. IsPoured graph start (sent_from side zone other) (sent_to side zone other) most after (left - n) (taken.legs ++ leg ∷ [])) (sym same)
                (subst (λ r. IsPoured graph start (sent_from side zone other) (sent_to side zone other) most r (left - leg.lots) (taken.legs ++ leg ∷ [])) (λ i. λ arc. sym (rooms arc) i)
                (one_more graph start (sent_from side zone other) (sent_to side zone other) most room left taken.legs leg is taken.poured e));
          };
        }

-- where there is no further one, all that can be taken is
pub record TakesAll (graph : Graph) (start : Arc → ℕ) (side : Side) (zone other most : ℕ) (after : Arc → ℕ) (lots : ℕ) : Type 0 where
  pub lots_are : lots ≡ lots_of (legs_with graph start side zone other most)
  pub rooms : AreRoomsAfter start after (legs_with graph start side zone other most)

pub takes_all : (graph : Graph) (start : Arc → ℕ) (side : Side) (zone other most : ℕ) (room after : Arc → ℕ) (left : ℕ) → IsGraph graph
    → IsTaken graph start side zone other most room left → CarriesNext room after (leg_with graph room side zone other left) None
    → TakesAll graph start side zone other most after (most - left)
takes_all graph start side zone other most room after left is taken carried = by (leg_with graph room side zone other left) refl carried.lots_are carried.rooms
  where
    by : (next : Option RouteLeg) → leg_with graph room side zone other left ≡ next → None ≡ option_map (λ (l : RouteLeg). l.lots) next
        → ((arc : Arc) → after arc ≡ room_after_next room next arc) → TakesAll graph start side zone other most after (most - left)
    by (Some leg) e none rooms = absurd (cc)
    by None e none rooms =
        let all = ended graph start (sent_from side zone other) (sent_to side zone other) most room left taken.legs is taken.poured e in
        let sums = taken.poured.lots in
        record {
          lots_are = (let rest : most - left ≡ lots_of taken.legs = omega (arith, sums) in rest) ∙ ap lots_of all;
          rooms = λ arc. rooms arc ∙ ap (λ r. r arc) taken.poured.rooms ∙ ap (λ ls. rooms_after start ls arc) all;
        }

-- the same from what a step answered, of a taker with the side and the zone that it began with
next_at : (graph : Graph) (room after : Arc → ℕ) (side side_now : Side) (zone zone_now other left : ℕ) (found answer : Option ℕ) → side_now ≡ side → zone_now ≡ zone
    → CarriesNext room after (leg_with graph room side_now zone_now other left) found → found ≡ answer → CarriesNext room after (leg_with graph room side zone other left) answer
next_at graph room after side side_now zone zone_now other left found answer same_side same_zone carried is =
    subst (CarriesNext room after (leg_with graph room side zone other left)) is
    (subst (λ s. CarriesNext room after (leg_with graph room s zone other left) found) same_side
    (subst (λ z. CarriesNext room after (leg_with graph room side_now z other left) found) same_zone carried))

pub step_more : (graph : Graph) (start : Arc → ℕ) (side : Side) (zone other most : ℕ) (room after : Arc → ℕ) (left lots : ℕ) → IsGraph graph
    → IsTaken graph start side zone other most room left → (side_now : Side) (zone_now : ℕ) → side_now ≡ side → zone_now ≡ zone → (found : Option ℕ)
    → CarriesNext room after (leg_with graph room side_now zone_now other left) found → found ≡ Some lots → TakesMore graph start side zone other most after left lots
step_more graph start side zone other most room after left lots is taken side_now zone_now same_side same_zone found carried e =
    takes_more graph start side zone other most room after left lots is taken
    (next_at graph room after side side_now zone zone_now other left found (Some lots) same_side same_zone carried e)

pub step_none : (graph : Graph) (start : Arc → ℕ) (side : Side) (zone other most : ℕ) (room after : Arc → ℕ) (left : ℕ) → IsGraph graph
    → IsTaken graph start side zone other most room left → (side_now : Side) (zone_now : ℕ) → side_now ≡ side → zone_now ≡ zone → (found : Option ℕ)
    → CarriesNext room after (leg_with graph room side_now zone_now other left) found → found ≡ None → TakesAll graph start side zone other most after (most - left)
step_none graph start side zone other most room after left is taken side_now zone_now same_side same_zone found carried e =
    takes_all graph start side zone other most room after left is taken
    (next_at graph room after side side_now zone zone_now other left found None same_side same_zone carried e)

-- ---- zones that are joined

-- a fresh search of a zone knows the takers that can trade with an order there
pub known_joined : (graph : Graph) (room : Arc → ℕ) (search : Tree) (side : Side) (zone other : ℕ) → IsGraph graph → IsFresh graph room search
    → search.zone ≡ other → search.towards ≡ not (same_side side Sell) → is_known search zone ≡ is_joined graph room side zone other
known_joined graph room search side zone other is fresh at towards =
    known_is_reached graph room search zone fresh
    ∙ ap (λ t. is_some (directed_route graph room search.zone zone t)) towards
    ∙ ap (λ z. is_some (directed_route graph room z zone (not (same_side side Sell)))) at
    ∙ by side
  where
    by : (s : Side) → is_some (directed_route graph room other zone (not (same_side s Sell))) ≡ is_joined graph room s zone other
    by Buy = refl
    by Sell = refl
