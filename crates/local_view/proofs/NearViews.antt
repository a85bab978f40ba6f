-- Rows of which only those near a change are made anew are the views.
use Rattle.std.proofs.Common.{◌≡◌, ◌∙◌, ℕ, ◌<◌, ◌&&◌, Bool, true, false, List, [], ◌∷◌, ◌++◌, get_or, inl, inr, is_some, length, Result, OnOk, take, refl, sym, ap, subst, if◌then◌else◌, arith}
use Rattle.std.proofs.lemmas.Bool.{or_parts, true≢false}
use Rattle.std.proofs.Math.Seq.{take-append_seam}
use Rattle.std.specs.List.{list_any, range_with_len}
use Rattle.cut_proof.specs.ZoneSet.{holds}
use Rattle.order_kinds.specs.declared.side.Side.{Side}
use Rattle.order_kinds.specs.declared.side.Side.TheVariants.{Buy, Sell}
use Rattle.order_kinds.specs.Contract.{contract_at}
use Rattle.order_kinds.specs.Period.{contract_quarters}
use Rattle.order_kinds.specs.Side.{opposite}
use Rattle.zone_graph.specs.declared.route.Arc.{Arc}
use Rattle.zone_graph.specs.Graph.{Graph, HasArc, IsGraph, zone_count}
use Rattle.zone_graph.specs.Reach.{reaches}
use Rattle.zone_graph.specs.Rooms.{room_of}
use Rattle.zone_graph.specs.Route.{IsIn}
use Rattle.zone_graph.proofs.BestRoute.{best_route-rooms}
use Rattle.zone_graph.proofs.Membership.{from_filter}
use Rattle.market_model.specs.declared.reply.ViewRow.{ViewRow}
use Rattle.market_model.specs.Board.{BoardState, IsBoard}
use Rattle.market_model.specs.Certificate.{zones_in_reach}
use Rattle.market_model.specs.Room.{room}
use Rattle.laws_of_views.specs.Nearby.{HaveNoZoneInCommon, zones_of_view}
use Rattle.local_view.specs.declared.part_views.PartViews.{PartViews}
use Rattle.local_view.specs.Boards.{view_of}
use Rattle.local_view.specs.Kept.{AreNext, AreSized, IsSized, Views, line_of, no_part, on_side}
use Rattle.local_view.specs.Nearness.{AreOthers, WereViews, is_joined, is_near, zones_touched}
use Rattle.local_view.specs.Rows.{LineRows}
use Rattle.local_view.specs.Works.{HasMade}
use Rattle.local_view.proofs.Hours.{hour-graph}
use Rattle.local_view.proofs.Made.{on_ok, on_ok_map}
use Rattle.local_view.proofs.NearHours.{view-near}

none_passes : {X : Type 0} (p : X → Bool) (xs : List X) (x : X) → list_any p xs ≡ false → IsIn x xs → p x ≡ false
none_passes p [] x none i = absurd i
none_passes p (y ∷ xs) x none i =
    let both = or_parts (p y) (list_any p xs) none in
    elim i [ inl same ↦ ap p same ∙ both.0 | inr later ↦ none_passes p xs x both.1 later ]

-- a zone that can trade over some rooms can do so over the same rooms
joined_over : (graph : Graph) (is : IsGraph graph) (room other : Arc → ℕ) (side : Side) (zone from : ℕ) → ((arc : Arc) → HasArc graph arc → room arc ≡ other arc)
    → is_joined graph room side zone from ≡ is_joined graph other side zone from
joined_over graph is room other Buy zone from same = ap (λ o. is_some o) (best_route-rooms graph room other zone from is same)
joined_over graph is room other Sell zone from same = ap (λ o. is_some o) (best_route-rooms graph room other from zone is same)

in_reach_joined : (graph : Graph) (room : Arc → ℕ) (side : Side) (zone other : ℕ) → IsIn other (zones_in_reach graph room (opposite side) zone) → is_joined graph room side zone other ≡ true
in_reach_joined graph room Buy zone other i = (from_filter (λ to. reaches graph room zone to) other (range_with_len 0 (zone_count graph)) i).1
in_reach_joined graph room Sell zone other i = (from_filter (λ to. reaches graph room to zone) other (range_with_len 0 (zone_count graph)) i).1

module _ (board : BoardState) (is : IsBoard board) (part : ℕ) (side : Side) (touched : ℕ) (rooms : List (ℕ × ℕ)) (kept : List (List ViewRow))
    (were : WereViews board part side touched rooms kept) where
  far-apart : (zone : ℕ) → is_near board.grid (room_of rooms) side touched zone ≡ false
      → HaveNoZoneInCommon (zones_touched board.grid touched) (zones_of_view board.grid were.events (contract_at board.hour part) side zone)
  far-apart zone far other among reached =
      let found = from_filter (holds touched) other (range_with_len 0 (zone_count board.grid)) among in
      let joined : is_joined board.grid (room_of rooms) side zone other ≡ true =
      joined_over board.grid (hour-graph board.grid board.hour board.events is.stands) (room_of rooms) (room were.events (contract_quarters (contract_at board.hour part))) side zone other were.rooms_are
      ∙ in_reach_joined board.grid (room were.events (contract_quarters (contract_at board.hour part))) side zone other reached in
      let both : (holds touched other && is_joined board.grid (room_of rooms) side zone other) ≡ true = ap (λ b. b && is_joined board.grid (room_of rooms) side zone other) found.1 ∙ joined in
      true≢false (sym both ∙ none_passes (λ o. holds touched o && is_joined board.grid (room_of rooms) side zone o) (range_with_len 0 (zone_count board.grid)) other far found.0)

  pub near_next : (zones : ℕ) (computed : ℕ) (line : LineRows) → zone_count board.grid ≡ zones → length kept ≡ zones
      → ((zone : ℕ) → zone < zone_count board.grid → holds computed zone ≡ is_near board.grid (room_of rooms) side touched zone)
      → HasMade computed board part side kept line → AreNext board part side zones line
  near_next zones computed line count size told made = record {
    rows = made.rows;
    is = made.is;
    size = made.size ∙ size;
    each = λ zone less.
        let own = made.size in
        made.made zone (omega (arith, less, own, size)) ∙ by zone (omega (arith, less, count)) (holds computed zone) refl;
  }
    where
      by : (zone : ℕ) → zone < zone_count board.grid → (b : Bool) → holds computed zone ≡ b
          → (if b then view_of board part side zone else get_or kept zone []) ≡ view_of board part side zone
      by zone known true e = refl
      by zone known false e =
          were.kept_are zone known
          ∙ sym (view-near board.grid board.hour were.events board.events were.stands is.stands part side zone (zones_touched board.grid touched) were.differ
          (far-apart zone (sym (told zone known) ∙ e)))

side_sized : (zones : ℕ) (part : PartViews) (side : Side) → IsSized zones part → length (on_side part side).kept ≡ zones
side_sized zones part Buy sized = sized.0
side_sized zones part Sell sized = sized.1

written_back : (lent new rest : List PartViews) (len : ℕ) → length lent ≡ len → length new ≡ length lent → take len (new ++ rest) ≡ new
written_back lent new rest len size many = ap (λ n. take n (new ++ rest)) (sym (many ∙ size)) ∙ take-append_seam new rest

-- where the parts were written back the next rows of the one are the views
pub near_back : {E : Type 0} (result : Result (Unit {0}) E) (board : BoardState) (is : IsBoard board) (part : ℕ) (side : Side) (touched : ℕ) (rooms : List (ℕ × ℕ)) (old : Views)
    (items lent new rest : List PartViews) (len zones : ℕ) (computed : ℕ) → WereViews board part side touched rooms (line_of old part side).kept
    → items ≡ old.lines → lent ≡ items → length lent ≡ len → length new ≡ length lent → AreSized zones items → part < length old.lines → zone_count board.grid ≡ zones
    → ((zone : ℕ) → zone < zone_count board.grid → holds computed zone ≡ is_near board.grid (room_of rooms) side touched zone)
    → OnOk result (HasMade computed board part side (on_side (get_or lent part no_part) side).kept (on_side (get_or new part no_part) side))
    → OnOk result (AreNext board part side zones (on_side (get_or (take len (new ++ rest)) part no_part) side))
near_back result board is part side touched rooms old items lent new rest len zones computed were of_old of_items size many sized there count told made =
    on_ok_map result (λ m.
    subst (λ ps. AreNext board part side zones (on_side (get_or ps part no_part) side)) (sym (written_back lent new rest len size many))
    (near_next board is part side touched rooms (line_of old part side).kept were zones computed (on_side (get_or new part no_part) side) count
    (ap (λ ps. length (on_side (get_or ps part no_part) side).kept) (sym of_old)
    ∙ side_sized zones (get_or items part no_part) side (sized part (let same = ap length of_old in omega (arith, there, same))))
    told
    (subst (λ ps. HasMade computed board part side (on_side (get_or ps part no_part) side).kept (on_side (get_or new part no_part) side)) (of_items ∙ of_old) m))) made

pub others_back : {E : Type 0} (result : Result (Unit {0}) E) (part : ℕ) (side : Side) (old : Views) (items lent new rest : List PartViews) (len : ℕ)
    → items ≡ old.lines → lent ≡ items → length lent ≡ len → length new ≡ length lent
    → ((other : ℕ) (otherwise : Side) → AreOthers part side other otherwise → on_side (get_or new other no_part) otherwise ≡ on_side (get_or lent other no_part) otherwise)
    → OnOk result ((other : ℕ) (otherwise : Side) → AreOthers part side other otherwise → on_side (get_or (take len (new ++ rest)) other no_part) otherwise ≡ line_of old other otherwise)
others_back result part side old items lent new rest len of_old of_items size many others =
    on_ok result (λ other otherwise are.
    ap (λ ps. on_side (get_or ps other no_part) otherwise) (written_back lent new rest len size many)
    ∙ others other otherwise are ∙ ap (λ ps. on_side (get_or ps other no_part) otherwise) (of_items ∙ of_old))
