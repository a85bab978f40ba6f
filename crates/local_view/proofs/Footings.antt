-- What rows rest on, moved to another line and to other rooms.
use Rattle.std.specs.Prelude.{Box}
use Rattle.std.specs.Box.{box_value}
use Rattle.std.proofs.Common.{Global, Vec, ◌≡◌, ◌≢◌, ◌∙◌, ◌⊎◌, ℕ, ◌+◌, ◌*◌, ◌%◌, ◌^◌, ◌<◌, ◌≤◌, ◌==◌, ◌&&◌, Bool, not, true, false, List, [], ◌∷◌, ◌++◌, drop, inl, inr, length, map, take, None, Option, Some, refl, set, slice_index_or, ap, subst, sym, arith}
use Rattle.std.proofs.lemmas.Bool.{true≢false}
use Rattle.std.proofs.lemmas.Bool.Decides.{eqb_tells}
use Rattle.std.proofs.lemmas.List.{get_or-set_other, get_or-set_same, length-set, take-append-drop}
use Rattle.std.proofs.lemmas.Nat.Bits.{bit_at_set_other}
use Rattle.std.specs.Int.{w64}
use Rattle.std.specs.Int.RustNames.{bit_or}
use Rattle.cut_proof.specs.ZoneSet.{holds}
use Rattle.order_kinds.specs.declared.side.Side.{Side}
use Rattle.order_kinds.specs.declared.side.Side.TheVariants.{Buy, Sell}
use Rattle.zone_graph.specs.declared.route.Arc.{Arc}
use Rattle.zone_graph.specs.Graph.{Graph, HasZone, arc_ends, border_count, end_of, start_of, zone_count}
use Rattle.zone_graph.specs.Pour.{opposite_arc}
use Rattle.zone_graph.specs.Rooms.{room_of}
use Rattle.zone_graph.specs.Route.{IsIn}
use Rattle.zone_graph.proofs.Membership.{from_map}
use Rattle.market_model.specs.declared.reply.ViewRow.{ViewRow}
use Rattle.market_model.specs.Board.{BoardState, resting_line}
use Rattle.market_model.specs.Orders.{Standing}
use Rattle.local_view.specs.declared.footing.Certificate.{Certificate}
use Rattle.local_view.specs.declared.footing.Footing.{Footing}
use Rattle.local_view.specs.declared.whole.LineOrder.{LineOrder}
use Rattle.local_view.specs.Certified.{IsCertified, lots_from, lots_to}
use Rattle.local_view.specs.Drafts.{IsFlow}
use Rattle.local_view.specs.Footing.{AreFilled, AreMadeOver, AreMovable, AreTold, Certifies, IsFootingAfter, IsFoundedAt, IsOver, Rest, RestOn, certificate_at, no_certificate}
use Rattle.local_view.specs.Moved.{AreBehindCuts, AreSameBut, IsMoved, IsReplaced, StandOver, StandsOn, cut_in, flow_in}
use Rattle.local_view.specs.Poured.{row_if}
use Rattle.local_view.specs.Ways.{HasWays, arc_at}
use Rattle.local_view.specs.Whole.{IsRead, in_line, rows_shown}
use Rattle.local_view.specs.declared.ways.Ways.{Ways}
use Rattle.local_view.specs.declared.whole.WholeLine.{WholeLine}
use Rattle.local_view.specs.Boards.{AreRoomsOf, view_of}
use Rattle.local_view.specs.declared.filling.Made.{Made}
use Rattle.local_view.proofs.Bits.{holds-or, holds-zero, one_true}
use Rattle.local_view.proofs.Certificates.{certified_view}
use Rattle.local_view.proofs.Moving.{replaced_stand}
use Rattle.local_view.proofs.Wholes.{zones-resting}

-- what stands over the rooms that changed certifies the same over all rooms
over_rooms : (graph : Graph) (changed : List ℕ) (old new : Arc → ℕ) (side : Side) (zone : ℕ) (line : List Standing) (flow : Arc → ℕ) (taken cut : ℕ → ℕ) → AreSameBut graph changed old new
    → StandOver graph changed new side flow cut → IsCertified graph old side zone line flow taken cut → IsCertified graph new side zone line flow taken cut
over_rooms graph changed old new side zone line flow taken cut but stand certified = record {
  within = λ arc there. elim (but arc there) [
    | inl other ↦ (stand arc other).within
    | inr same ↦ subst (λ room. flow arc ≤ room + flow (opposite_arc arc)) (sym same) (certified.within arc there)
  ];
  balanced = certified.balanced;
  before = certified.before;
  behind = certified.behind;
  own = certified.own;
  closed = λ arc there spare. elim (but arc there) [
    | inl other ↦ (stand arc other).closed spare
    | inr same ↦ certified.closed arc there (subst (λ room. flow arc < room + flow (opposite_arc arc)) same spare)
  ];
}

-- arcs lead where their borders do, whatever the zones are called
module _ (graph other : Graph) (same : other.borders ≡ graph.borders) where
  same-ends : (border : ℕ) (forward : Bool) → arc_ends other (record { border = border; forward = forward }) ≡ arc_ends graph (record { border = border; forward = forward })
  same-ends border true = ap (λ borders. slice_index_or borders border (0, 0)) same
  same-ends border false = ap (λ borders. ((slice_index_or borders border (0, 0)).1, (slice_index_or borders border (0, 0)).0)) same

  same-to : (side : Side) (arc : Arc) → lots_to graph side arc ≡ lots_to other side arc
  same-to Sell arc = sym (ap (λ (ends : ℕ × ℕ). ends.1) (same-ends arc.border arc.forward))
  same-to Buy arc = sym (ap (λ (ends : ℕ × ℕ). ends.0) (same-ends arc.border arc.forward))

  same-from : (side : Side) (arc : Arc) → lots_from graph side arc ≡ lots_from other side arc
  same-from Sell arc = sym (ap (λ (ends : ℕ × ℕ). ends.0) (same-ends arc.border arc.forward))
  same-from Buy arc = sym (ap (λ (ends : ℕ × ℕ). ends.1) (same-ends arc.border arc.forward))

  -- and so do ways
  pub ways-over : (ways : Ways) → HasWays graph ways → HasWays other ways
  ways-over ways are = record {
    places = are.places;
    few = are.few;
    known = λ i less. subst (λ borders. (arc_at ways.list i).border < length borders) (sym same) (are.known i less);
    ends = λ i less. at (arc_at ways.list i) ∙ are.ends i less;
    apart = λ i j before less e. are.apart i j before less (sym (end i) ∙ e ∙ end j);
    onward = λ i j before less e. are.onward i j before less (sym (start i) ∙ e ∙ end j);
  }
    where
      at : (arc : Arc) → arc_ends other arc ≡ arc_ends graph arc
      at arc = same-ends arc.border arc.forward

      start : (i : ℕ) → start_of other (arc_at ways.list i) ≡ start_of graph (arc_at ways.list i)
      start i = ap (λ (ends : ℕ × ℕ). ends.0) (at (arc_at ways.list i))

      end : (i : ℕ) → end_of other (arc_at ways.list i) ≡ end_of graph (arc_at ways.list i)
      end i = ap (λ (ends : ℕ × ℕ). ends.1) (at (arc_at ways.list i))

  same_stand : (changed : List ℕ) (room : Arc → ℕ) (side : Side) (flow : Arc → ℕ) (cut : ℕ → ℕ) → StandOver graph changed room side flow cut → StandOver other changed room side flow cut
  same_stand changed room side flow cut stand = λ arc there. record {
    within = (stand arc there).within;
    closed = λ spare.
        subst (λ to. cut to ≤ cut (lots_from other side arc)) (same-to side arc)
        (subst (λ from. cut (lots_to graph side arc) ≤ cut from) (same-from side arc) ((stand arc there).closed spare));
  }

-- rows that rest on a line and rooms rest on others, where the certificate stands over the rooms and its cuts are moved to
-- where they are in the new line
pub moved_rest : (graph : Graph) (old_rooms new_rooms : List (ℕ × ℕ)) (side : Side) (old new : List LineOrder) (line : List Standing) (certificate moved : Certificate) (first last next : ℕ)
    → new ≡ map in_line line → ((order : Standing) → IsIn order line → HasZone graph order.order.zone)
    → IsReplaced old new first last next → AreBehindCuts old first last (cut_in certificate.cuts) → AreBehindCuts new first next (cut_in certificate.cuts)
    → (changed : List ℕ) → AreSameBut graph changed (room_of old_rooms) (room_of new_rooms) → StandOver graph changed (room_of new_rooms) side (flow_in certificate.flow) (cut_in certificate.cuts)
    → ((other : ℕ) → other < zone_count graph → IsMoved first last next (cut_in certificate.cuts other) (cut_in moved.cuts other))
    → certificate.is_whole ≡ false → moved.is_whole ≡ certificate.is_whole → moved.flow ≡ certificate.flow → (zone : ℕ) (rows : List ViewRow)
    → RestOn (zone_count graph) graph.borders old_rooms side zone old certificate rows → RestOn (zone_count graph) graph.borders new_rooms side zone new moved rows
moved_rest graph old_rooms new_rooms side old new line certificate moved first last next orders zones replaced old_behind new_behind changed but stand cuts by same flow zone rows rest = record {
  graph = rest.graph;
  is_graph = rest.is_graph;
  zones_are = rest.zones_are;
  borders_are = rest.borders_are;
  has_zone = rest.has_zone;
  line = line;
  orders_are = orders;
  in_zones = in_zones;
  told = subst (λ is_whole. AreTold is_whole rest.graph new_rooms side zone line moved rows) (sym (same ∙ by)) certifies;
}
  where
    was : Certifies rest.graph old_rooms side zone rest.line certificate rows
    was = subst (λ is_whole. AreTold is_whole rest.graph old_rooms side zone rest.line certificate rows) by rest.told

    in_zones : (order : Standing) → IsIn order line → HasZone rest.graph order.order.zone
    in_zones order i = let there = zones order i in let same = rest.zones_are in omega (arith, there, same)

    stood : StandsOn rest.graph (room_of new_rooms) side zone rest.line line (flow_in certificate.flow) was.taken (cut_in moved.cuts)
    stood =
        replaced_stand rest.graph (room_of new_rooms) side zone rest.line line (flow_in certificate.flow) was.taken (cut_in certificate.cuts) (cut_in moved.cuts) first last next rest.is_graph
        rest.has_zone rest.in_zones in_zones
        (over_rooms rest.graph changed (room_of old_rooms) (room_of new_rooms) side zone rest.line (flow_in certificate.flow) was.taken (cut_in certificate.cuts)
        (λ arc there. but arc (subst (λ borders. arc.border < length borders) rest.borders_are there))
        (same_stand graph rest.graph rest.borders_are changed (room_of new_rooms) side (flow_in certificate.flow) (cut_in certificate.cuts) stand) was.certified)
        (subst (λ list. IsReplaced list (map in_line line) first last next) rest.orders_are (subst (λ list. IsReplaced old list first last next) orders replaced))
        (subst (λ list. AreBehindCuts list first last (cut_in certificate.cuts)) rest.orders_are old_behind) (subst (λ list. AreBehindCuts list first next (cut_in certificate.cuts)) orders new_behind)
        (λ other there. cuts other (let same = rest.zones_are in omega (arith, there, same)))

    certifies : Certifies rest.graph new_rooms side zone line moved rows
    certifies = record {
      taken = was.taken;
      certified = subst (λ f. IsCertified rest.graph (room_of new_rooms) side zone line (flow_in f) was.taken (cut_in moved.cuts)) (sym flow) stood.certified;
      rows_are = was.rows_are ∙ sym stood.rows;
    }

-- where no order is replaced the line is the same
pub nothing_replaced : (old new : List LineOrder) (first last next : ℕ) → last ≡ first → next ≡ first → IsReplaced old new first last next → new ≡ old
nothing_replaced old new first last next last_is next_is replaced =
    sym (take-append-drop first new)
    ∙ ap (λ front. front ++ drop first new) (sym replaced.before)
    ∙ ap (λ place. take first old ++ drop place new) (sym next_is)
    ∙ ap (λ back. take first old ++ back) (sym replaced.behind)
    ∙ ap (λ place. take first old ++ drop place old) last_is
    ∙ take-append-drop first old

-- all rows of a line rest on the same line over any rooms
pub whole_rest : (zones : ℕ) (ends old_rooms new_rooms : List (ℕ × ℕ)) (side : Side) (zone : ℕ) (old new : List LineOrder) (certificate : Certificate) (rows : List ViewRow) → new ≡ old
    → certificate.is_whole ≡ true → RestOn zones ends old_rooms side zone old certificate rows → RestOn zones ends new_rooms side zone new certificate rows
whole_rest zones ends old_rooms new_rooms side zone old new certificate rows same by rest = record {
  graph = rest.graph;
  is_graph = rest.is_graph;
  zones_are = rest.zones_are;
  borders_are = rest.borders_are;
  has_zone = rest.has_zone;
  line = rest.line;
  orders_are = same ∙ rest.orders_are;
  in_zones = rest.in_zones;
  told =
      subst (λ is_whole. AreTold is_whole rest.graph new_rooms side zone rest.line certificate rows) (sym by)
      (let all : rows ≡ rows_shown rest.line = subst (λ is_whole. AreTold is_whole rest.graph old_rooms side zone rest.line certificate rows) by rest.told in all);
}

-- orders that views see as the same show the same rows
abbrev rows-seen : List LineOrder → List ViewRow
rows-seen [] = []
rows-seen (order ∷ orders) = row_if order.price order.lots (rows-seen orders)

seen-shown : (line : List Standing) → rows-seen (map in_line line) ≡ rows_shown line
seen-shown [] = refl
seen-shown (order ∷ line) = ap (row_if order.price order.shown) (seen-shown line)

-- the orders that views see are of the zones of a line
pub seen_within : (graph : Graph) (line : List Standing) → ((order : Standing) → IsIn order line → HasZone graph order.order.zone)
    → (order : LineOrder) → IsIn order (map in_line line) → HasZone graph order.zone
seen_within graph line zones order i = let from = from_map in_line order line i in subst (λ (o : LineOrder). HasZone graph o.zone) (sym from.2) (zones from.0 from.1)

-- what certifies over a graph does so over another one with the same borders and as many zones
renamed : (names others : List (List ℕ)) (borders : List (ℕ × ℕ)) (room : Arc → ℕ) (side : Side) (zone : ℕ) (line : List Standing) (flow : Arc → ℕ) (taken cut : ℕ → ℕ) → length names ≡ length others
    → IsCertified (record { zones = names; borders = borders }) room side zone line flow taken cut → IsCertified (record { zones = others; borders = borders }) room side zone line flow taken cut
renamed names others borders room side zone line flow taken cut same certified = record {
  within = certified.within;
  balanced = λ other there. certified.balanced other (omega (arith, same, there));
  before = λ other there. certified.before other (omega (arith, same, there));
  behind = λ other there. certified.behind other (omega (arith, same, there));
  own = certified.own;
  closed = certified.closed;
}

-- rows that rest on the line of a board and the rooms of its part are its view, where the rows of the whole line are it if they are these
pub rest_view : (board : BoardState) → board.hand ≡ None → (part : ℕ) (side : Side) (zone : ℕ) → HasZone board.grid zone → (rooms : List (ℕ × ℕ)) → AreRoomsOf board part rooms
    → (whole : WholeLine) → IsRead board part side whole → whole.fits ≡ true → (certificate : Certificate) (rows : List ViewRow)
    → (certificate.is_whole ≡ true → whole.rows.items ≡ view_of board part side zone) → RestOn (zone_count board.grid) board.grid.borders rooms side zone whole.orders.items certificate rows → rows ≡ view_of board part side zone
rest_view board none part side zone known rooms of whole read fits certificate rows is_view rest = told certificate.is_whole refl rest.told
  where
    line : List Standing
    line = resting_line board part side

    same : map in_line rest.line ≡ map in_line line
    same = sym rest.orders_are ∙ read.orders

    stood : (told : Certifies rest.graph rooms side zone rest.line certificate rows)
        → StandsOn rest.graph (room_of rooms) side zone rest.line line (flow_in certificate.flow) told.taken (cut_in certificate.cuts)
    stood told =
        replaced_stand rest.graph (room_of rooms) side zone rest.line line (flow_in certificate.flow) told.taken (cut_in certificate.cuts) (cut_in certificate.cuts) 0 0 0 rest.is_graph rest.has_zone
        rest.in_zones (λ order i. let there = zones-resting board none part side whole read order i in let count = rest.zones_are in omega (arith, there, count))
        told.certified
        (record { in_old = (omega arith, omega arith); in_new = (omega arith, omega arith); before = refl; behind = same })
        (record { each = λ place early less. absurd (omega (arith, less)) })
        (record { each = λ place early less. absurd (omega (arith, less)) })
        (λ other there. record { early = λ less. absurd (omega (arith, less)); between = λ early less. absurd (omega (arith, less)); late = λ later. refl })

    told : (is_whole : Bool) → certificate.is_whole ≡ is_whole → AreTold is_whole rest.graph rooms side zone rest.line certificate rows → rows ≡ view_of board part side zone
    told true by all = all ∙ sym (seen-shown rest.line) ∙ ap rows-seen same ∙ seen-shown line ∙ sym read.rows ∙ is_view by
    told false by certifies =
        certifies.rows_are
        ∙ sym (stood certifies).rows
        ∙ certified_view board none read.is_board part side zone known rooms of (flow_in certificate.flow) certifies.taken (cut_in certificate.cuts)
        (renamed rest.graph.zones board.grid.zones board.grid.borders (room_of rooms) side zone line (flow_in certificate.flow) certifies.taken (cut_in certificate.cuts) rest.zones_are
        (subst (λ borders. IsCertified (record { zones = rest.graph.zones; borders = borders }) (room_of rooms) side zone line (flow_in certificate.flow) certifies.taken (cut_in certificate.cuts)) rest.borders_are
        (stood certifies).certified))
        (read.few fits)

-- ---- the certificates of a footing, moved one after the other

module _ (zones : ℕ) (base : Footing) (rooms : List (ℕ × ℕ)) (orders : List LineOrder) where
  -- what rests on the certificate of a zone there rests on one here
  pub record Stands (zone : ℕ) (certificate : Certificate) : Type 0 where
    pub had : holds base.resting zone ≡ true
    pub rest : (rows : List ViewRow) → Rest zones base zone rows → RestOn zones base.ends.items rooms base.side zone orders certificate rows

  pub stands_by : (zone : ℕ) (borders : List (ℕ × ℕ)) (old : List LineOrder) (own certificate : Certificate) → base.ends.items ≡ borders → old ≡ base.orders.items
      → own ≡ certificate_at base.certificates.items zone → holds base.resting zone ≡ true
      → ((rows : List ViewRow) → RestOn zones borders base.rooms base.side zone old own rows → RestOn zones borders rooms base.side zone orders certificate rows) → Stands zone certificate
  stands_by zone borders old own certificate ends_are orders_are own_is had moves = record {
    had = had;
    rest = λ rows rest.
        subst (λ ends. RestOn zones ends rooms base.side zone orders certificate rows) (sym ends_are)
        (moves rows
        (subst (λ ends. RestOn zones ends base.rooms base.side zone old own rows) ends_are
        (subst (λ list. RestOn zones base.ends.items base.rooms base.side zone list own rows) (sym orders_are)
        (subst (λ c. RestOn zones base.ends.items base.rooms base.side zone base.orders.items c rows) (sym own_is) rest))));
  }

  -- the first certificates are moved, some of which stand, and the others are as they were
  pub record AreMoved (count still : ℕ) (certificates : List Certificate) : Type 0 where
    pub size : length certificates ≡ length base.certificates.items
    pub below : (zone : ℕ) → holds still zone ≡ true → zone < count
    pub flows : (zone : ℕ) → (certificate_at certificates zone).flow ≡ (certificate_at base.certificates.items zone).flow
    pub kept : (zone : ℕ) → count ≤ zone → certificate_at certificates zone ≡ certificate_at base.certificates.items zone
    pub stand : (zone : ℕ) → holds still zone ≡ true → Stands zone (certificate_at certificates zone)

  -- the next one too, and a zone of those that stand is one of the earlier ones or its own
  next_moved : (count still next : ℕ) (certificates : List Certificate) (certificate : Certificate) → count < length certificates
      → certificate.flow ≡ (certificate_at certificates count).flow → ((zone : ℕ) → holds next zone ≡ true → holds still zone ≡ true ⊎ ((zone ≡ count) × Stands count certificate))
      → AreMoved count still certificates → AreMoved (count + 1) next (set certificates count certificate)
  next_moved count still next certificates certificate there flow stands are = record {
    size = length-set certificates count certificate ∙ are.size;
    below = λ zone held. elim (stands zone held) [
      | inl earlier ↦ let less = are.below zone earlier in omega (arith, less)
      | inr own ↦ let same = own.0 in omega (arith, same)
    ];
    flows = λ zone. elim (eqb_tells zone count) [
      | inl same ↦
          subst (λ z. (certificate_at (set certificates count certificate) z).flow ≡ (certificate_at base.certificates.items z).flow) (sym same.1)
          (ap (λ (c : Certificate). c.flow) here ∙ flow ∙ are.flows count)
      | inr apart ↦ ap (λ (c : Certificate). c.flow) (other zone apart.1) ∙ are.flows zone
    ];
    kept = λ zone past. other zone (λ same. omega (arith, past, same)) ∙ are.kept zone (omega (arith, past));
    stand = λ zone held. elim (stands zone held) [
      | inl earlier ↦ let less = are.below zone earlier in subst (Stands zone) (sym (other zone (λ same. omega (arith, less, same)))) (are.stand zone earlier)
      | inr own ↦ subst (λ z. Stands z (certificate_at (set certificates count certificate) z)) (sym own.0) (subst (Stands count) (sym here) own.1)
    ];
  }
    where
      here : certificate_at (set certificates count certificate) count ≡ certificate
      here = get_or-set_same certificates count certificate no_certificate there

      other : (zone : ℕ) → zone ≢ count → certificate_at (set certificates count certificate) zone ≡ certificate_at certificates zone
      other zone apart = get_or-set_other certificates count zone certificate no_certificate apart

  -- where it stands
  pub one_moved : (count still : ℕ) (certificates : List Certificate) (certificate : Certificate) → count < length certificates → count < 64
      → certificate.flow ≡ (certificate_at certificates count).flow → Stands count certificate
      → AreMoved count still certificates → AreMoved (count + 1) (bit_or still (1 * 2 ^ count % 2 ^ 64)) (set certificates count certificate)
  one_moved count still certificates certificate there few flow stands are =
      next_moved count still (bit_or still (1 * 2 ^ count % 2 ^ 64)) certificates certificate there flow
      (λ zone held. elim (eqb_tells zone count) [
        | inl same ↦ inr (same.1, stands)
        | inr apart ↦ inl (sym (ap (λ n. n == 1) (bit_at_set_other w64 still count few zone apart.1)) ∙ held)
      ])
      are

  -- and where it does not
  pub none_moved : (count still : ℕ) (certificates : List Certificate) (certificate : Certificate) → count < length certificates
      → certificate.flow ≡ (certificate_at certificates count).flow
      → AreMoved count still certificates → AreMoved (count + 1) still (set certificates count certificate)
  none_moved count still certificates certificate there flow are = next_moved count still still certificates certificate there flow (λ zone held. inl held) are

-- ---- lists made and kept

-- a footing on which fewer rows rest
pub over_fewer : (old new : Footing) → new ≡ record old { resting = new.resting } → (graph : Graph) (side : Side) → IsOver graph side old → IsOver graph side new
over_fewer old new same graph side over = subst (IsOver graph side) (sym same) (record {
  side_is = over.side_is;
  ends_are = over.ends_are;
  sized = record { rooms_are = over.sized.rooms_are; count = over.sized.count; flows = over.sized.flows; orders_in = over.sized.orders_in; ways_are = over.sized.ways_are };
})

-- a footing with other certificates
pub over_listed : (old : Footing) (certificates : Vec Certificate Global) (list : List Certificate) → certificates.items ≡ list → (graph : Graph) (side : Side) → length list ≡ zone_count graph
    → ((zone : ℕ) → HasZone graph zone → IsFlow (border_count graph) (certificate_at list zone).flow) → IsOver graph side old → IsOver graph side (record old { certificates = certificates })
over_listed old certificates list are graph side size flows over = record {
  side_is = over.side_is;
  ends_are = over.ends_are;
  sized = record {
    rooms_are = over.sized.rooms_are;
    count = ap length are ∙ size;
    flows = λ zone less.
        subst (λ l. IsFlow (length old.ends.items) (certificate_at l zone).flow) (sym are) (subst (λ borders. IsFlow borders (certificate_at list zone).flow) (sym (ap length over.ends_are)) (flows zone less));
    orders_in = over.sized.orders_in;
    ways_are = over.sized.ways_are;
  };
}

-- a footing with other ways over its borders
pub over_ways : (old : Footing) (ways : Box Ways Global) (graph : Graph) (side : Side) → HasWays graph (box_value ways) → IsOver graph side old → IsOver graph side (record old { ways = ways })
over_ways old ways graph side are over = record {
  side_is = over.side_is;
  ends_are = over.ends_are;
  sized = record {
    rooms_are = over.sized.rooms_are;
    count = over.sized.count;
    flows = over.sized.flows;
    orders_in = over.sized.orders_in;
    ways_are = λ other same. ways-over graph other (same ∙ over.ends_are) (box_value ways) are;
  };
}

-- a footing with other orders
pub over_orders : (old : Footing) (orders : Vec LineOrder Global) (resting : ℕ) (graph : Graph) (side : Side) → ((order : LineOrder) → IsIn order orders.items → HasZone graph order.zone)
    → IsOver graph side old → IsOver graph side (record old { orders = orders; resting = resting })
over_orders old orders resting graph side zones over = record {
  side_is = over.side_is;
  ends_are = over.ends_are;
  sized = record { rooms_are = over.sized.rooms_are; count = over.sized.count; flows = over.sized.flows; orders_in = zones; ways_are = over.sized.ways_are };
}

-- what is in one set and not in another one
only_first : (a b c : Bool) → c ≡ (a && not b) → c ≡ true → (a ≡ true) × (b ≡ false)
only_first true true c e is = absurd (true≢false (sym is ∙ e))
only_first true false c e is = (refl, refl)
only_first false b c e is = absurd (true≢false (sym is ∙ e))

pub in_second : (a b c : Bool) → c ≡ (a && not b) → a ≡ true → c ≡ false → b ≡ true
in_second true true c e is none = refl
in_second true false c e is none = absurd (true≢false (sym e ∙ none))
in_second false b c e is none = absurd (true≢false (sym is))

not_left : (a b c : Bool) → c ≡ (a && not b) → b ≡ true → c ≡ false
not_left true true c e is = e
not_left true false c e is = absurd (true≢false (sym is))
not_left false b c e is = e

-- rows rest on what a footing holds
pub holds_it : (zones : ℕ) (footing : Footing) (ends rooms : List (ℕ × ℕ)) (side : Side) (orders : List LineOrder) (certificate : Certificate) (zone : ℕ) (rows : List ViewRow)
    → footing.ends.items ≡ ends → footing.rooms ≡ rooms → footing.side ≡ side → footing.orders.items ≡ orders
    → RestOn zones ends rooms side zone orders certificate rows → RestOn zones footing.ends.items footing.rooms footing.side zone footing.orders.items certificate rows
holds_it zones footing ends rooms side orders certificate zone rows ends_are rooms_are side_is orders_are rest =
    subst (λ list. RestOn zones footing.ends.items footing.rooms footing.side zone list certificate rows) (sym orders_are)
    (subst (λ s. RestOn zones footing.ends.items footing.rooms s zone orders certificate rows) (sym side_is)
    (subst (λ list. RestOn zones footing.ends.items list side zone orders certificate rows) (sym rooms_are)
    (subst (λ list. RestOn zones list rooms side zone orders certificate rows) (sym ends_are) rest)))

-- of the rows that can be moved some can
pub movable_fewer : (zones : ℕ) (footing : Footing) (still fewer others : ℕ) (rooms : List (ℕ × ℕ)) (orders : List LineOrder) (certificates : List Certificate)
    → ((zone : ℕ) → holds fewer zone ≡ (holds still zone && not (holds others zone))) → AreMovable zones footing still rooms orders certificates → AreMovable zones footing fewer rooms orders certificates
movable_fewer zones footing still fewer others rooms orders certificates are movable = record {
  had = λ zone held. movable.had zone (only_first (holds still zone) (holds others zone) (holds fewer zone) (are zone) held).0;
  rest = λ zone rows less held. movable.rest zone rows less (only_first (holds still zone) (holds others zone) (holds fewer zone) (are zone) held).0;
}

-- a zone of the whole line that rests still is one to which all of it comes
pub still_whole : (moved wholes whole lost still : Bool) → lost ≡ (wholes && not whole) → still ≡ (moved && not lost) → still ≡ true → wholes ≡ true → whole ≡ true
still_whole moved wholes whole lost still lost_is still_is is of_whole = in_second wholes whole lost lost_is of_whole (only_first moved lost still still_is is).1

-- of a set of zones those are listed whose rows do not rest on a footing once it is moved
module _ (graph : Graph) (side : Side) (first fewer : Footing) (over : IsOver graph side first) (may : Bool) (same : fewer ≡ record first { resting = fewer.resting })
    (had : (zone : ℕ) → holds fewer.resting zone ≡ true → (may ≡ true) × (holds first.resting zone ≡ true)) (still : ℕ) (rooms : List (ℕ × ℕ)) (orders : List LineOrder)
    (moved : List Certificate) (movable : AreMovable (zone_count graph) fewer still rooms orders moved) (computed made : ℕ)
    (are_made : (zone : ℕ) → holds made zone ≡ (holds computed zone && not (holds still zone))) where
  still_there : (zone : ℕ) (rows : List ViewRow) → HasZone graph zone → holds still zone ≡ true → Rest (zone_count graph) first zone rows
      → RestOn (zone_count graph) graph.borders rooms side zone orders (certificate_at moved zone) rows
  still_there zone rows there held rest =
      subst (λ s. RestOn (zone_count graph) graph.borders rooms s zone orders (certificate_at moved zone) rows) (ap (λ (f : Footing). f.side) same ∙ over.side_is)
      (subst (λ ends. RestOn (zone_count graph) ends rooms fewer.side zone orders (certificate_at moved zone) rows) (ap (λ (f : Footing). f.ends.items) same ∙ over.ends_are)
      (movable.rest zone rows there held (subst (λ f. Rest (zone_count graph) f zone rows) (sym same) rest)))

  pub resting_apart : (zone : ℕ) → HasZone graph zone → holds still zone ≡ true → holds made zone ≡ false
  resting_apart zone there held = not_left (holds computed zone) (holds still zone) (holds made zone) (are_made zone) held

  pub made_within : (zone : ℕ) → HasZone graph zone → holds made zone ≡ true → holds computed zone ≡ true
  made_within zone there held = (only_first (holds computed zone) (holds still zone) (holds made zone) (are_made zone) held).0

  pub kept_rests : (zone : ℕ) → HasZone graph zone → holds computed zone ≡ true → holds made zone ≡ false
      → (may ≡ true) × (holds first.resting zone ≡ true)
      × ((rows : List ViewRow) → Rest (zone_count graph) first zone rows → RestOn (zone_count graph) graph.borders rooms side zone orders (certificate_at moved zone) rows)
  kept_rests zone there is none =
      let held = in_second (holds computed zone) (holds still zone) (holds made zone) (are_made zone) is none in
      let had_it = had zone (movable.had zone held) in
      (had_it.0, had_it.1, λ rows rest. still_there zone rows there held rest)

  -- they rest on a footing of the new line
  pub after_moved : (last : Footing) → IsOver graph side last → last.resting ≡ still → last.rooms ≡ rooms → last.orders.items ≡ orders
      → ((zone : ℕ) → holds made zone ≡ false → certificate_at last.certificates.items zone ≡ certificate_at moved zone) → IsFootingAfter (zone_count graph) first last
  after_moved last over_last resting_is rooms_are orders_are others = record {
    had = λ zone held. (had zone (movable.had zone (still_held zone held))).1;
    rest = λ zone rows there held rest.
        let is = still_held zone held in
        holds_it (zone_count graph) last graph.borders rooms side orders (certificate_at last.certificates.items zone) zone rows over_last.ends_are rooms_are over_last.side_is orders_are
        (subst (λ certificate. RestOn (zone_count graph) graph.borders rooms side zone orders certificate rows) (sym (others zone (resting_apart zone there is)))
        (still_there zone rows there is rest));
  }
    where
      still_held : (zone : ℕ) → holds last.resting zone ≡ true → holds still zone ≡ true
      still_held zone held = ap (λ n. holds n zone) (sym resting_is) ∙ held

-- ---- what lists were made over a footing

module _ (graph : Graph) (board : BoardState) (part : ℕ) (side : Side) (computed : ℕ) (old : Option Footing) (base filled : Footing) (same : (Some base ≡ old) ⊎ (base.resting ≡ 0))
    (after : IsFootingAfter (zone_count graph) base filled) where
  -- where its rows rested they do on the footing that was there
  based : (zone : ℕ) (rows : List ViewRow) → IsFoundedAt (zone_count graph) old zone rows → holds base.resting zone ≡ true → Rest (zone_count graph) base zone rows
  based zone rows founded held = elim same [
    | inl is ↦ subst (λ o. IsFoundedAt (zone_count graph) o zone rows) (sym is) founded held
    | inr none ↦ absurd (true≢false (sym held ∙ ap (λ n. holds n zone) none ∙ holds-zero zone))
  ]

  pub still_founded : (zone : ℕ) (rows : List ViewRow) → HasZone graph zone → IsFoundedAt (zone_count graph) old zone rows → IsFoundedAt (zone_count graph) (Some filled) zone rows
  still_founded zone rows there founded held = after.rest zone rows there held (based zone rows founded (after.had zone held))

  pub made_over : (lists : List (List ViewRow)) (made : Made) → AreFilled graph board part side computed base filled lists made
      → AreMadeOver graph board part side computed old (Some (record filled { resting = bit_or filled.resting made.resting })) lists made.lists
  made_over lists made are = record {
    within = are.within;
    views = are.views;
    kept = λ zone rows there is none founded. let kept = are.kept zone there is none in kept.1 rows (based zone rows founded kept.0);
    own = λ zone there listed held. elim (one_true (holds filled.resting zone) (holds made.resting zone) (sym (holds-or filled.resting made.resting zone) ∙ held)) [
      | inl was ↦ absurd (true≢false (sym listed ∙ are.apart zone there was))
      | inr is ↦ are.rest zone there is
    ];
    rest = λ zone rows there none founded held. elim (one_true (holds filled.resting zone) (holds made.resting zone) (sym (holds-or filled.resting made.resting zone) ∙ held)) [
      | inl was ↦ still_founded zone rows there founded was
      | inr is ↦ absurd (true≢false (sym (are.own zone there is) ∙ none))
    ];
  }
