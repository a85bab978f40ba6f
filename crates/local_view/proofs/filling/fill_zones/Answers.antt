use Rattle.std.proofs.Common.{◌≡◌, ◌∙◌, ℕ, Global, List, Vec, [], ap, arith, get_or, false, length, refl, subst, sym, true}
use Rattle.std.proofs.lemmas.List.{with_items_is}
use Rattle.std.specs.Box.{with_value}
use Rattle.std.specs.Vec.{with_items}
use Rattle.cut_proof.specs.ZoneSet.{holds}
use Rattle.order_kinds.specs.declared.side.Side.{Side}
use Rattle.zone_graph.specs.Graph.{Graph, HasZone, border_count, zone_count}
use Rattle.zone_graph.specs.Grid.{IsGrid}
use Rattle.zone_graph.specs.Rooms.{room_of}
use Rattle.zone_graph.specs.Route.{IsIn}
use Rattle.market_model.specs.Board.{BoardState}
use Rattle.local_view.specs.declared.footing.Certificate.{Certificate}
use Rattle.local_view.specs.declared.whole.LineOrder.{LineOrder}
use Rattle.local_view.specs.declared.whole.WholeLine.{WholeLine}
use Rattle.local_view.specs.Footing.{IsOver, RestOn, certificate_at}
use Rattle.local_view.specs.declared.work.Work.{Work}
use Rattle.local_view.specs.Boards.{view_of}
use Rattle.local_view.specs.Drafts.{IsFlow}
use Rattle.local_view.specs.Ways.{ComeTogether, HasWays}
use Rattle.local_view.specs.Works.{AreComputed, IsLineWork, IsWork}
use Rattle.local_view.proofs.Footings.{after_moved, holds_it, kept_rests, in_second, made_within, movable_fewer, over_fewer, over_listed, over_orders, over_ways, rest_view, resting_apart, still_whole}
use Rattle.local_view.proofs.Wholes.{whole_view, zones-read, zones-resting}
use Rattle.local_view.proofs.filling.fill_zones.Goals as goal

pub move_to-requires : goal.move_to-requires
move_to-requires g c =
    let work = c.requires.1.1.1.0 in
    let over = over_fewer c.args.footing.now c.rest_where.new.self c.rest_where.ensures.same c.args.grid.now c.args.line.side c.requires.1.1.1.1.1 in (
      record { side_is = refl; ends_are = over.ends_are; sized = over.sized },
      (
        c.as_slice-orders.ensures.value ∙ work.read.orders,
        (
          λ order i.
              subst (λ (graph : Graph). HasZone graph order.order.zone) (sym c.requires.0) (zones-resting g.of.board work.hand g.of.part g.of.side c.args.work.now.whole work.read order i),
          work.sized.sound.of_part ∙ work.sized.borders ∙ ap border_count (sym c.requires.0),
        ),
      ),
    )

-- where all of a line of a board comes to a zone, its rows are the view there
line_view : (graph : Graph) (board : BoardState) (part : ℕ) (side own : Side) (work : Work) → graph ≡ board.grid → side ≡ own → IsLineWork board part own work → IsGrid graph
    → (zone : ℕ) → HasZone graph zone → (work.whole.fits ≡ true) × ComeTogether graph (room_of work.of_part) side zone work.whole.shown → work.whole.rows.items ≡ view_of board part own zone
line_view graph board part side own work same side_is of_line grid zone there comes =
    whole_view board of_line.hand part own work.whole of_line.read zone (subst (λ (g : Graph). HasZone g zone) same there) (subst IsGrid same grid) work.of_part of_line.rooms comes.0
    (subst (λ (s : Side). ComeTogether board.grid (room_of work.of_part) s zone work.whole.shown) side_is
    (subst (λ (g : Graph). ComeTogether g (room_of work.of_part) side zone work.whole.shown) same comes.1))

pub comes_to-whole-requires-clause-ways : goal.comes_to-whole-requires-clause-ways
comes_to-whole-requires-clause-ways g c =
    subst (HasWays c.args.grid.now) (sym c.deref_mut-ways.ensures.value) (c.move_to.ensures.over.sized.ways_are c.args.grid.now (sym c.move_to.ensures.over.ends_are))

pub list_zones-requires : goal.list_zones-requires
list_zones-requires g c =
    let work = c.requires.1.1.1.0 in
    let over = over_fewer c.args.footing.now c.rest_where.new.self c.rest_where.ensures.same c.args.grid.now c.args.line.side c.requires.1.1.1.1.1 in
    let moved : IsOver c.args.grid.now c.args.line.side c.move_to.new.self = subst (λ (s : Side). IsOver c.args.grid.now s c.move_to.new.self) over.side_is c.move_to.ensures.over in
    let slots = c.as_mut_slice-certificates.ensures.value in (
      c.requires.0,
      (
        λ zone there held.
            subst (λ (s : Side). c.args.work.now.whole.rows.items ≡ view_of g.of.board c.args.line.part s zone) (sym c.requires.1.1.0)
            (subst (λ part. c.args.work.now.whole.rows.items ≡ view_of g.of.board part g.of.side zone) (sym c.requires.1.0)
            (line_view c.args.grid.now g.of.board g.of.part c.args.line.side g.of.side c.args.work.now c.requires.0 c.requires.1.1.0 work c.zones.ensures.grid zone there
            (c.comes_to-whole.ensures.fits zone there held, c.comes_to-whole.ensures.together zone there held))),
        (
          subst (λ (s : Side). IsLineWork g.of.board c.args.line.part s c.args.work.now) (sym c.requires.1.1.0)
              (subst (λ part. IsLineWork g.of.board part g.of.side c.args.work.now) (sym c.requires.1.0) work),
          (
            c.requires.1.1.1.1.0,
            (
              ap length slots ∙ moved.sized.count,
              λ zone there.
                  subst (λ (list : List Certificate). IsFlow (border_count c.args.grid.now) (certificate_at list zone).flow) (sym slots)
                  (subst (λ borders. IsFlow borders (certificate_at c.move_to.new.self.certificates.items zone).flow) (ap length moved.ends_are) (moved.sized.flows zone there)),
            ),
          ),
        ),
      ),
    )

pub returns-in_err-resting-clause-footing : goal.returns-in_err-resting-clause-footing
returns-in_err-resting-clause-footing g c =
    let graph = c.args.grid.now in
    let side = c.args.line.side in
    let set = c.move_to.new.self in
    let listed = c.list_zones.ensures in
    let slots = c.as_mut_slice-certificates.ensures in
    let over = over_fewer c.args.footing.now c.rest_where.new.self c.rest_where.ensures.same graph side c.requires.1.1.1.1.1 in
    let over_set : IsOver graph side set = subst (λ (s : Side). IsOver graph s set) over.side_is c.move_to.ensures.over in
    over_listed (record set { ways = with_value set.ways c.comes_to-whole.new.ways }) (with_items set.certificates c.list_zones.new.certificates) c.list_zones.new.certificates
    (with_items_is set.certificates c.list_zones.new.certificates (listed.certificates ∙ sym over_set.sized.count ∙ sym (ap length slots.value) ∙ slots.len)) graph side listed.certificates listed.flows
    (over_ways set (with_value set.ways c.comes_to-whole.new.ways) graph side c.comes_to-whole.ensures.ways over_set)

pub returns : goal.returns
returns g c =
    let graph = c.args.grid.now in
    let side = c.args.line.side in
    let first = c.args.footing.now in
    let fewer = c.rest_where.new.self in
    let set = c.move_to.new.self in
    let moved = record set { ways = with_value set.ways c.comes_to-whole.new.ways } in
    let still = c.without-still.result in
    let made = c.without-made.result in
    let listed = c.list_zones.ensures in
    let work = c.requires.1.1.1.0 in
    let may = c.args.work.now.whole.fits in
    let rooms = c.args.work.now.of_part in
    let orders = c.as_slice-orders.result.now in
    let movable =
    movable_fewer (zone_count graph) fewer c.in_ok-moved.moved still c.without-2.result rooms orders moved.certificates.items c.without-still.ensures c.in_ok-moved.ensures.rest in
    let over_first = c.requires.1.1.1.1.1 in
    let over = over_fewer first fewer c.rest_where.ensures.same graph side over_first in
    let over_set : IsOver graph side set = subst (λ (s : Side). IsOver graph s set) over.side_is c.move_to.ensures.over in
    let over_moved : IsOver graph side moved = over_ways set (with_value set.ways c.comes_to-whole.new.ways) graph side c.comes_to-whole.ensures.ways over_set in
    let certificates = with_items moved.certificates c.list_zones.new.certificates in
    let are : certificates.items ≡ c.list_zones.new.certificates =
    with_items_is moved.certificates c.list_zones.new.certificates
    (listed.certificates ∙ sym over_moved.sized.count ∙ sym (ap length c.as_mut_slice-certificates.ensures.value) ∙ c.as_mut_slice-certificates.ensures.len) in
    let others : (zone : ℕ) → holds made zone ≡ false → certificate_at certificates.items zone ≡ certificate_at moved.certificates.items zone =
    λ zone none.
    ap (λ (list : List Certificate). certificate_at list zone) are
    ∙ listed.others zone none
    ∙ ap (λ (list : List Certificate). certificate_at list zone) c.as_mut_slice-certificates.ensures.value in
    let last = record moved { certificates = certificates; orders = c.swap.new.x; resting = still } in
    let listed_orders : last.orders.items ≡ c.list_zones.new.work.whole.orders.items = ap (λ (list : Vec LineOrder Global). list.items) c.swap.ensures.x_after in
    let over_last : IsOver graph side last =
    over_orders (record moved { certificates = certificates }) c.swap.new.x still graph side
    (λ order i.
    subst (λ (grid : Graph). HasZone grid order.zone) (sym c.requires.0)
    (zones-read g.of.board listed.work.hand c.args.line.part side c.list_zones.new.work.whole listed.work.read order (subst (IsIn order) listed_orders i)))
    (over_listed moved certificates c.list_zones.new.certificates are graph side listed.certificates listed.flows over_moved) in
    let sized : IsWork graph c.list_zones.new.work = subst (λ (grid : Graph). IsWork grid c.list_zones.new.work) (sym c.requires.0) listed.work.sized in
    let whole_is : (zone : ℕ) → HasZone graph zone → holds still zone ≡ true → (certificate_at moved.certificates.items zone).is_whole ≡ true
    → (c.args.work.now.whole.fits ≡ true) × ComeTogether graph (room_of rooms) side zone c.args.work.now.whole.shown =
    λ zone there held of_whole.
    let is = still_whole (holds c.in_ok-moved.moved zone) (holds c.whole_zones-wholes.result zone) (holds c.comes_to-whole.result zone) (holds c.without-2.result zone) (holds still zone)
    (c.without-2.ensures zone) (c.without-still.ensures zone) held (c.whole_zones-wholes.ensures zone (omega (arith, there, over_moved.sized.count)) of_whole) in
    (c.comes_to-whole.ensures.fits zone there is, c.comes_to-whole.ensures.together zone there is) in
    record {
      filled = record {
        within = made_within graph side first fewer over_first may c.rest_where.ensures.same c.rest_where.ensures.resting still rooms orders moved.certificates.items movable c.args.computed made
            c.without-made.ensures;
        views =
            subst (λ part. AreComputed made g.of.board part g.of.side c.list_zones.new.lists) c.requires.1.0
            (subst (λ (s : Side). AreComputed made g.of.board c.args.line.part s c.list_zones.new.lists) c.requires.1.1.0 c.in_ok-resting.ensures.lists);
        kept = λ zone there is none.
            let rests = kept_rests graph side first fewer over_first may c.rest_where.ensures.same c.rest_where.ensures.resting still rooms orders moved.certificates.items movable c.args.computed made
            c.without-made.ensures zone there is none in (
              rests.1,
              λ rows rest.
                  rest_view g.of.board work.hand g.of.part g.of.side zone (subst (λ (grid : Graph). HasZone grid zone) c.requires.0 there) rooms work.rooms c.args.work.now.whole work.read
                  rests.0 (certificate_at moved.certificates.items zone) rows (λ of_whole.
                  line_view graph g.of.board g.of.part side g.of.side c.args.work.now c.requires.0 c.requires.1.1.0 work c.zones.ensures.grid zone there
                  (whole_is zone there (in_second (holds c.args.computed zone) (holds still zone) (holds made zone) (c.without-made.ensures zone) is none) of_whole))
                  (subst (λ (grid : Graph). RestOn (zone_count grid) grid.borders rooms g.of.side zone c.args.work.now.whole.orders.items (certificate_at moved.certificates.items zone) rows) c.requires.0
                  (subst (λ (s : Side). RestOn (zone_count graph) graph.borders rooms s zone c.args.work.now.whole.orders.items (certificate_at moved.certificates.items zone) rows) c.requires.1.1.0
                  (subst (λ (list : List LineOrder). RestOn (zone_count graph) graph.borders rooms side zone list (certificate_at moved.certificates.items zone) rows) c.as_slice-orders.ensures.value
                  (rests.2 rows rest)))),
            );
        apart = resting_apart graph side first fewer over_first may c.rest_where.ensures.same c.rest_where.ensures.resting still rooms orders moved.certificates.items movable c.args.computed made
            c.without-made.ensures;
        own = c.in_ok-resting.ensures.rest.within;
        rest = λ zone there held.
            let row = get_or c.list_zones.new.lists zone [] in
            holds_it (zone_count graph) last graph.borders c.list_zones.new.work.of_part side c.list_zones.new.work.whole.orders.items (certificate_at certificates.items zone) zone row
            over_moved.ends_are (c.in_ok-moved.ensures.rooms ∙ sym listed.same.0) over_moved.side_is listed_orders
            (subst (λ (list : List Certificate). RestOn (zone_count graph) graph.borders c.list_zones.new.work.of_part side zone c.list_zones.new.work.whole.orders.items (certificate_at list zone) row)
            (sym are) (c.in_ok-resting.ensures.rest.rest zone there held));
      };
      footing = over_last;
      after = after_moved graph side first fewer over_first may c.rest_where.ensures.same c.rest_where.ensures.resting still rooms orders moved.certificates.items movable c.args.computed made
          c.without-made.ensures last over_last refl c.in_ok-moved.ensures.rooms
          (listed_orders ∙ ap (λ (whole : WholeLine). whole.orders.items) listed.same.1 ∙ sym c.as_slice-orders.ensures.value) others;
      size = listed.size;
      work = record { borders = sized.borders; sound = record { of_part = sized.sound.of_part; walk = sized.sound.walk } };
    }
