use Rattle.std.proofs.Common.{◌∙◌, ap, subst, sym}
use Rattle.std.proofs.lemmas.Bool.{true≢false}
use Rattle.zone_graph.specs.Graph.{Graph, HasZone, border_count}
use Rattle.zone_graph.specs.Rooms.{room_of}
use Rattle.zone_graph.specs.Route.{IsIn}
use Rattle.cut_proof.specs.Carrying.{FitTogether}
use Rattle.local_view.specs.Poured.{rows_taken}
use Rattle.local_view.specs.Footing.{RestOnWork}
use Rattle.local_view.proofs.Listed.{rooms-fit}
use Rattle.local_view.proofs.Wholes.{taken-view, zones-read}
use Rattle.local_view.proofs.filling.fill_list.Goals as goal

pub list_rows-requires-clause-orders : goal.list_rows-requires-clause-orders
list_rows-requires-clause-orders g c = λ order i.
    let work = c.list_certified.ensures.work in
    subst (λ (graph : Graph). HasZone graph order.zone) (sym c.requires.0)
    (zones-read g.board work.hand c.args.line.part c.args.line.side c.list_certified.new.work.whole work.read order (subst (IsIn order) c.as_slice.ensures.value i))

pub list_rows-requires-clause-fit : goal.list_rows-requires-clause-fit
list_rows-requires-clause-fit g c =
    subst (λ (graph : Graph). FitTogether graph (room_of c.list_certified.new.work.of_part)) (sym c.requires.0) (rooms-fit g.board c.args.line.part c.list_certified.new.work.of_part c.list_certified.ensures.work.rooms)

pub returns-then-branch : goal.returns-then-branch
returns-then-branch g c =
    let listed = c.in_ok-list_certified.ensures in
    record {
      list = c.from.ensures ∙ listed.rows c.if-branch.true;
      work = listed.work;
      same = listed.same;
      flow = listed.flow;
      rest = λ is.
          subst (RestOnWork c.args.grid.now c.list_certified.new.work c.args.line.side c.args.zone c.list_certified.new.certificate) (sym c.from.ensures) (listed.rest c.if-branch.true);
    }

pub returns : goal.returns
returns g c =
    let work = c.list_certified.ensures.work in
    let listed = c.in_ok-list_rows.ensures in
    record {
      list =
          c.from-2.ensures
          ∙ listed.rows
          ∙ ap (rows_taken c.args.grid.now c.args.line.side c.args.zone (room_of c.list_certified.new.work.of_part) 4294967295) c.as_slice.ensures.value
          ∙ ap (λ graph. rows_taken graph c.args.line.side c.args.zone (room_of c.list_certified.new.work.of_part) 4294967295 c.list_certified.new.work.whole.orders.items) c.requires.0
          ∙ taken-view g.board work.hand c.args.line.part c.args.line.side c.list_certified.new.work.whole work.read c.args.zone c.list_certified.new.work.of_part work.rooms;
      work = record {
        hand = work.hand;
        sized = record {
          borders = work.sized.borders;
          sound = record {
            of_part = work.sized.sound.of_part;
            walk = record { rooms = c.list_rows.ensures.walk.size ∙ ap border_count c.requires.0 ∙ sym work.sized.borders; places = c.list_rows.ensures.walk.places };
          };
        };
        rooms = work.rooms;
        read = work.read;
      };
      same = c.list_certified.ensures.same;
      flow = c.list_certified.ensures.flow;
      rest = λ is. absurd (true≢false (sym is));
    }
