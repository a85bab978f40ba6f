use Rattle.std.proofs.Common.{◌∙◌, ◌≢◌, ℕ, [], ap, arith, get_or, length, refl, replicate, subst, sym}
use Rattle.std.proofs.lemmas.List.{length-map}
use Rattle.order_kinds.specs.declared.side.Side.{Side}
use Rattle.zone_graph.specs.Graph.{Graph, HasZone, border_count}
use Rattle.zone_graph.specs.Rooms.{room_of}
use Rattle.cut_proof.specs.Carrying.{FitTogether}
use Rattle.market_model.specs.Board.{resting_line}
use Rattle.local_view.specs.declared.draft.Flow.{Flow}
use Rattle.local_view.specs.Certified.{IsCertified}
use Rattle.local_view.specs.Drafts.{AreKept, IsFlow}
use Rattle.local_view.specs.Footing.{AreTold, Certifies, RestOnWork}
use Rattle.local_view.specs.Moved.{cut_in, flow_in}
use Rattle.local_view.specs.Ways.{PassesOn}
use Rattle.local_view.specs.Whole.{in_line}
use Rattle.local_view.proofs.Cutting.{all_shown_rows}
use Rattle.local_view.proofs.Listed.{rooms-fit}
use Rattle.local_view.proofs.Resting.{rest-told, view-told}
use Rattle.local_view.proofs.Standing.{whole_certified}
use Rattle.local_view.proofs.Wholes.{small-resting}
use Rattle.local_view.proofs.filling.list_certified.Goals as goal

pub begin-requires-clause-fit : goal.begin-requires-clause-fit
begin-requires-clause-fit g c =
    subst (λ (graph : Graph). FitTogether graph (room_of c.args.work.now.of_part)) (sym c.requires.0) (rooms-fit g.of.board g.of.part c.args.work.now.of_part c.requires.1.1.1.0.rooms)

pub returns-then-is_balanced : goal.returns-then-is_balanced
returns-then-is_balanced g c =
    let of = g.of in
    let grid = c.args.grid.now in
    let zone = c.args.zone in
    let work = c.requires.1.1.1.0 in
    let whole = c.args.work.now.whole in
    let line = resting_line of.board of.part of.side in
    let flow = c.begin.new.flow in
    let few = c.zones.ensures.grid in
    let kept : AreKept flow.of flow.left = subst (λ rooms. AreKept rooms flow.left) (sym c.begin.ensures.of) c.begin.ensures.kept in
    let listed = c.in_ok-list_whole.ensures in
    let small = small-resting of.board work.hand of.part of.side whole work.read grid c.requires.0 few.few_zones in
    let told : Certifies grid c.args.work.now.of_part of.side zone line c.list_whole.new.certificate c.list_whole.new.rows.items = record {
      taken = λ other. get_or whole.shown other 0;
      certified =
          subst (λ (f : Flow). IsCertified grid (room_of c.args.work.now.of_part) of.side zone line (flow_in f) (λ other. get_or whole.shown other 0) (cut_in c.list_whole.new.certificate.cuts)) (sym c.list_whole.ensures.flow)
          (subst (λ rooms. IsCertified grid (room_of rooms) of.side zone line (flow_in flow) (λ other. get_or whole.shown other 0) (cut_in c.list_whole.new.certificate.cuts)) c.begin.ensures.of
          (whole_certified grid flow.of flow.left kept few of.side zone (omega (arith, c.requires.1.0, few.few_zones)) line
          whole.shown c.list_whole.new.certificate.cuts (work.read.zones c.if-not-work.false)
          (subst (λ (side : Side). (other : ℕ) → HasZone grid other → other ≢ zone → PassesOn grid side (flow_in flow) other (get_or whole.shown other 0)) c.requires.1.1.0
          (c.is_balanced.ensures c.if-is_balanced.true))
          (c.list_whole.ensures.cuts ∙ ap (replicate 64) (ap length work.read.orders ∙ length-map line in_line))));
      rows_are = listed.rows ∙ work.read.rows ∙ all_shown_rows line (record { given = whole.shown; places = [] }) (work.read.zones c.if-not-work.false) small;
    } in
    record {
      rows = λ is. view-told grid of.board of.part of.side c.requires.0 zone c.requires.1.0 c.args.work.now work c.list_whole.new.certificate c.list_whole.new.rows.items told c.if-not-work.false;
      work = record {
        hand = work.hand;
        sized = record { borders = work.sized.borders; sound = record { of_part = work.sized.sound.of_part; walk = work.sized.sound.walk } };
        rooms = work.rooms;
        read = work.read;
      };
      same = (refl, refl);
      flow = subst (IsFlow (border_count grid)) (sym c.list_whole.ensures.flow)
          (ap length c.begin.ensures.of ∙ work.sized.sound.of_part ∙ work.sized.borders ∙ ap border_count (sym c.requires.0), c.begin.ensures.left, kept);
      rest = λ is.
          subst (λ (side : Side). RestOnWork grid c.args.work.now side zone c.list_whole.new.certificate c.list_whole.new.rows.items) (sym c.requires.1.1.0)
          (rest-told grid of.board of.part of.side c.requires.0 zone c.requires.1.0 c.args.work.now work c.list_whole.new.certificate c.list_whole.new.rows.items
          (subst (λ is_whole. AreTold is_whole grid c.args.work.now.of_part of.side zone line c.list_whole.new.certificate c.list_whole.new.rows.items) (sym c.list_whole.ensures.certified) told));
    }
