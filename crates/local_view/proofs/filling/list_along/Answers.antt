use Rattle.std.proofs.Common.{◌∙◌, ap, arith, false, length, refl, subst, sym}
use Rattle.order_kinds.specs.declared.side.Side.{Side}
use Rattle.zone_graph.specs.Graph.{Graph, border_count}
use Rattle.zone_graph.specs.Rooms.{room_of}
use Rattle.cut_proof.specs.Carrying.{FitTogether}
use Rattle.market_model.specs.Board.{resting_line}
use Rattle.local_view.specs.declared.footing.Certificate.{Certificate}
use Rattle.local_view.specs.Certified.{IsCertified}
use Rattle.local_view.specs.Cuts.{cut_by, flow_beside, given_by}
use Rattle.local_view.specs.Drafts.{AreKept}
use Rattle.local_view.specs.Footing.{Certifies, RestOnWork}
use Rattle.local_view.specs.Moved.{cut_in, flow_in}
use Rattle.local_view.proofs.Drafting.{fit-kept, kept-on}
use Rattle.local_view.proofs.Listed.{rooms-fit}
use Rattle.local_view.proofs.Resting.{rest-told, view-told}
use Rattle.local_view.proofs.Wholes.{small-resting}
use Rattle.local_view.proofs.filling.list_along.Goals as goal

pub along-requires : goal.along-requires
along-requires g c =
    let work = c.requires.1.1.1.1.0 in
    let flow = c.args.certificate.now.flow in
    let small = small-resting g.of.board work.hand g.of.part g.of.side c.args.work.now.whole work.read c.args.grid.now c.requires.0 c.zones.ensures.grid.few_zones in
    let fit = subst (λ (graph : Graph). FitTogether graph (room_of c.args.work.now.of_part)) (sym c.requires.0) (rooms-fit g.of.board g.of.part c.args.work.now.of_part work.rooms) in (
      work.read.orders,
      (
        work.read.rows,
        (
          small,
          (
            omega (arith, work.read.few c.requires.1.1.1.0),
            (c.requires.1.1.1.1.1.1.0, fit-kept c.args.grid.now c.args.work.now.of_part flow.left fit c.requires.1.1.1.1.1.1.1),
          ),
        ),
      ),
    )

pub returns : goal.returns
returns g c =
    let of = g.of in
    let grid = c.args.grid.now in
    let zone = c.args.zone in
    let work = c.requires.1.1.1.1.0 in
    let along = c.in_ok-along.ensures in
    let line = resting_line of.board of.part of.side in
    let cuts = c.along.new.self in
    let certificate : Certificate = record { is_whole = false; flow = c.note_given.new.self; cuts = cuts.places } in
    let rooms_are = c.along.ensures.of ∙ c.requires.1.1.1.1.1.0 in
    let told : Certifies grid c.args.work.now.of_part of.side zone line certificate c.along.new.rows.items = record {
      taken = given_by cuts;
      certified =
          subst (λ left. IsCertified grid (room_of c.args.work.now.of_part) of.side zone line (flow_beside c.note_given.new.self.of left) (given_by cuts) (cut_in cuts.places)) (sym c.note_given.ensures.left)
          (subst (λ rooms. IsCertified grid (room_of c.args.work.now.of_part) of.side zone line (flow_beside rooms c.along.new.flow.left) (given_by cuts) (cut_in cuts.places)) (sym c.note_given.ensures.of)
          (subst (λ rooms. IsCertified grid (room_of rooms) of.side zone line (flow_in c.along.new.flow) (given_by cuts) (cut_in cuts.places)) rooms_are
          (subst (λ (side : Side). IsCertified grid (room_of c.along.new.flow.of) side zone line (flow_in c.along.new.flow) (given_by cuts) (cut_by cuts)) c.requires.1.1.0
          (c.are_certified.ensures c.if-not-are_certified.false))));
      rows_are = along.rows;
    } in
    record {
      rows = λ is. view-told grid of.board of.part of.side c.requires.0 zone c.requires.1.0 c.args.work.now work certificate c.along.new.rows.items told c.requires.1.1.1.0;
      work = record {
        hand = work.hand;
        sized = record { borders = work.sized.borders; sound = record { of_part = work.sized.sound.of_part; walk = work.sized.sound.walk } };
        rooms = work.rooms;
        read = work.read;
      };
      same = (refl, refl);
      flow = (
        ap length (c.note_given.ensures.of ∙ rooms_are) ∙ work.sized.sound.of_part ∙ work.sized.borders ∙ ap border_count (sym c.requires.0),
        ap length c.note_given.ensures.left ∙ c.along.ensures.size,
        subst (λ of. AreKept of c.note_given.new.self.left) (sym (c.note_given.ensures.of ∙ rooms_are))
            (subst (AreKept c.args.work.now.of_part) (sym c.note_given.ensures.left)
            (kept-on c.args.work.now.of_part c.args.certificate.now.flow.left c.along.new.flow.left c.requires.1.1.1.1.1.1.1 c.along.ensures.kept)),
      );
      rest = λ is.
          subst (λ (side : Side). RestOnWork grid c.args.work.now side zone certificate c.along.new.rows.items) (sym c.requires.1.1.0)
          (rest-told grid of.board of.part of.side c.requires.0 zone c.requires.1.0 c.args.work.now work certificate c.along.new.rows.items told);
    }
