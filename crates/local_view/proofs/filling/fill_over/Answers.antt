use Rattle.std.proofs.Common.{◌∙◌, ap, refl, subst, sym}
use Rattle.zone_graph.specs.Graph.{border_count}
use Rattle.market_model.specs.Board.{BoardState}
use Rattle.local_view.specs.Boards.{AreRoomsOf}
use Rattle.local_view.specs.Whole.{IsRead}
use Rattle.local_view.proofs.filling.fill_over.Goals as goal

pub fill_zones-requires : goal.fill_zones-requires
fill_zones-requires g c =
    let of = c.requires.1.1.0 in
    let work = c.requires.1.1.1.1.1.1.0 in
    let borders = work.borders ∙ ap border_count c.requires.1.1.1.0 in
    let size = c.rooms.ensures.size ∙ work.sound.of_part in (
      c.requires.1.1.1.0,
      (
        refl,
        (
          refl,
          (
            record {
              hand = c.requires.1.1.1.1.0;
              sized = record { borders = borders; sound = record { of_part = size; walk = work.sound.walk } };
              rooms = subst (λ (state : BoardState). AreRoomsOf state c.args.line.part c.rooms.new.into) (sym of) (record {
                size = size ∙ borders ∙ ap (λ (state : BoardState). border_count state.grid) of;
                are = c.rooms.ensures.rooms;
                most = c.rooms.ensures.most;
              });
              read = subst (λ (state : BoardState). IsRead state c.args.line.part c.args.line.side c.read.new.self) (sym of) c.in_ok-read.ensures;
            },
            c.requires.1.1.1.1.1.1.1,
          ),
        ),
      ),
    )
