use Rattle.std.proofs.Common.{◌≡◌, ◌≢◌, ◌∙◌, inl, inr, false, [], get_or, sym, ap, subst, arith}
use Rattle.std.proofs.lemmas.Bool.{cases_eq}
use Rattle.zone_graph.specs.declared.route.Arc.{Arc}
use Rattle.zone_graph.specs.Graph.{HasArc, border_count}
use Rattle.zone_graph.specs.Rooms.{room_of}
use Rattle.desk_views.specs.Insides.{IsRoomOf}
use Rattle.desk_views.proofs.Asked.{room-still}
use Rattle.desk_views.proofs.rooms.ask_rooms.Goals as goal

pub copy_rooms-requires-clause-size : goal.copy_rooms-requires-clause-size
copy_rooms-requires-clause-size c = λ part low. c.requires.size part low ∙ ap border_count c.requires.grid ∙ sym (c.requires.settled part low).size

pub loop-border-init : goal.loop-border-init
loop-border-init c = record {
  size = c.copy_rooms.ensures.size;
  own = λ part arc low less. absurd (let no : ⊥ = omega (arith, less) in no);
  others = λ part arc low high. ap (λ row. room_of row arc) (c.copy_rooms.ensures.same part low);
}

pub ask_if-requires-clause-size : goal.ask_if-requires-clause-size
ask_if-requires-clause-size c = λ part low. c.loop-border.invariant.size part ∙ c.requires.size part low ∙ ap border_count c.requires.grid

pub ask_if-requires-clause-still : goal.ask_if-requires-clause-still
ask_if-requires-clause-still c = λ unchanged part arc low on.
    subst (IsRoomOf c.args.hour.now.board part arc) (sym (c.loop-border.invariant.others part arc low (omega (arith, on))))
    (room-still c.args.hour.now c.args.changed.now c.requires.still part low (get_or c.args.rooms.now part []) (c.requires.settled part low) arc
    (there arc on) (ap (λ border. get_or c.args.changed.now border false) on ∙ sym c.has.ensures ∙ unchanged))
  where
    there : (arc : Arc) → arc.border ≡ c.loop-border.border → HasArc c.args.hour.now.board.grid arc
    there arc on =
        let size : border_count c.args.grid.now ≡ border_count c.args.hour.now.board.grid = ap border_count c.requires.grid in
        omega (arith, on, size)

pub loop-border-preserved : goal.loop-border-preserved
loop-border-preserved c = record {
  size = λ part. c.ask_if.ensures.size part ∙ c.loop-border.invariant.size part;
  own = λ part arc low less. elim (cases_eq arc.border c.loop-border.border) [
    | inl same ↦ c.ask_if.ensures.own part arc low same
    | inr apart ↦
        subst (IsRoomOf c.args.hour.now.board part arc) (sym (c.ask_if.ensures.others part arc low apart))
        (c.loop-border.invariant.own part arc low (omega (arith, less, apart)))
  ];
  others = λ part arc low high.
      let apart : arc.border ≢ c.loop-border.border = λ same. omega (arith, same, high) in
      c.ask_if.ensures.others part arc low apart ∙ c.loop-border.invariant.others part arc low (omega (arith, high));
}
