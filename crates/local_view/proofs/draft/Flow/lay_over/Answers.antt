use Rattle.std.proofs.Common.{◌+◌, ◌-◌, ◌==◌, eqb-true, true, ap, subst, sym, arith}
use Rattle.std.proofs.lemmas.Bool.{false_from_ne_true}
use Rattle.zone_graph.specs.declared.route.Arc.{Arc}
use Rattle.zone_graph.specs.Pour.{opposite_arc}
use Rattle.zone_graph.specs.Rooms.{room_of}
use Rattle.local_view.specs.Drafts.{IsKept}
use Rattle.local_view.proofs.Drafting.{kept-both, kept-others}
use Rattle.local_view.proofs.draft.Flow.lay_over.Goals as goal

pub returns-then-are_same-clause-kept : goal.returns-then-are_same-clause-kept
returns-then-are_same-clause-kept c = λ arc on.
    let same = c.are_same.ensures c.if-are_same.true in
    omega (arith, c.requires.was arc on, same arc on, same (opposite_arc arc) on)

pub returns-clause-kept : goal.returns-clause-kept
returns-clause-kept c = λ other on.
    let arc : Arc = record { border = c.args.border; forward = true } in
    subst (λ left. IsKept c.args.rooms.now left other) (sym c.flow_over.ensures.left)
    (kept-both c.args.rooms.now c.args.self.now.left c.set.new.self c.set-2.new.self arc c.opposite-opposite.result
    ((c.at-forward.result - c.min-out.result) + c.min-back.result) ((c.at-backward.result - c.min-back.result) + c.min-out.result)
    c.set.ensures.rooms c.set-2.ensures.rooms c.opposite-opposite.ensures
    (omega (arith, c.at-forward.ensures, c.at-backward.ensures, ap (room_of c.args.rooms.now) c.opposite-opposite.ensures, c.min-out.ensures, c.min-back.ensures))
    other (λ apart. absurd (apart on)))

pub returns-clause-others : goal.returns-clause-others
returns-clause-others c = λ of other apart kept.
    let arc : Arc = record { border = c.args.border; forward = true } in
    subst (λ left. IsKept of left other) (sym c.flow_over.ensures.left)
    (kept-others c.args.self.now.left c.set.new.self c.set-2.new.self arc c.opposite-opposite.result
    ((c.at-forward.result - c.min-out.result) + c.min-back.result) ((c.at-backward.result - c.min-back.result) + c.min-out.result)
    c.set.ensures.rooms c.set-2.ensures.rooms c.opposite-opposite.ensures of other (false_from_ne_true (c.args.border == other.border) (λ same. apart (sym (eqb-true c.args.border other.border same)))) kept)
