use Rattle.std.proofs.Common.{◌∙◌, refl, subst, sym, arith}
use Rattle.std.proofs.lemmas.Bool.{true≢false}
use Rattle.zone_graph.specs.Graph.{zone_count}
use Rattle.zone_graph.specs.Route.{IsIn}
use Rattle.local_view.proofs.Footings.{moved_rest, nothing_replaced, seen_within, whole_rest}
use Rattle.local_view.proofs.footing.Certificate.moves.Goals as goal
use Rattle.local_view.proofs.footing.Certificate.moves.Goals.{then-are_behind, else-are_behind, then-are_behind-2, else-are_behind-2}

pub are_behind-requires-then-are_behind-clause-zones : goal.are_behind-requires-then-are_behind-clause-zones
are_behind-requires-then-are_behind-clause-zones g c = λ order i.
    let there = seen_within c.args.grid.now g.line c.requires.1.1.1.1.1.0 order (subst (λ list. IsIn order list) c.requires.1.1.1.1.0 i) in
    let few = c.requires.0 in
    omega (arith, there, few)

pub returns-then-self-clause-rest : goal.returns-then-self-clause-rest
returns-then-self-clause-rest g c = λ is rooms zone rows but rest.
    whole_rest (zone_count c.args.grid.now) c.args.grid.now.borders rooms c.args.new.1.now c.args.side zone c.args.old.0.now c.args.new.0.now c.args.self.now rows
    (nothing_replaced c.args.old.0.now c.args.new.0.now c.args.replaced.first c.args.replaced.last c.args.replaced.next (c.is_nothing.ensures is).0 (c.is_nothing.ensures is).1 c.requires.1.0) c.if-self.true
    rest

pub returns-then-stand_over-clause-rest : goal.returns-then-stand_over-clause-rest
returns-then-stand_over-clause-rest g c = λ is rooms zone rows but rest. elim c.if-are_behind-2.branch [
  | else-are_behind-2 w ↦ absurd (true≢false (sym c.if-stand_over.true ∙ w.value-is ∙ w.if-are_behind-2.false))
  | then-are_behind-2 w ↦ elim c.if-are_behind.branch [
    | else-are_behind v ↦ absurd (true≢false (sym w.if-are_behind-2.true ∙ v.value-is ∙ v.if-are_behind.false))
    | then-are_behind v ↦
        moved_rest c.args.grid.now rooms c.args.new.1.now c.args.side c.args.old.0.now c.args.new.0.now g.line c.args.self.now (record { is_whole = c.args.self.now.is_whole; flow = c.args.self.now.flow; cuts = c.move_cuts.new.cuts })
        c.args.replaced.first c.args.replaced.last c.args.replaced.next c.requires.1.1.1.1.0 c.requires.1.1.1.1.1.0 c.requires.1.0 (v.if-are_behind.ensures refl)
        (v.are_behind-then-are_behind.ensures (sym v.value-is ∙ w.if-are_behind-2.true)) c.args.old.1.now but (w.stand_over.ensures (sym w.value-is ∙ c.if-stand_over.true)) (λ other there. c.move_cuts.ensures is other (omega (arith, there, c.zones.ensures.count))) c.if-self.false refl refl zone rows rest
  ]
]
