use Rattle.std.proofs.Common.{◌≡◌, ◌⊎◌, ◌∙◌, IfSome, Some, inl, inr, subst, sym}
use Rattle.zone_graph.specs.Graph.{zone_count}
use Rattle.local_view.specs.declared.footing.Footing.{Footing}
use Rattle.local_view.specs.Footing.{IsSized}
use Rattle.local_view.proofs.Footings.{made_over}
use Rattle.local_view.proofs.filling.fill_next.Goals as goal

pub returns-in_err-make_footing-clause-sized : goal.returns-in_err-make_footing-clause-sized
returns-in_err-make_footing-clause-sized g c = subst (λ footing. IfSome footing (IsSized (zone_count c.args.grid.now))) (sym c.in_err-make_footing.ensures.failed) c.requires.sized

pub returns-in_ok-made-in-Some-clause-made : goal.returns-in_ok-made-in-Some-clause-made
returns-in_ok-made-in-Some-clause-made g c =
    let base : (Some c.in-Some.on ≡ c.args.footing.now) ⊎ (c.in-Some.on.resting ≡ 0) = elim c.make_footing.ensures.same [
      | inl same ↦ inl (sym c.in-Some.is ∙ same)
      | inr none ↦ inr (subst (λ footing. IfSome footing (λ (new : Footing). new.resting ≡ 0)) c.in-Some.is none)
    ] in
    made_over c.args.grid.now (g.B.Board.state c.args.board.now) c.args.line.part c.args.line.side c.args.computed c.args.footing.now c.in-Some.on c.fill_lists.new.footing base c.fill_lists.ensures.after
    c.fill_lists.new.lists c.in_ok-made-in-Some.made c.in_ok-made-in-Some.ensures.filled
