use Rattle.std.proofs.Common.{◌≡◌, ◌∙◌, sym, ap, subst}
use Rattle.market_model.specs.Board.{CanBeMade, after_leg}
use Rattle.match_core.specs.Walks.{CanGoOn, HasGoneOn, IsNextMade, Stands, leg_of}
use Rattle.match_core.proofs.Partners.{arcs-within}
use Rattle.match_core.proofs.Trading.{can-be-made, can-go-on, has-peak, less-left, made-next, name-kept, stands-then}
use Rattle.match_core.proofs.walk.Walk.trade.Goals as goal

pub leg_with-leg-requires-clause-peak : goal.leg_with-leg-requires-clause-peak
leg_with-leg-requires-clause-peak g c = has-peak (g.B.Board.state c.args.board.now) c.args.self.now c.args.partner c.requires.partner

pub leg_with-leg-requires-clause-arcs : goal.leg_with-leg-requires-clause-arcs
leg_with-leg-requires-clause-arcs g c = arcs-within (g.B.Board.state c.args.board.now) c.args.self.now c.args.partner c.requires.partner

pub make-requires-clause-fits : goal.make-requires-clause-fits
make-requires-clause-fits g c =
    subst (CanBeMade (g.B.Board.state c.args.board.now) c.args.self.now.part) (sym c.leg_with-leg.ensures)
    (can-be-made (g.B.Board.state c.args.board.now) c.args.self.now c.args.partner c.requires.partner)

pub go_on-requires : goal.go_on-requires
go_on-requires g c = record {
  leg = subst (CanGoOn c.args.grid.now c.args.self.now) (sym c.leg_with-leg.ensures)
      (can-go-on (g.B.Board.state c.args.board.now) c.args.self.now c.args.partner c.requires.partner c.args.grid.now c.requires.grid);
}

pub returns-clause-made : goal.returns-clause-made
returns-clause-made g c =
    let state = g.B.Board.state c.args.board.now in
    let now : g.B.Board.state c.make.new.self ≡ after_leg state c.args.self.now.part (leg_of c.args.self.now c.args.partner) =
    c.in_ok-make.ensures.made ∙ ap (after_leg state c.args.self.now.part) c.leg_with-leg.ensures in
    subst (λ after. IsNextMade state after c.args.self.now.part c.args.self.now.taker.name) (sym now)
    (made-next state c.args.self.now c.args.partner c.requires.partner)

pub returns-clause-stands : goal.returns-clause-stands
returns-clause-stands g c =
    let state = g.B.Board.state c.args.board.now in
    let now : g.B.Board.state c.make.new.self ≡ after_leg state c.args.self.now.part (leg_of c.args.self.now c.args.partner) =
    c.in_ok-make.ensures.made ∙ ap (after_leg state c.args.self.now.part) c.leg_with-leg.ensures in
    subst (λ after. Stands after c.go_on.new.self) (sym now)
    (stands-then state c.args.self.now c.args.partner c.requires.partner c.args.grid.now c.requires.grid c.in-Some.place c.in-Some.ensures.1 c.go_on.new.self
    (subst (λ leg. HasGoneOn c.args.grid.now c.args.self.now leg c.in-Some.place c.go_on.new.self) c.leg_with-leg.ensures c.go_on.ensures.after))

pub returns-clause-less : goal.returns-clause-less
returns-clause-less g c =
    less-left (g.B.Board.state c.args.board.now) c.args.self.now c.args.partner c.requires.partner c.args.grid.now c.requires.grid c.in-Some.place c.in-Some.ensures.1 c.go_on.new.self
    (subst (λ leg. HasGoneOn c.args.grid.now c.args.self.now leg c.in-Some.place c.go_on.new.self) c.leg_with-leg.ensures c.go_on.ensures.after)

pub returns-clause-name : goal.returns-clause-name
returns-clause-name g c = name-kept (g.B.Board.state c.args.board.now) c.args.self.now c.args.partner c.requires.partner c.args.grid.now c.requires.grid c.in-Some.place c.in-Some.ensures.1 c.go_on.new.self
    (subst (λ leg. HasGoneOn c.args.grid.now c.args.self.now leg c.in-Some.place c.go_on.new.self) c.leg_with-leg.ensures c.go_on.ensures.after)
