use Rattle.std.proofs.Common.{◌≡◌, ◌∙◌, IfSome, List, Some, ap, subst, sym}
use Rattle.std.specs.Option.{option_map}
use Rattle.order_kinds.specs.declared.side.Side.TheVariants.{Buy, Sell}
use Rattle.zone_graph.specs.Graph.{border_count}
use Rattle.market_model.specs.declared.board.Shown.{Shown}
use Rattle.sweep_core.specs.Meeting.{AreFronts, shown_line}
use Rattle.sweep_core.specs.Sweeping.{IsFoundIn, leg_event}
use Rattle.sweep_core.proofs.Bridge.{quiet-no_buy, quiet-no_cross, quiet-no_sell, rooms-are, told-arcs, told-is, told-leg, told-part}
use Rattle.sweep_core.proofs.Lines.{first-of}
use Rattle.sweep_core.proofs.parts.leg_of_part.Goals as goal

pub returns-in_default-clause-leg : goal.returns-in_default-clause-leg
returns-in_default-clause-leg g c =
    quiet-no_buy (g.B.Board.state c.args.board.now) c.args.part c.requires.swept.no_hand (sym c.first.ensures.first ∙ c.in_default.is)

pub returns-in_default-first-clause-leg : goal.returns-in_default-first-clause-leg
returns-in_default-first-clause-leg g c =
    quiet-no_sell (g.B.Board.state c.args.board.now) c.args.part c.requires.swept.no_hand (sym c.first-2.ensures.first ∙ c.in_default-first.is)

pub returns-then-not-crosses-clause-leg : goal.returns-then-not-crosses-clause-leg
returns-then-not-crosses-clause-leg g c =
    quiet-no_cross (g.B.Board.state c.args.board.now) c.args.part c.requires.swept.no_hand c.in-Some.buy c.in-Some-first.sell
    (sym c.first.ensures.first ∙ c.in-Some.is) (sym c.first-2.ensures.first ∙ c.in-Some-first.is) (sym c.crosses.ensures ∙ c.if-not-crosses.true)

pub leg_of_buys-requires-clause-rooms : goal.leg_of_buys-requires-clause-rooms
leg_of_buys-requires-clause-rooms g c =
    let board = g.B.Board.state c.args.board.now in
    let are = rooms-are board c.args.part c.rooms.new.into
    (c.rooms.ensures.size ∙ c.in_ok-row.ensures.size ∙ ap border_count c.requires.swept.over_grid) c.rooms.ensures.rooms in
    are

pub leg_of_buys-requires-clause-fronts : goal.leg_of_buys-requires-clause-fronts
leg_of_buys-requires-clause-fronts g c best first =
    let board = g.B.Board.state c.args.board.now in
    let buy : Some c.in-Some.buy ≡ Some best = sym c.in-Some.is ∙ first-of board c.args.part Buy c.first.result c.first.ensures.first ∙ first in
    let same : c.in-Some.buy ≡ best = cc in
    subst (λ (b : Shown). AreFronts (shown_line board c.args.part Sell) b c.as_slice.result.now) same
    (subst (λ (fronts : List Shown). AreFronts (shown_line board c.args.part Sell) c.in-Some.buy fronts) (sym c.as_slice.ensures.value) c.in_ok-fronts.ensures.fronts)

pub leg_of_buys-requires-clause-best : goal.leg_of_buys-requires-clause-best
leg_of_buys-requires-clause-best g c =
    let board = g.B.Board.state c.args.board.now in
    sym (first-of board c.args.part Sell c.first-2.result c.first-2.ensures.first) ∙ c.in-Some-first.is

pub with_opening-found-requires : goal.with_opening-found-requires
with_opening-found-requires g c =
    let board = g.B.Board.state c.args.board.now in
    let are = rooms-are board c.args.part c.rooms.new.into
    (c.rooms.ensures.size ∙ c.in_ok-row.ensures.size ∙ ap border_count c.requires.swept.over_grid) c.rooms.ensures.rooms in
    told-arcs board c.args.part c.first.ensures.board c.in_ok-leg.leg c.rooms.new.into c.requires.swept.no_hand c.in_ok-leg.ensures are

pub returns-clause-leg : goal.returns-clause-leg
returns-clause-leg g c =
    let board = g.B.Board.state c.args.board.now in
    told-leg board c.args.part c.first.ensures.board c.in_ok-leg.leg c.rooms.new.into c.requires.swept.no_hand c.in_ok-leg.ensures
    ∙ ap (option_map (leg_event board)) (sym c.with_opening-found.ensures)

pub returns-clause-in_part : goal.returns-clause-in_part
returns-clause-in_part g c =
    let board = g.B.Board.state c.args.board.now in
    subst (λ o. IfSome o (λ next. next.part ≡ c.args.part)) (sym c.with_opening-found.ensures)
    (told-part board c.args.part c.first.ensures.board c.in_ok-leg.leg c.rooms.new.into)

pub returns-clause-found : goal.returns-clause-found
returns-clause-found g c =
    let board = g.B.Board.state c.args.board.now in
    let are = rooms-are board c.args.part c.rooms.new.into
    (c.rooms.ensures.size ∙ c.in_ok-row.ensures.size ∙ ap border_count c.requires.swept.over_grid) c.rooms.ensures.rooms in
    subst (λ o. IfSome o (λ next. IsFoundIn board next)) (sym c.with_opening-found.ensures)
    (told-is board c.args.part c.first.ensures.board c.in_ok-leg.leg c.rooms.new.into c.requires.swept.no_hand c.in_ok-leg.ensures are)
