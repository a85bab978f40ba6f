use Rattle.std.proofs.Common.{◌∙◌, ap, sym}
use Rattle.market_model.specs.Board.{first_shown, resting_line}
use Rattle.match_core.proofs.Apart.{apart-line, empty-line}
use Rattle.match_core.proofs.taking.meets.Goals as goal

pub returns-in-Some-clause-none : goal.returns-in-Some-clause-none
returns-in-Some-clause-none g c = λ apart.
    let state = g.B.Board.state c.args.board.now in
    apart-line state c.args.part c.args.taker.now c.requires.part c.requires.in_hand c.requires.entered c.first.ensures.board c.first.result
    (c.first.ensures.first ∙ ap (λ side. first_shown (resting_line state c.args.part side)) c.opposite.ensures)
    c.in-Some.first c.in-Some.is (sym c.crosses.ensures ∙ apart)

pub returns-in-None-clause-none : goal.returns-in-None-clause-none
returns-in-None-clause-none g c = λ _.
    let state = g.B.Board.state c.args.board.now in
    empty-line state c.args.part c.args.taker.now c.requires.part c.requires.in_hand c.requires.entered c.first.ensures.board c.first.result
    (c.first.ensures.first ∙ ap (λ side. first_shown (resting_line state c.args.part side)) c.opposite.ensures)
    c.in-None.is
