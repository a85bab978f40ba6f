use Rattle.std.proofs.Common.{◌≡◌, ◌∙◌, Ok, sym, ap, subst}
use Rattle.market_model.specs.Board.{BoardState}
use Rattle.match_core.specs.declared.taker.Taker.{Taker}
use Rattle.match_core.specs.Takings.{HasBegun}
use Rattle.match_core.specs.Walks.{IsNextMade}
use Rattle.match_core.proofs.Takings.{begun-none, has-begun, has-ended, made-more, on_err, stands-for, stands-unmoved, takes-nothing}
use Rattle.match_core.proofs.Obtaining.{obtains-most}
use Rattle.match_core.proofs.taking.take.Goals as goal

pub returns-then-not-meets-clause-made : goal.returns-then-not-meets-clause-made
returns-then-not-meets-clause-made g c =
    takes-nothing (g.B.Board.state c.args.board.now) c.args.part c.args.taker c.requires.part c.requires.in_hand c.requires.entered c.meets.ensures.board
    (c.meets.ensures.none c.if-not-meets.true)

pub returns-then-not-meets-clause-taker : goal.returns-then-not-meets-clause-taker
returns-then-not-meets-clause-taker g c =
    stands-unmoved (g.B.Board.state c.args.board.now) c.args.part c.args.taker c.requires.part c.requires.in_hand c.requires.entered c.meets.ensures.board

pub returns-then-not-meets-clause-certified : goal.returns-then-not-meets-clause-certified
returns-then-not-meets-clause-certified g c =
    let start = g.B.Board.state c.args.board.now in
    obtains-most start start c.args.part c.args.taker c.args.taker c.requires.part c.requires.in_hand c.requires.entered c.meets.ensures.board
    (returns-then-not-meets-clause-made g c) (returns-then-not-meets-clause-taker g c)

pub returns-in_err-walk-clause-some : goal.returns-in_err-walk-clause-some
returns-in_err-walk-clause-some g c =
    let start = g.B.Board.state c.args.board.now in
    on_err c.from_residual.result (HasBegun start start c.args.taker.name) (begun-none start c.args.taker.name)

pub returns-in_err-partner-clause-some : goal.returns-in_err-partner-clause-some
returns-in_err-partner-clause-some g c =
    let start = g.B.Board.state c.args.board.now in
    let now = g.B.Board.state c.loop-walk.board in
    on_err c.from_residual-in_err-partner.result (HasBegun start now c.args.taker.name)
    (has-begun start now c.loop-walk.walk c.args.taker.name c.meets.ensures.board c.loop-walk.invariant.stands c.loop-walk.invariant.made c.loop-walk.invariant.name)

pub returns-in_err-trade-clause-some : goal.returns-in_err-trade-clause-some
returns-in_err-trade-clause-some g c =
    let start = g.B.Board.state c.args.board.now in
    let now = g.B.Board.state c.loop-walk.board in
    let same : g.B.Board.state c.trade.new.board ≡ now = ap g.B.Board.state c.in_err-trade.ensures.unchanged in
    on_err c.from_residual-in_err-trade.result (HasBegun start (g.B.Board.state c.trade.new.board) c.args.taker.name)
    (subst (λ after. HasBegun start after c.args.taker.name) (sym same)
    (has-begun start now c.loop-walk.walk c.args.taker.name c.meets.ensures.board c.loop-walk.invariant.stands c.loop-walk.invariant.made c.loop-walk.invariant.name))

pub loop-walk-preserved : goal.loop-walk-preserved
loop-walk-preserved g c =
    let start = g.B.Board.state c.args.board.now in
    let before = g.B.Board.state c.loop-walk.board in
    let after = g.B.Board.state c.trade.new.board in
    let made = c.in_ok-trade.ensures.made in
    let name : c.partner.new.self.taker.name ≡ c.args.taker.name = ap (λ (t : Taker). t.name) c.partner.ensures.taker ∙ c.loop-walk.invariant.name in
    record {
      stands = c.in_ok-trade.ensures.stands;
      made = made-more start before after c.args.taker.name c.partner.new.self.part c.loop-walk.invariant.made
          (subst (IsNextMade before after c.partner.new.self.part) name made);
      name = c.trade.ensures.name ∙ name;
      grid = c.loop-walk.invariant.grid ∙ sym (ap (λ (b : BoardState). b.grid) made.is);
      kept = c.trade.ensures.kept ∙ c.loop-walk.invariant.kept;
    }

pub returns-clause-made : goal.returns-clause-made
returns-clause-made g c =
    let start = g.B.Board.state c.args.board.now in
    let now = g.B.Board.state c.loop-walk.board in
    has-ended start now c.loop-walk.walk c.args.taker.name c.meets.ensures.board c.loop-walk.invariant.stands c.loop-walk.invariant.made c.loop-walk.invariant.name
    (c.partner.ensures.none (c.in_ok-partner.was ∙ ap Ok c.in_default.is))

pub returns-clause-taker : goal.returns-clause-taker
returns-clause-taker g c = λ order there same.
    let start = g.B.Board.state c.args.board.now in
    let now = g.B.Board.state c.loop-walk.board in
    c.partner.ensures.taker
    ∙ stands-for start now c.loop-walk.walk c.args.taker.name c.meets.ensures.board c.loop-walk.invariant.stands c.loop-walk.invariant.made c.loop-walk.invariant.name
    order there same

pub returns-clause-certified : goal.returns-clause-certified
returns-clause-certified g c =
    obtains-most (g.B.Board.state c.args.board.now) (g.B.Board.state c.loop-walk.board) c.args.part c.args.taker c.partner.new.self.taker
    c.requires.part c.requires.in_hand c.requires.entered c.meets.ensures.board (returns-clause-made g c) (returns-clause-taker g c)
