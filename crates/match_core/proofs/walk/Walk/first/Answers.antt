use Rattle.std.proofs.Common.{◌∙◌, ap}
use Rattle.order_kinds.specs.Side.{opposite}
use Rattle.market_model.specs.Board.{first_shown, resting_line}
use Rattle.match_core.proofs.Walking.{at-start, behind-is, rests, side-is}
use Rattle.match_core.proofs.walk.Walk.first.Goals as goal

pub after-requires : goal.after-requires
after-requires g c =
    let stands = c.requires.stands in
    record { rests = (c.args.self.now.part, opposite stands.order.order.side, rests (g.B.Board.state c.args.board.now) c.args.self.now stands c.in-Some.number c.in-Some.is) }

pub returns-in-None : goal.returns-in-None
returns-in-None g c =
    let stands = c.requires.stands in
    let state = g.B.Board.state c.args.board.now in
    record {
      first = record {
        stands = stands;
        first = c.first.ensures.first
            ∙ ap (λ side. first_shown (resting_line state c.args.self.now.part side)) (c.opposite.ensures ∙ ap opposite (side-is state c.args.self.now stands))
            ∙ at-start state c.args.self.now stands c.in-None.is;
      };
    }

pub returns-in-Some : goal.returns-in-Some
returns-in-Some g c =
    let stands = c.requires.stands in
    let state = g.B.Board.state c.args.board.now in
    record {
      first = record {
        stands = stands;
        first = c.after.ensures.next c.args.self.now.part (opposite stands.order.order.side) (rests state c.args.self.now stands c.in-Some.number c.in-Some.is)
            ∙ behind-is state c.args.self.now stands c.in-Some.number c.in-Some.is;
      };
    }
