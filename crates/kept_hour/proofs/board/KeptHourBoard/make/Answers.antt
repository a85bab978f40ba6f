use Rattle.kept_hour.proofs.BoardCalls.{can-make-in, made-kept}
use Rattle.kept_hour.proofs.board.KeptHourBoard.make.Goals as goal

pub make_in-requires-clause-can : goal.make_in-requires-clause-can
make_in-requires-clause-can c =
    can-make-in c.self.inside.grid.value c.self.inside.hour c.self.inside.events c.self.inside.settled c.self.inside.hand c.self.inside.numbers c.self.inside.settled_numbers c.self.inside.store c.self.invariant c.args.self.now c.self.view_is c.args.part c.args.leg.now c.requires.part c.requires.fits c.reserve.new.self c.reserve.ensures.contents c.reserve.ensures.changes c.push.new.self c.contract_at.result c.in_ok-copy.copy c.in_ok-push.ensures.ok c.contract_at.ensures.contract c.in_ok-copy.ensures c.len-moment.result c.len-moment.ensures

pub invariant_of-self-2 : goal.invariant_of-self-2
invariant_of-self-2 c =
    made-kept c.self.inside.grid.value c.self.inside.hour c.self.inside.events c.self.inside.settled c.self.inside.hand c.self.inside.numbers c.self.inside.settled_numbers c.self.inside.store c.self.invariant c.args.self.now c.self.view_is c.args.part c.args.leg.now c.requires.part c.requires.fits c.reserve.new.self c.reserve.ensures.contents c.reserve.ensures.changes c.push.new.self c.contract_at.result c.in_ok-copy.copy c.in_ok-push.ensures.ok c.contract_at.ensures.contract c.in_ok-copy.ensures c.len-moment.result c.len-moment.ensures
    c.make_in.new.store c.make_in.ensures.made c.make_in.ensures.back c.make_in.ensures.noted
