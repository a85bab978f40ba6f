use Rattle.std.proofs.Common.{◌∙◌}
use Rattle.kept_hour.proofs.BoardCalls.{behind-line, rests-found, stands-line}
use Rattle.kept_hour.proofs.board.KeptHourBoard.after.Goals as goal

pub shown_behind-requires : goal.shown_behind-requires
shown_behind-requires c = rests-found c.self.inside.grid.value c.self.inside.hour c.self.inside.events c.self.inside.settled c.self.inside.hand c.self.inside.numbers c.self.inside.settled_numbers c.self.inside.store c.self.invariant c.args.self.now c.self.view_is c.book.result.now c.book.ensures.book c.args.number c.requires.rests

pub returns-clause-next : goal.returns-clause-next
returns-clause-next c part side rests =
    c.shown_behind.ensures part side (stands-line c.self.inside.grid.value c.self.inside.hour c.self.inside.events c.self.inside.settled c.self.inside.hand c.self.inside.numbers c.self.inside.settled_numbers c.self.inside.store c.self.invariant c.args.self.now c.self.view_is c.book.result.now c.book.ensures.book c.args.number part side rests)
    ∙ behind-line c.self.inside.grid.value c.self.inside.hour c.self.inside.events c.self.inside.settled c.self.inside.hand c.self.inside.numbers c.self.inside.settled_numbers c.self.inside.store c.self.invariant c.args.self.now c.self.view_is c.book.result.now c.book.ensures.book c.args.number part side rests
