use Rattle.std.proofs.Common.{◌∙◌, ◌<◌, ap}
use Rattle.std.specs.Option.{option_map}
use Rattle.contract_book.specs.Book.{first_of}
use Rattle.market_model.specs.Board.{first_shown, resting_line}
use Rattle.kept_hour.specs.Showing.{shown_record}
use Rattle.kept_hour.specs.State.{HourState}
use Rattle.kept_hour.proofs.Keeping.{own}
use Rattle.kept_hour.proofs.Shows.{first-shows, line-is}
use Rattle.kept_hour.proofs.Wrapped.{to-own}
use Rattle.kept_hour.proofs.board.KeptHourBoard.first.Goals as goal

pub returns-clause-first : goal.returns-clause-first
returns-clause-first c =
    c.first_shown.ensures
    ∙ ap (λ l. option_map shown_record (first_of l))
    (line-is (own c.self.inside.grid.value c.self.inside.hour c.self.inside.events c.self.inside.settled c.self.inside.hand).board c.book.result.now
    (c.book.ensures.book ∙ c.self.invariant.keeps.contents.book) c.args.part c.args.side
    (to-own c.self.inside.grid.value c.self.inside.hour c.self.inside.events c.self.inside.settled c.self.inside.hand c.self.inside.numbers c.self.inside.settled_numbers c.self.inside.store c.self.invariant c.args.self.now c.self.view_is (λ h. c.args.part < h.board.parts) c.requires.part))
    ∙ first-shows (resting_line (own c.self.inside.grid.value c.self.inside.hour c.self.inside.events c.self.inside.settled c.self.inside.hand).board c.args.part c.args.side)
    ∙ ap (λ (h : HourState). first_shown (resting_line h.board c.args.part c.args.side)) c.self.view_is
