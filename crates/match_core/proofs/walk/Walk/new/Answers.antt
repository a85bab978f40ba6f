use Rattle.std.proofs.Common.{◌∙◌}
use Rattle.match_core.proofs.Trading.{start, start-zone}
use Rattle.match_core.proofs.walk.Walk.new.Goals as goal

pub search_for-search-requires-clause-zone : goal.search_for-search-requires-clause-zone
search_for-search-requires-clause-zone g c =
    start-zone (g.B.Board.state c.args.board.now) c.args.grid.now c.args.part c.args.taker
    c.requires.grid c.requires.part c.requires.in_hand c.requires.entered c.rooms.ensures.board

pub returns-clause-stands : goal.returns-clause-stands
returns-clause-stands g c =
    start (g.B.Board.state c.args.board.now) c.args.grid.now c.args.part c.args.taker
    c.requires.grid c.requires.part c.requires.in_hand c.requires.entered c.rooms.ensures.board
    c.rooms.new.into c.search_for-search.result (c.rooms.ensures.size ∙ c.in_ok-rooms.ensures.size)
    c.rooms.ensures.rooms c.rooms.ensures.most
    c.search_for-search.ensures.fresh c.search_for-search.ensures.zone c.search_for-search.ensures.towards
