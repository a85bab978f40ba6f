use Rattle.std.proofs.Common.{◌∙◌, ◌<◌, Result, Ok, Err, OnErr, IfSome, refl, sym, ap, subst}
use Rattle.std.specs.Option.{option_map}
use Rattle.market_model.specs.Sweep.{left_in_hour}
use Rattle.laws_of_boards.proofs.Legs.{lower}
use Rattle.sweep_core.specs.Sweeping.{IsNext, IsSweptInPart, IsToBeSwept, OthersAreQuiet, leg_event}
use Rattle.sweep_core.proofs.Progress.{IsUnderWay, begun, can-be-made, ended, in-part, nothing-trades, one_more}
use Rattle.sweep_core.proofs.Opening.{quiet-after}
use Rattle.sweep_core.proofs.sweeping.sweep_opened.Goals as goal

on-err : {T E : Type 0} (result : Result T E) (P : Type 0) → P → OnErr result P
on-err (Ok x) P p = tt
on-err (Err e) P p = p

pub loop-rooms-init : goal.loop-rooms-init
loop-rooms-init g c = record {
  swept = record { over_grid = c.requires.grid; in_hour = c.requires.hour; has_parts = c.requires.parts; no_hand = c.requires.no_hand };
  size = tt;
  quiet = c.requires.quiet;
  way = begun (g.B.Board.state c.args.board.now);
  kept = refl;
}

pub returns-in_err-next-clause-some : goal.returns-in_err-next-clause-some
returns-in_err-next-clause-some g c =
    on-err c.from_residual.result (IsSweptInPart (g.B.Board.state c.args.board.now) (g.B.Board.state c.loop-rooms.board))
    (in-part (g.B.Board.state c.args.board.now) (g.B.Board.state c.loop-rooms.board) c.loop-rooms.invariant.way)

pub make-requires-clause-fits : goal.make-requires-clause-fits
make-requires-clause-fits g c =
    let board = g.B.Board.state c.loop-rooms.board in
    let is = subst (λ o. IfSome o (IsNext board)) c.in-Some.is c.in_ok-next.ensures.found in
    can-be-made board c.in-Some.next.part c.in-Some.next.leg is.found.stands is.found.is

pub returns-in_err-make-clause-some : goal.returns-in_err-make-clause-some
returns-in_err-make-clause-some g c =
    on-err c.from_residual-in_err-make.result (IsSweptInPart (g.B.Board.state c.args.board.now) (g.B.Board.state c.make.new.self))
    (subst (λ b. IsSweptInPart (g.B.Board.state c.args.board.now) (g.B.Board.state b)) (sym c.in_err-make.ensures.unchanged)
    (in-part (g.B.Board.state c.args.board.now) (g.B.Board.state c.loop-rooms.board) c.loop-rooms.invariant.way))

pub loop-rooms-smaller : goal.loop-rooms-smaller
loop-rooms-smaller g c =
    let board = g.B.Board.state c.loop-rooms.board in
    let is = subst (λ o. IfSome o (IsNext board)) c.in-Some.is c.in_ok-next.ensures.found in
    let can = can-be-made board c.in-Some.next.part c.in-Some.next.leg is.found.stands is.found.is in
    subst (λ s. left_in_hour s.events s.hour < left_in_hour board.events board.hour) (sym c.in_ok-make.ensures.made)
    (lower board c.in-Some.next.part c.in-Some.next.leg is.found.stands can)

pub loop-rooms-preserved : goal.loop-rooms-preserved
loop-rooms-preserved g c =
    let board = g.B.Board.state c.loop-rooms.board in
    let is = subst (λ o. IfSome o (IsNext board)) c.in-Some.is c.in_ok-next.ensures.found in
    let can = can-be-made board c.in-Some.next.part c.in-Some.next.leg is.found.stands is.found.is in
    let swept = c.loop-rooms.invariant.swept in
    record {
      swept = subst (IsToBeSwept c.args.grid.now c.args.hour) (sym c.in_ok-make.ensures.made)
          (record { over_grid = swept.over_grid; in_hour = swept.in_hour; has_parts = swept.has_parts; no_hand = swept.no_hand });
      size = c.next_leg.ensures.size;
      quiet = subst (λ s. OthersAreQuiet s c.opened_by-parts.result) (sym c.in_ok-make.ensures.made)
          (quiet-after board c.in-Some.next.part c.in-Some.next.leg c.in-Some.next.opens c.next_leg.new.parts c.opened_by-parts.result is.found.stands can
          is.found.is is.is is.found.opens c.in_ok-next.ensures.quiet c.opened_by-parts.ensures);
      way = subst (IsUnderWay (g.B.Board.state c.args.board.now)) (sym c.in_ok-make.ensures.made)
          (one_more (g.B.Board.state c.args.board.now) board c.in-Some.next.part c.in-Some.next.leg is.found.stands can is.is c.loop-rooms.invariant.way);
      kept = c.make.ensures.kept ∙ c.loop-rooms.invariant.kept;
    }

pub returns-clause-made : goal.returns-clause-made
returns-clause-made g c =
    let board = g.B.Board.state c.loop-rooms.board in
    ended (g.B.Board.state c.args.board.now) board (c.in_ok-next.ensures.next ∙ ap (option_map (leg_event board)) c.in_default.is) c.loop-rooms.invariant.way

pub returns-clause-done : goal.returns-clause-done
returns-clause-done g c =
    let board = g.B.Board.state c.loop-rooms.board in
    nothing-trades board (c.in_ok-next.ensures.next ∙ ap (option_map (leg_event board)) c.in_default.is)
