use Rattle.std.proofs.Common.{◌≢◌, length, sym, arith}
use Rattle.std.proofs.lemmas.Bool.{eqb-false}
use Rattle.session_trade.proofs.Halves.{may-length}
use Rattle.session_trade.proofs.callers.work_of_one.Goals as goal

pub bounds-passes-0 : goal.bounds-passes-0
bounds-passes-0 g c =
    let same = may-length c.args.venue.now c.args.commands.now c.args.passes.now c.requires.may in
    let some : length c.args.commands.now ≢ 0 = eqb-false (length c.args.commands.now) 0 (sym c.if-is_empty.ensures) in
    omega (arith, same, some)
