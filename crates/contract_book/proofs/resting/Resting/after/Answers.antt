use Rattle.std.proofs.Common.{sym, subst}
use Rattle.contract_book.specs.Resting.{AgreesWith, IsIceberg, IsSound}
use Rattle.contract_book.proofs.Peaks.{iceberg_after-sound}
use Rattle.contract_book.proofs.resting.Resting.after.Goals as goal

pub returns-in-Some-clause-sound : goal.returns-in-Some-clause-sound
returns-in-Some-clause-sound c =
    let iceberg : IsIceberg c.args.self.now c.in-Some.ice = subst (AgreesWith c.args.self.now) c.in-Some.is c.requires.sound.1 in
    subst IsSound (sym c.iceberg_after.ensures) (iceberg_after-sound c.args.self.now c.in-Some.ice iceberg c.args.lots c.requires.rest c.args.moment)
