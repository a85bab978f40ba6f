use Rattle.contract_book.proofs.Peaks.{showing-allowed}
use Rattle.contract_book.proofs.resting.Resting.iceberg_after.Goals as goal

pub showing_price-requires-clause-allowed : goal.showing_price-requires-clause-allowed
showing_price-requires-clause-allowed c = showing-allowed c.args.self.now c.args.ice c.requires.sound c.args.lots c.requires.rest
