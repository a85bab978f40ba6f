use Rattle.std.proofs.Common.{eqb-true, eq-eqb}
use Rattle.market_model.proofs.HourSets.{none_in_zero, zero_from_none}
use Rattle.market_model.proofs.hours.Hours.is_empty.Goals as goal

pub returns : goal.returns
returns c =
    let bits = c.args.self.0 in
    (λ zero hour. rw (eqb-true bits 0 zero) (none_in_zero hour), λ none. eq-eqb bits 0 (zero_from_none bits none))
