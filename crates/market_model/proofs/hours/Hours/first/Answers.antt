use Rattle.std.proofs.Common.{◌≢◌, ◌∙◌, sym, arith}
use Rattle.std.proofs.lemmas.Bool.{false≢true}
use Rattle.market_model.proofs.HourSets.{lowest_is_first, none_in_zero}
use Rattle.market_model.proofs.hours.Hours.first.Goals as goal

pub returns-else-is_empty : goal.returns-else-is_empty
returns-else-is_empty c =
    let some : c.args.self.0 ≢ 0 = λ zero. false≢true (sym c.if-is_empty.false ∙ c.is_empty.ensures.1 (λ hour. rw zero (none_in_zero hour))) in
    lowest_is_first c.args.self.0 some (omega arith)
