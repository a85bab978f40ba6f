use Rattle.plain_matching.proofs.hour_sums.HourSums.none.Goals as goal

pub returns : goal.returns
returns c = λ graph events hour. c.of.ensures.summed graph events hour tt
