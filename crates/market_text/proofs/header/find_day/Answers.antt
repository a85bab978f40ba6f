use Rattle.market_text.proofs.header.find_day.Goals as goal

pub returns-in-Err : goal.returns-in-Err
returns-in-Err c = let never = c.in-Err.ensures.traded.1 c.in_ok-date.ensures.years in absurd cc
