use Rattle.std.proofs.Common.{◌≡◌, map}
use Rattle.std.specs.List.{range_with_len}
use Rattle.basket_match.specs.Desk.{empty_desk}
use Rattle.desk_market.proofs.day.DayDesks.new.Given as goal

-- the desks of the hours so far
abbrev pub invariant-loop-before : goal.invariant-loop-before
invariant-loop-before l = record {
  made : l.desks.items ≡ map (empty_desk l.grid) (range_with_len 1 l.before);
}
