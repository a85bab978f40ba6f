use Rattle.std.proofs.Common.{◌≡◌, [], replicate}
use Rattle.ship_schedule.proofs.party_index.Parties.new.Given as goal

-- the hours so far have no party
abbrev pub invariant-loop-hour : goal.invariant-loop-hour
invariant-loop-hour l = l.hours.items ≡ replicate l.hour []
