use Rattle.std.proofs.Common.{◌≡◌, ◌++◌, map, take}
use Rattle.block_match.specs.Market.{leg_event}
use Rattle.kept_hour.proofs.dealing.push_deal.Given as goal

-- the legs so far stand behind the events
abbrev pub invariant-loop-leg : goal.invariant-loop-leg
invariant-loop-leg l = l.events ≡ l.fn.events ++ map (leg_event l.first l.last l.deal) (take l.leg-index l.legs)
