use Rattle.std.proofs.Common.{◌≡◌, ◌++◌, drop, map, take}
use Rattle.laws_of_rows.specs.Depth.{taken_of}
use Rattle.plain_market.proofs.maker.take_of.Given as goal

-- lots are taken of the makers so far that bear the name
abbrev pub invariant-loop-maker : goal.invariant-loop-maker
invariant-loop-maker l = l.makers ≡ map (taken_of l.name l.lots) (take l.maker-index l.fn.makers) ++ drop l.maker-index l.fn.makers
