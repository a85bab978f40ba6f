use Rattle.std.proofs.Common.{◌≡◌, ℕ, List, take}
use Rattle.market_model.specs.declared.entry.Entry.{Entry}
use Rattle.load_maker.specs.Summary.{legs, block_legs, lots, capped}
use Rattle.load_maker.proofs.totals.traded_in.Given as goal

-- what the entries so far traded
pub record HasTraded (entries : List Entry) (leg_count block_leg_count lot_count : ℕ) : Type 0 where
  pub legs_so_far : leg_count ≡ capped (legs entries)
  pub block_legs_so_far : block_leg_count ≡ capped (block_legs entries)
  pub lots_so_far : lot_count ≡ capped (lots entries)

abbrev pub invariant-loop-entry : goal.invariant-loop-entry
invariant-loop-entry l = HasTraded (take l.entry-index l.entries) l.legs l.block_legs l.lots
