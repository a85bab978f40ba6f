use Rattle.std.proofs.Common.{◌≡◌, ◌≤◌, take}
use Rattle.std.specs.List.{count_by}
use Rattle.load_maker.specs.Summary.{is_refused}
use Rattle.load_maker.proofs.totals.refusals_in.Given as goal

abbrev pub invariant-loop-entry : goal.invariant-loop-entry
invariant-loop-entry l = (l.refused ≡ count_by is_refused (take l.entry-index l.entries)) × (l.refused ≤ l.entry-index)
