use Rattle.std.proofs.Common.{◌∙◌, ap, List, Option, Some, ℤ, option_map, slice_set}
use Rattle.std.proofs.lemmas.List.{map-set}
use Rattle.jiff_core.specs.declared.timestamp.Timestamp.{Timestamp}
use Rattle.command_lines.proofs.clocks.ClockTable.set.Goals as goal

pub returns : goal.returns
returns c =
    map-set (option_map (λ (instant : Timestamp). instant.nanosecond)) c.self.inside.instants.items c.args.caller (Some c.args.instant)
    ∙ ap (λ (instants : List (Option ℤ)). slice_set instants c.args.caller (Some c.args.instant.nanosecond)) c.self.view_is
