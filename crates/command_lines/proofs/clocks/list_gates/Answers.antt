use Rattle.std.proofs.Common.{◌≡◌, ◌-◌, ◌∙◌, ℕ, ap, arith, option_map}
use Rattle.std.specs.List.{range_with_len, flat_map}
use Rattle.jiff_core.specs.declared.timestamp.Timestamp.{Timestamp}
use Rattle.command_lines.specs.Clocks.{gate_of, gates_of}
use Rattle.command_lines.proofs.HourLemmas.{one_hour_more}
use Rattle.command_lines.proofs.clocks.list_gates.Goals as goal

pub loop-hour-preserved : goal.loop-hour-preserved
loop-hour-preserved c =
    one_hour_more (gate_of c.args.day.now (option_map (λ (instant : Timestamp). instant.nanosecond) c.args.last.now) c.args.instant.nanosecond)
    c.loop-hour.hour c.loop-hour.gates c.add_gate.new.gates (omega arith) c.loop-hour.invariant c.in_ok-add_gate.ensures

pub returns : goal.returns
unfolding gates_of
returns c =
    let gates = gate_of c.args.day.now (option_map (λ (instant : Timestamp). instant.nanosecond) c.args.last.now) c.args.instant.nanosecond in
    let hours = c.hours-hour-end.ensures.value in
    let end : c.loop-hour.hour - 1 ≡ c.args.day.now.hours = omega arith in
    c.loop-hour.invariant ∙ ap (λ (count : ℕ). flat_map gates (range_with_len 1 count)) end
