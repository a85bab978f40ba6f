use Rattle.std.proofs.Common.{◌≡◌, ◌<◌, ℕ, length, slice_index}
use Rattle.market_text.specs.Commands.{commands_of}
use Rattle.journal_audit.proofs.course.Course.is_done.Given as goal

-- the callers so far have given all their commands
abbrev pub invariant-loop-caller : goal.invariant-loop-caller
invariant-loop-caller l = (caller : ℕ) → caller < l.caller → slice_index l.self.given caller ≡ length (commands_of l.commands caller)
