-- The phase by the two gates.
use Rattle.std.proofs.Common.{◌∙◌, sym}
use Rattle.contract_calendar.proofs.QuarterLemmas.{phase_closed, phase_local, phase_open}
use Rattle.contract_calendar.proofs.day.Day.phase_at.Goals as goal

pub returns-then-starts_within : goal.returns-then-starts_within
returns-then-starts_within c =
    sym (phase_closed c.args.self.now c.args.hour c.args.instant.nanosecond (sym c.starts_within.ensures ∙ c.if-starts_within.true))

pub returns-then-starts_within-2 : goal.returns-then-starts_within-2
returns-then-starts_within-2 c =
    sym (phase_local c.args.self.now c.args.hour c.args.instant.nanosecond (sym c.starts_within.ensures ∙ c.if-starts_within.false)
    (sym c.starts_within-else-starts_within.ensures ∙ c.if-starts_within-2.true))

pub returns-else-starts_within-2 : goal.returns-else-starts_within-2
returns-else-starts_within-2 c =
    sym (phase_open c.args.self.now c.args.hour c.args.instant.nanosecond (sym c.starts_within.ensures ∙ c.if-starts_within.false)
    (sym c.starts_within-else-starts_within.ensures ∙ c.if-starts_within-2.false))
