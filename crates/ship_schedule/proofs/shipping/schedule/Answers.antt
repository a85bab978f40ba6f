use Rattle.std.proofs.Common.{◌∙◌, ◌++◌, List, [], length, ap, subst}
use Rattle.market_model.specs.declared.entry.Entry.{Entry}
use Rattle.market_model.specs.History.{journal_events}
use Rattle.ship_schedule.specs.ScheduleText.{lines_of, numbers_in}
use Rattle.ship_schedule.specs.Tally.{AreWithin, Counts}
use Rattle.ship_schedule.proofs.Shipped.{schedule-is}
use Rattle.ship_schedule.proofs.shipping.schedule.Goals as goal

pub returns : goal.returns
returns c =
    let old = c.in_ok-tally.tally in
    let new = c.count_entries.new.tally in
    let IsCounted : List Entry → Type 0 =
    λ entries. Counts [] old → AreWithin (length old.parties) (journal_events entries) → Counts (journal_events entries) new in
    c.into_text.ensures
    ∙ c.in_ok-write_day.ensures
    ∙ ap (λ page. page ++ lines_of c.args.setup.now (numbers_in new.sums)) c.new-page.ensures
    ∙ schedule-is c.args.setup.now c.args.entries.now old new c.requires.setup c.requires.legal
    c.in_ok-tally.ensures.counts c.in_ok-tally.ensures.size c.in_ok-count_entries.ensures.size
    (subst IsCounted c.as_slice.ensures c.in_ok-count_entries.ensures.counts)
