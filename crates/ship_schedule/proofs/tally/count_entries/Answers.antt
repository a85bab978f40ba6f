use Rattle.std.proofs.Common.{◌<◌, length, take, sym, subst, arith}
use Rattle.market_model.specs.History.{events_of, journal_events}
use Rattle.ship_schedule.specs.Tally.{AreWithin, Counts}
use Rattle.ship_schedule.proofs.Counting.{entries_more, same_size, within_parts}
use Rattle.ship_schedule.proofs.tally.count_entries.Goals as goal

pub loop-entry-preserved : goal.loop-entry-preserved
loop-entry-preserved c =
    let hours = length c.args.tally.now.parties in
    let so_far = journal_events (take c.loop-entry.entry-index c.args.entries.now) in
    let own = events_of c.entry-item.result.reply in
    let there : c.loop-entry.entry-index < length c.args.entries.now = omega arith in
    let more = entries_more c.args.entries.now c.loop-entry.entry-index c.entry-item.result there c.entry-item.is in
    record {
      counts = λ counts within.
          let parts = within_parts hours so_far own (subst (AreWithin hours) more within) in
          subst (λ es. Counts es c.count_entry.new.tally) (sym more)
          (c.in_ok-count_entry.ensures.counts so_far (c.loop-entry.invariant.counts counts parts.0)
          (subst (λ n. AreWithin n own) (sym c.loop-entry.invariant.size.parties) parts.1));
      size = same_size c.args.tally.now c.loop-entry.tally c.count_entry.new.tally c.loop-entry.invariant.size c.in_ok-count_entry.ensures.size;
    }
