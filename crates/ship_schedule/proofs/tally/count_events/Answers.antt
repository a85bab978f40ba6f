use Rattle.std.proofs.Common.{◌∙◌, ◌≡◌, ◌<◌, ◌++◌, ◌∷◌, [], length, take, sym, ap, subst, arith}
use Rattle.std.proofs.Math.Seq.{take-length}
use Rattle.std.proofs.lemmas.List.{append-nil, append_assoc}
use Rattle.ship_schedule.specs.Tally.{AreWithin, Counts, IsWithin}
use Rattle.ship_schedule.proofs.Counting.{events_more, itself, one_within, same_size, within_parts}
use Rattle.ship_schedule.proofs.tally.count_events.Goals as goal

pub loop-event-init : goal.loop-event-init
loop-event-init c = record {
  counts = λ before counts within. subst (λ es. Counts es c.args.tally.now) (sym (append-nil before)) counts;
  size = itself c.args.tally.now;
}

pub loop-event-preserved : goal.loop-event-preserved
loop-event-preserved c =
    let hours = length c.args.tally.now.parties in
    let so_far = take c.loop-event.event-index c.args.events.now in
    let e = c.event-item.result in
    let there : c.loop-event.event-index < length c.args.events.now = omega arith in
    let more = events_more c.args.events.now c.loop-event.event-index e there c.event-item.is in
    record {
      counts = λ before counts within.
          let parts = within_parts hours so_far (e ∷ []) (subst (AreWithin hours) more within) in
          subst (λ es. Counts es c.count_event.new.tally) (append_assoc before so_far (e ∷ []) ∙ ap (λ es. before ++ es) (sym more))
          (c.in_ok-count_event.ensures.counts (before ++ so_far) (c.loop-event.invariant.counts before counts parts.0)
          (subst (λ n. IsWithin n e) (sym c.loop-event.invariant.size.parties) (one_within hours e parts.1)));
      size = same_size c.args.tally.now c.loop-event.tally c.count_event.new.tally c.loop-event.invariant.size c.in_ok-count_event.ensures.size;
    }

pub returns : goal.returns
returns c =
    let last : c.loop-event.event-index ≡ length c.args.events.now = omega arith in
    let all = ap (λ n. take n c.args.events.now) last ∙ take-length c.args.events.now in
    record {
      counts = λ before counts within.
          subst (λ es. Counts (before ++ es) c.loop-event.tally) all
          (c.loop-event.invariant.counts before counts (subst (AreWithin (length c.args.tally.now.parties)) (sym all) within));
      size = c.loop-event.invariant.size;
    }
