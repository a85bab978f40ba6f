use Rattle.std.proofs.Common.{◌==◌, Some, None, if◌then◌else◌, refl, sym, ap, subst}
use Rattle.market_model.specs.declared.event.Event.TheVariants as event
use Rattle.ship_schedule.specs.declared.period.Period.TheVariants as period
use Rattle.ship_schedule.proofs.Counting.{Keeps, entering, granting, still, trading}
use Rattle.ship_schedule.proofs.tally.count_event.Goals as goal

pub returns-in_ok-note-in-Entered-clause-counts : goal.returns-in_ok-note-in-Entered-clause-counts
returns-in_ok-note-in-Entered-clause-counts c =
    let own = c.in-Entered in
    subst (Keeps c.args.tally.now (record { sums = c.args.tally.now.sums; parties = c.note.new.self })) (sym own.is)
    (entering c.args.tally.now c.note.new.self own.name c.new.result (event.Entered own.name own.caller own.order)
    (λ quarter arc. refl) (λ quarter arc. refl) (λ quarter zone selling before. refl)
    (λ hour. ap (λ party. if own.name.hour == hour then Some party else None) (sym c.new.ensures))
    c.in_ok-note-in-Entered.ensures.rows c.in_ok-note-in-Entered.ensures.size)

pub returns-in_ok-note-in-EnteredBlock-clause-counts : goal.returns-in_ok-note-in-EnteredBlock-clause-counts
returns-in_ok-note-in-EnteredBlock-clause-counts c =
    let own = c.in-EnteredBlock in
    subst (Keeps c.args.tally.now (record { sums = c.args.tally.now.sums; parties = c.note-in-EnteredBlock.new.self })) (sym own.is)
    (entering c.args.tally.now c.note-in-EnteredBlock.new.self own.name c.new-in-EnteredBlock.result (event.EnteredBlock own.name own.caller own.order)
    (λ quarter arc. refl) (λ quarter arc. refl) (λ quarter zone selling before. refl)
    (λ hour. ap (λ party. if own.name.hour == hour then Some party else None) (sym c.new-in-EnteredBlock.ensures))
    c.in_ok-note-in-EnteredBlock.ensures.rows c.in_ok-note-in-EnteredBlock.ensures.size)

pub returns-in_ok-count_leg-in-Leg-clause-counts : goal.returns-in_ok-count_leg-in-Leg-clause-counts
returns-in_ok-count_leg-in-Leg-clause-counts c =
    let own = c.in-Leg in
    let made = c.in_ok-count_leg-in-Leg.ensures in
    subst (Keeps c.args.tally.now c.count_leg.new.tally) (sym own.is)
    (trading c.args.tally.now c.count_leg.new.tally (period.Contract own.contract) own.leg (event.Leg own.contract own.leg)
    (λ quarter arc. refl) (λ quarter arc. refl) (λ quarter zone selling before. refl) (λ hour. refl) (λ hours within. within)
    made.traded made.traded_shape made.positions made.positions_shape made.granted made.parties)

pub returns-in_ok-count_leg-in-BlockLeg-clause-counts : goal.returns-in_ok-count_leg-in-BlockLeg-clause-counts
returns-in_ok-count_leg-in-BlockLeg-clause-counts c =
    let own = c.in-BlockLeg in
    let made = c.in_ok-count_leg-in-BlockLeg.ensures in
    subst (Keeps c.args.tally.now c.count_leg-in-BlockLeg.new.tally) (sym own.is)
    (trading c.args.tally.now c.count_leg-in-BlockLeg.new.tally (period.Hours own.first own.last) own.leg (event.BlockLeg own.first own.last own.leg)
    (λ quarter arc. refl) (λ quarter arc. refl) (λ quarter zone selling before. refl) (λ hour. refl) (λ hours within. within)
    made.traded made.traded_shape made.positions made.positions_shape made.granted made.parties)

pub returns-in_ok-count-in-Granted-clause-counts : goal.returns-in_ok-count-in-Granted-clause-counts
returns-in_ok-count-in-Granted-clause-counts c =
    let own = c.in-Granted in
    let tally = c.args.tally.now in
    subst (Keeps tally (record { sums = record { traded = tally.sums.traded; granted = c.count.new.self; positions = tally.sums.positions }; parties = tally.parties }))
    (sym own.is)
    (granting tally c.count.new.self own.arc own.first own.last own.lots c.in_ok-count-in-Granted.ensures.counted c.in_ok-count-in-Granted.ensures.shape)

pub returns-in-Offered-clause-counts : goal.returns-in-Offered-clause-counts
returns-in-Offered-clause-counts c =
    let own = c.in-Offered in
    subst (Keeps c.args.tally.now c.args.tally.now) (sym own.is)
    (still c.args.tally.now (event.Offered own.arc own.first own.last own.lots) (λ quarter arc. refl) (λ quarter arc. refl) (λ quarter zone selling before. refl) (λ hour. refl))

pub returns-in-Halted-clause-counts : goal.returns-in-Halted-clause-counts
returns-in-Halted-clause-counts c =
    let own = c.in-Halted in
    subst (Keeps c.args.tally.now c.args.tally.now) (sym own.is)
    (still c.args.tally.now (event.Halted own.border own.first own.last) (λ quarter arc. refl) (λ quarter arc. refl) (λ quarter zone selling before. refl) (λ hour. refl))

pub returns-in-Resumed-clause-counts : goal.returns-in-Resumed-clause-counts
returns-in-Resumed-clause-counts c =
    let own = c.in-Resumed in
    subst (Keeps c.args.tally.now c.args.tally.now) (sym own.is)
    (still c.args.tally.now (event.Resumed own.border own.first own.last) (λ quarter arc. refl) (λ quarter arc. refl) (λ quarter zone selling before. refl) (λ hour. refl))

pub returns-in-Gated-clause-counts : goal.returns-in-Gated-clause-counts
returns-in-Gated-clause-counts c =
    let own = c.in-Gated in
    subst (Keeps c.args.tally.now c.args.tally.now) (sym own.is)
    (still c.args.tally.now (event.Gated own.hour own.phase) (λ quarter arc. refl) (λ quarter arc. refl) (λ quarter zone selling before. refl) (λ hour. refl))

pub returns-in-Withdrawn-clause-counts : goal.returns-in-Withdrawn-clause-counts
returns-in-Withdrawn-clause-counts c =
    let own = c.in-Withdrawn in
    subst (Keeps c.args.tally.now c.args.tally.now) (sym own.is)
    (still c.args.tally.now (event.Withdrawn own.name own.lots) (λ quarter arc. refl) (λ quarter arc. refl) (λ quarter zone selling before. refl) (λ hour. refl))

pub returns-in-Reduced-clause-counts : goal.returns-in-Reduced-clause-counts
returns-in-Reduced-clause-counts c =
    let own = c.in-Reduced in
    subst (Keeps c.args.tally.now c.args.tally.now) (sym own.is)
    (still c.args.tally.now (event.Reduced own.name own.by) (λ quarter arc. refl) (λ quarter arc. refl) (λ quarter zone selling before. refl) (λ hour. refl))
