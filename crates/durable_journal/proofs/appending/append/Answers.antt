-- A crash leaves the lines from before the call, or these and the new one, at each of its moments.
use Rattle.std.proofs.Common.{◌∙◌, ℕ, List, Option, inl, sym, subst}
use Rattle.disk_model.specs.Contents.{Contents}
use Rattle.disk_model.specs.Moments.{LeavesOnly}
use Rattle.disk_model.proofs.Moments.{started, goes_on, runs_on}
use Rattle.durable_journal.specs.Resting.{HoldsLines}
use Rattle.durable_journal.specs.Appending.{StoresOldOrNew}
use Rattle.durable_journal.proofs.Steps.{held_image}
use Rattle.durable_journal.proofs.appending.append.Given.{Over}
use Rattle.durable_journal.proofs.appending.append.Goals as goal
use Rattle.durable_journal.proofs.appending.append.Goals.{After-reserve, After-store}

pub returns-then-size-gt-MOST_STORED-clause-any_moment : goal.returns-then-size-gt-MOST_STORED-clause-any_moment
returns-then-size-gt-MOST_STORED-clause-any_moment g c = λ lines holds.
    started g.D.Disk.moment g.D.Disk.left_since c.args.disk.now (StoresOldOrNew lines c.args.line.now)
    (λ image left. inl (held_image (g.D.Disk.contents c.args.disk.now) lines c.args.at holds image (g.met.D.Disk.only_now c.args.disk.now image left)))

-- once there is room
reserved : (g : Over) (c : After-reserve g) (lines : List (List ℕ)) → HoldsLines (g.D.Disk.contents c.args.disk.now) lines c.args.at
    → LeavesOnly g.D.Disk.moment g.D.Disk.left_since c.args.disk.now c.reserve.new.self (StoresOldOrNew lines c.args.line.now)
reserved g c lines holds =
    let P = StoresOldOrNew lines c.args.line.now in
    let begun = started g.D.Disk.moment g.D.Disk.left_since c.args.disk.now P
    (λ image left. inl (held_image (g.D.Disk.contents c.args.disk.now) lines c.args.at holds image (g.met.D.Disk.only_now c.args.disk.now image left))) in
    let same = subst (λ (o : Option Contents). HoldsLines o lines c.args.at) (sym c.reserve.ensures.contents) holds in
    goes_on g.D.Disk.moment g.D.Disk.left_since c.args.disk.now c.args.disk.now c.reserve.new.self P (g.D.Disk.contents c.reserve.new.self) begun c.reserve.ensures.time
    (λ image leaves. inl (held_image (g.D.Disk.contents c.reserve.new.self) lines c.args.at same image leaves))

-- and once the line is stored
stored : (g : Over) (c : After-store g) (lines : List (List ℕ)) → HoldsLines (g.D.Disk.contents c.args.disk.now) lines c.args.at
    → LeavesOnly g.D.Disk.moment g.D.Disk.left_since c.args.disk.now c.reserve.new.self (StoresOldOrNew lines c.args.line.now)
    → LeavesOnly g.D.Disk.moment g.D.Disk.left_since c.args.disk.now c.store.new.disk (StoresOldOrNew lines c.args.line.now)
stored g c lines holds before =
    let same = subst (λ (o : Option Contents). HoldsLines o lines c.args.at) (sym c.reserve.ensures.contents) holds in
    runs_on g.D.Disk.moment g.D.Disk.left_since c.args.disk.now c.reserve.new.self c.store.new.disk (StoresOldOrNew lines c.args.line.now) before
    (c.store.ensures.any_moment lines (subst (λ (p : ℕ). HoldsLines (g.D.Disk.contents c.reserve.new.self) lines p) (sym c.place-2.ensures.place) same))

pub returns-then-is_err-clause-any_moment : goal.returns-then-is_err-clause-any_moment
returns-then-is_err-clause-any_moment g c = reserved g (goal.at.returns-then-is_err-clause-any_moment g c).After-reserve

pub returns-in_default-clause-any_moment : goal.returns-in_default-clause-any_moment
returns-in_default-clause-any_moment g c = reserved g (goal.at.returns-in_default-clause-any_moment g c).After-reserve

pub returns-in-Ok-store-clause-any_moment : goal.returns-in-Ok-store-clause-any_moment
returns-in-Ok-store-clause-any_moment g c = λ lines holds.
    let at = goal.at.returns-in-Ok-store-clause-any_moment g c in
    stored g at.After-store lines holds (reserved g at.After-reserve lines holds)

pub returns-clause-any_moment : goal.returns-clause-any_moment
returns-clause-any_moment g c = λ lines holds.
    let at = goal.at.returns-clause-any_moment g c in
    stored g at.After-store lines holds (reserved g at.After-reserve lines holds)

pub returns-in-Ok-store-clause-image : goal.returns-in-Ok-store-clause-image
returns-in-Ok-store-clause-image g c = λ lines is each end.
    c.in-Ok-store.ensures.image lines (c.reserve.ensures.contents ∙ is) each (c.place-2.ensures.place ∙ end)
