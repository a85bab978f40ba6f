-- What is appended is the line of the entry.
use Rattle.std.proofs.Common.{◌≡◌, ◌∙◌, ◌<◌, inl, ℕ, List, length, rules, subst, sym}
use Rattle.disk_model.specs.Moments.{LeavesOnly}
use Rattle.disk_model.proofs.Moments.{started}
use Rattle.durable_journal.specs.Appending.{StoresOldOrNew}
use Rattle.durable_journal.proofs.Steps.{held_image}
use Rattle.journal_print.specs.Line.{entry_line}
use Rattle.stored_journal.specs.Lines.{stored_line}
use Rattle.stored_journal.proofs.Lines.{body-is, some-line}
use Rattle.stored_journal.proofs.appending.append_entry.Goals as goal

pub returns-in_default-clause-any_moment : goal.returns-in_default-clause-any_moment
returns-in_default-clause-any_moment g c = λ lines holds.
    started g.D.Disk.moment g.D.Disk.left_since c.args.disk.now (StoresOldOrNew lines (stored_line c.args.setup.now c.args.place c.args.entry.now))
    (λ image left. inl (held_image (g.D.Disk.contents c.args.disk.now) lines c.args.at holds image (g.met.D.Disk.only_now c.args.disk.now image left)))

pub append_line-requires-clause-some : goal.append_line-requires-clause-some
append_line-requires-clause-some g c =
    let line : c.bytes.result.now ≡ entry_line c.args.setup.now c.args.place c.args.entry.now = search rules in
    let body : c.without_line_feed.result.now ≡ stored_line c.args.setup.now c.args.place c.args.entry.now =
    c.without_line_feed.ensures ∙ body-is c.bytes.result.now c.args.setup.now c.args.place c.args.entry.now line in
    subst (λ (l : List ℕ). 0 < length l) (sym body) (some-line c.args.setup.now c.args.place c.args.entry.now)

pub returns-clause-any_moment : goal.returns-clause-any_moment
returns-clause-any_moment g c = λ lines holds.
    let line : c.bytes.result.now ≡ entry_line c.args.setup.now c.args.place c.args.entry.now = search rules in
    let body : c.without_line_feed.result.now ≡ stored_line c.args.setup.now c.args.place c.args.entry.now =
    c.without_line_feed.ensures ∙ body-is c.bytes.result.now c.args.setup.now c.args.place c.args.entry.now line in
    subst (λ (l : List ℕ). LeavesOnly g.D.Disk.moment g.D.Disk.left_since c.args.disk.now c.append_line.new.disk (StoresOldOrNew lines l)) body
    (c.append_line.ensures.any_moment lines holds)
