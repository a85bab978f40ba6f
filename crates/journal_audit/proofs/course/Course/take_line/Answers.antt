use Rattle.std.proofs.Common.{◌≡◌, ◌∙◌, ◌+◌, [], ◌∷◌, ◌++◌, length, arith, slice_index, sym, subst, ap, Some}
use Rattle.market_model.specs.Naming.{IsEntryIn}
use Rattle.journal_print.specs.Line.{entry_line}
use Rattle.journal_audit.proofs.Courses.{course-history, course-more, entries-few, lines-differ, lines-same, made, made-alone, made-named, made-next}
use Rattle.journal_audit.proofs.NextEntries.{command_at}
use Rattle.journal_audit.proofs.course.Course.take_line.Goals as goal
use Rattle.journal_audit.proofs.course.Course.take_line.Goals.{After-ne, In-Some-command_at, In_ok-push}

-- the command is the next one of the caller
given : (c : In-Some-command_at) → command_at c.args.session.now.commands c.in-Some.caller (slice_index c.args.self.now.given c.in-Some.caller) ≡ Some c.in-Some-command_at.command.now
given c = sym (c.in-Some-command_at.ensures ∙ ap (λ lists. command_at lists c.in-Some.caller c.of-place.result) c.as_slice.ensures
    ∙ ap (command_at c.args.session.now.commands c.in-Some.caller) c.of-place.ensures)

-- the text of the entry that is made
text : (c : After-ne) → c.bytes.result.now ≡ entry_line c.args.session.now.setup (length c.args.self.now.entries + 1) (made c.args.session.now.setup c.args.self.now c.in-Some.caller c.in-Some-command_at.command.now)
text c =
    c.bytes.ensures ∙ c.in_ok-text.ensures.line
    ∙ ap (λ place. entry_line c.args.session.now.setup place c.in_ok-entry.entry) (c.next_place.ensures ∙ ap (λ es. length es + 1) c.play.ensures.entries)
    ∙ ap (entry_line c.args.session.now.setup (length c.args.self.now.entries + 1)) c.in_ok-entry.ensures.entry

-- what is put at the end
pushed : (c : In_ok-push) → c.push.new.self ≡ c.args.self.now.entries ++ made c.args.session.now.setup c.args.self.now c.in-Some.caller c.in-Some-command_at.command.now ∷ []
pushed c =
    c.in_ok-push.ensures.ok ∙ ap (λ es. es ++ c.in_ok-entry.entry ∷ []) c.play.ensures.entries
    ∙ ap (λ e. c.args.self.now.entries ++ e ∷ []) c.in_ok-entry.ensures.entry

pub play-requires-clause-history : goal.play-requires-clause-history
play-requires-clause-history c = course-history c.args.session.now c.args.self.now c.requires.course c.requires.setup

pub play-requires-clause-few : goal.play-requires-clause-few
play-requires-clause-few c =
    let few = entries-few c.args.session.now c.requires.session c.args.self.now c.requires.course in
    omega (arith, few, c.requires.course.few)

pub next_place-requires : goal.next_place-requires
next_place-requires c =
    let few = entries-few c.args.session.now c.requires.session c.args.self.now c.requires.course in
    omega (arith, few, ap length c.play.ensures.entries)

pub print_entry-requires-clause-within : goal.print_entry-requires-clause-within
print_entry-requires-clause-within c =
    subst (IsEntryIn c.args.session.now.setup) (sym c.in_ok-entry.ensures.entry)
    (made-named c.args.session.now c.args.self.now c.requires.course c.requires.setup c.in-Some.caller c.in-Some-command_at.command.now c.in-Some.ensures.known)

pub returns-then-ne-clause-wrong : goal.returns-then-ne-clause-wrong
returns-then-ne-clause-wrong c = λ _ entry next.
    let at = goal.at.returns-then-ne-clause-wrong c in
    let alone = made-alone c.args.session.now c.args.self.now c.requires.course c.in-Some.caller c.in-Some-command_at.command.now (given at.In-Some-command_at)
    c.args.line.now entry (sym c.in-Some.ensures.caller) next in
    lines-differ c.ne.result c.bytes.result.now c.args.line.now c.ne.ensures c.if-ne.true
    (text at.After-ne ∙ sym (next.text ∙ ap (entry_line c.args.session.now.setup (length c.args.self.now.entries + 1)) alone))

pub returns-clause-taken : goal.returns-clause-taken
returns-clause-taken c = λ _.
    let at = goal.at.returns-clause-taken c in (
      made c.args.session.now.setup c.args.self.now c.in-Some.caller c.in-Some-command_at.command.now,
      record {
        named = sym c.in-Some.ensures.caller;
        next = made-next c.args.session.now c.args.self.now c.requires.course c.in-Some.caller c.in-Some-command_at.command.now (given at.In-Some-command_at);
        text = sym (lines-same c.ne.result c.bytes.result.now c.args.line.now c.ne.ensures c.if-ne.false) ∙ text at.After-ne;
      },
      pushed at.In_ok-push,
    )

pub returns-clause-course : goal.returns-clause-course
returns-clause-course c = λ _.
    let at = goal.at.returns-clause-course c in
    let known = c.in-Some.ensures.known in
    let matched = c.requires.course.matched in
    let callers = c.requires.session.matched in
    course-more c.args.session.now c.args.self.now c.requires.course c.in-Some.caller c.in-Some-command_at.command.now (given at.In-Some-command_at)
    (record { given = c.play.new.self.given; history = c.play.new.self.history; entries = c.push.new.self; sums = c.play.new.self.sums })
    c.requires.setup known (omega (arith, known, matched, callers))
    c.in_ok-entry.ensures.given c.in_ok-entry.ensures.history (pushed at.In_ok-push) c.play.ensures.summed
