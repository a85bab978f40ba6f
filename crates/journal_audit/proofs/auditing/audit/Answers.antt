use Rattle.std.proofs.Common.{◌≡◌, ◌∙◌, inl, ◌+◌, ◌∷◌, [], Ok, List, ℕ, eqb-true, length, arith, refl, sym, subst, ap}
use Rattle.journal_audit.specs.Audit.{IsNoJournal}
use Rattle.journal_audit.specs.Course.{IsCourse}
use Rattle.journal_audit.specs.Lines.{journal_lines}
use Rattle.journal_audit.proofs.Audits.{IsAudited, IsJournal, more-audited, no-journal, nothing-audited, wrong-audited}
use Rattle.journal_audit.proofs.Courses.{course-new, entries-few, journal-of}
use Rattle.journal_audit.proofs.Verdicts.{legal-behind, verdict-behind}
use Rattle.journal_audit.proofs.auditing.audit.Goals as goal

-- a list without an item
no-items : (xs : List ℕ) → length xs ≡ 0 → xs ≡ []
no-items [] none = refl
no-items (x ∷ xs) none = absurd (omega (arith, none))

pub loop-rest-init : goal.loop-rest-init
loop-rest-init c =
    let session = c.args.session.now in
    let journal = c.args.journal.now in
    record {
      course = subst (IsCourse session) (sym c.in_ok-course.ensures) (course-new session c.len.result c.len.ensures);
      audited = subst (λ entries. IsAudited session journal journal entries) (sym (ap (λ course. course.entries) c.in_ok-course.ensures)) (nothing-audited session (journal_lines journal));
    }

pub next_place-requires : goal.next_place-requires
next_place-requires c =
    let few = entries-few c.args.session.now c.requires.session c.loop-rest.course c.loop-rest.invariant.course in
    let kept : c.take_line.new.self.entries ≡ c.loop-rest.course.entries = c.in_ok-take_line.ensures.kept (ap Ok c.if-not-branch.true) in
    omega (arith, few, ap length kept)

pub returns-then-not-branch-clause-verdict : goal.returns-then-not-branch-clause-verdict
returns-then-not-branch-clause-verdict c =
    let session = c.args.session.now in
    let journal = c.args.journal.now in
    let course = c.loop-rest.course in
    let before = c.loop-rest.invariant in
    let kept : c.take_line.new.self.entries ≡ course.entries = c.in_ok-take_line.ensures.kept (ap Ok c.if-not-branch.true) in
    subst (IsNoJournal session journal) (sym (c.next_place.ensures ∙ ap (λ entries. length entries + 1) kept))
    (no-journal session journal (length course.entries + 1) (inl (wrong-audited session (journal_lines journal) (journal_lines c.loop-rest.rest.now) (journal_lines c.first_line.result.1.now) course.entries c.first_line.result.0.now
    before.audited (journal-of session course before.course) c.first_line.ensures.lines (c.in_ok-take_line.ensures.wrong (ap Ok c.if-not-branch.true)))))

pub loop-rest-preserved : goal.loop-rest-preserved
loop-rest-preserved c =
    let session = c.args.session.now in
    let journal = c.args.journal.now in
    let course = c.loop-rest.course in
    let taken = c.in_ok-take_line.ensures.taken (ap Ok c.if-not-branch.false) in
    let after : IsCourse session c.take_line.new.self = c.in_ok-take_line.ensures.course (ap Ok c.if-not-branch.false) in
    record {
      course = after;
      audited = subst (λ entries. IsAudited session journal c.first_line.result.1.now entries) (sym taken.2)
          (more-audited session (journal_lines journal) (journal_lines c.loop-rest.rest.now) (journal_lines c.first_line.result.1.now) course.entries c.first_line.result.0.now taken.0 c.loop-rest.invariant.audited
          c.first_line.ensures.lines taken.1 (subst (IsJournal session) taken.2 (journal-of session c.take_line.new.self after)));
    }

pub returns-clause-verdict : goal.returns-clause-verdict
returns-clause-verdict c =
    let session = c.args.session.now in
    let journal = c.args.journal.now in
    let course = c.loop-rest.course in
    let nothing : c.loop-rest.rest.now ≡ [] = no-items c.loop-rest.rest.now (eqb-true (length c.loop-rest.rest.now) 0 (sym c.is_empty.ensures ∙ c.loop-rest-test.false)) in
    verdict-behind session course c.loop-rest.invariant.course journal c.verdict_of.result
    (subst (λ rest. IsAudited session journal rest course.entries) nothing c.loop-rest.invariant.audited)
    c.verdict_of.ensures.legal c.verdict_of.ensures.done c.verdict_of.ensures.illegal c.verdict_of.ensures.left

pub returns-clause-legal : goal.returns-clause-legal
returns-clause-legal c = legal-behind c.args.session.now c.loop-rest.course c.loop-rest.invariant.course c.verdict_of.result c.verdict_of.ensures.legal
