use Rattle.std.proofs.Common.{take, sym, ◌∙◌}
use Rattle.std.specs.Cmp.Lexicographic.{same_text, other_text}
use Rattle.journal_audit.proofs.Divisions.{division_is}
use Rattle.journal_audit.proofs.Passing.{line_passed, word_passed, all_passed}
use Rattle.journal_audit.proofs.dividing.divide.Goals as goal

pub returns-then-eq-clause-parts : goal.returns-then-eq-clause-parts
returns-then-eq-clause-parts c =
    let word = c.args.word.now in
    let bytes = c.args.bytes.now in
    let line = c.in-Some.line.now in
    let after = c.in-Some.after.now in
    let same = same_text line word (sym c.if-eq.true ∙ c.eq.ensures) in
    division_is word bytes (take c.loop-line.start bytes) after
    (word_passed word bytes c.loop-line.start c.loop-line.rest.now line after c.loop-line.invariant c.in-Some.ensures.first c.in-Some.ensures.parts same)

pub loop-line-preserved : goal.loop-line-preserved
loop-line-preserved c =
    let word = c.args.word.now in
    let line = c.in-Some.line.now in
    line_passed word c.args.bytes.now c.loop-line.start c.loop-line.rest.now line c.in-Some.after.now c.loop-line.invariant
    c.in-Some.ensures.first c.in-Some.ensures.parts (other_text line word (sym c.if-eq.false ∙ c.eq.ensures))

pub returns-clause-parts : goal.returns-clause-parts
returns-clause-parts c =
    all_passed c.args.word.now c.args.bytes.now c.loop-line.start c.loop-line.rest.now c.loop-line.invariant c.in_default.ensures.none
