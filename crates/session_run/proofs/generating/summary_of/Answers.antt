use Rattle.std.proofs.Common.{◌≡◌, ◌∙◌, Err, subst}
use Rattle.load_maker.specs.Session.{session_text}
use Rattle.market_text.specs.Text.{session_of_text}
use Rattle.laws_of_texts.proofs.Grids.{sessions-make-grids}
use Rattle.session_run.proofs.Generated.{no-bad-line}
use Rattle.session_run.proofs.generating.summary_of.Goals as goal

-- a generated text has no bad line
pub unreachable-requires : goal.unreachable-requires
unreachable-requires c =
    let line = c.in-Err-BadSession.field-0-0 in
    let text : c.bytes.result.now ≡ session_text c.args.commands = c.bytes.ensures ∙ c.in_ok-text.ensures.text in
    let bad : session_of_text c.bytes.result.now ≡ Err line = rw c.in-Err-BadSession.field-0-is at c.in-Err-BadSession.ensures.exact in
    no-bad-line c.args.commands line c.requires.few (subst (λ bytes. session_of_text bytes ≡ Err line) text bad)

-- a session that is read makes a grid
pub journal_of-requires-clause-sound : goal.journal_of-requires-clause-sound
journal_of-requires-clause-sound c = (sessions-make-grids c.bytes.result.now c.in-Ok.session c.in-Ok.ensures.exact).1
