use Rattle.std.proofs.Common.{◌≡◌, length, ap, ◌∙◌, arith}
use Rattle.std.specs.Fmt.{digits}
use Rattle.load_maker.specs.Session.{header, state_before, session_text}
use Rattle.load_maker.proofs.Lengths.{session_text_short}
use Rattle.load_maker.proofs.Texts.{text_behind, state_behind}
use Rattle.load_maker.proofs.session.session_text.Goals as goal

-- the header as it is written, and the first state
pub loop-place-init : goal.loop-place-init
unfolding header state_before digits
loop-place-init c = (c.in_ok-text.ensures.ok, c.new-draws.ensures)

pub loop-place-preserved : goal.loop-place-preserved
loop-place-preserved c = (
  text_behind _ _ _ _ _ c.loop-place.invariant.0 c.loop-place.invariant.1 c.draw_command-command.ensures.command c.in_ok-write_line.ensures,
  state_behind _ _ _ c.loop-place.invariant.1 c.draw_command-command.ensures.moved,
)

-- the loop has made at most 100000 commands
pub returns-clause-short : goal.returns-clause-short
returns-clause-short c =
    let text : c.from.result ≡ session_text c.loop-place.place =
    c.from.ensures ∙ ap (λ bytes. bytes.items) c.into_bytes.ensures.value ∙ c.loop-place.invariant.0 in
    omega (arith, ap length text, session_text_short c.loop-place.place)
