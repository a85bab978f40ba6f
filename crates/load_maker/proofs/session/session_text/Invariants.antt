use Rattle.std.proofs.Common.{◌≡◌, string_bytes}
use Rattle.load_maker.specs.Session.{session_text, state_before}
use Rattle.load_maker.proofs.session.session_text.Given as goal

-- the text of the commands so far, and the state that they left
abbrev pub invariant-loop-place : goal.invariant-loop-place
invariant-loop-place l = (string_bytes l.text ≡ session_text l.place) × (l.draws ≡ state_before l.place)
