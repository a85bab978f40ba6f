use Rattle.laws_of_texts.proofs.Sessions.{texts-are-sessions}
use Rattle.laws_of_texts.proofs.laws.texts_are_sessions.Goals as goal

pub returns : goal.returns
returns c = texts-are-sessions
