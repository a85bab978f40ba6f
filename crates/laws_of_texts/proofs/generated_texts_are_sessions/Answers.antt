use Rattle.laws_of_texts.proofs.GeneratedSessions.{generated_texts}
use Rattle.laws_of_texts.proofs.generated_texts_are_sessions.Goals as goal

pub returns : goal.returns
returns c = generated_texts
