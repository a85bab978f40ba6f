use Rattle.cut_proof.proofs.Ways.{borders_once}
use Rattle.cut_proof.proofs.laws.routes_use_borders_once.Goals as goal

pub returns : goal.returns
returns c = λ graph room from to route r. borders_once graph room from to route r.way r.simple
