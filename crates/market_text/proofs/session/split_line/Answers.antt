use Rattle.std.proofs.Common.{◌+◌, ◌-◌, length, take, drop, refl, arith}
use Rattle.std.proofs.lemmas.Grind.{common_steps}
use Rattle.market_text.proofs.TextLemmas.{none_found, line_found, position-first}
use Rattle.market_text.proofs.session.split_line.Goals as goal

pub returns-in-None-clause-lines : goal.returns-in-None-clause-lines
returns-in-None-clause-lines c = none_found c.args.text.now (position-first _ c.args.text.now _ _ refl c.in-None.ensures)

pub returns-in-Some-clause-lines : goal.returns-in-Some-clause-lines
returns-in-Some-clause-lines c =
    let text = c.args.text.now in
    let end = c.in-Some.end in
    line_found text end (position-first _ text _ _ refl c.in-Some.ensures) (take end text) (take (length text - (end + 1)) (drop (end + 1) text)) refl (grind (arith, common_steps))
