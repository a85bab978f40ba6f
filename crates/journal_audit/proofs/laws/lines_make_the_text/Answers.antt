use Rattle.journal_audit.proofs.Orders.{lines-make}
use Rattle.journal_audit.proofs.laws.lines_make_the_text.Goals as goal

pub returns : goal.returns
returns c = lines-make
