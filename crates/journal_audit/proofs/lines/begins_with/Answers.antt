use Rattle.std.proofs.Common.{◌≡◌, ◌∙◌, ◌++◌, codes, nat_eq, None, Some, ap, sym}
use Rattle.std.specs.List.{starts_with}
use Rattle.std.proofs.lemmas.Bool.Decides.{Decides-eqb}
use Rattle.std.proofs.lemmas.Slice.Eq.{strip_prefix_is}
use Rattle.journal_audit.specs.Lines.{line_start}
use Rattle.journal_audit.proofs.LineTexts.{starts-none, starts-same}
use Rattle.journal_audit.proofs.lines.begins_with.Goals as goal

pub returns-in-Some : goal.returns-in-Some
unfolding line_start
returns-in-Some c =
    let before = codes "{\"caller\":\"" in
    let start = c.args.name.now ++ codes "\"," in
    let is : c.args.line.now ≡ before ++ c.in-Some.rest.now = strip_prefix_is Decides-eqb c.args.line.now before (Some c.in-Some.rest) c.in-Some.ensures.cases in
    c.has_name.ensures ∙ sym (ap (λ line. starts_with nat_eq line (before ++ start)) is ∙ starts-same before c.in-Some.rest.now start)

pub returns-in-None : goal.returns-in-None
unfolding line_start
returns-in-None c =
    let before = codes "{\"caller\":\"" in
    sym (starts-none c.args.line.now before (c.args.name.now ++ codes "\",") (strip_prefix_is Decides-eqb c.args.line.now before None c.in-None.ensures.cases))
