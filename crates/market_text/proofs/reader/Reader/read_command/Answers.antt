use Rattle.std.proofs.Common.{◌∙◌, sym}
use Rattle.market_text.proofs.StepLemmas.{command_is, clock_is, entry_is, taken}
use Rattle.market_text.proofs.reader.Reader.read_command.Goals as goal

pub returns-then-is_clock-clause-exact : goal.returns-then-is_clock-clause-exact
returns-then-is_clock-clause-exact c =
    taken (command_is c.args.self.now _ _ _ _ _ c.in-Some-place.caller c.in-Some-read_verb.verb c.in-Some.ensures c.in-Some-first_word.ensures
    (sym c.in-Some-place.ensures.value) (sym c.in-Some-read_verb.ensures)
    ∙ clock_is c.args.self.now _ c.in-Some-place.caller c.in-Some-read_verb.verb (sym c.is_clock.ensures ∙ c.if-is_clock.true))
    c.read_clock.ensures.exact

pub returns-else-is_clock-clause-exact : goal.returns-else-is_clock-clause-exact
returns-else-is_clock-clause-exact c =
    taken (command_is c.args.self.now _ _ _ _ _ c.in-Some-place.caller c.in-Some-read_verb.verb c.in-Some.ensures c.in-Some-first_word.ensures
    (sym c.in-Some-place.ensures.value) (sym c.in-Some-read_verb.ensures)
    ∙ entry_is c.args.self.now _ c.in-Some-place.caller c.in-Some-read_verb.verb (sym c.is_clock.ensures ∙ c.if-is_clock.false))
    c.read_entry.ensures.exact
