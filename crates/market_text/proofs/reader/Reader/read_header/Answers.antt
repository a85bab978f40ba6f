use Rattle.std.proofs.Common.{rules}
use Rattle.market_spelling.specs.declared.words.Heading.TheVariants as heading
use Rattle.market_text.proofs.StepLemmas.{header_is, taken}
use Rattle.market_text.proofs.reader.Reader.read_header.Goals as goal

pub returns-in-Day-clause-exact : goal.returns-in-Day-clause-exact
returns-in-Day-clause-exact c = taken (header_is c.args.self.now _ _ _ heading.Day c.in-Some.ensures (search rules)) c.read_day.ensures.exact

pub returns-in-Zone-clause-exact : goal.returns-in-Zone-clause-exact
returns-in-Zone-clause-exact c = taken (header_is c.args.self.now _ _ _ heading.Zone c.in-Some.ensures (search rules)) c.read_zone.ensures.exact

pub returns-in-Border-clause-exact : goal.returns-in-Border-clause-exact
returns-in-Border-clause-exact c = taken (header_is c.args.self.now _ _ _ heading.Border c.in-Some.ensures (search rules)) c.read_border.ensures.exact

pub returns-in-Trader-clause-exact : goal.returns-in-Trader-clause-exact
returns-in-Trader-clause-exact c = taken (header_is c.args.self.now _ _ _ heading.Trader c.in-Some.ensures (search rules)) c.read_caller.ensures.exact

pub returns-in-Operator-clause-exact : goal.returns-in-Operator-clause-exact
returns-in-Operator-clause-exact c = taken (header_is c.args.self.now _ _ _ heading.Operator c.in-Some.ensures (search rules)) c.read_caller-in-Operator.ensures.exact

pub returns-in-Begin-clause-exact : goal.returns-in-Begin-clause-exact
returns-in-Begin-clause-exact c = taken (header_is c.args.self.now _ _ _ heading.Begin c.in-Some.ensures (search rules)) c.read_begin.ensures.exact
