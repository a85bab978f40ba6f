-- The journal of a session.
use Rattle.std.specs.Prelude.{List}
use Rattle.market_model.specs.declared.entry.Entry.{Entry}
use Rattle.market_model.specs.Market.{in_turn, run_of}
use Rattle.market_text.specs.declared.session.Session.{Session}

-- the journal of a session whose commands are given in the order of its lines
abbrev pub journal_of_session : Session → List Entry
journal_of_session session = run_of session.setup (in_turn session.commands session.turns)
