use Rattle.std.proofs.Common.{rules}
use Rattle.market_text.proofs.ReadingLemmas.{is_session, finished, callers_are}
use Rattle.market_text.proofs.reader.Reader.finish.Goals as goal

pub returns-clause-shape : goal.returns-clause-shape
returns-clause-shape c =
    is_session c.args.self c.hours-hours.result c.in_ok-zones.zones c.in_ok-callers.callers c.into_sequence.result c.requires
    (search rules) (search rules) (search rules) c.in_ok-zones.ensures c.into_sequence.ensures c.in_ok-callers.ensures.names c.in_ok-callers.ensures.rooms

pub returns-clause-exact : goal.returns-clause-exact
returns-clause-exact c =
    record {
      is = finished c.args.self _ c.hours-hours.result c.in_ok-zones.zones c.in_ok-callers.callers c.into_sequence.result
          c.in-Some.is (search rules) (search rules) c.in_ok-zones.ensures
          (callers_are c.args.self c.in_ok-callers.callers c.requires c.in_ok-callers.ensures.names c.in_ok-callers.ensures.roles c.in_ok-callers.ensures.rooms)
          c.into_sequence.ensures;
    }
