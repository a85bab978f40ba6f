use Rattle.std.proofs.Common.{◌≡◌, map, take, length}
use Rattle.market_text.proofs.reader.Reader.list_callers.Given as goal

-- the callers so far have the first names, roles and rooms
abbrev pub invariant-loop-caller : goal.invariant-loop-caller
invariant-loop-caller l = record {
  names : map (λ caller. caller.name) l.callers ≡ take l.caller l.self.callers;
  roles : map (λ caller. caller.role) l.callers ≡ take l.caller l.self.roles;
  rooms : map (λ caller. caller.room) l.callers ≡ map length (take l.caller l.self.commands);
}
