-- What each session that is read keeps.
use Rattle.std.specs.Prelude.{◌≡◌, ℕ, ◌<◌, ◌≤◌, ◌==◌, length, map, count_by, All}
use Rattle.market_model.specs.Naming.{IsNamed}
use Rattle.market_text.specs.declared.session.Session.{Session}
use Rattle.market_text.specs.Commands.{commands_of}

-- a day of 23 to 25 hours, at most 64 zones, 128 borders and 64 callers with their names, at most
-- 262144 commands, and of each caller as many as it has turns and room
pub record IsSession (session : Session) : Type 0 where
  pub least_hours : 23 ≤ session.setup.hours
  pub most_hours : session.setup.hours ≤ 25
  pub some_zone : 1 ≤ length session.setup.zones
  pub few_zones : length session.setup.zones ≤ 64
  pub few_borders : length session.setup.borders ≤ 128
  pub few_callers : length session.setup.callers ≤ 64
  pub named : IsNamed session.setup
  pub matched : length session.commands ≡ length session.setup.callers
  pub known : All (λ turn. turn < length session.setup.callers) session.turns
  pub counted : (caller : ℕ) → caller < length session.commands
      → length (commands_of session.commands caller) ≡ count_by (λ turn. turn == caller) session.turns
  pub rooms : map (λ caller. caller.room) session.setup.callers ≡ map length session.commands
  pub few : length session.turns ≤ 262144
